-- A script with one more round.
use Rattle.std.proofs.Common.{◌≡◌, ℕ, ◌+◌, ◌<◌, ◌≤◌, List, [], ◌∷◌, ◌++◌, length, get_or, inl, inr, arith, length-append}
use Rattle.std.proofs.Math.Seq.{get_or-append_seam}
use Rattle.std.proofs.Math.ListN.{get_or-append}
use Rattle.std.proofs.lemmas.Bool.{cases_lt}
use Rattle.std.proofs.lemmas.List.Sums.{sum_by-append, sum_by-cons}
use Rattle.dc_spec.specs.Limits.{most_words, most_terms}
use Rattle.dc_spec.specs.Scripts.{Turn}
use Rattle.dc_formats.specs.ScriptFile.{IsTurn, IsScript, turn_terms, script_terms}

-- one more turn after others
pub turns_and_one : (turns : List Turn) (turn : Turn) → ((r : ℕ) (d : Turn) → r < length turns → IsTurn r (get_or turns r d)) → IsTurn (length turns) turn
    → (r : ℕ) (d : Turn) → r < length (turns ++ turn ∷ []) → IsTurn r (get_or (turns ++ turn ∷ []) r d)
turns_and_one turns turn are is r d lt = elim (cases_lt r (length turns)) [
  | inl before ↦ rw (get_or-append turns (turn ∷ []) d r before) (are r d before)
  | inr past ↦ (
      let last : r ≡ length turns = omega (arith, lt, past, length-append turns (turn ∷ [])) in
      rw (last, get_or-append_seam turns turn [] d) is)
]

-- their terms
pub terms_and_one : (turns : List Turn) (turn : Turn) → script_terms (turns ++ turn ∷ []) ≡ script_terms turns + turn_terms turn
terms_and_one turns turn =
    let split : script_terms (turns ++ turn ∷ []) ≡ script_terms turns + script_terms (turn ∷ []) = sum_by-append turn_terms turns (turn ∷ []) in
    let one : script_terms (turn ∷ []) ≡ turn_terms turn + 0 = sum_by-cons turn_terms turn [] in
    omega (arith, split, one)

pub script_and_one : (v : ℕ) (turns : List Turn) (turn : Turn) → IsScript (record { version = v; rounds = turns }) → length turns < most_words → IsTurn (length turns) turn
    → script_terms turns + turn_terms turn ≤ most_terms → (v ≡ 1 → turn_terms turn ≡ 0) → IsScript (record { version = v; rounds = turns ++ turn ∷ [] })
script_and_one v turns turn is room is_turn few first = record {
  some_version = is.some_version;
  most_version = is.most_version;
  first_version = λ one. (let before : script_terms turns ≡ 0 = is.first_version one in let none : turn_terms turn ≡ 0 = first one in omega (arith, before, none, terms_and_one turns turn));
  most_rounds = omega (arith, room, length-append turns (turn ∷ []));
  most_terms = omega (arith, few, terms_and_one turns turn);
  are_turns = turns_and_one turns turn is.are_turns is_turn;
}
