-- Quiet turns are turns.
use Rattle.std.proofs.Common.{◌≡◌, ◌*◌, ℕ, ◌<◌, ◌≤◌, List, [], ◌∷◌, length, replicate, refl, sym, ◌∙◌, ap, subst, arith}
use Rattle.std.specs.Prelude.{sum_by}
use Rattle.std.specs.List.Sorted.{IsStrictlyIncreasing}
use Rattle.std.proofs.lemmas.List.{length-replicate, get_or-replicate}
use Rattle.std.proofs.lemmas.List.Folds.{sum_by-replicate}
use Rattle.std.proofs.lemmas.List.Elements.{All-nil, All-map, All-weaker}
use Rattle.dc_spec.proofs.WordLemmas.{IsWord-word_of}
use Rattle.dc_spec.specs.Scripts.{stations_of}
use Rattle.dc_graph.specs.Graph.{AreMembers}
use Rattle.dc_formats.specs.ScriptFile.{IsTerm, IsSaid, IsTurn, IsScript, turn_terms, script_terms}
use Rattle.dc_script.specs.Quiet.{silent, quiet_says, quiet_turn, quiet_script}

-- the stations of the says are the members
stations_are : (ms : List ℕ) → stations_of (quiet_says ms) ≡ ms
stations_are [] = refl
stations_are (m ∷ ms) = ap (λ (rest : List ℕ). m ∷ rest) (stations_are ms)

-- they have no terms
no_terms : (ms : List ℕ) → sum_by (λ said. length said.terms) (quiet_says ms) ≡ 0
no_terms [] = refl
no_terms (m ∷ ms) = no_terms ms

-- a member with the zero word
silent_is : (r m : ℕ) → m < 256 → IsSaid r (silent m)
silent_is r m lt = record {
  station = omega arith;
  is_word = IsWord-word_of (λ _. 0) (λ k below. omega arith);
  are_terms = All-nil (IsTerm r);
  rising = λ k d past. absurd (omega arith);
}

-- a quiet turn
quiet_is_turn : (r : ℕ) (ms : List ℕ) → AreMembers ms → IsTurn r (quiet_turn ms)
quiet_is_turn r ms are = record {
  said = record {
    stations_rise = subst IsStrictlyIncreasing (sym (stations_are ms)) are.rising;
    are_said = All-map (IsSaid r) silent ms (All-weaker (λ m. m < 256) (λ m. IsSaid r (silent m)) (silent_is r) ms are.stations);
  };
  some_dealt = λ dealt e. absurd cc;
  dealt_words = λ dealt e. absurd cc;
}

-- so many quiet turns have no terms
quiet_terms : (ms : List ℕ) (words : ℕ) → script_terms (replicate words (quiet_turn ms)) ≡ 0
quiet_terms ms words =
    let one : turn_terms (quiet_turn ms) ≡ 0 = rw (no_terms ms) refl in
    sum_by-replicate turn_terms words (quiet_turn ms) ∙ rw one (let none : words * 0 ≡ 0 = omega arith in none)

-- and are a script
pub quiet_is_script : (ms : List ℕ) (words : ℕ) → AreMembers ms → words ≤ 4096 → IsScript (quiet_script ms words)
quiet_is_script ms words are most = record {
  some_version = omega arith;
  most_version = omega arith;
  first_version = λ _. quiet_terms ms words;
  most_rounds = omega (arith, length-replicate words (quiet_turn ms));
  most_terms = omega (arith, quiet_terms ms words);
  are_turns = λ r d lt. rw (get_or-replicate words r (quiet_turn ms) d (omega (arith, length-replicate words (quiet_turn ms)))) (quiet_is_turn r ms are);
}
