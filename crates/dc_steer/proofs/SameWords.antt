-- Two stations never differed exactly where they received the same words.
use Rattle.std.proofs.Common.{◌≡◌, ℕ, ◌*◌, ◌<◌, ◌↔◌, nat_lt, Bool, true, false, cond, List, [], ◌∷◌, ◌++◌, length, take, drop, Some, None, refl, sym, ◌∙◌, ap, ap₂, inl, inr, arith, le-ltb, lt-ltb, true≢false}
use Rattle.std.proofs.Math.Seq.{take-append_seam, drop-append_seam}
use Rattle.std.proofs.lemmas.Bool.{cases_lt}
use Rattle.std.proofs.lemmas.List.{ext_get_or, length-append}
use Rattle.std.proofs.lemmas.List.Elements.{All-head, All-tail}
use Rattle.dc_spec.specs.Words.{IsWord, AreWords}
use Rattle.dc_spec.specs.Net.{Net}
use Rattle.dc_key_rules.specs.PairKeys.{symbols}
use Rattle.dc_net_rules.specs.Runs.{history, all_rounds}
use Rattle.dc_steering_rules.specs.Steerings.{first_difference}
use Rattle.dc_steering_rules.specs.Counting.{heard_symbols}
use Rattle.dc_steering_rules.proofs.SteeringLemmas.{agree_before}
use Rattle.dc_steering_rules.proofs.ReceivedWords.{history_words, heard_count}
use Rattle.dc_steer.specs.declared.fault.SteerFault.TheVariants.{NeverDiffered}
use Rattle.dc_steer.specs.Faults.{heard_difference, difference_fault}
use Rattle.dc_steer.proofs.Lists.{first_is}

-- a list does not differ from itself
no_difference : (xs : List ℕ) → first_difference xs xs ≡ length xs
no_difference xs = sym (first_is xs xs (length xs) refl (omega arith) (λ i low. refl) (λ low. absurd (omega arith)))

-- the first word and the rest of the symbols
front : (w x rest more : List ℕ) → length w ≡ length x → w ++ rest ≡ x ++ more → (w ≡ x) × (rest ≡ more)
front w x rest more long same = (
  sym (take-append_seam w rest) ∙ ap (λ (n : ℕ). take n (w ++ rest)) long ∙ ap (take (length x)) same ∙ take-append_seam x more,
  sym (drop-append_seam w rest) ∙ ap (λ (n : ℕ). drop n (w ++ rest)) long ∙ ap (drop (length x)) same ∙ drop-append_seam x more,
)

-- words with the same symbols are the same
same_words : (us vs : List (List ℕ)) → AreWords us → AreWords vs → symbols us ≡ symbols vs → us ≡ vs
same_words [] [] good_u good_v same = refl
same_words [] (x ∷ vs) good_u good_v same =
    let none = ap (λ (xs : List ℕ). length xs) same in
    let some = length-append x (symbols vs) in
    let long = (All-head IsWord x vs good_v).sixteen in absurd (omega arith)
same_words (w ∷ us) [] good_u good_v same =
    let none = ap (λ (xs : List ℕ). length xs) same in
    let some = length-append w (symbols us) in
    let long = (All-head IsWord w us good_u).sixteen in absurd (omega arith)
same_words (w ∷ us) (x ∷ vs) good_u good_v same =
    let parts = front w x (symbols us) (symbols vs) ((All-head IsWord w us good_u).sixteen ∙ sym (All-head IsWord x vs good_v).sixteen) same in
    ap₂ (λ (a : List ℕ) (b : List (List ℕ)). a ∷ b) parts.0 (same_words us vs (All-tail IsWord w us good_u) (All-tail IsWord x vs good_v) parts.1)

-- a test that gives a fault failed
failed : (b : Bool) → cond b None (Some NeverDiffered) ≡ Some NeverDiffered → b ≡ false
failed true h = let clash : ⊥ = cc in absurd clash
failed false h = refl

pub never_differed : (net : Net) (u v : ℕ) → u < net.stations → v < net.stations →
    difference_fault net (heard_difference net u v) ≡ Some NeverDiffered ↔ history (all_rounds net) u ≡ history (all_rounds net) v
never_differed net u v low_u low_v =
    let in_u = heard_count net u low_u in
    let in_v = heard_count net v low_v in
    let p = heard_difference net u v in (
      λ fault. elim (cases_lt (heard_difference net u v) (16 * net.words)) [
        | inl low ↦ (let clash = sym (lt-ltb (heard_difference net u v) (16 * net.words) low) ∙ failed (nat_lt (heard_difference net u v) (16 * net.words)) fault in absurd (true≢false clash))
        | inr past ↦ same_words (history (all_rounds net) u) (history (all_rounds net) v) (history_words net net.words u low_u) (history_words net net.words v low_v)
            (ext_get_or 0 (heard_symbols net u) (heard_symbols net v) (in_u ∙ sym in_v) (λ i less. agree_before (heard_symbols net u) (heard_symbols net v) i (omega arith)))
      ],
      λ same. (
          let alike = ap (λ (ws : List (List ℕ)). first_difference (heard_symbols net u) (symbols ws)) (sym same) ∙ no_difference (heard_symbols net u) in
          ap (λ (b : Bool). cond b None (Some NeverDiffered)) (le-ltb (heard_difference net u v) (16 * net.words) (omega arith))),
    )
