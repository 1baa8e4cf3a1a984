-- The word of a rule, one term after another.
use Rattle.std.proofs.Common.{◌≡◌, ℕ, ◌+◌, ◌%◌, ◌<◌, ◌==◌, cond, List, [], length, get_or, set, take, refl, sym, ◌∙◌, ap, subst, inl, inr, arith}
use Rattle.std.specs.Prelude.{sum_by}
use Rattle.std.proofs.Math.Nat.{mod-add-mod, add-mod-mod}
use Rattle.std.proofs.lemmas.Bool.{eq-eqb}
use Rattle.std.proofs.lemmas.Bool.Decides.{eqb_tells}
use Rattle.std.proofs.lemmas.List.{get_or-set_same, get_or-set_other, length-set}
use Rattle.std.proofs.lemmas.List.Sums.{sum_by_more}
use Rattle.dc_spec.specs.Words.{IsWord, word_of}
use Rattle.dc_spec.proofs.WordLemmas.{length-word_of, symbol-word_of, word_from_symbols}
use Rattle.dc_spec.specs.Scripts.{Term, term_value}
use Rattle.dc_script.specs.Rules.{with_terms}

-- no terms
pub no_terms : (w : List ℕ) (words : List (List ℕ)) (n : ℕ) → IsWord w → w ≡ with_terms w [] words n
no_terms w words n is = word_from_symbols (λ l. (get_or w l 0 + 0) % 65537) w is.sixteen (λ k lt.
    let small : get_or w k 0 < 65537 = is.symbols k in
    grind arith)

-- what the terms add to a symbol
abbrev gained : ℕ → List (List ℕ) → ℕ → Term → ℕ
gained n words l term = cond (term.to == l) (term_value n words term) 0

-- at the symbol that gains, and elsewhere
same_symbol : (a s v : ℕ) → ((a + s) % 65537 + v % 65537) % 65537 ≡ (a + (s + v)) % 65537
same_symbol a s v =
    mod-add-mod (a + s) 65537 (v % 65537) ∙ add-mod-mod (a + s) v 65537 ∙ ap (λ (x : ℕ). x % 65537) (let e : a + s + v ≡ a + (s + v) = omega arith in e)

other_symbol : (a s : ℕ) → (a + s) % 65537 ≡ (a + (s + 0)) % 65537
other_symbol a s = ap (λ (x : ℕ). x % 65537) (let e : a + s ≡ a + (s + 0) = omega arith in e)

-- one more term
pub one_more_term : (w : List ℕ) (terms : List Term) (words : List (List ℕ)) (n i : ℕ) (d : Term) → i < length terms → (get_or terms i d).to < 16
    → set (with_terms w (take i terms) words n) (get_or terms i d).to
    ((get_or (with_terms w (take i terms) words n) (get_or terms i d).to 0 + term_value n words (get_or terms i d) % 65537) % 65537)
    ≡ with_terms w (take (i + 1) terms) words n
one_more_term w terms words n i d lt small =
    let t : Term = get_or terms i d in
    let before : ℕ → ℕ = λ l. (get_or w l 0 + sum_by (gained n words l) (take i terms)) % 65537 in
    let new : ℕ = (get_or (word_of before) t.to 0 + term_value n words t % 65537) % 65537 in
    let sixteen : length (word_of before) ≡ 16 = length-word_of before in
    let v : ℕ = term_value n words t in
    let so_far : ℕ → ℕ = λ l. sum_by (gained n words l) (take i terms) in
    let more : (l : ℕ) → sum_by (gained n words l) (take (i + 1) terms) ≡ so_far l + gained n words l t = λ l. sum_by_more (gained n words l) terms i d lt in
    let there : get_or (set (word_of before) t.to new) t.to 0 ≡ (get_or w t.to 0 + sum_by (gained n words t.to) (take (i + 1) terms)) % 65537 =
    get_or-set_same (word_of before) t.to new 0 (omega (arith, sixteen, small))
    ∙ rw (symbol-word_of before t.to small, more t.to, eq-eqb t.to t.to refl) (same_symbol (get_or w t.to 0) (so_far t.to) v) in
    word_from_symbols (λ l. (get_or w l 0 + sum_by (gained n words l) (take (i + 1) terms)) % 65537) (set (word_of before) t.to new)
    (length-set (word_of before) t.to new ∙ sixteen)
    (λ k under. elim (eqb_tells t.to k) [
      | inl here ↦ subst (λ (l : ℕ). get_or (set (word_of before) t.to new) l 0 ≡ (get_or w l 0 + sum_by (gained n words l) (take (i + 1) terms)) % 65537) here.1 there
      | inr other ↦ get_or-set_other (word_of before) t.to k new 0 (λ e. other.1 (sym e)) ∙ symbol-word_of before k under
          ∙ rw (more k, other.0) (other_symbol (get_or w k 0) (so_far k))
    ])
