-- Stations in rising order with words and terms, and one more word or term.
use Rattle.std.proofs.Common.{◌≡◌, ℕ, ◌+◌, ◌-◌, ◌<◌, ◌≤◌, ◌==◌, Bool, true, false, not, cond, List, [], ◌∷◌, ◌++◌, length, get_or, All, Some, None, refl, sym, ◌∙◌, subst, inl, inr, arith}
use Rattle.std.specs.Prelude.{nat_lt, nat_le, IsTrue}
use Rattle.std.specs.List.Sorted.{IsStrictlyIncreasing}
use Rattle.std.proofs.Math.Seq.{get_or-append_seam}
use Rattle.std.proofs.Math.ListN.{get_or-append}
use Rattle.std.proofs.lemmas.Bool.{cases_lt, ltb-true, ltb-false, leb-false, ne_eqb}
use Rattle.std.proofs.lemmas.List.{length-append, length-map, map-append, get_or-map, get_or_default}
use Rattle.std.proofs.lemmas.List.Elements.{All-append, All-nil, All-cons, All-head, All-tail}
use Rattle.dc_spec.specs.Limits.{most_terms}
use Rattle.dc_spec.specs.Scripts.{Term, Said, stations_of}
use Rattle.dc_formats.specs.ScriptFile.{IsTerm, is_before, term_order, AreTermsRising, IsSaid, AreSaid}
use Rattle.dc_script.specs.declared.fault.ScriptKind.{ScriptKind}
use Rattle.dc_script.specs.declared.fault.ScriptKind.TheVariants.{Late, Unordered, Terms}
use Rattle.dc_script.specs.Turns.{is_above_last, is_above_last_term, last_said, plain_said, said_with, term_fault, reported_round}
use Rattle.dc_script.specs.Items.{IsEntry, IsTermLine}

-- ---- one more item of a list in order

-- each item is related to the next one
abbrev Chain : {X : Type 0} → (X → X → Type 0) → X → List X → Type 0
Chain R d xs = (k : ℕ) → k + 1 < length xs → R (get_or xs k d) (get_or xs (k + 1) d)

chain_more : {X : Type 0} (R : X → X → Type 0) (d : X) (xs : List X) (x : X) → Chain R d xs → (0 < length xs → R (get_or xs (length xs - 1) d) x) → Chain R d (xs ++ x ∷ [])
chain_more R d xs x up above k lt =
    let long : k + 1 ≤ length xs = omega (arith, length-append xs (x ∷ [])) in
    elim (cases_lt (k + 1) (length xs)) [
      | inl inside ↦ rw (get_or-append xs (x ∷ []) d k (omega arith), get_or-append xs (x ∷ []) d (k + 1) inside) (up k inside)
      | inr ends ↦ (
          let there : k + 1 ≡ length xs = omega (arith, ends) in
          let before : k ≡ length xs - 1 = omega arith in
          let last : R (get_or xs k d) x = rw before (above (omega arith)) in
          rw (get_or-append xs (x ∷ []) d k (omega arith), there, get_or-append_seam xs x [] d) last)
    ]

-- the test of the last station
next_above : (i : ℕ) (ws : List Said) → is_above_last i ws ≡ true → 0 < length (stations_of ws) → get_or (stations_of ws) (length (stations_of ws) - 1) 0 < i
next_above i [] e lt = absurd (omega arith)
next_above i (w ∷ ws) e lt =
    let same : length (stations_of (w ∷ ws)) ≡ length (w ∷ ws) = length-map (w ∷ ws) (λ (s : Said). s.station) in
    let none : Said = record { station = 0; word = []; terms = [] } in
    let last : get_or (stations_of (w ∷ ws)) (length (w ∷ ws) - 1) 0 ≡ (last_said (w ∷ ws)).station = get_or-map (λ (s : Said). s.station) (w ∷ ws) (length (w ∷ ws) - 1) none 0 (omega arith) in
    let some : (length (w ∷ ws) == 0) ≡ false = ne_eqb (length (w ∷ ws)) 0 (λ z. absurd (omega arith)) in
    let greater : nat_lt (last_said (w ∷ ws)).station i ≡ true = rw some at e in
    rw (same, last) (ltb-true _ _ greater)

-- one more station that is greater than the last
stations_more : (ws : List Said) (w : Said) → IsStrictlyIncreasing (stations_of ws) → is_above_last w.station ws ≡ true → IsStrictlyIncreasing (stations_of (ws ++ w ∷ []))
stations_more ws w up next =
    subst IsStrictlyIncreasing (sym (map-append (λ (s : Said). s.station) ws (w ∷ []))) (chain_more (λ (a b : ℕ). a < b) 0 (stations_of ws) w.station up (next_above w.station ws next))

-- a word without terms
plain_is : (r : ℕ) (e : ℕ × List ℕ) → IsEntry e → IsSaid r (plain_said e)
plain_is r e is = record { station = is.0; is_word = is.1; are_terms = All-nil (IsTerm r); rising = λ k d lt. absurd (omega arith) }

pub one_more_entry : (r : ℕ) (ws : List Said) (e : ℕ × List ℕ) → AreSaid r ws → is_above_last e.0 ws ≡ true → IsEntry e → AreSaid r (ws ++ plain_said e ∷ [])
one_more_entry r ws e are next is = record {
  stations_rise = stations_more ws (plain_said e) are.stations_rise next;
  are_said = All-append (IsSaid r) ws (plain_said e ∷ []) are.are_said (All-cons (IsSaid r) (plain_said e) [] (plain_is r e is) (All-nil (IsSaid r)));
}

-- no stations
pub no_entries : (r : ℕ) → AreSaid r []
no_entries r = record { stations_rise = λ k lt. absurd (omega arith); are_said = All-nil (IsSaid r) }

-- ---- one more term

-- a term without a fault
pub record MayFollow (r c : ℕ) (terms : List Term) (term : Term) : Type 0 where
  pub no_later : term.round ≤ r
  pub next : is_above_last_term term terms ≡ true
  pub room : c < most_terms

three_passed : (a b c : Bool) (f g h : ScriptKind) → cond a (Some f) (cond (not b) (Some g) (cond c (Some h) None)) ≡ None → (a ≡ false) × (b ≡ true) × (c ≡ false)
three_passed true b c f g h e = absurd cc
three_passed false false c f g h e = absurd cc
three_passed false true true f g h e = absurd cc
three_passed false true false f g h e = (refl, refl, refl)

pub may_follow : (r c : ℕ) (terms : List Term) (term : Term) → term_fault r c terms term ≡ None → MayFollow r c terms term
may_follow r c terms term e =
    let parts = three_passed (nat_lt r term.round) (is_above_last_term term terms) (nat_le most_terms c) (Late term.round (reported_round r)) Unordered Terms e in
    record { no_later = ltb-false _ _ parts.0; next = parts.1; room = leb-false _ _ parts.2 }

-- the test of the last term
next_term_above : (term : Term) (terms : List Term) (d : Term) → is_above_last_term term terms ≡ true → 0 < length terms
    → IsTrue (is_before (term_order (get_or terms (length terms - 1) d)) (term_order term))
next_term_above term [] d e lt = absurd (omega arith)
next_term_above term (t ∷ terms) d e lt =
    let some : (length (t ∷ terms) == 0) ≡ false = ne_eqb (length (t ∷ terms)) 0 (λ z. absurd (omega arith)) in
    let before : is_before (term_order (get_or (t ∷ terms) (length (t ∷ terms) - 1) term)) (term_order term) ≡ true = rw some at e in
    let same : get_or (t ∷ terms) (length (t ∷ terms) - 1) d ≡ get_or (t ∷ terms) (length (t ∷ terms) - 1) term = get_or_default (t ∷ terms) (length (t ∷ terms) - 1) d term (omega arith) in
    rw same before

terms_more : (terms : List Term) (term : Term) → AreTermsRising terms → is_above_last_term term terms ≡ true → AreTermsRising (terms ++ term ∷ [])
terms_more terms term up next k d lt =
    chain_more (λ (a b : Term). IsTrue (is_before (term_order a) (term_order b))) d terms term (λ j small. up j d small) (λ some. next_term_above term terms d next some) k lt

-- a term of its line
term_is : (r : ℕ) (term : Term) → term.round ≤ r → IsTermLine term → IsTerm r term
term_is r term le is = record { to = is.to; some_factor = is.some_factor; factor = is.factor; station = is.station; no_later = le; symbol = is.symbol }

-- a word with one more term
said_more : (r c : ℕ) (w : Said) (term : Term) → IsSaid r w → MayFollow r c w.terms term → IsTermLine term → IsSaid r (said_with w term)
said_more r c w term is follows line = record {
  station = is.station;
  is_word = is.is_word;
  are_terms = All-append (IsTerm r) w.terms (term ∷ []) is.are_terms (All-cons (IsTerm r) term [] (term_is r term follows.no_later line) (All-nil (IsTerm r)));
  rising = terms_more w.terms term is.rising follows.next;
}

-- the items before the last, and the last
pub all_before : {X : Type 0} (P : X → Type 0) (xs : List X) (x : X) → All P (xs ++ x ∷ []) → All P xs
all_before P [] x are = All-nil P
all_before P (y ∷ xs) x are = All-cons P y xs (All-head P y (xs ++ x ∷ []) are) (all_before P xs x (All-tail P y (xs ++ x ∷ []) are))

pub all_last : {X : Type 0} (P : X → Type 0) (xs : List X) (x : X) → All P (xs ++ x ∷ []) → P x
all_last P [] x are = All-head P x [] are
all_last P (y ∷ xs) x are = all_last P xs x (All-tail P y (xs ++ x ∷ []) are)

pub one_more_term : (r c : ℕ) (ws : List Said) (w : Said) (term : Term) → AreSaid r (ws ++ w ∷ []) → MayFollow r c w.terms term → IsTermLine term → AreSaid r (ws ++ said_with w term ∷ [])
one_more_term r c ws w term are follows line = record {
  stations_rise = subst IsStrictlyIncreasing (map-append (λ (s : Said). s.station) ws (w ∷ []) ∙ sym (map-append (λ (s : Said). s.station) ws (said_with w term ∷ []))) are.stations_rise;
  are_said = All-append (IsSaid r) ws (said_with w term ∷ []) (all_before (IsSaid r) ws w are.are_said)
      (All-cons (IsSaid r) (said_with w term) [] (said_more r c w term (all_last (IsSaid r) ws w are.are_said) follows line) (All-nil (IsSaid r)));
}
