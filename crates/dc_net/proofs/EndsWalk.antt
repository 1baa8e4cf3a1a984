-- Two lists of ends in rising order, walked side by side.
use Rattle.std.proofs.Common.{◌≡◌, ℕ, zero, suc, ◌+◌, ◌<◌, ◌≤◌, true, false, List, [], ◌∷◌, length, map, get_or, drop, Some, refl, sym, ap, subst, ◌∙◌, arith, add-one, drop-cons, inl, inr}
use Rattle.std.specs.Prelude.{⊤}
use Rattle.std.specs.List.{list_any}
use Rattle.std.proofs.lemmas.Bool.{cases_eq, cases_lt, eq-eqb, ne_eqb}
use native.Mathlib.Numerals.{unary_clauses}
use Rattle.std.proofs.lemmas.List.{drop_all, get_or-map}
use Rattle.dc_graph.specs.Graph.{IsEdgeBefore, AreRisingEdges}
use Rattle.dc_net.specs.Walks.{are_same_ends, first_absent}

-- all of a list are after these ends
abbrev pub AreAfter : ℕ × ℕ → List (ℕ × ℕ) → Type 0
AreAfter e [] = ⊤
AreAfter e (f ∷ fs) = IsEdgeBefore e f × AreAfter e fs

-- each is before all later ones
abbrev pub Rise : List (ℕ × ℕ) → Type 0
Rise [] = ⊤
Rise (e ∷ es) = AreAfter e es × Rise es

before_trans : (e f g : ℕ × ℕ) → IsEdgeBefore e f → IsEdgeBefore f g → IsEdgeBefore e g
before_trans e f g p q =
    let ef = p.lesser in let fg = q.lesser in
    record {
      lesser = omega arith;
      greater = λ same.
          let first : e.0 ≡ f.0 = omega arith in let second : f.0 ≡ g.0 = omega arith in
          let below = p.greater first in let above = q.greater second in omega arith;
    }

after_before : (e f : ℕ × ℕ) (gs : List (ℕ × ℕ)) → IsEdgeBefore e f → AreAfter f gs → AreAfter e gs
after_before e f [] h a = tt
after_before e f (g ∷ gs) h a = (before_trans e f g h a.0, after_before e f gs h a.1)

after_all : (e : ℕ × ℕ) (es : List (ℕ × ℕ)) → (0 < length es → IsEdgeBefore e (get_or es 0 e)) → Rise es → AreAfter e es
after_all e [] h r = tt
after_all e (f ∷ fs) h r = let first = h (omega arith) in (first, after_before e f fs first r.0)

pub rise : (es : List (ℕ × ℕ)) → AreRisingEdges es → Rise es
rise [] up = tt
rise (e ∷ es) up =
    let rest : Rise es = rise es (λ i d lt. let more : suc i + 1 < suc (length es) = omega arith in rw add-one (simp unary_clauses at (up (suc i) d more))) in
    (after_all e es (λ some. up 0 e (omega arith)) rest, rest)

rise_drop : (n : ℕ) (es : List (ℕ × ℕ)) → Rise es → Rise (drop n es)
rise_drop zero es r = r
rise_drop (suc n) [] r = r
rise_drop (suc n) (e ∷ es) r = rise_drop n es r.1

-- ends that come before others are not the same
differ : (e f : ℕ × ℕ) → IsEdgeBefore e f → are_same_ends e f ≡ false
differ e f h = elim (cases_eq e.0 f.0) [
  | inl same ↦ (let less = h.greater same in rw (eq-eqb e.0 f.0 same, ne_eqb e.1 f.1 (λ x. absurd (omega arith))) refl)
  | inr other ↦ rw (ne_eqb e.0 f.0 other) refl
]

differ_too : (e f : ℕ × ℕ) → IsEdgeBefore e f → are_same_ends f e ≡ false
differ_too e f h = elim (cases_eq f.0 e.0) [
  | inl same ↦ (let less = h.greater (sym same) in rw (eq-eqb f.0 e.0 same, ne_eqb f.1 e.1 (λ x. absurd (omega arith))) refl)
  | inr other ↦ rw (ne_eqb f.0 e.0 other) refl
]

-- ends before all of a list are not among them
none_same : (e : ℕ × ℕ) (fs : List (ℕ × ℕ)) → AreAfter e fs → list_any (λ f. are_same_ends f e) fs ≡ false
none_same e [] a = refl
none_same e (f ∷ fs) a = rw (differ_too e f a.0) (none_same e fs a.1)

skip_less : (f : ℕ × ℕ) (fs es : List (ℕ × ℕ)) → AreAfter f es → first_absent es (f ∷ fs) ≡ first_absent es fs
skip_less f fs [] a = refl
skip_less f fs (e ∷ es) a = rw (differ f e a.0, skip_less f fs es a.1) refl

skip_same : (e f : ℕ × ℕ) (es fs : List (ℕ × ℕ)) → are_same_ends f e ≡ true → first_absent (e ∷ es) (f ∷ fs) ≡ first_absent es (f ∷ fs)
skip_same e f es fs h = rw h refl

along : (es es' fs fs' : List (ℕ × ℕ)) → es ≡ es' → fs ≡ fs' → first_absent es fs ≡ first_absent es' fs'
along es es' fs fs' p q = ap (λ x. first_absent x fs) p ∙ ap (λ x. first_absent es' x) q

-- where neither comes before the other they are the same
same : (e f : ℕ × ℕ) → (IsEdgeBefore e f → ⊥) → (IsEdgeBefore f e → ⊥) → are_same_ends f e ≡ true
same e f h k =
    let first : f.0 ≡ e.0 = elim (cases_lt e.0 f.0) [
      | inl lt ↦ absurd (h (record { lesser = omega arith; greater = λ x. absurd (omega arith) }))
      | inr ge ↦ elim (cases_lt f.0 e.0) [
        | inl lt ↦ absurd (k (record { lesser = omega arith; greater = λ x. absurd (omega arith) }))
        | inr le ↦ omega arith
      ]
    ] in
    let second : f.1 ≡ e.1 = elim (cases_lt e.1 f.1) [
      | inl lt ↦ absurd (h (record { lesser = omega arith; greater = λ x. lt }))
      | inr ge ↦ elim (cases_lt f.1 e.1) [
        | inl lt ↦ absurd (k (record { lesser = omega arith; greater = λ x. lt }))
        | inr le ↦ omega arith
      ]
    ] in
    rw (eq-eqb f.0 e.0 first, eq-eqb f.1 e.1 second) refl

-- the item at a place, and what follows it
cons_at : (es : List (ℕ × ℕ)) (i : ℕ) (e : ℕ × ℕ) → i < length es → get_or es i e ≡ e → drop i es ≡ e ∷ drop (i + 1) es
cons_at es i e lt at = rw add-one (drop-cons es i e lt ∙ ap (λ x. x ∷ drop (suc i) es) at)

-- the ends at a place of a list of items
pub ends_at : {X : Type 0} (ends : X → ℕ × ℕ) (xs : List X) (i : ℕ) (x : X) (e : ℕ × ℕ) → i < length xs → x ≡ get_or xs i x → e ≡ ends x → get_or (map ends xs) i e ≡ e
ends_at ends xs i x e lt at is = get_or-map ends xs i x e lt ∙ sym (ap ends at) ∙ sym is

-- nothing is left of the other list
pub found_last : (es fs : List (ℕ × ℕ)) (i j : ℕ) (e : ℕ × ℕ) → i < length es → length fs ≤ j → get_or es i e ≡ e → first_absent (drop i es) (drop j fs) ≡ Some e
found_last es fs i j e lt le at = rw (cons_at es i e lt at, drop_all j fs le) refl

-- what is left of the other list is after these ends
pub found_before : (es fs : List (ℕ × ℕ)) (i j : ℕ) (e f : ℕ × ℕ) → AreRisingEdges fs → i < length es → j < length fs → get_or es i e ≡ e → get_or fs j f ≡ f
    → IsEdgeBefore e f → first_absent (drop i es) (drop j fs) ≡ Some e
found_before es fs i j e f up lt below at there h =
    let is : drop j fs ≡ f ∷ drop (j + 1) fs = cons_at fs j f below there in
    let rises : Rise (f ∷ drop (j + 1) fs) = subst Rise is (rise_drop j fs (rise fs up)) in
    rw (cons_at es i e lt at, is, none_same e (f ∷ drop (j + 1) fs) (h, after_before e f _ h rises.0)) refl

-- ends of the other list that come before all that is left are passed over
pub passes_other : (es fs : List (ℕ × ℕ)) (i j : ℕ) (e f : ℕ × ℕ) → AreRisingEdges es → i < length es → j < length fs → get_or es i e ≡ e → get_or fs j f ≡ f
    → IsEdgeBefore f e → first_absent (drop i es) (drop j fs) ≡ first_absent (drop i es) (drop (j + 1) fs)
passes_other es fs i j e f up lt below at there h =
    let is : drop i es ≡ e ∷ drop (i + 1) es = cons_at es i e lt at in
    let rises : Rise (e ∷ drop (i + 1) es) = subst Rise is (rise_drop i es (rise es up)) in
    along (drop i es) (e ∷ drop (i + 1) es) (drop j fs) (f ∷ drop (j + 1) fs) is (cons_at fs j f below there)
    ∙ skip_less f (drop (j + 1) fs) (e ∷ drop (i + 1) es) (h, after_before f e _ h rises.0)
    ∙ sym (ap (λ x. first_absent x (drop (j + 1) fs)) is)

-- ends that the other list has are passed over
pub passes_item : (es fs : List (ℕ × ℕ)) (i j : ℕ) (e f : ℕ × ℕ) → i < length es → j < length fs → get_or es i e ≡ e → get_or fs j f ≡ f
    → (IsEdgeBefore e f → ⊥) → (IsEdgeBefore f e → ⊥) → first_absent (drop i es) (drop j fs) ≡ first_absent (drop (i + 1) es) (drop j fs)
passes_item es fs i j e f lt below at there h k =
    let is : drop j fs ≡ f ∷ drop (j + 1) fs = cons_at fs j f below there in
    along (drop i es) (e ∷ drop (i + 1) es) (drop j fs) (f ∷ drop (j + 1) fs) (cons_at es i e lt at) is
    ∙ skip_same e f (drop (i + 1) es) (drop (j + 1) fs) (same e f h k)
    ∙ sym (ap (λ x. first_absent (drop (i + 1) es) x) is)
