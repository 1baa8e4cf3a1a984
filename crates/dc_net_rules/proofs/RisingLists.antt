-- Rising lists of numbers.
use Rattle.std.proofs.Common.{◌≡◌, ℕ, suc, ◌<◌, Bool, true, false, ◌||◌, List, [], ◌∷◌, nat_eq, refl, sym, ap, subst, ◌∙◌, arith, inl, inr, true≢false, eq-eqb}
use Rattle.std.specs.List.{All, AllPairs}
use Rattle.std.proofs.lemmas.Bool.{cases_order, ne_eqb}
use Rattle.std.proofs.lemmas.Bool.Decides.{eqb_tells}
use Rattle.std.proofs.lemmas.List.Elements.{All-weaker}
use Rattle.std.proofs.lemmas.List.Folds.{list_any_none}
use Rattle.dc_spec.specs.Lists.{is_among}

-- the first number is below the others, and the others rise
heads : (x : ℕ) (xs : List ℕ) → AllPairs (λ a b. a < b) (x ∷ xs) → All (λ y. x < y) xs
heads x xs up = λ k d within. up 0 (suc k) d (omega arith) (omega arith)

tails : (x : ℕ) (xs : List ℕ) → AllPairs (λ a b. a < b) (x ∷ xs) → AllPairs (λ a b. a < b) xs
tails x xs up = λ i j d less within. up (suc i) (suc j) d (omega arith) (omega arith)

-- a number below all numbers of a list is not among them
absent : (a : ℕ) (xs : List ℕ) → All (λ y. a < y) xs → is_among xs a ≡ false
absent a xs above = list_any_none (λ y. nat_eq a y) xs
    (All-weaker (λ y. a < y) (λ y. nat_eq a y ≡ false) (λ y less. ne_eqb a y (λ e. absurd (omega arith))) xs above)

-- the first number of a list is among it
present : (x : ℕ) (xs : List ℕ) → is_among (x ∷ xs) x ≡ true
present x xs = ap (λ (b : Bool). b || is_among xs x) (eq-eqb x x refl)

-- rising lists that have the same numbers are the same
pub same_rising : (xs ys : List ℕ) → AllPairs (λ a b. a < b) xs → AllPairs (λ a b. a < b) ys → ((a : ℕ) → is_among xs a ≡ is_among ys a) → xs ≡ ys
same_rising [] [] up down same = refl
same_rising [] (y ∷ ys) up down same = absurd (true≢false (sym (present y ys) ∙ sym (same y)))
same_rising (x ∷ xs) [] up down same = absurd (true≢false (sym (present x xs) ∙ same x))
same_rising (x ∷ xs) (y ∷ ys) up down same = elim (cases_order x y) [
  | inl is ↦ (
      let rest : (a : ℕ) → is_among xs a ≡ is_among ys a = λ a. elim (eqb_tells a x) [
        | inl here ↦ (let in_xs = absent a xs (subst (λ (z : ℕ). All (λ b. z < b) xs) (sym here.1) (heads x xs up)) in
            let in_ys = absent a ys (subst (λ (z : ℕ). All (λ b. z < b) ys) (sym (here.1 ∙ is)) (heads y ys down)) in in_xs ∙ sym in_ys)
        | inr other ↦ (let not_y : nat_eq a y ≡ false = subst (λ (z : ℕ). nat_eq a z ≡ false) is other.0 in
            sym (ap (λ (b : Bool). b || is_among xs a) other.0) ∙ same a ∙ ap (λ (b : Bool). b || is_among ys a) not_y)
      ] in
      let later = same_rising xs ys (tails x xs up) (tails y ys down) rest in
      ap (λ (zs : List ℕ). x ∷ zs) later ∙ ap (λ (z : ℕ). z ∷ ys) is)
  | inr other ↦ elim other [
    | inl less ↦ (let gone : is_among (y ∷ ys) x ≡ false = ap (λ (b : Bool). b || is_among ys x) (ne_eqb x y (λ e. absurd (omega arith)))
        ∙ absent x ys (All-weaker (λ b. y < b) (λ b. x < b) (λ b lt. omega arith) ys (heads y ys down)) in
        absurd (true≢false (sym (present x xs) ∙ same x ∙ gone)))
    | inr less ↦ (let gone : is_among (x ∷ xs) y ≡ false = ap (λ (b : Bool). b || is_among xs y) (ne_eqb y x (λ e. absurd (omega arith)))
        ∙ absent y xs (All-weaker (λ b. x < b) (λ b. y < b) (λ b lt. omega arith) xs (heads x xs up)) in
        absurd (true≢false (sym (present y ys) ∙ sym (same y) ∙ gone)))
  ]
]
