-- Sums over the items of a list by a number that is each item's own, and sums modulo 65537.
use Rattle.std.proofs.Common.{◌≡◌, ℕ, suc, ◌+◌, ◌%◌, ◌<◌, Bool, true, false, cond, ◌||◌, ◌&&◌, List, [], ◌∷◌, get_or, filter, sum_by, nat_eq, refl, sym, ◌∙◌, ap, subst, arith, eqb-true, zero-le}
use Rattle.std.specs.List.{All, AllPairs, list_any, range_with_len}
use Rattle.std.proofs.lemmas.Bool.{and_parts}
use Rattle.std.proofs.lemmas.List.Elements.{All-head, All-tail}
use Rattle.std.proofs.lemmas.List.Folds.{Any-from_list_any}
use Rattle.std.proofs.lemmas.List.FromFn.{get_or-range_with_len, length-range_with_len}
use Rattle.std.proofs.lemmas.List.Sums.{sum_by-cons}
use Rattle.dc_spec.proofs.SumLemmas.{sum_by-same, sum_by-plus, sum_by-zero, sum_by-single}

-- one of two tests that never both pass counts
either : (q r : Bool) (x : ℕ) → (q ≡ true → r ≡ true → ⊥) → cond (q || r) x 0 ≡ cond q x 0 + cond r x 0
either true true x apart = absurd (apart refl refl)
either true false x apart = omega arith
either false r x apart = omega arith

-- where a test passes at all, one number alone counts
at_key : (b : Bool) (X : ℕ → ℕ) (n v : ℕ) → v < n → sum_by (λ w. cond (b && nat_eq w v) (X w) 0) (range_with_len 0 n) ≡ cond b (X v) 0
at_key true X n v low = sum_by-single X 0 n v zero-le (omega arith)
at_key false X n v low = sum_by-zero (range_with_len 0 n)

-- the items that count have numbers of their own, so their sum is one over all numbers
pub sum_by-key : {A : Type 0} (keep : A → Bool) (key : A → ℕ) (X : ℕ → ℕ) (n : ℕ) (xs : List A) → All (λ x. key x < n) xs → AllPairs (λ x y. keep x ≡ true → keep y ≡ true → key x ≡ key y → ⊥) xs →
    sum_by (λ x. cond (keep x) (X (key x)) 0) xs ≡ sum_by (λ w. cond (list_any (λ x. keep x && nat_eq w (key x)) xs) (X w) 0) (range_with_len 0 n)
sum_by-key keep key X n [] low apart = sym (sum_by-zero (range_with_len 0 n))
sum_by-key {A} keep key X n (x ∷ xs) low apart =
    let here : ℕ → Bool = λ w. keep x && nat_eq w (key x) in
    let rest : ℕ → Bool = λ w. list_any (λ y. keep y && nat_eq w (key y)) xs in
    let ih = sum_by-key keep key X n xs (All-tail (λ y. key y < n) x xs low) (λ i j d less within. apart (suc i) (suc j) d (omega arith) (omega arith)) in
    let clash : (w : ℕ) → here w ≡ true → rest w ≡ true → ⊥ = λ w a b.
    (let p = and_parts (keep x) (nat_eq w (key x)) a in
    let f = Any-from_list_any (λ y. keep y && nat_eq w (key y)) xs b in
    let q = and_parts (keep f.1) (nat_eq w (key f.1)) f.4 in
    apart 0 (suc f.0) f.1 (omega arith) (let within = f.2 in omega arith) p.0 (subst (λ (y : A). keep y ≡ true) (sym f.3) q.0)
    (sym (eqb-true w (key x) p.1) ∙ eqb-true w (key f.1) q.1 ∙ ap key (sym f.3))) in
    let both = sum_by-same (λ w. cond (here w || rest w) (X w) 0) (λ w. cond (here w) (X w) 0 + cond (rest w) (X w) 0) (range_with_len 0 n) (λ w there. either (here w) (rest w) (X w) (clash w)) in
    let parts = sum_by-plus (λ w. cond (here w) (X w) 0) (λ w. cond (rest w) (X w) 0) (range_with_len 0 n) in
    let own = at_key (keep x) X n (key x) (All-head (λ y. key y < n) x xs low) in
    let split = sum_by-cons (λ y. cond (keep y) (X (key y)) 0) x xs in
    split ∙ (let e : cond (keep x) (X (key x)) 0 + sum_by (λ y. cond (keep y) (X (key y)) 0) xs
    ≡ sum_by (λ w. cond (here w) (X w) 0) (range_with_len 0 n) + sum_by (λ w. cond (rest w) (X w) 0) (range_with_len 0 n) = omega arith in e)
    ∙ sym (both ∙ parts)

-- the items that a filter keeps, by its test
pub sum_by-kept : {A : Type 0} (f : A → ℕ) (p : A → Bool) (xs : List A) → sum_by f (filter p xs) ≡ sum_by (λ x. cond (p x) (f x) 0) xs
sum_by-kept f p [] = refl
sum_by-kept f p (x ∷ xs) =
    let ih = sum_by-kept f p xs in
    let split = sum_by-cons (λ y. cond (p y) (f y) 0) x xs in
    let kept = sum_by-cons f x (filter p xs) in
    (elim (p x) as (λ b. sum_by (λ y. cond (p y) (f y) 0) (x ∷ xs) ≡ cond b (f x) 0 + sum_by (λ y. cond (p y) (f y) 0) xs → sum_by f (cond b (x ∷ filter p xs) (filter p xs))
    ≡ sum_by (λ y. cond (p y) (f y) 0) (x ∷ xs)) [
      | true ↦ λ e. omega arith
      | false ↦ λ e. omega arith
    ]) split

-- sums modulo 65537 of items that agree modulo 65537
pub sum_by-mod_plus : {A : Type 0} (f g h : A → ℕ) (xs : List A) → All (λ x. f x % 65537 ≡ (g x + h x) % 65537) xs → sum_by f xs % 65537 ≡ (sum_by g xs + sum_by h xs) % 65537
sum_by-mod_plus f g h [] same = refl
sum_by-mod_plus f g h (x ∷ xs) same =
    let ih = sum_by-mod_plus f g h xs (All-tail (λ y. f y % 65537 ≡ (g y + h y) % 65537) x xs same) in
    let here = All-head (λ y. f y % 65537 ≡ (g y + h y) % 65537) x xs same in
    let one = sum_by-cons f x xs in
    let two = sum_by-cons g x xs in
    let three = sum_by-cons h x xs in
    omega arith

-- what holds of each number below a count holds of each item of their list
pub all_range : (P : ℕ → Type 0) (n : ℕ) → ((w : ℕ) → w < n → P w) → All P (range_with_len 0 n)
all_range P n each k d within =
    let size = length-range_with_len 0 n in
    let low : k < n = omega arith in
    let at : get_or (range_with_len 0 n) k d ≡ k = get_or-range_with_len 0 n k d low ∙ (let e : 0 + k ≡ k = omega arith in e) in
    subst P (sym at) (each k low)
