-- Rows of one length, put one after the other.
use Rattle.std.proofs.Common.{◌≡◌, ℕ, zero, suc, ◌+◌, ◌*◌, ◌<◌, List, [], ◌∷◌, ◌++◌, length, take, drop, get_or, sym, ◌∙◌, ap, subst, arith}
use Rattle.std.specs.List.{All, flat_map}
use Rattle.std.proofs.Math.Seq.{take-append_seam, drop-append-add}
use Rattle.std.proofs.lemmas.List.{get_or-take, get_or-drop, length-append}
use Rattle.std.proofs.lemmas.List.Elements.{All-head, All-tail}

-- the length of all rows
pub length-rows : {A B : Type 0} (f : A → List B) (n : ℕ) (xs : List A) → All (λ x. length (f x) ≡ n) xs → length (flat_map f xs) ≡ length xs * n
length-rows f n [] all = omega arith
length-rows f n (x ∷ xs) all =
    let here = All-head (λ y. length (f y) ≡ n) x xs all in
    let rest = length-rows f n xs (All-tail (λ y. length (f y) ≡ n) x xs all) in
    length-append (f x) (flat_map f xs) ∙ (omega arith)

-- the row of a number
pub row-at : {A B : Type 0} (f : A → List B) (n : ℕ) (xs : List A) (t : ℕ) (d : A) → All (λ x. length (f x) ≡ n) xs → t < length xs
    → take n (drop (t * n) (flat_map f xs)) ≡ f (get_or xs t d)
row-at f n [] t d all low = absurd (omega arith)
row-at f n (x ∷ xs) zero d all low =
    let here = All-head (λ y. length (f y) ≡ n) x xs all in
    let none : 0 * n ≡ 0 = omega arith in
    ap (λ m. take n (drop m (f x ++ flat_map f xs))) none ∙ subst (λ m. take m (f x ++ flat_map f xs) ≡ f x) here (take-append_seam (f x) (flat_map f xs))
row-at f n (x ∷ xs) (suc t) d all low =
    let here = All-head (λ y. length (f y) ≡ n) x xs all in
    let past : suc t * n ≡ length (f x) + t * n = omega arith in
    ap (λ m. take n (drop m (f x ++ flat_map f xs))) past ∙ ap (take n) (drop-append-add (f x) (flat_map f xs) (t * n))
    ∙ row-at f n xs t d (All-tail (λ y. length (f y) ≡ n) x xs all) (omega arith)

-- an item of a row
pub item-at : {B : Type 0} (n t j : ℕ) (xs row : List B) (d : B) → take n (drop (t * n) xs) ≡ row → j < n → get_or xs (t * n + j) d ≡ get_or row j d
item-at n t j xs row d is low =
    sym (get_or-drop (t * n) xs j d) ∙ sym (get_or-take n (drop (t * n) xs) j d low) ∙ ap (λ ys. get_or ys j d) is
