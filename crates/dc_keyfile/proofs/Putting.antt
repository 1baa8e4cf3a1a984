-- Pieces put one after another.
use Rattle.std.proofs.Common.{◌≡◌, ℕ, ◌+◌, ◌<◌, List, [], ◌∷◌, ◌++◌, length, get_or, take, sym, ap, ◌∙◌, append_assoc}
use Rattle.std.specs.List.{flat_map}
use Rattle.std.proofs.lemmas.List.{take_more, append-nil}
use Rattle.std.proofs.lemmas.List.Concat.{flat_map-append}

pub both_put : (old one two p q : List ℕ) → one ≡ old ++ p → two ≡ one ++ q → two ≡ old ++ (p ++ q)
both_put old one two p q first second = second ∙ ap (λ (xs : List ℕ). xs ++ q) first ∙ append_assoc old p q

pub four_put : (old one two three end p q r s : List ℕ) → one ≡ old ++ p → two ≡ one ++ q → three ≡ two ++ r → end ≡ three ++ s → end ≡ old ++ (p ++ q ++ r ++ s)
four_put old one two three end p q r s first second third fourth =
    fourth ∙ ap (λ (xs : List ℕ). xs ++ s) (third ∙ ap (λ (xs : List ℕ). xs ++ r) (second ∙ ap (λ (xs : List ℕ). xs ++ q) first)) ∙ simp append_assoc

-- the spelling of one item more
pub one_put : {X : Type 0} (f : X → List ℕ) (xs : List X) (i : ℕ) (x : X) (old now next : List ℕ) → i < length xs → x ≡ get_or xs i x → now ≡ old ++ flat_map f (take i xs)
    → next ≡ now ++ f x → next ≡ old ++ flat_map f (take (i + 1) xs)
one_put f xs i x old now next lt here so_far put =
    let more : flat_map f (take (i + 1) xs) ≡ flat_map f (take i xs) ++ f x = ap (flat_map f) (take_more xs i x lt) ∙ flat_map-append f (take i xs) (get_or xs i x ∷ [])
    ∙ ap (λ (ys : List ℕ). flat_map f (take i xs) ++ ys) (append-nil (f (get_or xs i x)) ∙ ap f (sym here)) in
    put ∙ ap (λ (ys : List ℕ). ys ++ f x) so_far ∙ append_assoc old (flat_map f (take i xs)) (f x) ∙ ap (λ (ys : List ℕ). old ++ ys) (sym more)
