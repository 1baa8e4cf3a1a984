-- The first answer along a list, item by item.
use Rattle.std.proofs.Common.{◌≡◌, ℕ, suc, ◌+◌, ◌-◌, ◌<◌, Bool, true, false, List, ◌∷◌, length, get_or, drop, map, Option, Some, None, option_map, refl, sym, ap, ◌∙◌, arith, add-one, drop-cons}
use Rattle.std.specs.List.{range_with_len, enumerate_from, find}
use Rattle.dc_spec.proofs.Options.{map-none}
use Rattle.dc_net_rules.specs.Agreement.{first_of, first_by}

none_first : {A B X : Type 0} (g : A → B) (f : X → Option A) (x : X) (xs : List X) → None ≡ option_map g (f x) → first_by f (x ∷ xs) ≡ first_by f xs
none_first g f x xs e = rw (map-none g (f x) (sym e)) refl

some_of : {A B : Type 0} (g : A → B) (o : Option A) (os : List (Option A)) (y : B) → Some y ≡ option_map g o → Some y ≡ option_map g (first_of (o ∷ os))
some_of g None os y e = absurd (cc)
some_of g (Some a) os y e = e

some_first : {A B X : Type 0} (g : A → B) (f : X → Option A) (x : X) (xs : List X) (y : B) → Some y ≡ option_map g (f x) → Some y ≡ option_map g (first_by f (x ∷ xs))
some_first g f x xs y e = some_of g (f x) (map f xs) y e

-- along numbers: what is left begins with the next number
pub numbers_left : (i n : ℕ) → i < n → range_with_len i (n - i) ≡ i ∷ range_with_len (i + 1) (n - (i + 1))
numbers_left i n lt = let e : n - i ≡ suc (n - (i + 1)) = omega arith in rw e refl

-- the answer is that of this number
pub number_found : {A B : Type 0} (g : A → B) (f : ℕ → Option A) (i n : ℕ) (y : B) → i < n
    → first_by f (range_with_len 0 n) ≡ first_by f (range_with_len i (n - i)) → Some y ≡ option_map g (f i)
    → Some y ≡ option_map g (first_by f (range_with_len 0 n))
number_found g f i n y lt left is =
    some_first g f i (range_with_len (i + 1) (n - (i + 1))) y is
    ∙ sym (ap (option_map g) (left ∙ ap (first_by f) (numbers_left i n lt)))

-- this number gives no answer
pub number_passed : {A B : Type 0} (g : A → B) (f : ℕ → Option A) (i n : ℕ) → i < n
    → first_by f (range_with_len 0 n) ≡ first_by f (range_with_len i (n - i)) → None ≡ option_map g (f i)
    → first_by f (range_with_len 0 n) ≡ first_by f (range_with_len (i + 1) (n - (i + 1)))
number_passed g f i n lt left is =
    left ∙ ap (first_by f) (numbers_left i n lt) ∙ none_first g f i (range_with_len (i + 1) (n - (i + 1))) is

-- along the items of a list with their numbers
items_left : {X : Type 0} (xs : List X) (i : ℕ) (d : X) → i < length xs → enumerate_from i (drop i xs) ≡ (i, get_or xs i d) ∷ enumerate_from (i + 1) (drop (i + 1) xs)
items_left xs i d lt = rw (drop-cons xs i d lt) (rw add-one refl)

items_from : {X : Type 0} (xs : List X) (i : ℕ) (x : X) → i < length xs → x ≡ get_or xs i x → enumerate_from i (drop i xs) ≡ (i, x) ∷ enumerate_from (i + 1) (drop (i + 1) xs)
items_from xs i x lt at = items_left xs i x lt ∙ ap (λ z. (i, z) ∷ enumerate_from (i + 1) (drop (i + 1) xs)) (sym at)

-- the answer is that of this item
pub item_found : {A B X : Type 0} (g : A → B) (f : ℕ × X → Option A) (xs ys : List X) (i : ℕ) (x : X) (y : B) → i < length xs → x ≡ get_or xs i x → xs ≡ ys
    → first_by f (enumerate_from 0 xs) ≡ first_by f (enumerate_from i (drop i xs)) → Some y ≡ option_map g (f (i, x)) → Some y ≡ option_map g (first_by f (enumerate_from 0 ys))
item_found g f xs ys i x y lt at same left is =
    some_first g f (i, x) (enumerate_from (i + 1) (drop (i + 1) xs)) y is
    ∙ sym (ap (λ z. option_map g (first_by f z)) (items_from xs i x lt at))
    ∙ sym (ap (option_map g) left) ∙ ap (λ z. option_map g (first_by f (enumerate_from 0 z))) same

-- this item gives no answer
pub item_passed : {A B X : Type 0} (g : A → B) (f : ℕ × X → Option A) (xs : List X) (i : ℕ) (x : X) → i < length xs → x ≡ get_or xs i x
    → first_by f (enumerate_from 0 xs) ≡ first_by f (enumerate_from i (drop i xs)) → None ≡ option_map g (f (i, x))
    → first_by f (enumerate_from 0 xs) ≡ first_by f (enumerate_from (i + 1) (drop (i + 1) xs))
item_passed g f xs i x lt at left is =
    left ∙ ap (first_by f) (items_from xs i x lt at) ∙ none_first g f (i, x) (enumerate_from (i + 1) (drop (i + 1) xs)) is

from_here : {X : Type 0} (xs : List X) (i : ℕ) (x : X) → i < length xs → x ≡ get_or xs i x → drop i xs ≡ x ∷ drop (i + 1) xs
from_here xs i x lt at = rw add-one (drop-cons xs i x lt ∙ ap (λ z. z ∷ drop (suc i) xs) (sym at))

-- the first that passes a test is this item
pub find_here : {X : Type 0} (p : X → Bool) (xs : List X) (i : ℕ) (x : X) → i < length xs → x ≡ get_or xs i x → p x ≡ true
    → find p xs ≡ find p (drop i xs) → find p xs ≡ Some x
find_here p xs i x lt at is left = left ∙ ap (find p) (from_here xs i x lt at) ∙ rw is refl

-- this item does not pass
pub find_past : {X : Type 0} (p : X → Bool) (xs : List X) (i : ℕ) (x : X) → i < length xs → x ≡ get_or xs i x → p x ≡ false
    → find p xs ≡ find p (drop i xs) → find p xs ≡ find p (drop (i + 1) xs)
find_past p xs i x lt at is left = left ∙ ap (find p) (from_here xs i x lt at) ∙ rw is refl
