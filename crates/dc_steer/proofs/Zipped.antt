-- A list made from two lists, item by item.
use Rattle.std.proofs.Common.{◌≡◌, ℕ, ◌+◌, ◌<◌, ◌≤◌, List, [], ◌∷◌, ◌++◌, length, map, take, zip, get_or, sym, ◌∙◌, ap, ap₂, arith}
use Rattle.std.proofs.lemmas.List.{length-map, get_or-map, take_more, take_all}
use Rattle.std.proofs.lemmas.Slice.Zip.{length-zip, get_or-zip}

pub length-zipped : {X Y Z : Type 0} (f : X × Y → Z) (xs : List X) (ys : List Y) → length ys ≡ length xs → length (map f (zip xs ys)) ≡ length xs
length-zipped f xs ys same = length-map (zip xs ys) f ∙ length-zip xs ys ∙ (omega arith)

-- an item of it
pub zipped_at : {X Y Z : Type 0} (f : X × Y → Z) (xs : List X) (ys : List Y) (k : ℕ) (x : X) (y : Y) (z : Z) → length ys ≡ length xs → k < length xs
    → get_or (map f (zip xs ys)) k z ≡ f (get_or xs k x, get_or ys k y)
zipped_at f xs ys k x y z same low =
    let pairs = length-zip xs ys in get_or-map f (zip xs ys) k (x, y) z (omega arith) ∙ ap f (get_or-zip xs ys k (x, y) low (omega arith))

-- with one item more
pub zipped_put : {X Y Z : Type 0} (f : X × Y → Z) (xs : List X) (ys : List Y) (k : ℕ) (x : X) (y : Y) (known : List Z) (z : Z) → length ys ≡ length xs → k < length xs
    → z ≡ f (get_or xs k x, get_or ys k y) → known ≡ take k (map f (zip xs ys)) → known ++ z ∷ [] ≡ take (k + 1) (map f (zip xs ys))
zipped_put {X} {Y} {Z} f xs ys k x y known z same low is before =
    let ws = map f (zip xs ys) in
    let long = length-zipped f xs ys same in
    let here : z ≡ get_or ws k z = is ∙ sym (zipped_at f xs ys k x y z same low) in
    ap (λ (zs : List Z). zs ++ z ∷ []) before ∙ ap (λ (w : Z). take k ws ++ w ∷ []) here ∙ sym (take_more ws k z (omega arith))

pub zipped_more : {X Y Z : Type 0} (f : X × Y → Z) (xs : List X) (ys : List Y) (k : ℕ) (x : X) (y : Y) (known : List Z) (z : Z) → length ys ≡ length xs → k < length xs
    → x ≡ get_or xs k x → y ≡ get_or ys k y → z ≡ f (x, y) → known ≡ take k (map f (zip xs ys)) → known ++ z ∷ [] ≡ take (k + 1) (map f (zip xs ys))
zipped_more {X} {Y} {Z} f xs ys k x y known z same low first second is before =
    zipped_put f xs ys k x y known z same low (is ∙ ap₂ (λ (a : X) (b : Y). f (a, b)) first second) before

-- all items
pub zipped_all : {X Y Z : Type 0} (f : X × Y → Z) (xs : List X) (ys : List Y) (k : ℕ) (known : List Z) → length ys ≡ length xs → length xs ≤ k
    → known ≡ take k (map f (zip xs ys)) → known ≡ map f (zip xs ys)
zipped_all f xs ys k known same all is =
    let long = length-zipped f xs ys same in is ∙ take_all k (map f (zip xs ys)) (omega arith)
