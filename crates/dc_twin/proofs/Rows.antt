-- One row more.
use Rattle.std.proofs.Common.{◌≡◌, ℕ, ◌+◌, ◌*◌, ◌<◌, ◌≤◌, Bool, cond, List, [], ◌∷◌, ◌++◌, length, get_or, map, take, drop, Option, sym, ◌∙◌, ap, arith}
use Rattle.std.specs.List.{filter, flat_map, filter_map, cons_option, range_with_len}
use Rattle.std.proofs.Math.Nat.{mul-le-mul_right}
use Rattle.std.proofs.lemmas.List.{map-id, map-append, flat_map_more, get_or_default, length-drop, length-take-le, take_more}
use Rattle.std.proofs.lemmas.List.Elements.{filter_map-append}
use Rattle.std.proofs.lemmas.List.FromFn.{map-range_with_len_more, filter_of_map_range_with_len_more}
use Rattle.dc_spec.specs.Words.{zero_word}
use Rattle.dc_twin.specs.Demands.{words_at}

range_more : (n : ℕ) → range_with_len 0 (n + 1) ≡ range_with_len 0 n ++ n ∷ []
range_more n =
    sym (map-id (range_with_len 0 (n + 1))) ∙ map-range_with_len_more (λ (i : ℕ). i) 0 n n (omega arith)
    ∙ ap (λ (xs : List ℕ). xs ++ n ∷ []) (map-id (range_with_len 0 n))

-- so many pieces and one more
pub pieces_more : {A : Type 0} (f : ℕ → List A) (n : ℕ) (old new : List A) → old ≡ flat_map f (range_with_len 0 n) → new ≡ old ++ f n → new ≡ flat_map f (range_with_len 0 (n + 1))
pieces_more f n old new before is =
    is ∙ ap (λ xs. xs ++ f n) before ∙ flat_map_more f [] (range_with_len 0 n) n
    ∙ sym (ap (λ (xs : List ℕ). flat_map f xs) (range_more n))

-- so many items and one more
pub items_more : {A : Type 0} (f : ℕ → A) (n : ℕ) (old new : List A) (x : A) → old ≡ map f (range_with_len 0 n) → x ≡ f n → new ≡ old ++ x ∷ [] → new ≡ map f (range_with_len 0 (n + 1))
items_more f n old new x before here is =
    is ∙ ap (λ xs. xs ++ x ∷ []) before ∙ ap (λ y. map f (range_with_len 0 n) ++ y ∷ []) here
    ∙ sym (map-range_with_len_more f 0 n n (omega arith))

-- a word of a row is there
pub row_within : (rows count t j size : ℕ) → t < rows → j < count → rows * count ≤ size → t * count + j < size
row_within rows count t j size low place all = let more = mul-le-mul_right {m = t + 1} {n = rows} count (omega arith) in omega arith

-- the words at a place of so many rows and one more
pub words_more : (rows count j t : ℕ) (words old new : List (List ℕ)) (w : List ℕ) → t < rows → j < count → rows * count ≤ length words → w ≡ get_or words (t * count + j) w
    → old ≡ words_at t count j words → new ≡ old ++ w ∷ [] → new ≡ words_at (t + 1) count j words
words_more rows count j t words old new w low place all at before is =
    items_more (λ k. get_or words (k * count + j) zero_word) t old new w before
    (at ∙ get_or_default words (t * count + j) w zero_word (row_within rows count t j (length words) low place all)) is

-- one number more is tested
pub kept-more : (T : ℕ → Bool) (n : ℕ) → filter T (range_with_len 0 (n + 1)) ≡ filter T (range_with_len 0 n) ++ cond (T n) (n ∷ []) []
kept-more T n =
    sym (ap (filter T) (map-id (range_with_len 0 (n + 1)))) ∙ filter_of_map_range_with_len_more T (λ (i : ℕ). i) 0 n n (omega arith)
    ∙ ap (λ (xs : List ℕ). filter T xs ++ cond (T n) (n ∷ []) []) (map-id (range_with_len 0 n))

-- a row is as long as it is to be
pub row-size : {A : Type 0} (rows n t : ℕ) (words : List A) → t < rows → rows * n ≤ length words → length (take n (drop (t * n) words)) ≡ n
row-size rows n t words low all =
    let more = mul-le-mul_right {m = t + 1} {n = rows} n (omega arith) in
    let left = length-drop (t * n) words in
    length-take-le n (drop (t * n) words) (omega arith)

-- the items so far that have a value, and one item more
pub chosen-more : {A B : Type 0} (f : A → Option B) (xs : List A) (i : ℕ) (x : A) (o : Option B) (old new : List B) → i < length xs → x ≡ get_or xs i x → old ≡ filter_map f (take i xs) → o ≡ f x
    → new ≡ old ++ cons_option o [] → new ≡ filter_map f (take (i + 1) xs)
chosen-more f xs i x o old new low at before here is =
    is ∙ ap (λ ys. ys ++ cons_option o []) before ∙ ap (λ z. filter_map f (take i xs) ++ cons_option z []) here
    ∙ sym (filter_map-append f (take i xs) (x ∷ [])) ∙ ap (filter_map f) (sym (take_more xs i x low ∙ ap (λ y. take i xs ++ y ∷ []) (sym at)))

-- the values of the items so far, and of one item more
pub mapped-more : {A B : Type 0} (f : A → B) (xs : List A) (i : ℕ) (x : A) (y : B) (old new : List B) → i < length xs → x ≡ get_or xs i x → old ≡ map f (take i xs) → y ≡ f x
    → new ≡ old ++ y ∷ [] → new ≡ map f (take (i + 1) xs)
mapped-more f xs i x y old new low at before here is =
    is ∙ ap (λ ys. ys ++ y ∷ []) before ∙ ap (λ z. map f (take i xs) ++ z ∷ []) here
    ∙ sym (map-append f (take i xs) (x ∷ [])) ∙ ap (map f) (sym (take_more xs i x low ∙ ap (λ z. take i xs ++ z ∷ []) (sym at)))
