-- Sums over a range of places, and the symbols of a list of words.
use Rattle.std.proofs.Common.{◌≡◌, ℕ, zero, suc, ◌+◌, ◌-◌, ◌*◌, ◌%◌, ◌<◌, ◌≤◌, List, [], ◌∷◌, ◌++◌, length, get_or, take, drop, map, sum_by, refl, sym, ap, subst, ◌∙◌, arith, add-one}
use Rattle.std.specs.List.{flat_map, range_with_len}
use Rattle.std.proofs.Math.ListN.{get_or-append}
use Rattle.std.proofs.lemmas.List.{append-nil, take_more, get_or-take, get_or-drop, take-append-drop, length-append, length-take}
use Rattle.std.proofs.lemmas.List.Concat.{flat_map-append, get_or-flat_map}
use Rattle.std.proofs.lemmas.List.FromFn.{fill_by_all, length-range_with_len, get_or-range_with_len, sum_by-map-range_with_len_more}
use Rattle.dc_key_rules.specs.PairKeys.{symbols, key_symbol}

-- a range is its own places
range_is : (n : ℕ) → range_with_len 0 n ≡ map (λ (k : ℕ). k) (range_with_len 0 n)
range_is n = fill_by_all (λ (k : ℕ). k) (range_with_len 0 n) n 0 (length-range_with_len 0 n) (λ k lt. get_or-range_with_len 0 n k 0 lt ∙ omega arith)

-- one place more
pub sum_to-more : (f : ℕ → ℕ) (n : ℕ) → sum_by f (range_with_len 0 (n + 1)) ≡ sum_by f (range_with_len 0 n) + f n
sum_to-more f n =
    ap (λ (xs : List ℕ). sum_by f xs) (range_is (n + 1)) ∙ sum_by-map-range_with_len_more f (λ (k : ℕ). k) 0 n n (omega arith) ∙ ap (λ (xs : List ℕ). sum_by f xs + f n) (sym (range_is n))

-- more places
pub sum_to-add : (f : ℕ → ℕ) (n m : ℕ) → sum_by f (range_with_len 0 (n + m)) ≡ sum_by f (range_with_len 0 n) + sum_by (λ j. f (n + j)) (range_with_len 0 m)
sum_to-add f n zero = let e : n + 0 ≡ n = omega arith in rw e (omega arith)
sum_to-add f n (suc m) =
    let P : ℕ → Type 0 = λ k. sum_by f (range_with_len 0 (n + k)) ≡ sum_by f (range_with_len 0 n) + sum_by (λ j. f (n + j)) (range_with_len 0 k) in
    let e : n + (m + 1) ≡ n + m + 1 = omega arith in
    let so_far = sum_to-add f n m in
    let left = sum_to-more f (n + m) in
    let right = sum_to-more (λ j. f (n + j)) m in
    let at : P (m + 1) = rw e (omega (arith, so_far, left, right)) in
    subst P (add-one m) at

-- functions that are the same below the end
pub sum_to-same : (f g : ℕ → ℕ) (n : ℕ) → ((k : ℕ) → k < n → f k ≡ g k) → sum_by f (range_with_len 0 n) ≡ sum_by g (range_with_len 0 n)
sum_to-same f g zero same = refl
sum_to-same f g (suc n) same =
    let P : ℕ → Type 0 = λ k. sum_by f (range_with_len 0 k) ≡ sum_by g (range_with_len 0 k) in
    let so_far = sum_to-same f g n (λ k lt. same k (omega arith)) in
    let here = same n (omega arith) in
    subst P (add-one n) (omega (arith, so_far, here, sum_to-more f n, sum_to-more g n))

-- the same places from the last to the first
pub sum_to-turned : (f : ℕ → ℕ) (n : ℕ) → sum_by (λ k. f (n - 1 - k)) (range_with_len 0 n) ≡ sum_by f (range_with_len 0 n)
sum_to-turned f zero = refl
sum_to-turned f (suc n) =
    let P : ℕ → Type 0 = λ m. sum_by (λ k. f (m - 1 - k)) (range_with_len 0 m) ≡ sum_by f (range_with_len 0 m) in
    let ends : 1 + n ≡ n + 1 = omega arith in
    let g : ℕ → ℕ = λ k. f (n + 1 - 1 - k) in
    let first : g 0 ≡ f n = ap f (omega arith) in
    let later = sum_to-same (λ k. g (1 + k)) (λ k. f (n - 1 - k)) n (λ k lt. ap f (omega arith)) in
    let apart : sum_by g (range_with_len 0 (n + 1)) ≡ sum_by g (range_with_len 0 1) + sum_by (λ k. g (1 + k)) (range_with_len 0 n) = rw ends at (sum_to-add g 1 n) in
    let one : sum_by g (range_with_len 0 1) ≡ g 0 = omega arith in
    let at : P (n + 1) = omega (arith, apart, one, first, later, sum_to-turned f n, sum_to-more f n) in
    subst P (add-one n) at

-- the product of two symbols
pub product_small : (x y : ℕ) → x ≤ 65536 → y ≤ 65536 → x * y ≤ 4294967296
product_small x y h k = grind arith

-- a pad of a piece of the pads
pub pad_in_piece : (pads : List ℕ) (n from k : ℕ) → k < n → get_or (take n (drop from pads)) k 0 ≡ get_or pads (from + k) 0
pad_in_piece pads n from k lt = get_or-take n (drop from pads) k 0 lt ∙ get_or-drop from pads k 0

-- a total with the product of one symbol more
pub product_more : (second w : List ℕ) (ahead j k n from was x now start : ℕ) → now ≡ was + get_or (take n (drop from second)) k 0 * x
    → was ≡ start + sum_by (λ i. get_or second (ahead + k - i) 0 * get_or w i 0) (range_with_len 0 j)
    → x ≡ get_or w j 0 → k < n → from ≡ ahead - j → j ≤ ahead → now ≡ start + sum_by (λ i. get_or second (ahead + k - i) 0 * get_or w i 0) (range_with_len 0 (j + 1))
product_more second w ahead j k n from was x now start is so_far symbol lt place within =
    let at : from + k ≡ ahead + k - j = omega arith in
    let pad : get_or (take n (drop from second)) k 0 ≡ get_or second (ahead + k - j) 0 = pad_in_piece second n from k lt ∙ ap (λ (i : ℕ). get_or second i 0) at in
    let product : get_or (take n (drop from second)) k 0 * x ≡ get_or second (ahead + k - j) 0 * get_or w j 0 = rw (pad, symbol) refl in
    omega (arith, is, so_far, product, sum_to-more (λ i. get_or second (ahead + k - i) 0 * get_or w i 0) j)

-- the symbols of one word more
symbols_more : (received : List (List ℕ)) (w : List ℕ) (t : ℕ) → t < length received → w ≡ get_or received t w → symbols (take (t + 1) received) ≡ symbols (take t received) ++ w
symbols_more received w t lt is =
    let one : flat_map (λ (v : List ℕ). v) (w ∷ []) ≡ w = append-nil w in
    rw (take_more received t w lt, ← is, flat_map-append) (ap (λ (xs : List ℕ). symbols (take t received) ++ xs) one)

-- sixteen symbols more
pub sixteen_more : (received : List (List ℕ)) (w : List ℕ) (t : ℕ) → t < length received → w ≡ get_or received t w → length w ≡ 16 → length (symbols (take t received)) ≡ 16 * t
    → length (symbols (take (t + 1) received)) ≡ 16 * (t + 1)
sixteen_more received w t lt is wide so_far = rw (symbols_more received w t lt is) (omega (arith, length-append (symbols (take t received)) w))

-- symbol j of word t
pub symbol_of_word : (received : List (List ℕ)) (w : List ℕ) (t j : ℕ) → t < length received → w ≡ get_or received t w → j < length w → length (symbols (take t received)) ≡ 16 * t
    → get_or (symbols received) (16 * t + j) 0 ≡ get_or w j 0
symbol_of_word received w t j lt is within so_far =
    let short : j < length (get_or received t w) = rw (← is) within in
    let found = get_or-flat_map (λ (v : List ℕ). v) received t j w 0 lt short in
    let at : length (symbols (take t received)) + j ≡ 16 * t + j = omega arith in
    ap (λ (i : ℕ). get_or (symbols received) i 0) (sym at) ∙ found ∙ ap (λ (v : List ℕ). get_or v j 0) (sym is)

-- a total with the products of one word more
pub word_more : (second : List ℕ) (received : List (List ℕ)) (w : List ℕ) (t k was now start ahead : ℕ) → now ≡ was + sum_by (λ j. get_or second (ahead + k - j) 0 * get_or w j 0) (range_with_len 0 16)
    → was ≡ start + sum_by (λ i. get_or second (16 * length received + k - i) 0 * get_or (symbols received) i 0) (range_with_len 0 (16 * t)) → t < length received → ahead ≡ 16 * (length received - t)
    → w ≡ get_or received t w → length w ≡ 16 → length (symbols (take t received)) ≡ 16 * t → now ≡ start + sum_by (λ i. get_or second (16 * length received + k - i) 0 * get_or (symbols received) i 0) (range_with_len 0 (16 * (t + 1)))
word_more second received w t k was now start ahead is so_far lt place word wide sixteen =
    let places : 16 * (t + 1) ≡ 16 * t + 16 = omega arith in
    let f : ℕ → ℕ = λ i. get_or second (16 * length received + k - i) 0 * get_or (symbols received) i 0 in
    let g : ℕ → ℕ = λ j. get_or second (ahead + k - j) 0 * get_or w j 0 in
    let same : (j : ℕ) → j < 16 → g j ≡ f (16 * t + j) = λ j small.
    let at : ahead + k - j ≡ 16 * length received + k - (16 * t + j) = omega arith in
    let symbol = symbol_of_word received w t j lt word (omega arith) sixteen in
    rw (at, symbol) refl in
    rw places (omega (arith, is, so_far, sum_to-add f (16 * t) 16, sum_to-same g (λ j. f (16 * t + j)) 16 same))

-- symbol n of the words up to a word is that of all words
symbol_before : (received : List (List ℕ)) (t n : ℕ) → n < length (symbols (take t received)) → get_or (symbols (take t received)) n 0 ≡ get_or (symbols received) n 0
symbol_before received t n lt =
    let whole : symbols (take t received) ++ symbols (drop t received) ≡ symbols received = sym (flat_map-append (λ (v : List ℕ). v) (take t received) (drop t received)) ∙ ap (λ (ws : List (List ℕ)). symbols ws) (take-append-drop t received) in
    sym (get_or-append (symbols (take t received)) (symbols (drop t received)) 0 n lt) ∙ ap (λ (xs : List ℕ). get_or xs n 0) whole

-- a total is the symbol of the key before it is reduced
pub total_is_symbol : (a b : List ℕ) (received : List (List ℕ)) (t l n m start total : ℕ)
    → total ≡ get_or (take n (drop start a)) l 0 + sum_by (λ k. get_or b (16 * length (take m received) + l - k) 0 * get_or (symbols (take m received)) k 0) (range_with_len 0 (16 * length (take m received)))
    → length (symbols (take m received)) ≡ 16 * length (take m received) → l < n → start ≡ 16 * t → m ≡ t → t ≤ length received → total % 65537 ≡ key_symbol a b (symbols received) (16 * t) (16 * t + l)
total_is_symbol a b received t l n m start total is sixteen lt place front within =
    let long : length (take m received) ≡ t = omega (arith, length-take m received) in
    let f : ℕ → ℕ = λ k. get_or b (16 * length (take m received) + l - k) 0 * get_or (symbols (take m received)) k 0 in
    let g : ℕ → ℕ = λ k. get_or b (16 * t + l - k) 0 * get_or (symbols received) k 0 in
    let same : (k : ℕ) → k < 16 * t → f k ≡ g k = λ k small.
    let at : 16 * length (take m received) + l - k ≡ 16 * t + l - k = omega arith in
    rw (at, symbol_before received m k (omega arith)) refl in
    let places : 16 * length (take m received) ≡ 16 * t = omega arith in
    let sums : sum_by f (range_with_len 0 (16 * length (take m received))) ≡ sum_by g (range_with_len 0 (16 * t)) = ap (λ (i : ℕ). sum_by f (range_with_len 0 i)) places ∙ sum_to-same f g (16 * t) same in
    let pad : get_or (take n (drop start a)) l 0 ≡ get_or a (16 * t + l) 0 = pad_in_piece a n start l lt ∙ ap (λ (i : ℕ). get_or a (i + l) 0) place in
    ap (λ (i : ℕ). i % 65537) (is ∙ ap (λ (i : ℕ). i + sum_by f (range_with_len 0 (16 * length (take m received)))) pad ∙ ap (λ (i : ℕ). get_or a (16 * t + l) 0 + i) sums)
