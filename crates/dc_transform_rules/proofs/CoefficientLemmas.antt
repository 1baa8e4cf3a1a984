-- The coefficients of a product as plain sums.
use Rattle.std.proofs.Common.{◌≡◌, ℕ, zero, suc, ◌+◌, ◌-◌, ◌*◌, ◌%◌, ◌<◌, ◌≤◌, List, [], ◌∷◌, ◌++◌, length, get_or, replicate, reverse, take, drop, sum_by, refl, sym, ap, ◌∙◌, arith, add-one}
use Rattle.std.specs.List.{range_with_len}
use Rattle.std.proofs.lemmas.Nat.{mul-mod_first}
use Rattle.std.proofs.lemmas.List.{length-drop, length-reverse, reverse-reverse, take-append-drop, get_or-replicate, get_or_append_left, get_or-append_right, get_or-take, get_or-drop}
use Rattle.std.proofs.lemmas.List.Sums.{sum_by-cons}
use Rattle.dc_spec.specs.Symbols.{AreSymbols}
use Rattle.dc_transform_rules.specs.Residues.{plus, times}
use Rattle.dc_transform_rules.specs.Polynomials.{sums, products, scaled, turned, product}
use Rattle.dc_transform_rules.proofs.ResidueLemmas.{times-zero, zero-times, times_one, zero-plus-zero}
use Rattle.dc_transform_rules.proofs.ListLemmas.{sums-comm}
use Rattle.dc_transform_rules.proofs.ProductLemmas.{length-scaled, length-turned, length-product, zeros-zeros, zeros-product, product-append, turns, turns-tail}

pub get_or-sums : (a b : List ℕ) (k : ℕ) → length a ≡ length b → get_or (sums a b) k 0 ≡ plus (get_or a k 0) (get_or b k 0)
get_or-sums [] [] k e = sym zero-plus-zero
get_or-sums [] (y ∷ b) k e = absurd (omega arith)
get_or-sums (x ∷ a) [] k e = absurd (omega arith)
get_or-sums (x ∷ a) (y ∷ b) zero e = refl
get_or-sums (x ∷ a) (y ∷ b) (suc k) e = get_or-sums a b k (omega arith)

pub get_or-scaled : (c : ℕ) (a : List ℕ) (k : ℕ) → get_or (scaled c a) k 0 ≡ times c (get_or a k 0)
get_or-scaled c [] k = sym (times-zero c)
get_or-scaled c (x ∷ a) zero = refl
get_or-scaled c (x ∷ a) (suc k) = get_or-scaled c a k

pub get_or-products : (a b : List ℕ) (k : ℕ) → length a ≡ length b → get_or (products a b) k 0 ≡ times (get_or a k 0) (get_or b k 0)
get_or-products [] [] k e = sym (times-zero 0)
get_or-products [] (y ∷ b) k e = absurd (omega arith)
get_or-products (x ∷ a) [] k e = absurd (omega arith)
get_or-products (x ∷ a) (y ∷ b) zero e = refl
get_or-products (x ∷ a) (y ∷ b) (suc k) e = get_or-products a b k (omega arith)

-- symbols are reduced
pub scaled_one : (a : List ℕ) → AreSymbols a → scaled 1 a ≡ a
scaled_one [] each = refl
scaled_one (x ∷ a) each = let h = times_one x (each 0) in let t = scaled_one a (λ k. each (suc k)) in cc

-- sums over ranges
pub sum_range-same : (f g : ℕ → ℕ) (a n : ℕ) → ((i : ℕ) → a ≤ i → i < a + n → f i ≡ g i) → sum_by f (range_with_len a n) ≡ sum_by g (range_with_len a n)
sum_range-same f g a zero same = refl
sum_range-same f g a (suc n) same =
    sum_by-cons f a (range_with_len (a + 1) n) ∙ ap (λ x. x + sum_by f (range_with_len (a + 1) n)) (same a (omega arith) (omega arith))
    ∙ ap (λ x. g a + x) (sum_range-same f g (a + 1) n (λ i low high. same i (omega arith) (omega arith))) ∙ sym (sum_by-cons g a (range_with_len (a + 1) n))

sum_range-later : (f : ℕ → ℕ) (a n : ℕ) → sum_by f (range_with_len (a + 1) n) ≡ sum_by (λ i. f (i + 1)) (range_with_len a n)
sum_range-later f a zero = refl
sum_range-later f a (suc n) =
    sum_by-cons f (a + 1) (range_with_len (a + 1 + 1) n) ∙ ap (λ x. f (a + 1) + x) (sum_range-later f (a + 1) n)
    ∙ sym (sum_by-cons (λ i. f (i + 1)) a (range_with_len (a + 1) n))

pub sum_range-split : (f : ℕ → ℕ) (a m n : ℕ) → sum_by f (range_with_len a (m + n)) ≡ sum_by f (range_with_len a m) + sum_by f (range_with_len (a + m) n)
sum_range-split f a zero n =
    let here : a + 0 ≡ a = omega arith in
    let all : 0 + n ≡ n = omega arith in
    ap (λ k. sum_by f (range_with_len a k)) all ∙ ap (λ k. sum_by f (range_with_len k n)) (sym here) ∙ (let e : sum_by f (range_with_len (a + 0) n) ≡ 0 + sum_by f (range_with_len (a + 0) n) = omega arith in e)
sum_range-split f a (suc m) n =
    let more : suc m + n ≡ suc (m + n) = omega arith in
    let place : a + 1 + m ≡ a + suc m = omega arith in
    let ih = sum_range-split f (a + 1) m n in
    let cons = sum_by-cons f a (range_with_len (a + 1) (m + n)) in
    let cons_m = sum_by-cons f a (range_with_len (a + 1) m) in
    let moved = ap (λ k. sum_by f (range_with_len k n)) place in
    ap (λ k. sum_by f (range_with_len a k)) more ∙ (let e : sum_by f (a ∷ range_with_len (a + 1) (m + n)) ≡ sum_by f (a ∷ range_with_len (a + 1) m) + sum_by f (range_with_len (a + suc m) n) = omega arith in e)

reduced_sum : (y x first rest g all f : ℕ) → first ≡ times y x → rest ≡ g % 65537 → all ≡ plus first rest → f ≡ x * y + g → all ≡ f % 65537
unfolding plus times
reduced_sum y x first rest g all f is later sum total = omega arith

-- a coefficient of a product, by the multiples of the first factor
pub product-at : (e : ℕ) (a b : List ℕ) (k : ℕ) → k < length a
    → get_or (product e a b) k 0 ≡ sum_by (λ i. get_or (turns e i a) k 0 * get_or b i 0) (range_with_len 0 (length b)) % 65537
unfolding turns plus times
product-at e a [] k within = get_or-replicate (length a) k 0 0 within
product-at e a (y ∷ b) k within =
    let f : ℕ → ℕ = λ i. get_or (turns e i a) k 0 * get_or (y ∷ b) i 0 in
    let g : ℕ → ℕ = λ i. get_or (turns e i (turned e a)) k 0 * get_or b i 0 in
    let ih : get_or (product e (turned e a) b) k 0 ≡ sum_by g (range_with_len 0 (length b)) % 65537 =
    product-at e (turned e a) b k (let h = length-turned e a in omega arith) in
    let same : length (scaled y a) ≡ length (product e (turned e a) b) = length-scaled y a ∙ sym (length-product e (turned e a) b ∙ length-turned e a) in
    let later : sum_by f (range_with_len (0 + 1) (length b)) ≡ sum_by g (range_with_len 0 (length b)) =
    sum_range-later f 0 (length b) ∙ sum_range-same (λ i. f (i + 1)) g 0 (length b) (λ i low high. ap f (add-one i)) in
    let all : sum_by f (range_with_len 0 (suc (length b))) ≡ f 0 + sum_by f (range_with_len (0 + 1) (length b)) = sum_by-cons f 0 (range_with_len (0 + 1) (length b)) in
    let first = get_or-scaled y a k in
    let here = get_or-sums (scaled y a) (product e (turned e a) b) k same in
    reduced_sum y (get_or a k 0) (get_or (scaled y a) k 0) (get_or (product e (turned e a) b) k 0) (sum_by g (range_with_len 0 (length b)))
    (get_or (sums (scaled y a) (product e (turned e a) b)) k 0) (sum_by f (range_with_len 0 (suc (length b)))) first ih here (all ∙ ap (λ x. f 0 + x) later)

-- a polynomial times a power of x
turns-part : (e i : ℕ) (a : List ℕ) → i ≤ length a → turns e i a ≡ scaled e (drop (length a - i) a) ++ take (length a - i) a
turns-part e i a within =
    let n = length a - i in
    let r = reverse (drop n a) in
    let long : length r ≡ i = (let h = length-reverse (drop n a) in let g = length-drop n a in omega arith) in
    let back : reverse r ≡ drop n a = reverse-reverse (drop n a) in
    ap (turns e i) (sym (take-append-drop n a)) ∙ ap (λ l. turns e i (take n a ++ l)) (sym back) ∙ ap (λ m. turns e m (take n a ++ reverse r)) (sym long)
    ∙ turns-tail e r (take n a) ∙ ap (λ l. scaled e l ++ take n a) back

-- its coefficients: those that have not come round, and those that have
turns-before : (e i : ℕ) (a : List ℕ) (k : ℕ) → i ≤ k → k < length a → get_or (turns e i a) k 0 ≡ get_or a (k - i) 0
turns-before e i a k low within =
    let n = length a - i in
    let long : length (scaled e (drop n a)) ≡ i = (let h = length-scaled e (drop n a) in let g = length-drop n a in omega arith) in
    ap (λ l. get_or l k 0) (turns-part e i a (omega arith)) ∙ get_or-append_right (scaled e (drop n a)) (take n a) i k 0 long low
    ∙ get_or-take n a (k - i) 0 (omega arith)

turns-round : (e i : ℕ) (a : List ℕ) (k : ℕ) → k < i → i ≤ length a → get_or (turns e i a) k 0 ≡ times e (get_or a (length a + k - i) 0)
turns-round e i a k low within =
    let n = length a - i in
    let long : length (scaled e (drop n a)) ≡ i = (let h = length-scaled e (drop n a) in let g = length-drop n a in omega arith) in
    let place : n + k ≡ length a + k - i = omega arith in
    ap (λ l. get_or l k 0) (turns-part e i a within) ∙ get_or_append_left (scaled e (drop n a)) (take n a) 0 k (omega arith)
    ∙ get_or-scaled e (drop n a) k ∙ ap (times e) (get_or-drop n a k 0 ∙ ap (λ j. get_or a j 0) place)

-- a sum of multiples, reduced
multiples_more : (e x y rest sum : ℕ) → rest % 65537 ≡ e * sum % 65537 → (times e x * y + rest) % 65537 ≡ e * (x * y + sum) % 65537
unfolding times
multiples_more e x y rest sum so_far =
    let here : (e * x % 65537 * y) % 65537 ≡ e * x * y % 65537 = mul-mod_first (e * x) y 65537 in
    let out : e * (x * y + sum) ≡ e * x * y + e * sum = omega arith in
    let left : (e * x % 65537 * y + rest) % 65537 ≡ ((e * x % 65537 * y) % 65537 + rest % 65537) % 65537 = omega arith in
    let right : ((e * x * y) % 65537 + e * sum % 65537) % 65537 ≡ (e * x * y + e * sum) % 65537 = omega arith in
    left ∙ ap (λ n. (n + rest % 65537) % 65537) here ∙ ap (λ n. ((e * x * y) % 65537 + n) % 65537) so_far ∙ right ∙ ap (λ n. n % 65537) (sym out)

sum-multiples : (e : ℕ) (f g : ℕ → ℕ) (xs : List ℕ) → sum_by (λ i. times e (f i) * g i) xs % 65537 ≡ e * sum_by (λ i. f i * g i) xs % 65537
sum-multiples e f g [] = (let h : 0 % 65537 ≡ e * 0 % 65537 = omega arith in h)
sum-multiples e f g (x ∷ xs) =
    ap (λ n. n % 65537) (sum_by-cons (λ i. times e (f i) * g i) x xs)
    ∙ multiples_more e (f x) (g x) (sum_by (λ i. times e (f i) * g i) xs) (sum_by (λ i. f i * g i) xs) (sum-multiples e f g xs)
    ∙ ap (λ n. e * n % 65537) (sym (sum_by-cons (λ i. f i * g i) x xs))

joined : (all first second before round wrapped : ℕ) → all ≡ first + second → first ≡ before → second ≡ round → round % 65537 ≡ wrapped % 65537
    → all % 65537 ≡ (before + wrapped) % 65537
joined all first second before round wrapped split one two multiples = omega arith

-- the coefficients of a product
pub product-sum : (e : ℕ) (a b : List ℕ) (k : ℕ) → length b ≡ length a → k < length a
    → get_or (product e a b) k 0 ≡ (sum_by (λ i. get_or a (k - i) 0 * get_or b i 0) (range_with_len 0 (k + 1))
    + e * sum_by (λ i. get_or a (length a + k - i) 0 * get_or b i 0) (range_with_len (k + 1) (length a - (k + 1)))) % 65537
product-sum e a b k long within =
    let n = length a in
    let f : ℕ → ℕ = λ i. get_or (turns e i a) k 0 * get_or b i 0 in
    let before : ℕ → ℕ = λ i. get_or a (k - i) 0 * get_or b i 0 in
    let round : ℕ → ℕ = λ i. times e (get_or a (n + k - i) 0) * get_or b i 0 in
    let count : length b ≡ k + 1 + (n - (k + 1)) = omega arith in
    let split = sum_range-split f 0 (k + 1) (n - (k + 1)) in
    let start : 0 + (k + 1) ≡ k + 1 = omega arith in
    let first = sum_range-same f before 0 (k + 1) (λ i low high. ap (λ x. x * get_or b i 0) (turns-before e i a k (omega arith) within)) in
    let second = ap (λ j. sum_by f (range_with_len j (n - (k + 1)))) start
    ∙ sum_range-same f round (k + 1) (n - (k + 1)) (λ i low high. ap (λ x. x * get_or b i 0) (turns-round e i a k (omega arith) (omega arith))) in
    let multiples = sum-multiples e (λ i. get_or a (n + k - i) 0) (λ i. get_or b i 0) (range_with_len (k + 1) (n - (k + 1))) in
    product-at e a b k within ∙ ap (λ m. sum_by f (range_with_len 0 m) % 65537) count
    ∙ joined (sum_by f (range_with_len 0 (k + 1 + (n - (k + 1))))) _ _ _ _ (e * sum_by (λ i. get_or a (n + k - i) 0 * get_or b i 0) (range_with_len (k + 1) (n - (k + 1)))) split first second multiples

scaled_zero : (a : List ℕ) → scaled 0 a ≡ replicate (length a) 0
scaled_zero [] = refl
scaled_zero (x ∷ a) = let h = zero-times x in let t = scaled_zero a in cc

length-turns : (e n : ℕ) (a : List ℕ) → length (turns e n a) ≡ length a
unfolding turns
length-turns e zero a = refl
length-turns e (suc n) a = length-turns e n (turned e a) ∙ length-turned e a

-- zeros at the end of the second factor
product-zeros : (e n : ℕ) (a : List ℕ) → product e a (replicate n 0) ≡ replicate (length a) 0
product-zeros e zero a = refl
product-zeros e (suc n) a =
    ap (λ l. sums l (product e (turned e a) (replicate n 0))) (scaled_zero a)
    ∙ ap (sums (replicate (length a) 0)) (product-zeros e n (turned e a) ∙ ap (λ m. replicate m 0) (length-turned e a)) ∙ zeros-zeros (length a)

product-rest : (e n : ℕ) (a b : List ℕ) → product e a (b ++ replicate n 0) ≡ product e a b
product-rest e n a b =
    product-append e a b (replicate n 0) ∙ ap (sums (product e a b)) (product-zeros e n (turns e (length b) a) ∙ ap (λ m. replicate m 0) (length-turns e (length b) a))
    ∙ sums-comm (product e a b) (replicate (length a) 0) ∙ zeros-product e a b

-- the coefficients that nothing comes round to
pub product-carry : (e n : ℕ) (a b : List ℕ) (k : ℕ) → length b ≤ k → k < length a
    → get_or (product e a (b ++ replicate n 0)) k 0 ≡ sum_by (λ i. get_or a (k - i) 0 * get_or b i 0) (range_with_len 0 (length b)) % 65537
product-carry e n a b k after within =
    ap (λ l. get_or l k 0) (product-rest e n a b) ∙ product-at e a b k within
    ∙ ap (λ x. x % 65537) (sum_range-same (λ i. get_or (turns e i a) k 0 * get_or b i 0) (λ i. get_or a (k - i) 0 * get_or b i 0) 0 (length b)
    (λ i low high. ap (λ x. x * get_or b i 0) (turns-before e i a k (omega arith) within)))
