-- Products of polynomials: each factor may be taken apart, and a product modulo x ^ (2 n) - c ^ 2,
-- taken modulo x ^ n - c, is the product of both factors taken so.
use Rattle.std.proofs.Common.{◌≡◌, ℕ, zero, suc, ◌+◌, ◌<◌, List, [], ◌∷◌, ◌++◌, length, replicate, reverse, take, drop, refl, sym, ap, ◌∙◌, arith}
use Rattle.std.proofs.lemmas.List.{append-nil, append_assoc, map-append, reverse-append, reverse-reverse, length-map, length-replicate, length-take, length-drop, length-reverse, take-append-drop, take-map, take_at, drop_at, replicate-append-replicate}
use Rattle.dc_transform_rules.specs.Residues.{plus, times}
use Rattle.dc_transform_rules.specs.Polynomials.{sums, scaled, last_of, shifted, turned, product}
use Rattle.dc_transform_rules.specs.Transforms.{folded}
use Rattle.dc_transform_rules.proofs.ResidueLemmas.{plus-comm, times-comm, times-assoc, times-plus, times-zero, times-swap, zero-plus-zero}
use Rattle.dc_transform_rules.proofs.ListLemmas.{sums-assoc, sums-swap, scaled-sums, scaled-scaled, scaled-plus, length-sums, zeros-sums}

pub length-shifted : (x : ℕ) (a : List ℕ) → length (shifted x a) ≡ length a
length-shifted x [] = refl
length-shifted x (y ∷ a) = ap suc (length-shifted y a)

pub length-turned : (e : ℕ) (a : List ℕ) → length (turned e a) ≡ length a
length-turned e a = length-shifted (times e (last_of 0 a)) a

shifted-append : (x : ℕ) (l r : List ℕ) → shifted x (l ++ r) ≡ shifted x l ++ shifted (last_of x l) r
shifted-append x [] r = refl
shifted-append x (y ∷ l) r = ap (λ t. x ∷ t) (shifted-append y l r)

last_of-append : (x : ℕ) (l r : List ℕ) → last_of x (l ++ r) ≡ last_of (last_of x l) r
last_of-append x [] r = refl
last_of-append x (y ∷ l) r = last_of-append y l r

sums-shifted : (x y : ℕ) (l r : List ℕ) → length l ≡ length r → sums (shifted x l) (shifted y r) ≡ shifted (plus x y) (sums l r)
sums-shifted x y [] [] e = refl
sums-shifted x y [] (v ∷ r) e = refl
sums-shifted x y (u ∷ l) [] e = refl
sums-shifted x y (u ∷ l) (v ∷ r) e = ap (λ t. plus x y ∷ t) (sums-shifted u v l r (omega arith))

scaled-shifted : (c x : ℕ) (a : List ℕ) → scaled c (shifted x a) ≡ shifted (times c x) (scaled c a)
scaled-shifted c x [] = refl
scaled-shifted c x (y ∷ a) = ap (λ t. times c x ∷ t) (scaled-shifted c y a)

last_of-sums : (x y : ℕ) (l r : List ℕ) → length l ≡ length r → last_of (plus x y) (sums l r) ≡ plus (last_of x l) (last_of y r)
last_of-sums x y [] [] e = refl
last_of-sums x y [] (v ∷ r) e = absurd (omega arith)
last_of-sums x y (u ∷ l) [] e = absurd (omega arith)
last_of-sums x y (u ∷ l) (v ∷ r) e = last_of-sums u v l r (omega arith)

last_of-scaled : (c x : ℕ) (a : List ℕ) → last_of (times c x) (scaled c a) ≡ times c (last_of x a)
last_of-scaled c x [] = refl
last_of-scaled c x (y ∷ a) = last_of-scaled c y a

last-sums : (l r : List ℕ) → length l ≡ length r → last_of 0 (sums l r) ≡ plus (last_of 0 l) (last_of 0 r)
last-sums l r e = ap (λ z. last_of z (sums l r)) (sym zero-plus-zero) ∙ last_of-sums 0 0 l r e

last-scaled : (c : ℕ) (a : List ℕ) → last_of 0 (scaled c a) ≡ times c (last_of 0 a)
last-scaled c a = ap (λ z. last_of z (scaled c a)) (sym (times-zero c)) ∙ last_of-scaled c 0 a

pub turned-sums : (e : ℕ) (a b : List ℕ) → length a ≡ length b → turned e (sums a b) ≡ sums (turned e a) (turned e b)
turned-sums e a b same =
    ap (λ z. shifted (times e z) (sums a b)) (last-sums a b same)
    ∙ ap (λ z. shifted z (sums a b)) (times-plus e (last_of 0 a) (last_of 0 b))
    ∙ sym (sums-shifted (times e (last_of 0 a)) (times e (last_of 0 b)) a b same)

pub turned-scaled : (e c : ℕ) (a : List ℕ) → turned e (scaled c a) ≡ scaled c (turned e a)
turned-scaled e c a =
    ap (λ z. shifted (times e z) (scaled c a)) (last-scaled c a)
    ∙ ap (λ z. shifted z (scaled c a)) (times-swap e c (last_of 0 a))
    ∙ sym (scaled-shifted c (times e (last_of 0 a)) a)

pub length-scaled : (c : ℕ) (a : List ℕ) → length (scaled c a) ≡ length a
length-scaled c a = length-map a (times c)

pub length-product : (e : ℕ) (a b : List ℕ) → length (product e a b) ≡ length a
length-product e a [] = length-replicate (length a) 0
length-product e a (y ∷ b) =
    length-sums (scaled y a) (product e (turned e a) b) (length-scaled y a ∙ sym (length-product e (turned e a) b ∙ length-turned e a)) ∙ length-scaled y a

-- zeros
pub zeros-zeros : (n : ℕ) → sums (replicate n 0) (replicate n 0) ≡ replicate n 0
zeros-zeros zero = refl
zeros-zeros (suc n) = let h = zero-plus-zero in let t = zeros-zeros n in cc

pub scaled-zeros : (c n : ℕ) → scaled c (replicate n 0) ≡ replicate n 0
scaled-zeros c zero = refl
scaled-zeros c (suc n) = let h = times-zero c in let t = scaled-zeros c n in cc

pub zeros-product : (e : ℕ) (a b : List ℕ) → sums (replicate (length a) 0) (product e a b) ≡ product e a b
zeros-product e a [] = zeros-zeros (length a)
zeros-product e a (y ∷ b) = zeros-sums (length a) (scaled y a) (product e (turned e a) b) (sym (length-product e a (y ∷ b)))

-- the first factor
pub product-scaled : (e c : ℕ) (a b : List ℕ) → product e (scaled c a) b ≡ scaled c (product e a b)
product-scaled e c a [] = ap (λ n. replicate n 0) (length-scaled c a) ∙ sym (scaled-zeros c (length a))
product-scaled e c a (y ∷ b) =
    let swap : scaled y (scaled c a) ≡ scaled c (scaled y a) = scaled-scaled y c a ∙ ap (λ z. scaled z a) (times-comm y c) ∙ sym (scaled-scaled c y a) in
    let rest : product e (turned e (scaled c a)) b ≡ scaled c (product e (turned e a) b) = ap (λ l. product e l b) (turned-scaled e c a) ∙ product-scaled e c (turned e a) b in
    ap (λ l. sums l (product e (turned e (scaled c a)) b)) swap ∙ ap (sums (scaled c (scaled y a))) rest ∙ sym (scaled-sums c (scaled y a) (product e (turned e a) b))

-- the second factor
pub product-scaled_right : (e c : ℕ) (a b : List ℕ) → product e a (scaled c b) ≡ scaled c (product e a b)
product-scaled_right e c a [] = sym (scaled-zeros c (length a))
product-scaled_right e c a (y ∷ b) =
    ap (λ l. sums l (product e (turned e a) (scaled c b))) (sym (scaled-scaled c y a))
    ∙ ap (sums (scaled c (scaled y a))) (product-scaled_right e c (turned e a) b) ∙ sym (scaled-sums c (scaled y a) (product e (turned e a) b))

pub product-sums_right : (e : ℕ) (a b d : List ℕ) → length b ≡ length d → product e a (sums b d) ≡ sums (product e a b) (product e a d)
product-sums_right e a [] [] same = sym (zeros-zeros (length a))
product-sums_right e a [] (z ∷ d) same = absurd (omega arith)
product-sums_right e a (y ∷ b) [] same = absurd (omega arith)
product-sums_right e a (y ∷ b) (z ∷ d) same =
    ap (λ l. sums l (product e (turned e a) (sums b d))) (scaled-plus y z a)
    ∙ ap (sums (sums (scaled y a) (scaled z a))) (product-sums_right e (turned e a) b d (omega arith))
    ∙ sums-swap (scaled y a) (scaled z a) (product e (turned e a) b) (product e (turned e a) d)

-- a polynomial times a power of x
unfoldable pub turns : ℕ → ℕ → List ℕ → List ℕ
turns e zero a = a
turns e (suc n) a = turns e n (turned e a)

pub product-append : (e : ℕ) (a l r : List ℕ) → product e a (l ++ r) ≡ sums (product e a l) (product e (turns e (length l) a) r)
unfolding turns
product-append e a [] r = sym (zeros-product e a r)
product-append e a (y ∷ l) r =
    ap (sums (scaled y a)) (product-append e (turned e a) l r) ∙ sym (sums-assoc (scaled y a) (product e (turned e a) l) (product e (turns e (length l) (turned e a)) r))

shifted-push : (y x : ℕ) (a : List ℕ) → shifted y (a ++ x ∷ []) ≡ y ∷ a
shifted-push y x [] = refl
shifted-push y x (z ∷ a) = ap (λ t. y ∷ t) (shifted-push z x a)

last_of-push : (y x : ℕ) (a : List ℕ) → last_of y (a ++ x ∷ []) ≡ x
last_of-push y x [] = refl
last_of-push y x (z ∷ a) = last_of-push z x a

turned-push : (e x : ℕ) (a : List ℕ) → turned e (a ++ x ∷ []) ≡ times e x ∷ a
turned-push e x a = ap (λ z. shifted (times e z) (a ++ x ∷ [])) (last_of-push 0 x a) ∙ shifted-push (times e x) x a

pub turns-tail : (e : ℕ) (r a : List ℕ) → turns e (length r) (a ++ reverse r) ≡ scaled e (reverse r) ++ a
unfolding turns
turns-tail e [] a = append-nil a
turns-tail e (x ∷ r) a =
    let back : reverse (x ∷ r) ≡ reverse r ++ x ∷ [] = reverse-append (x ∷ []) r in
    let turn : turned e (a ++ reverse (x ∷ r)) ≡ times e x ∷ (a ++ reverse r) =
    ap (λ l. turned e (a ++ l)) back ∙ ap (turned e) (sym (append_assoc a (reverse r) (x ∷ []))) ∙ turned-push e x (a ++ reverse r) in
    ap (turns e (length r)) turn ∙ turns-tail e r (times e x ∷ a) ∙ sym (append_assoc (scaled e (reverse r)) (times e x ∷ []) a)
    ∙ ap (λ l. l ++ a) (sym (map-append (times e) (reverse r) (x ∷ []))) ∙ ap (λ l. scaled e l ++ a) (sym back)

-- all coefficients have come round once
turns-all : (e : ℕ) (a : List ℕ) → turns e (length a) a ≡ scaled e a
turns-all e a =
    ap (λ n. turns e n a) (sym (length-reverse a)) ∙ ap (turns e (length (reverse a))) (sym (reverse-reverse a)) ∙ turns-tail e (reverse a) []
    ∙ append-nil (scaled e (reverse (reverse a))) ∙ ap (scaled e) (reverse-reverse a)

-- a second factor of twice the length
product-folded : (c n : ℕ) (a b : List ℕ) → length a ≡ n → length b ≡ n + n → product c a b ≡ product c a (folded c n b)
product-folded c n a b long twice =
    let l = take n b in
    let r = drop n b in
    let front : length l ≡ n = (let h = length-take n b in omega arith) in
    let back : length l ≡ length (scaled c r) = (let h = length-drop n b in let g = length-scaled c r in omega arith) in
    ap (product c a) (sym (take-append-drop n b)) ∙ product-append c a l r
    ∙ ap (λ m. sums (product c a l) (product c (turns c m a) r)) (front ∙ sym long)
    ∙ ap (λ t. sums (product c a l) (product c t r)) (turns-all c a)
    ∙ ap (sums (product c a l)) (product-scaled c c a r ∙ sym (product-scaled_right c c a r))
    ∙ sym (product-sums_right c a l (scaled c r) back)

-- folding a list of sums, of multiples, of zeros
sums-nil : (a : List ℕ) → sums a [] ≡ []
sums-nil [] = refl
sums-nil (x ∷ a) = refl

pub take-sums : (n : ℕ) (a b : List ℕ) → take n (sums a b) ≡ sums (take n a) (take n b)
take-sums zero a b = refl
take-sums (suc n) [] b = refl
take-sums (suc n) (x ∷ a) [] = refl
take-sums (suc n) (x ∷ a) (y ∷ b) = ap (λ t. plus x y ∷ t) (take-sums n a b)

pub drop-sums : (n : ℕ) (a b : List ℕ) → drop n (sums a b) ≡ sums (drop n a) (drop n b)
drop-sums zero a b = refl
drop-sums (suc n) [] b = refl
drop-sums (suc n) (x ∷ a) [] = sym (sums-nil (drop n a))
drop-sums (suc n) (x ∷ a) (y ∷ b) = drop-sums n a b

drop-scaled : (c n : ℕ) (a : List ℕ) → drop n (scaled c a) ≡ scaled c (drop n a)
drop-scaled c zero a = refl
drop-scaled c (suc n) [] = refl
drop-scaled c (suc n) (x ∷ a) = drop-scaled c n a

folded-sums : (c n : ℕ) (a b : List ℕ) → folded c n (sums a b) ≡ sums (folded c n a) (folded c n b)
folded-sums c n a b =
    ap (λ t. sums t (scaled c (drop n (sums a b)))) (take-sums n a b)
    ∙ ap (λ t. sums (sums (take n a) (take n b)) (scaled c t)) (drop-sums n a b)
    ∙ ap (sums (sums (take n a) (take n b))) (scaled-sums c (drop n a) (drop n b))
    ∙ sums-swap (take n a) (take n b) (scaled c (drop n a)) (scaled c (drop n b))

folded-scaled : (c n k : ℕ) (a : List ℕ) → folded c n (scaled k a) ≡ scaled k (folded c n a)
folded-scaled c n k a =
    ap (λ t. sums t (scaled c (drop n (scaled k a)))) (take-map (times k) n a)
    ∙ ap (λ t. sums (scaled k (take n a)) (scaled c t)) (drop-scaled k n a)
    ∙ ap (sums (scaled k (take n a))) (scaled-scaled c k (drop n a) ∙ ap (λ z. scaled z (drop n a)) (times-comm c k) ∙ sym (scaled-scaled k c (drop n a)))
    ∙ sym (scaled-sums k (take n a) (scaled c (drop n a)))

pub folded-append : (c n : ℕ) (l r : List ℕ) → length l ≡ n → folded c n (l ++ r) ≡ sums l (scaled c r)
folded-append c n l r long = ap (λ t. sums t (scaled c (drop n (l ++ r)))) (take_at l r n long) ∙ ap (λ t. sums l (scaled c t)) (drop_at l r n long)

pub length-folded : (c n : ℕ) (a : List ℕ) → length a ≡ n + n → length (folded c n a) ≡ n
length-folded c n a twice =
    let front : length (take n a) ≡ n = (let h = length-take n a in omega arith) in
    let back : length (scaled c (drop n a)) ≡ n = (let h = length-drop n a in let g = length-scaled c (drop n a) in omega arith) in
    length-sums (take n a) (scaled c (drop n a)) (front ∙ sym back) ∙ front

-- zeros of twice the length
folded-zeros : (c n : ℕ) → folded c n (replicate (n + n) 0) ≡ replicate n 0
folded-zeros c n =
    ap (folded c n) (sym (replicate-append-replicate n n 0)) ∙ folded-append c n (replicate n 0) (replicate n 0) (length-replicate n 0)
    ∙ ap (sums (replicate n 0)) (scaled-zeros c n) ∙ zeros-zeros n

-- the last number of a list that is not empty
last-some : (x y : ℕ) (a : List ℕ) → 0 < length a → last_of x a ≡ last_of y a
last-some x y [] some = absurd (omega arith)
last-some x y (z ∷ a) some = refl

-- times x, then folded, is folded, then times x
halves-turned : (c : ℕ) (l r : List ℕ) → length l ≡ length r → 0 < length l
    → folded c (length l) (turned (times c c) (l ++ r)) ≡ turned c (sums l (scaled c r))
halves-turned c l r same some =
    let u = last_of 0 l in
    let v = last_of 0 r in
    let some_r : 0 < length r = omega arith in
    let last : last_of 0 (l ++ r) ≡ v = last_of-append 0 l r ∙ last-some u 0 r some_r in
    let z = times (times c c) v in
    let whole : turned (times c c) (l ++ r) ≡ shifted z l ++ shifted u r =
    ap (λ t. shifted (times (times c c) t) (l ++ r)) last ∙ shifted-append z l r ∙ ap (λ t. shifted z l ++ shifted t r) (last-some z 0 l some) in
    let long : length l ≡ length (scaled c r) = same ∙ sym (length-scaled c r) in
    let first : plus z (times c u) ≡ times c (last_of 0 (sums l (scaled c r))) =
    ap (λ t. plus t (times c u)) (times-assoc c c v) ∙ plus-comm (times c (times c v)) (times c u) ∙ sym (times-plus c u (times c v))
    ∙ ap (λ t. times c (plus u t)) (sym (last-scaled c r)) ∙ ap (times c) (sym (last-sums l (scaled c r) long)) in
    ap (folded c (length l)) whole ∙ folded-append c (length l) (shifted z l) (shifted u r) (length-shifted z l)
    ∙ ap (sums (shifted z l)) (scaled-shifted c u r) ∙ sums-shifted z (times c u) l (scaled c r) long ∙ ap (λ t. shifted t (sums l (scaled c r))) first

folded-turned : (c n : ℕ) (a : List ℕ) → length a ≡ n + n → 0 < n → folded c n (turned (times c c) a) ≡ turned c (folded c n a)
folded-turned c n a twice some =
    let l = take n a in
    let r = drop n a in
    let front : length l ≡ n = (let h = length-take n a in omega arith) in
    let back : length r ≡ n = (let h = length-drop n a in omega arith) in
    ap (λ t. folded c n (turned (times c c) t)) (sym (take-append-drop n a)) ∙ ap (λ m. folded c m (turned (times c c) (l ++ r))) (sym front)
    ∙ halves-turned c l r (front ∙ sym back) (omega arith)

-- a product, folded
product-taken : (c n : ℕ) (a b : List ℕ) → length a ≡ n + n → 0 < n → folded c n (product (times c c) a b) ≡ product c (folded c n a) b
product-taken c n a [] twice some =
    ap (λ m. folded c n (replicate m 0)) twice ∙ folded-zeros c n ∙ ap (λ m. replicate m 0) (sym (length-folded c n a twice))
product-taken c n a (y ∷ b) twice some =
    let e = times c c in
    folded-sums c n (scaled y a) (product e (turned e a) b)
    ∙ ap (λ t. sums t (folded c n (product e (turned e a) b))) (folded-scaled c n y a)
    ∙ ap (sums (scaled y (folded c n a)))
    (product-taken c n (turned e a) b (length-turned e a ∙ twice) some ∙ ap (λ t. product c t b) (folded-turned c n a twice some))

-- a product modulo x ^ (2 n) - c ^ 2, taken modulo x ^ n - c
pub product-halves : (c n : ℕ) (a b : List ℕ) → length a ≡ n + n → length b ≡ n + n → 0 < n
    → folded c n (product (times c c) a b) ≡ product c (folded c n a) (folded c n b)
product-halves c n a b twice_a twice_b some =
    product-taken c n a b twice_a some ∙ product-folded c n (folded c n a) b (length-folded c n a twice_a) twice_b
