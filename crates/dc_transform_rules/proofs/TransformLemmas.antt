-- The transform of a product, and the way back.
use Rattle.std.proofs.Common.{◌≡◌, ◌≢◌, ℕ, zero, suc, ◌+◌, ◌-◌, ◌*◌, ◌/◌, ◌^◌, ◌<◌, ◌≤◌, List, [], ◌∷◌, ◌++◌, length, take, drop, refl, sym, ap, ◌∙◌, arith}
use Rattle.std.proofs.Math.Nat.{pow-suc}
use Rattle.std.proofs.lemmas.Nat.{pow-add}
use Rattle.std.proofs.lemmas.List.{take-map, map-append, length-append, length-take, length-drop, take-append-drop, take_at, drop_at}
use Rattle.dc_transform_rules.specs.Residues.{plus, times, root}
use Rattle.dc_transform_rules.specs.Polynomials.{sums, products, scaled, turned, product}
use Rattle.dc_transform_rules.specs.Transforms.{size, folded, forward, unfolded, backward}
use Rattle.dc_transform_rules.proofs.ResidueLemmas.{inverse-of_power, power-below, plus-swap, plus-twice, plus-minus, plus-times-zero, plus-times, times-assoc, times-comm, times-plus, zero-times, zero-plus-plus, times_one-mul}
use Rattle.dc_transform_rules.proofs.ListLemmas.{scaled-sums, scaled-scaled, scaled_one-sums, scaled_one-scaled, length-sums, products-append, products-comm, products-scaled, scaled_one-products, scaled-cancel}
use Rattle.dc_transform_rules.proofs.ProductLemmas.{scaled-zeros, length-scaled, length-product, length-folded, product-halves}
use Rattle.dc_transform_rules.proofs.RootLemmas.{root-opposite, root-half, root-other_half, roots-cancel, root-opposite_back, root-inverse}

-- the exponent of a node is even, and so are those of the nodes below it
abbrev pub IsNode : ℕ → ℕ → Type 0
IsNode zero y = y < 65536
IsNode (suc depth) y = (y < 65536) × (y / 2 + y / 2 ≡ y) × IsNode depth (y / 2) × IsNode depth (y / 2 + 32768)

-- a multiple of 2 ^ depth, which divides 65536
node : (depth y q k : ℕ) → y < 65536 → y ≡ 2 ^ depth * q → 65536 ≡ 2 ^ depth * k → IsNode depth y
node zero y q k lt is whole = lt
node (suc depth) y q k lt is whole =
    let p : 2 ^ suc depth ≡ 2 ^ depth * 2 = pow-suc 2 depth in
    let y_is : y ≡ 2 ^ depth * 2 * q = is ∙ ap (λ n. n * q) p in
    let whole_is : 65536 ≡ 2 ^ depth * 2 * k = whole ∙ ap (λ n. n * k) p in
    let half : y / 2 ≡ 2 ^ depth * q = omega arith in
    let turn : 32768 ≡ 2 ^ depth * k = omega arith in (
      lt,
      omega arith,
      node depth (y / 2) q (2 * k) (omega arith) half (omega arith),
      node depth (y / 2 + 32768) (q + k) (2 * k) (omega arith) (omega arith) (omega arith),
    )

pub top_node : (depth : ℕ) → depth ≤ 16 → IsNode depth 0
top_node depth low =
    let split : depth + (16 - depth) ≡ 16 = omega arith in
    let whole : 65536 ≡ 2 ^ depth * 2 ^ (16 - depth) = sym (ap (λ n. 2 ^ n) split) ∙ pow-add 2 depth (16 - depth) in
    node depth 0 0 (2 ^ (16 - depth)) (omega arith) (omega arith) whole

-- lengths
pub size-some : (width depth : ℕ) → 0 < width → 0 < size width depth
size-some width zero some = some
size-some width (suc depth) some = let h = size-some width depth some in omega arith

pub length-forward : (width depth y : ℕ) (a : List ℕ) → length a ≡ size width depth → length (forward width depth y a) ≡ size width depth
length-forward width zero y a long = long
length-forward width (suc depth) y a long =
    let n = size width depth in
    let l = length-forward width depth (y / 2) (folded (root (y / 2)) n a) (length-folded (root (y / 2)) n a long) in
    let r = length-forward width depth (y / 2 + 32768) (folded (root (y / 2 + 32768)) n a) (length-folded (root (y / 2 + 32768)) n a long) in
    omega (arith, length-append (forward width depth (y / 2) (folded (root (y / 2)) n a)) (forward width depth (y / 2 + 32768) (folded (root (y / 2 + 32768)) n a)), l, r)

pub length-unfolded : (z n : ℕ) (l r : List ℕ) → length l ≡ n → length r ≡ n → length (unfolded z l r) ≡ n + n
length-unfolded z n l r long_l long_r =
    let s = length-sums l r (long_l ∙ sym long_r) in
    let m = length-sums l (scaled 65536 r) (long_l ∙ sym (length-scaled 65536 r ∙ long_r)) in
    let g = length-scaled (root (65536 - z)) (sums l (scaled 65536 r)) in
    omega (arith, length-append (sums l r) (scaled (root (65536 - z)) (sums l (scaled 65536 r))), s, m, g)

pub length-backward : (width depth y : ℕ) (a : List ℕ) → length a ≡ size width depth → length (backward width depth y a) ≡ size width depth
length-backward width zero y a long = long
length-backward width (suc depth) y a long =
    let n = size width depth in
    let front : length (take n a) ≡ n = (let h = length-take n a in omega arith) in
    let back : length (drop n a) ≡ n = (let h = length-drop n a in omega arith) in
    length-unfolded (y / 2) n (backward width depth (y / 2) (take n a)) (backward width depth (y / 2 + 32768) (drop n a))
    (length-backward width depth (y / 2) (take n a) front) (length-backward width depth (y / 2 + 32768) (drop n a) back)

pub size-rows : (width depth : ℕ) → size width depth ≡ width * 2 ^ depth
size-rows width zero = (let e : width ≡ width * 1 = omega arith in e)
size-rows width (suc depth) =
    let ih = size-rows width depth in
    let p : 2 ^ suc depth ≡ 2 ^ depth * 2 = pow-suc 2 depth in
    let whole : width * 2 ^ suc depth ≡ width * 2 ^ depth + width * 2 ^ depth = ap (λ k. width * k) p ∙ (let e : width * (2 ^ depth * 2) ≡ width * 2 ^ depth + width * 2 ^ depth = omega arith in e) in
    omega arith

product-single : (e : ℕ) (a b : List ℕ) → length a ≡ 1 → length b ≡ 1 → product e a b ≡ products a b
product-single e [] b long_a long_b = absurd (omega arith)
product-single e (x ∷ y ∷ a) b long_a long_b = absurd (omega arith)
product-single e (x ∷ []) [] long_a long_b = absurd (omega arith)
product-single e (x ∷ []) (z ∷ w ∷ b) long_a long_b = absurd (omega arith)
product-single e (x ∷ []) (z ∷ []) long_a long_b = ap (λ n. n ∷ []) (plus-times-zero z x ∙ times-comm z x)

-- the transform of a product
pub forward-product : (depth y : ℕ) (a b : List ℕ) → IsNode depth y → length a ≡ size 1 depth → length b ≡ size 1 depth
    → forward 1 depth y (product (root y) a b) ≡ products (forward 1 depth y a) (forward 1 depth y b)
forward-product zero y a b is long_a long_b = product-single (root y) a b long_a long_b
forward-product (suc depth) y a b is long_a long_b =
    let n = size 1 depth in
    let z = y / 2 in
    let o = y / 2 + 32768 in
    let some : 0 < n = size-some 1 depth (omega arith) in
    let half : (c x : ℕ) → times c c ≡ root y → c ≡ root x → IsNode depth x
    → forward 1 depth x (folded c n (product (root y) a b)) ≡ products (forward 1 depth x (folded c n a)) (forward 1 depth x (folded c n b)) =
    λ c x square power node_x.
    ap (λ e. forward 1 depth x (folded c n (product e a b))) (sym square) ∙ ap (forward 1 depth x) (product-halves c n a b long_a long_b some)
    ∙ ap (λ e. forward 1 depth x (product e (folded c n a) (folded c n b))) power
    ∙ forward-product depth x (folded c n a) (folded c n b) node_x (length-folded c n a long_a) (length-folded c n b long_b) in
    let left = half (root z) z (root-half y is.1) refl is.2 in
    let right = half (root o) o (root-other_half y is.1) refl is.3 in
    let la = length-forward 1 depth z (folded (root z) n a) (length-folded (root z) n a long_a) in
    let lb = length-forward 1 depth z (folded (root z) n b) (length-folded (root z) n b long_b) in
    ap (λ l. l ++ forward 1 depth o (folded (root o) n (product (root y) a b))) left
    ∙ ap (λ r. products (forward 1 depth z (folded (root z) n a)) (forward 1 depth z (folded (root z) n b)) ++ r) right
    ∙ sym (products-append (forward 1 depth z (folded (root z) n a)) (forward 1 depth o (folded (root o) n a)) (forward 1 depth z (folded (root z) n b))
    (forward 1 depth o (folded (root o) n b)) (la ∙ sym lb))

pub forward-product-top : (depth : ℕ) (a b : List ℕ) → depth ≤ 16 → length a ≡ size 1 depth → length b ≡ size 1 depth
    → forward 1 depth 0 (product 1 a b) ≡ products (forward 1 depth 0 a) (forward 1 depth 0 b)
unfolding root
forward-product-top depth a b low long_a long_b = forward-product depth 0 a b (top_node depth low) long_a long_b

-- a product is reduced
scaled_one-product : (e : ℕ) (a b : List ℕ) → scaled 1 (product e a b) ≡ product e a b
scaled_one-product e a [] = scaled-zeros 1 (length a)
scaled_one-product e a (y ∷ b) = scaled_one-sums (scaled y a) (product e (turned e a) b)

-- twice the first half, and twice the second times the constant of the node
both_sums : (c o : ℕ) (l r : List ℕ) → plus c o ≡ 0 → length l ≡ length r → sums (sums l (scaled c r)) (sums l (scaled o r)) ≡ scaled 2 l
both_sums c o [] [] cancel same = refl
both_sums c o [] (v ∷ r) cancel same = absurd (omega arith)
both_sums c o (u ∷ l) [] cancel same = absurd (omega arith)
both_sums c o (u ∷ l) (v ∷ r) cancel same =
    let first : plus (plus u (times c v)) (plus u (times o v)) ≡ times 2 u =
    plus-swap u (times c v) u (times o v) ∙ ap (λ n. plus n (plus (times c v) (times o v))) (plus-twice u)
    ∙ ap (plus (times 2 u)) (sym (plus-times c o v) ∙ ap (λ n. times n v) cancel ∙ zero-times v) ∙ plus-times-zero 2 u in
    let rest = both_sums c o l r cancel (omega arith) in
    cc

both_differences : (c o : ℕ) (l r : List ℕ) → times 65536 o ≡ c → length l ≡ length r
    → sums (sums l (scaled c r)) (scaled 65536 (sums l (scaled o r))) ≡ scaled (plus c c) r
both_differences c o [] [] opposite same = refl
both_differences c o [] (v ∷ r) opposite same = absurd (omega arith)
both_differences c o (u ∷ l) [] opposite same = absurd (omega arith)
both_differences c o (u ∷ l) (v ∷ r) opposite same =
    let first : plus (plus u (times c v)) (times 65536 (plus u (times o v))) ≡ times (plus c c) v =
    ap (plus (plus u (times c v))) (times-plus 65536 u (times o v)) ∙ plus-swap u (times c v) (times 65536 u) (times 65536 (times o v))
    ∙ ap (λ n. plus n (plus (times c v) (times 65536 (times o v)))) (plus-minus u) ∙ zero-plus-plus (times c v) (times 65536 (times o v))
    ∙ ap (plus (times c v)) (sym (times-assoc 65536 o v) ∙ ap (λ n. times n v) opposite) ∙ sym (plus-times c c v) in
    let rest = both_differences c o l r opposite (omega arith) in
    cc

times_two : (p : ℕ) → times p (times 1 2) ≡ times p 2
unfolding times
times_two p = refl

-- the two halves come back, times 2 p
pub unfolded-folded : (z p : ℕ) (l r : List ℕ) → z ≤ 65536 → length l ≡ length r
    → unfolded z (scaled p (sums l (scaled (root z) r))) (scaled p (sums l (scaled (root (z + 32768)) r))) ≡ scaled (p * 2) (l ++ r)
unfolded-folded z p l r within same =
    let c = root z in
    let o = root (z + 32768) in
    let g = root (65536 - z) in
    let fl = sums l (scaled c r) in
    let fr = sums l (scaled o r) in
    let reduced : (t : List ℕ) → scaled (times p 2) t ≡ scaled (p * 2) t = λ t.
    ap (λ n. scaled n t) (sym (times_one-mul p 2)) ∙ sym (scaled-scaled 1 (p * 2) t) ∙ scaled_one-scaled (p * 2) t in
    let front : sums (scaled p fl) (scaled p fr) ≡ scaled (p * 2) l =
    sym (scaled-sums p fl fr) ∙ ap (scaled p) (both_sums c o l r (roots-cancel z) same) ∙ scaled-scaled p 2 l ∙ reduced l in
    let minus : scaled 65536 (scaled p fr) ≡ scaled p (scaled 65536 fr) =
    scaled-scaled 65536 p fr ∙ ap (λ n. scaled n fr) (times-comm 65536 p) ∙ sym (scaled-scaled p 65536 fr) in
    let difference : sums (scaled p fl) (scaled 65536 (scaled p fr)) ≡ scaled (times p (plus c c)) r =
    ap (sums (scaled p fl)) minus ∙ sym (scaled-sums p fl (scaled 65536 fr)) ∙ ap (scaled p) (both_differences c o l r (root-opposite_back z) same)
    ∙ scaled-scaled p (plus c c) r in
    let factor : times g (times p (plus c c)) ≡ times p 2 =
    sym (times-assoc g p (plus c c)) ∙ ap (λ n. times n (plus c c)) (times-comm g p) ∙ times-assoc p g (plus c c)
    ∙ ap (λ n. times p (times g n)) (plus-twice c ∙ times-comm 2 c) ∙ ap (times p) (sym (times-assoc g c 2) ∙ ap (λ n. times n 2) (root-inverse z within))
    ∙ ap (times p) (sym (times_one-mul 1 2)) ∙ times_two p in
    let back : scaled g (sums (scaled p fl) (scaled 65536 (scaled p fr))) ≡ scaled (p * 2) r =
    ap (scaled g) difference ∙ scaled-scaled g (times p (plus c c)) r ∙ ap (λ n. scaled n r) factor ∙ reduced r in
    ap (λ t. t ++ scaled g (sums (scaled p fl) (scaled 65536 (scaled p fr)))) front ∙ ap (λ t. scaled (p * 2) l ++ t) back ∙ sym (map-append (times (p * 2)) l r)

-- the way back
pub backward-forward : (width depth y : ℕ) (a : List ℕ) → IsNode depth y → length a ≡ size width depth → scaled 1 a ≡ a
    → backward width depth y (forward width depth y a) ≡ scaled (2 ^ depth) a
backward-forward width zero y a is long reduced = sym reduced
backward-forward width (suc depth) y a is long reduced =
    let n = size width depth in
    let z = y / 2 in
    let o = y / 2 + 32768 in
    let l = take n a in
    let r = drop n a in
    let fl = folded (root z) n a in
    let fr = folded (root o) n a in
    let long_l : length (forward width depth z fl) ≡ n = length-forward width depth z fl (length-folded (root z) n a long) in
    let same : length l ≡ length r = (let h = length-take n a in let g = length-drop n a in omega arith) in
    let left : backward width depth z (take n (forward width depth z fl ++ forward width depth o fr)) ≡ scaled (2 ^ depth) fl =
    ap (backward width depth z) (take_at (forward width depth z fl) (forward width depth o fr) n long_l)
    ∙ backward-forward width depth z fl is.2 (length-folded (root z) n a long) (scaled_one-sums l (scaled (root z) r)) in
    let right : backward width depth o (drop n (forward width depth z fl ++ forward width depth o fr)) ≡ scaled (2 ^ depth) fr =
    ap (backward width depth o) (drop_at (forward width depth z fl) (forward width depth o fr) n long_l)
    ∙ backward-forward width depth o fr is.3 (length-folded (root o) n a long) (scaled_one-sums l (scaled (root o) r)) in
    ap (λ t. unfolded z t (backward width depth o (drop n (forward width depth z fl ++ forward width depth o fr)))) left
    ∙ ap (unfolded z (scaled (2 ^ depth) fl)) right ∙ unfolded-folded z (2 ^ depth) l r (let lt = is.0 in omega arith) same
    ∙ ap (λ k. scaled k (l ++ r)) (sym (pow-suc 2 depth)) ∙ ap (scaled (2 ^ suc depth)) (take-append-drop n a)

-- a product by transforms
pub product-by_transforms : (depth : ℕ) (a b : List ℕ) → depth ≤ 16 → length a ≡ size 1 depth → length b ≡ size 1 depth
    → backward 1 depth 0 (products (forward 1 depth 0 a) (forward 1 depth 0 b)) ≡ scaled (2 ^ depth) (product 1 a b)
product-by_transforms depth a b low long_a long_b =
    ap (backward 1 depth 0) (sym (forward-product-top depth a b low long_a long_b))
    ∙ backward-forward 1 depth 0 (product 1 a b) (top_node depth low) (length-product 1 a b ∙ long_a) (scaled_one-product 1 a b)

-- one step down, where the depth is not 0
pub size-down : (width depth : ℕ) → depth ≢ 0 → size width depth ≡ size width (depth - 1) + size width (depth - 1)
size-down width zero some = absurd (some refl)
size-down width (suc depth) some = let e : suc depth - 1 ≡ depth = omega arith in sym (ap (λ d. size width d + size width d) e)

forward-down : (width depth y : ℕ) (a : List ℕ) → depth ≢ 0
    → forward width depth y a ≡ forward width (depth - 1) (y / 2) (folded (root (y / 2)) (size width (depth - 1)) a)
    ++ forward width (depth - 1) (y / 2 + 32768) (folded (root (y / 2 + 32768)) (size width (depth - 1)) a)
forward-down width zero y a some = absurd (some refl)
forward-down width (suc depth) y a some =
    let e : suc depth - 1 ≡ depth = omega arith in
    sym (ap (λ d. forward width d (y / 2) (folded (root (y / 2)) (size width d) a) ++ forward width d (y / 2 + 32768) (folded (root (y / 2 + 32768)) (size width d) a)) e)

backward-down : (width depth y : ℕ) (a : List ℕ) → depth ≢ 0
    → backward width depth y a ≡ unfolded (y / 2) (backward width (depth - 1) (y / 2) (take (size width (depth - 1)) a))
    (backward width (depth - 1) (y / 2 + 32768) (drop (size width (depth - 1)) a))
backward-down width zero y a some = absurd (some refl)
backward-down width (suc depth) y a some =
    let e : suc depth - 1 ≡ depth = omega arith in
    sym (ap (λ d. unfolded (y / 2) (backward width d (y / 2) (take (size width d) a)) (backward width d (y / 2 + 32768) (drop (size width d) a))) e)

-- both halves are folded, then each is transformed
pub forward-joined : (width depth y c n : ℕ) (a l r fl fr gl gr : List ℕ) → depth ≢ 0 → n ≡ size width (depth - 1) → l ≡ take n a → r ≡ drop n a → c ≡ root (y / 2)
    → fl ≡ sums l (scaled c r) → fr ≡ sums l (scaled (times 65536 c) r)
    → gl ≡ forward width (depth - 1) (y / 2) fl → gr ≡ forward width (depth - 1) (y / 2 + 32768) fr → gl ++ gr ≡ forward width depth y a
forward-joined width depth y c n a l r fl fr gl gr some half front back constant plus minus left right =
    let opposite : times 65536 c ≡ root (y / 2 + 32768) = ap (times 65536) constant ∙ sym (root-opposite (y / 2)) in
    let first : fl ≡ folded (root (y / 2)) (size width (depth - 1)) a = cc in
    let second : fr ≡ folded (root (y / 2 + 32768)) (size width (depth - 1)) a = cc in
    ap (λ t. t ++ gr) (left ∙ ap (forward width (depth - 1) (y / 2)) first)
    ∙ ap (λ t. forward width (depth - 1) (y / 2) (folded (root (y / 2)) (size width (depth - 1)) a) ++ t) (right ∙ ap (forward width (depth - 1) (y / 2 + 32768)) second)
    ∙ sym (forward-down width depth y a some)

-- each half goes back, then both are unfolded
pub backward-joined : (width depth y c n : ℕ) (a l r bl br ul ur : List ℕ) → depth ≢ 0 → n ≡ size width (depth - 1) → l ≡ take n a → r ≡ drop n a → c ≡ root (65536 - y / 2)
    → bl ≡ backward width (depth - 1) (y / 2) l → br ≡ backward width (depth - 1) (y / 2 + 32768) r
    → ul ≡ sums bl br → ur ≡ scaled c (sums bl (scaled 65536 br)) → ul ++ ur ≡ backward width depth y a
backward-joined width depth y c n a l r bl br ul ur some half front back constant left right plus minus =
    let first : bl ≡ backward width (depth - 1) (y / 2) (take (size width (depth - 1)) a) = cc in
    let second : br ≡ backward width (depth - 1) (y / 2 + 32768) (drop (size width (depth - 1)) a) = cc in
    ap (λ t. t ++ ur) plus ∙ ap (λ t. sums bl br ++ t) (minus ∙ ap (λ k. scaled k (sums bl (scaled 65536 br))) constant)
    ∙ ap (λ t. unfolded (y / 2) t br) first ∙ ap (unfolded (y / 2) (backward width (depth - 1) (y / 2) (take (size width (depth - 1)) a))) second
    ∙ sym (backward-down width depth y a some)

-- nothing happens to one row
pub forward-leaf : (width depth y : ℕ) (a : List ℕ) → depth ≡ 0 → a ≡ forward width depth y a
forward-leaf width depth y a none = sym (ap (λ d. forward width d y a) none)

pub backward-leaf : (width depth y : ℕ) (a : List ℕ) → depth ≡ 0 → a ≡ backward width depth y a
backward-leaf width depth y a none = sym (ap (λ d. backward width d y a) none)

-- a constant goes through the way back
drop-scaled : (c n : ℕ) (a : List ℕ) → drop n (scaled c a) ≡ scaled c (drop n a)
drop-scaled c zero a = refl
drop-scaled c (suc n) [] = refl
drop-scaled c (suc n) (x ∷ a) = drop-scaled c n a

unfolded-scaled : (z c : ℕ) (l r : List ℕ) → unfolded z (scaled c l) (scaled c r) ≡ scaled c (unfolded z l r)
unfolded-scaled z c l r =
    let g = root (65536 - z) in
    let swap : (d : ℕ) (t : List ℕ) → scaled d (scaled c t) ≡ scaled c (scaled d t) = λ d t.
    scaled-scaled d c t ∙ ap (λ n. scaled n t) (times-comm d c) ∙ sym (scaled-scaled c d t) in
    ap (λ t. t ++ scaled g (sums (scaled c l) (scaled 65536 (scaled c r)))) (sym (scaled-sums c l r))
    ∙ ap (λ t. scaled c (sums l r) ++ scaled g t) (ap (sums (scaled c l)) (swap 65536 r) ∙ sym (scaled-sums c l (scaled 65536 r)))
    ∙ ap (λ t. scaled c (sums l r) ++ t) (swap g (sums l (scaled 65536 r))) ∙ sym (map-append (times c) (sums l r) (scaled g (sums l (scaled 65536 r))))

pub backward-scaled : (width depth y c : ℕ) (a : List ℕ) → backward width depth y (scaled c a) ≡ scaled c (backward width depth y a)
backward-scaled width zero y c a = refl
backward-scaled width (suc depth) y c a =
    let n = size width depth in
    ap (λ t. unfolded (y / 2) (backward width depth (y / 2) t) (backward width depth (y / 2 + 32768) (drop n (scaled c a)))) (take-map (times c) n a)
    ∙ ap (λ t. unfolded (y / 2) (backward width depth (y / 2) (scaled c (take n a))) (backward width depth (y / 2 + 32768) t)) (drop-scaled c n a)
    ∙ ap (λ t. unfolded (y / 2) t (backward width depth (y / 2 + 32768) (scaled c (drop n a)))) (backward-scaled width depth (y / 2) c (take n a))
    ∙ ap (unfolded (y / 2) (scaled c (backward width depth (y / 2) (take n a)))) (backward-scaled width depth (y / 2 + 32768) c (drop n a))
    ∙ unfolded-scaled (y / 2) c (backward width depth (y / 2) (take n a)) (backward width depth (y / 2 + 32768) (drop n a))

-- what 2 ^ depth times gives a product is the product
pub divided : (depth e : ℕ) (t a b : List ℕ) → depth ≤ 16 → scaled 1 t ≡ t → scaled (2 ^ depth) t ≡ scaled (2 ^ depth) (product e a b) → t ≡ product e a b
divided depth e t a b low reduced same =
    let c : ℕ = 65537 - 2 ^ (16 - depth) in
    let high = power-below depth low in
    let sum : c + 2 ^ (16 - depth) ≡ 65537 = omega arith in
    scaled-cancel (2 ^ depth) c t (product e a b) (inverse-of_power depth c low sum) reduced (scaled_one-product e a b) same

-- where one transform was divided by 2 ^ depth before
pub product-divided : (depth : ℕ) (t a b : List ℕ) → depth ≤ 16 → length a ≡ size 1 depth → length b ≡ size 1 depth
    → scaled (2 ^ depth) t ≡ forward 1 depth 0 a → backward 1 depth 0 (products (forward 1 depth 0 b) t) ≡ product 1 a b
product-divided depth t a b low long_a long_b is =
    let f = forward 1 depth 0 b in
    let reduced : scaled 1 (backward 1 depth 0 (products t f)) ≡ backward 1 depth 0 (products t f) =
    sym (backward-scaled 1 depth 0 1 (products t f)) ∙ ap (backward 1 depth 0) (scaled_one-products t f) in
    ap (backward 1 depth 0) (products-comm f t) ∙ divided depth 1 (backward 1 depth 0 (products t f)) a b low reduced
    (sym (backward-scaled 1 depth 0 (2 ^ depth) (products t f)) ∙ ap (backward 1 depth 0) (sym (products-scaled (2 ^ depth) t f) ∙ ap (λ l. products l f) is)
    ∙ product-by_transforms depth a b low long_a long_b)
