-- Places of what the steps of the transform leave, and two steps in one.
use Rattle.std.proofs.Common.{◌≡◌, ℕ, zero, suc, ◌+◌, ◌-◌, ◌/◌, ◌<◌, ◌≤◌, List, ◌++◌, length, get_or, take, drop, replicate, refl, sym, ap, ◌∙◌, arith}
use Rattle.std.proofs.Math.Seq.{take-append_seam, drop-append_seam}
use Rattle.std.proofs.lemmas.List.{length-append, length-replicate, map-append, get_or-append-add, ext_get_or}
use Rattle.dc_spec.specs.Symbols.{AreSymbols}
use Rattle.dc_transform_rules.specs.Residues.{plus, times, root}
use Rattle.dc_transform_rules.specs.Polynomials.{sums, scaled}
use Rattle.dc_transform_rules.specs.Transforms.{size, forward, backward}
use Rattle.dc_transform_rules.proofs.ResidueLemmas.{times-assoc}
use Rattle.dc_transform_rules.proofs.ListLemmas.{length-sums, sums-append, scaled_one-sums}
use Rattle.dc_transform_rules.proofs.ProductLemmas.{length-scaled, scaled-zeros}
use Rattle.dc_transform_rules.proofs.RootLemmas.{root_zero, whole_turn}
use Rattle.dc_transform_rules.proofs.TransformLemmas.{size-down, forward-joined, backward-joined}
use Rattle.dc_transform_rules.proofs.CoefficientLemmas.{get_or-sums, get_or-scaled}
use Rattle.dc_transform.specs.Halves.{plus_half, minus_half, difference_half}
use Rattle.dc_transform.proofs.HalfLemmas.{symbols-append, symbols-sums, symbols-scaled}

-- halves are as long as before
pub length-plus : (c : ℕ) (l r : List ℕ) → length l ≡ length r → length (plus_half c l r) ≡ length l
length-plus c l r same = length-sums l (scaled c r) (same ∙ sym (length-scaled c r))

pub length-minus : (c : ℕ) (l r : List ℕ) → length l ≡ length r → length (minus_half c l r) ≡ length l
length-minus c l r same = length-plus (times 65536 c) l r same

pub length-difference : (c : ℕ) (l r : List ℕ) → length l ≡ length r → length (difference_half c l r) ≡ length l
length-difference c l r same = length-scaled c (sums l (scaled 65536 r)) ∙ length-plus 65536 l r same

-- a place of each half
pub sums-at : (l r : List ℕ) (k x y v : ℕ) → length l ≡ length r → x ≡ get_or l k 0 → y ≡ get_or r k 0 → v ≡ plus x y → v ≡ get_or (sums l r) k 0
sums-at l r k x y v same is_x is_y is = is ∙ ap (λ n. plus n y) is_x ∙ ap (plus (get_or l k 0)) is_y ∙ sym (get_or-sums l r k same)

pub plus-at : (c : ℕ) (l r : List ℕ) (k x y v : ℕ) → length l ≡ length r → x ≡ get_or l k 0 → y ≡ get_or r k 0 → v ≡ plus x (times c y) → v ≡ get_or (plus_half c l r) k 0
plus-at c l r k x y v same is_x is_y is =
    sums-at l (scaled c r) k x (times c y) v (same ∙ sym (length-scaled c r)) is_x (ap (times c) is_y ∙ sym (get_or-scaled c r k)) is

pub minus-at : (c : ℕ) (l r : List ℕ) (k x y v : ℕ) → length l ≡ length r → x ≡ get_or l k 0 → y ≡ get_or r k 0 → v ≡ plus x (times 65536 (times c y)) → v ≡ get_or (minus_half c l r) k 0
minus-at c l r k x y v same is_x is_y is = plus-at (times 65536 c) l r k x y v same is_x is_y (is ∙ ap (plus x) (sym (times-assoc 65536 c y)))

pub difference-at : (c : ℕ) (l r : List ℕ) (k x y v : ℕ) → length l ≡ length r → x ≡ get_or l k 0 → y ≡ get_or r k 0 → v ≡ times c (plus x (times 65536 y)) → v ≡ get_or (difference_half c l r) k 0
difference-at c l r k x y v same is_x is_y is =
    is ∙ ap (times c) (plus-at 65536 l r k x y (plus x (times 65536 y)) same is_x is_y refl) ∙ sym (get_or-scaled c (sums l (scaled 65536 r)) k)

-- a list whose places are all done
pub all_done : (xs ys : List ℕ) (n : ℕ) → length xs ≡ n → length ys ≡ n → ((k : ℕ) → k < n → get_or xs k 0 ≡ get_or ys k 0) → xs ≡ ys
all_done xs ys n long_x long_y each = ext_get_or 0 xs ys (long_x ∙ sym long_y) (λ k lt. each k (omega arith))

-- halves have symbols
pub symbols-plus : (c : ℕ) (l r : List ℕ) → length l ≡ length r → AreSymbols (plus_half c l r)
symbols-plus c l r same = symbols-sums l (scaled c r) (same ∙ sym (length-scaled c r))

pub symbols-minus : (c : ℕ) (l r : List ℕ) → length l ≡ length r → AreSymbols (minus_half c l r)
symbols-minus c l r same = symbols-plus (times 65536 c) l r same

pub symbols-difference : (c : ℕ) (l r : List ℕ) → AreSymbols (difference_half c l r)
symbols-difference c l r = symbols-scaled c (sums l (scaled 65536 r))

-- halves whose places are all done
pub done_sums : (n : ℕ) (xs l r : List ℕ) → length xs ≡ n → length l ≡ n → length r ≡ n → ((k : ℕ) → k < n → get_or xs k 0 ≡ get_or (sums l r) k 0) → xs ≡ sums l r
done_sums n xs l r long long_l long_r each = all_done xs (sums l r) n long (length-sums l r (long_l ∙ sym long_r) ∙ long_l) each

pub done_plus : (c n : ℕ) (xs l r : List ℕ) → length xs ≡ n → length l ≡ n → length r ≡ n → ((k : ℕ) → k < n → get_or xs k 0 ≡ get_or (plus_half c l r) k 0) → xs ≡ plus_half c l r
done_plus c n xs l r long long_l long_r each = done_sums n xs l (scaled c r) long long_l (length-scaled c r ∙ long_r) each

pub done_minus : (c n : ℕ) (xs l r : List ℕ) → length xs ≡ n → length l ≡ n → length r ≡ n → ((k : ℕ) → k < n → get_or xs k 0 ≡ get_or (minus_half c l r) k 0) → xs ≡ minus_half c l r
done_minus c n xs l r long long_l long_r each = done_plus (times 65536 c) n xs l r long long_l long_r each

pub done_difference : (c n : ℕ) (xs l r : List ℕ) → length xs ≡ n → length l ≡ n → length r ≡ n → ((k : ℕ) → k < n → get_or xs k 0 ≡ get_or (difference_half c l r) k 0) → xs ≡ difference_half c l r
done_difference c n xs l r long long_l long_r each = all_done xs (difference_half c l r) n long (length-difference c l r (long_l ∙ sym long_r) ∙ long_l) each

-- both parts of a list that was split
pub front-part : (n : ℕ) (a l r : List ℕ) → a ≡ l ++ r → length l ≡ n → l ≡ take n a
front-part n a l r is long = sym (ap (take n) is ∙ ap (λ k. take k (l ++ r)) (sym long) ∙ take-append_seam l r)

pub back-part : (n : ℕ) (a l r : List ℕ) → a ≡ l ++ r → length l ≡ n → r ≡ drop n a
back-part n a l r is long = sym (ap (drop n) is ∙ ap (λ k. drop k (l ++ r)) (sym long) ∙ drop-append_seam l r)

-- halves that stand in two parts each
plus-parts : (c : ℕ) (q r s t : List ℕ) → length q ≡ length s → plus_half c (q ++ r) (s ++ t) ≡ plus_half c q s ++ plus_half c r t
plus-parts c q r s t same =
    ap (sums (q ++ r)) (map-append (times c) s t) ∙ sums-append q r (scaled c s) (scaled c t) (same ∙ sym (length-scaled c s))

minus-parts : (c : ℕ) (q r s t : List ℕ) → length q ≡ length s → minus_half c (q ++ r) (s ++ t) ≡ minus_half c q s ++ minus_half c r t
minus-parts c q r s t same = plus-parts (times 65536 c) q r s t same

difference-parts : (c : ℕ) (q r s t : List ℕ) → length q ≡ length s → difference_half c (q ++ r) (s ++ t) ≡ difference_half c q s ++ difference_half c r t
difference-parts c q r s t same =
    ap (scaled c) (plus-parts 65536 q r s t same) ∙ map-append (times c) (plus_half 65536 q s) (plus_half 65536 r t)

-- two steps of the transform in one
pub forward-twice : (width depth low y c d e n : ℕ) (a q r s t fq fr fs ft gq gr gs gt : List ℕ) → 2 ≤ depth → low ≡ depth - 1 - 1 → n ≡ size width low
    → a ≡ (q ++ r) ++ (s ++ t) → length q ≡ n → length r ≡ n → length s ≡ n → length t ≡ n
    → c ≡ root (y / 2) → d ≡ root (y / 2 / 2) → e ≡ root ((y / 2 + 32768) / 2)
    → fq ≡ plus_half d (plus_half c q s) (plus_half c r t) → fr ≡ minus_half d (plus_half c q s) (plus_half c r t)
    → fs ≡ plus_half e (minus_half c q s) (minus_half c r t) → ft ≡ minus_half e (minus_half c q s) (minus_half c r t)
    → gq ≡ forward width low (y / 2 / 2) fq → gr ≡ forward width low (y / 2 / 2 + 32768) fr
    → gs ≡ forward width low ((y / 2 + 32768) / 2) fs → gt ≡ forward width low ((y / 2 + 32768) / 2 + 32768) ft
    → (gq ++ gr) ++ (gs ++ gt) ≡ forward width depth y a
forward-twice width depth low y c d e n a q r s t fq fr fs ft gq gr gs gt two is_low half whole long_q long_r long_s long_t is_c is_d is_e is_fq is_fr is_fs is_ft is_gq is_gr is_gs is_gt =
    let z = y / 2 in
    let quarter : n ≡ size width (depth - 1 - 1) = half ∙ ap (size width) is_low in
    let down = size-down width (depth - 1) (omega arith) in
    let both : n + n ≡ size width (depth - 1) = omega arith in
    let front : length (q ++ r) ≡ n + n = (let h = length-append q r in omega arith) in
    let left : gq ++ gr ≡ forward width (depth - 1) z (plus_half c (q ++ r) (s ++ t)) =
    forward-joined width (depth - 1) z d n (plus_half c (q ++ r) (s ++ t)) (plus_half c q s) (plus_half c r t) fq fr gq gr (omega arith) quarter
    (front-part n _ _ _ (plus-parts c q r s t (long_q ∙ sym long_s)) (length-plus c q s (long_q ∙ sym long_s) ∙ long_q))
    (back-part n _ _ _ (plus-parts c q r s t (long_q ∙ sym long_s)) (length-plus c q s (long_q ∙ sym long_s) ∙ long_q))
    is_d is_fq is_fr (is_gq ∙ ap (λ k. forward width k (z / 2) fq) is_low) (is_gr ∙ ap (λ k. forward width k (z / 2 + 32768) fr) is_low) in
    let right : gs ++ gt ≡ forward width (depth - 1) (z + 32768) (minus_half c (q ++ r) (s ++ t)) =
    forward-joined width (depth - 1) (z + 32768) e n (minus_half c (q ++ r) (s ++ t)) (minus_half c q s) (minus_half c r t) fs ft gs gt (omega arith) quarter
    (front-part n _ _ _ (minus-parts c q r s t (long_q ∙ sym long_s)) (length-minus c q s (long_q ∙ sym long_s) ∙ long_q))
    (back-part n _ _ _ (minus-parts c q r s t (long_q ∙ sym long_s)) (length-minus c q s (long_q ∙ sym long_s) ∙ long_q))
    is_e is_fs is_ft (is_gs ∙ ap (λ k. forward width k ((z + 32768) / 2) fs) is_low) (is_gt ∙ ap (λ k. forward width k ((z + 32768) / 2 + 32768) ft) is_low) in
    forward-joined width depth y c (n + n) a (q ++ r) (s ++ t) (plus_half c (q ++ r) (s ++ t)) (minus_half c (q ++ r) (s ++ t)) (gq ++ gr) (gs ++ gt) (omega arith) both
    (front-part (n + n) a (q ++ r) (s ++ t) whole front) (back-part (n + n) a (q ++ r) (s ++ t) whole front) is_c refl refl left right

-- two steps of the way back in one
pub backward-twice : (width depth low y c d e n : ℕ) (a q r s t bq br bs bt uq ur us ut : List ℕ) → 2 ≤ depth → low ≡ depth - 1 - 1 → n ≡ size width low
    → a ≡ (q ++ r) ++ (s ++ t) → length q ≡ n → length r ≡ n → length s ≡ n → length t ≡ n
    → length bq ≡ n → length br ≡ n → length bs ≡ n → length bt ≡ n
    → c ≡ root (65536 - y / 2) → d ≡ root (65536 - y / 2 / 2) → e ≡ root (65536 - (y / 2 + 32768) / 2)
    → bq ≡ backward width low (y / 2 / 2) q → br ≡ backward width low (y / 2 / 2 + 32768) r
    → bs ≡ backward width low ((y / 2 + 32768) / 2) s → bt ≡ backward width low ((y / 2 + 32768) / 2 + 32768) t
    → uq ≡ sums (sums bq br) (sums bs bt) → ur ≡ sums (difference_half d bq br) (difference_half e bs bt)
    → us ≡ difference_half c (sums bq br) (sums bs bt) → ut ≡ difference_half c (difference_half d bq br) (difference_half e bs bt)
    → (uq ++ ur) ++ (us ++ ut) ≡ backward width depth y a
backward-twice width depth low y c d e n a q r s t bq br bs bt uq ur us ut two is_low half whole long_q long_r long_s long_t big_q big_r big_s big_t is_c is_d is_e is_bq is_br is_bs is_bt is_uq is_ur is_us is_ut =
    let z = y / 2 in
    let quarter : n ≡ size width (depth - 1 - 1) = half ∙ ap (size width) is_low in
    let down = size-down width (depth - 1) (omega arith) in
    let both : n + n ≡ size width (depth - 1) = omega arith in
    let front : length (q ++ r) ≡ n + n = (let h = length-append q r in omega arith) in
    let l = sums bq br in
    let k = difference_half d bq br in
    let m = sums bs bt in
    let o = difference_half e bs bt in
    let same : length l ≡ length m = length-sums bq br (big_q ∙ sym big_r) ∙ big_q ∙ sym (length-sums bs bt (big_s ∙ sym big_t) ∙ big_s) in
    let left : l ++ k ≡ backward width (depth - 1) z (q ++ r) =
    backward-joined width (depth - 1) z d n (q ++ r) q r bq br l k (omega arith) quarter (front-part n (q ++ r) q r refl long_q) (back-part n (q ++ r) q r refl long_q)
    is_d (is_bq ∙ ap (λ j. backward width j (z / 2) q) is_low) (is_br ∙ ap (λ j. backward width j (z / 2 + 32768) r) is_low) refl refl in
    let right : m ++ o ≡ backward width (depth - 1) (z + 32768) (s ++ t) =
    backward-joined width (depth - 1) (z + 32768) e n (s ++ t) s t bs bt m o (omega arith) quarter (front-part n (s ++ t) s t refl long_s) (back-part n (s ++ t) s t refl long_s)
    is_e (is_bs ∙ ap (λ j. backward width j ((z + 32768) / 2) s) is_low) (is_bt ∙ ap (λ j. backward width j ((z + 32768) / 2 + 32768) t) is_low) refl refl in
    ap (λ x. x ++ (us ++ ut)) (ap (λ x. x ++ ur) is_uq ∙ ap (λ x. sums l m ++ x) is_ur ∙ sym (sums-append l k m o same))
    ∙ ap (λ x. sums (l ++ k) (m ++ o) ++ x) (ap (λ x. x ++ ut) is_us ∙ ap (λ x. difference_half c l m ++ x) is_ut ∙ sym (difference-parts c l k m o same))
    ∙ backward-joined width depth y c (n + n) a (q ++ r) (s ++ t) (l ++ k) (m ++ o) (sums (l ++ k) (m ++ o)) (difference_half c (l ++ k) (m ++ o)) (omega arith) both
    (front-part (n + n) a (q ++ r) (s ++ t) whole front) (back-part (n + n) a (q ++ r) (s ++ t) whole front) is_c left right refl refl

-- four quarters are a whole
pub size-quarter : (width depth : ℕ) → 2 ≤ depth
    → size width depth ≡ size width (depth - 2) + size width (depth - 2) + (size width (depth - 2) + size width (depth - 2))
size-quarter width depth two =
    let half = size-down width depth (omega arith) in
    let quarter = size-down width (depth - 1) (omega arith) in
    let e : depth - 1 - 1 ≡ depth - 2 = omega arith in
    let same = ap (size width) e in
    omega arith

-- four quarters of a list that was split into halves and these into quarters
pub four-parts : (a l m q r s t : List ℕ) → a ≡ l ++ m → l ≡ q ++ r → m ≡ s ++ t → a ≡ (q ++ r) ++ (s ++ t)
four-parts a l m q r s t whole left right = whole ∙ ap (λ x. x ++ m) left ∙ ap (λ x. (q ++ r) ++ x) right

-- a list of four parts of symbols
pub symbols-four : (q r s t : List ℕ) → AreSymbols q → AreSymbols r → AreSymbols s → AreSymbols t → AreSymbols ((q ++ r) ++ (s ++ t))
symbols-four q r s t first second third fourth = symbols-append (q ++ r) (s ++ t) (symbols-append q r first second) (symbols-append s t third fourth)

-- the back of a list of symbols
pub symbols-back : (a l r : List ℕ) → a ≡ l ++ r → AreSymbols a → AreSymbols r
symbols-back a l r is symbols k =
    (let same = get_or-append-add l r k 0 in let whole = ap (λ t. get_or t (length l + k) 0) is in let small = symbols (length l + k) in omega arith)

-- zeros in the back half change nothing
zeros-place : (n k : ℕ) → get_or (replicate {A = ℕ} n 0) k 0 ≡ 0
zeros-place zero k = refl
zeros-place (suc n) zero = refl
zeros-place (suc n) (suc k) = zeros-place n k

plus-zeros : (c n : ℕ) (l : List ℕ) → length l ≡ n → AreSymbols l → l ≡ sums l (scaled c (replicate n 0))
unfolding plus
plus-zeros c n l long symbols =
    let none : scaled c (replicate n 0) ≡ replicate n 0 = scaled-zeros c n in
    let same : length l ≡ length (replicate {A = ℕ} n 0) = (let h = length-replicate {A = ℕ} n 0 in omega arith) in
    ext_get_or 0 l (sums l (replicate n 0)) (sym (length-sums l (replicate n 0) same))
    (λ k lt. (let z = zeros-place n k in let s = symbols k in
    let e : get_or l k 0 ≡ plus (get_or l k 0) 0 = omega arith in e ∙ ap (plus (get_or l k 0)) (sym z) ∙ sym (get_or-sums l (replicate n 0) k same)))
    ∙ ap (sums l) (sym none)

-- the transform of rows with zeros in their second half
pub forward-front : (width depth n : ℕ) (l gl gr : List ℕ) → 0 < depth → n ≡ size width (depth - 1) → length l ≡ n → AreSymbols l
    → gl ≡ forward width (depth - 1) 0 l → gr ≡ forward width (depth - 1) 32768 l → gl ++ gr ≡ forward width depth 0 (l ++ replicate n 0)
forward-front width depth n l gl gr some half long symbols left right =
    forward-joined width depth 0 1 n (l ++ replicate n 0) l (replicate n 0) l l gl gr (omega arith) half
    (front-part n (l ++ replicate n 0) l (replicate n 0) refl long) (back-part n (l ++ replicate n 0) l (replicate n 0) refl long) (sym root_zero)
    (plus-zeros 1 n l long symbols) (plus-zeros (times 65536 1) n l long symbols) left right

-- the second half of what comes the way back
pub backward-back : (width depth n : ℕ) (a l r bl br : List ℕ) → 0 < depth → n ≡ size width (depth - 1) → l ≡ take n a → r ≡ drop n a → length bl ≡ n → length br ≡ n
    → bl ≡ backward width (depth - 1) 0 l → br ≡ backward width (depth - 1) 32768 r → drop n (backward width depth 0 a) ≡ sums bl (scaled 65536 br)
backward-back width depth n a l r bl br some half front back long_l long_r left right =
    let u = sums bl br in
    let d = sums bl (scaled 65536 br) in
    let whole : u ++ scaled 1 d ≡ backward width depth 0 a =
    backward-joined width depth 0 1 n a l r bl br u (scaled 1 d) (omega arith) half front back (sym whole_turn) left right refl refl in
    sym (back-part n (backward width depth 0 a) u (scaled 1 d) (sym whole) (length-sums bl br (long_l ∙ sym long_r) ∙ long_l)) ∙ scaled_one-sums bl (scaled 65536 br)
