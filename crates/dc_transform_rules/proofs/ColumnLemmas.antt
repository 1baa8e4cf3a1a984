-- Columns of a list of rows: the transform takes each column by itself.
use Rattle.std.proofs.Common.{◌≡◌, ℕ, zero, suc, ◌+◌, ◌-◌, ◌*◌, ◌/◌, ◌<◌, ◌≤◌, List, [], ◌∷◌, ◌++◌, length, get_or, map, take, drop, refl, sym, ap, ◌∙◌, arith}
use Rattle.std.specs.List.{range_with_len}
use Rattle.std.proofs.lemmas.List.{length-take, length-drop, take-append-drop, get_or_append_left, get_or-append-add, take_at, drop_at}
use Rattle.std.proofs.Math.Nat.{mul-le-mul_left}
use Rattle.std.proofs.lemmas.List.FromFn.{length-map-range_with_len}
use Rattle.dc_transform_rules.specs.Residues.{plus, times, root}
use Rattle.dc_transform_rules.specs.Polynomials.{sums, products, scaled, rows_scaled}
use Rattle.dc_transform_rules.specs.Transforms.{size, folded, forward, unfolded, backward, column}
use Rattle.dc_transform_rules.proofs.ListLemmas.{length-sums}
use Rattle.dc_transform_rules.proofs.ProductLemmas.{length-scaled, length-folded, folded-append}
use Rattle.dc_transform_rules.proofs.TransformLemmas.{length-forward, length-backward}
use Rattle.dc_transform_rules.proofs.CoefficientLemmas.{get_or-sums, get_or-scaled, get_or-products}

-- maps over ranges
pub map_range-same : (f g : ℕ → ℕ) (a n : ℕ) → ((i : ℕ) → a ≤ i → i < a + n → f i ≡ g i) → map f (range_with_len a n) ≡ map g (range_with_len a n)
map_range-same f g a zero same = refl
map_range-same f g a (suc n) same =
    let h = same a (omega arith) (omega arith) in let t = map_range-same f g (a + 1) n (λ i low high. same i (omega arith) (omega arith)) in cc

map_range-later : (f : ℕ → ℕ) (a m n : ℕ) → map f (range_with_len (a + m) n) ≡ map (λ i. f (i + m)) (range_with_len a n)
map_range-later f a m zero = refl
map_range-later f a m (suc n) =
    let place : a + m + 1 ≡ a + 1 + m = omega arith in
    ap (λ t. f (a + m) ∷ t) (ap (λ k. map f (range_with_len k n)) place ∙ map_range-later f (a + 1) m n)

map_range-split : (f : ℕ → ℕ) (a m n : ℕ) → map f (range_with_len a (m + n)) ≡ map f (range_with_len a m) ++ map f (range_with_len (a + m) n)
map_range-split f a zero n =
    let here : a ≡ a + 0 = omega arith in
    let all : 0 + n ≡ n = omega arith in
    ap (λ k. map f (range_with_len a k)) all ∙ ap (λ k. map f (range_with_len k n)) here
map_range-split f a (suc m) n =
    let more : suc m + n ≡ suc (m + n) = omega arith in
    let place : a + 1 + m ≡ a + suc m = omega arith in
    ap (λ k. map f (range_with_len a k)) more
    ∙ ap (λ t. f a ∷ t) (map_range-split f (a + 1) m n ∙ ap (λ k. map f (range_with_len (a + 1) m) ++ map f (range_with_len k n)) place)

sums-maps : (f g : ℕ → ℕ) (xs : List ℕ) → sums (map f xs) (map g xs) ≡ map (λ x. plus (f x) (g x)) xs
sums-maps f g [] = refl
sums-maps f g (x ∷ xs) = ap (λ t. plus (f x) (g x) ∷ t) (sums-maps f g xs)

products-maps : (f g : ℕ → ℕ) (xs : List ℕ) → products (map f xs) (map g xs) ≡ map (λ x. times (f x) (g x)) xs
products-maps f g [] = refl
products-maps f g (x ∷ xs) = ap (λ t. times (f x) (g x) ∷ t) (products-maps f g xs)

scaled-maps : (c : ℕ) (f : ℕ → ℕ) (xs : List ℕ) → scaled c (map f xs) ≡ map (λ x. times c (f x)) xs
scaled-maps c f [] = refl
scaled-maps c f (x ∷ xs) = ap (λ t. times c (f x) ∷ t) (scaled-maps c f xs)

pub size-times : (width depth : ℕ) → size width depth ≡ width * size 1 depth
size-times width zero = (let e : width ≡ width * 1 = omega arith in e)
size-times width (suc depth) = let ih = size-times width depth in omega arith

-- columns of lists made place by place
module _ (width s : ℕ) (within : s < width) where
  pub column-sums : (n : ℕ) (a b : List ℕ) → length a ≡ length b → column width n s (sums a b) ≡ sums (column width n s a) (column width n s b)
  column-sums n a b same =
      map_range-same _ _ 0 n (λ k low high. get_or-sums a b (width * k + s) same)
      ∙ sym (sums-maps (λ k. get_or a (width * k + s) 0) (λ k. get_or b (width * k + s) 0) (range_with_len 0 n))

  pub column-products : (n : ℕ) (a b : List ℕ) → length a ≡ length b → column width n s (products a b) ≡ products (column width n s a) (column width n s b)
  column-products n a b same =
      map_range-same _ _ 0 n (λ k low high. get_or-products a b (width * k + s) same)
      ∙ sym (products-maps (λ k. get_or a (width * k + s) 0) (λ k. get_or b (width * k + s) 0) (range_with_len 0 n))

  pub column-scaled : (n c : ℕ) (a : List ℕ) → column width n s (scaled c a) ≡ scaled c (column width n s a)
  column-scaled n c a =
      map_range-same _ _ 0 n (λ k low high. get_or-scaled c a (width * k + s)) ∙ sym (scaled-maps c (λ k. get_or a (width * k + s) 0) (range_with_len 0 n))

  pub length-column : (n : ℕ) (a : List ℕ) → length (column width n s a) ≡ n
  length-column n a = length-map-range_with_len (λ k. get_or a (width * k + s) 0) 0 n

  -- the place of a row above comes before the places of the next rows
  place-below : (k n : ℕ) → k < n → width * k + s < width * n
  place-below k n lt = let h : width * (k + 1) ≤ width * n = mul-le-mul_left width (omega arith) in let e : width * (k + 1) ≡ width * k + width = omega arith in omega arith

  pub column-append : (m n : ℕ) (l r : List ℕ) → length l ≡ width * m → column width (m + n) s (l ++ r) ≡ column width m s l ++ column width n s r
  column-append m n l r long =
      let f : ℕ → ℕ = λ k. get_or (l ++ r) (width * k + s) 0 in
      let front = map_range-same f (λ k. get_or l (width * k + s) 0) 0 m (λ k low high. get_or_append_left l r 0 (width * k + s) (let h = place-below k m (omega arith) in omega arith)) in
      let back = map_range-later f 0 m n ∙ map_range-same (λ k. f (k + m)) (λ k. get_or r (width * k + s) 0) 0 n (λ k low high.
      let place : width * (k + m) + s ≡ length l + (width * k + s) = omega arith in
      ap (λ i. get_or (l ++ r) i 0) place ∙ get_or-append-add l r (width * k + s) 0) in
      map_range-split f 0 m n ∙ ap (λ t. t ++ map f (range_with_len (0 + m) n)) front ∙ ap (λ t. map (λ k. get_or l (width * k + s) 0) (range_with_len 0 m) ++ t) back

  -- halves
  column-halves : (m n : ℕ) (a : List ℕ) → n ≡ width * m → length a ≡ n + n → column width (m + m) s a ≡ column width m s (take n a) ++ column width m s (drop n a)
  column-halves m n a rows long =
      let front : length (take n a) ≡ width * m = (let h = length-take n a in omega arith) in
      ap (column width (m + m) s) (sym (take-append-drop n a)) ∙ column-append m m (take n a) (drop n a) front

  column-folded : (m n c : ℕ) (a : List ℕ) → n ≡ width * m → length a ≡ n + n → column width m s (folded c n a) ≡ folded c m (column width (m + m) s a)
  column-folded m n c a rows long =
      let l = take n a in
      let r = drop n a in
      let same : length l ≡ length (scaled c r) = (let h = length-take n a in let g = length-drop n a in let k = length-scaled c r in omega arith) in
      column-sums m l (scaled c r) same ∙ ap (sums (column width m s l)) (column-scaled m c r)
      ∙ sym (folded-append c m (column width m s l) (column width m s r) (length-column m l)) ∙ ap (folded c m) (sym (column-halves m n a rows long))

  column-unfolded : (m z : ℕ) (l r : List ℕ) → length l ≡ width * m → length r ≡ width * m
      → column width (m + m) s (unfolded z l r) ≡ unfolded z (column width m s l) (column width m s r)
  column-unfolded m z l r long_l long_r =
      let g = root (65536 - z) in
      let same : length l ≡ length (scaled 65536 r) = long_l ∙ sym (length-scaled 65536 r ∙ long_r) in
      column-append m m (sums l r) (scaled g (sums l (scaled 65536 r))) (length-sums l r (long_l ∙ sym long_r) ∙ long_l)
      ∙ ap (λ t. t ++ column width m s (scaled g (sums l (scaled 65536 r)))) (column-sums m l r (long_l ∙ sym long_r))
      ∙ ap (λ t. sums (column width m s l) (column width m s r) ++ t)
      (column-scaled m g (sums l (scaled 65536 r)) ∙ ap (scaled g) (column-sums m l (scaled 65536 r) same ∙ ap (sums (column width m s l)) (column-scaled m 65536 r)))

  -- each column is transformed by itself
  pub column-forward : (depth y : ℕ) (a : List ℕ) → length a ≡ size width depth
      → column width (size 1 depth) s (forward width depth y a) ≡ forward 1 depth y (column width (size 1 depth) s a)
  column-forward zero y a long = refl
  column-forward (suc depth) y a long =
      let n = size width depth in
      let m = size 1 depth in
      let rows = size-times width depth in
      let half : (c x : ℕ) → column width m s (forward width depth x (folded c n a)) ≡ forward 1 depth x (folded c m (column width (m + m) s a)) =
      λ c x. column-forward depth x (folded c n a) (length-folded c n a long) ∙ ap (forward 1 depth x) (column-folded m n c a rows long) in
      let l = forward width depth (y / 2) (folded (root (y / 2)) n a) in
      let r = forward width depth (y / 2 + 32768) (folded (root (y / 2 + 32768)) n a) in
      column-append m m l r (length-forward width depth (y / 2) (folded (root (y / 2)) n a) (length-folded (root (y / 2)) n a long) ∙ rows)
      ∙ ap (λ t. t ++ column width m s r) (half (root (y / 2)) (y / 2))
      ∙ ap (λ t. forward 1 depth (y / 2) (folded (root (y / 2)) m (column width (m + m) s a)) ++ t) (half (root (y / 2 + 32768)) (y / 2 + 32768))

  pub column-backward : (depth y : ℕ) (a : List ℕ) → length a ≡ size width depth
      → column width (size 1 depth) s (backward width depth y a) ≡ backward 1 depth y (column width (size 1 depth) s a)
  column-backward zero y a long = refl
  column-backward (suc depth) y a long =
      let n = size width depth in
      let m = size 1 depth in
      let rows = size-times width depth in
      let l = take n a in
      let r = drop n a in
      let long_l : length l ≡ n = (let h = length-take n a in omega arith) in
      let long_r : length r ≡ n = (let h = length-drop n a in omega arith) in
      let halves = column-halves m n a rows long in
      let front : column width m s l ≡ take m (column width (m + m) s a) =
      sym (ap (take m) halves ∙ take_at (column width m s l) (column width m s r) m (length-column m l)) in
      let back : column width m s r ≡ drop m (column width (m + m) s a) =
      sym (ap (drop m) halves ∙ drop_at (column width m s l) (column width m s r) m (length-column m l)) in
      column-unfolded m (y / 2) (backward width depth (y / 2) l) (backward width depth (y / 2 + 32768) r)
      (length-backward width depth (y / 2) l long_l ∙ rows) (length-backward width depth (y / 2 + 32768) r long_r ∙ rows)
      ∙ ap (λ t. unfolded (y / 2) t (column width m s (backward width depth (y / 2 + 32768) r)))
      (column-backward depth (y / 2) l long_l ∙ ap (backward 1 depth (y / 2)) front)
      ∙ ap (unfolded (y / 2) (backward 1 depth (y / 2) (take m (column width (m + m) s a))))
      (column-backward depth (y / 2 + 32768) r long_r ∙ ap (backward 1 depth (y / 2 + 32768)) back)

  -- rows times factors of their own
  pub column-rows : (a f : List ℕ) → length a ≡ width * length f → column width (length f) s (rows_scaled width a f) ≡ products f (column width (length f) s a)
  column-rows a [] long = refl
  column-rows a (x ∷ f) long =
      let n = length f in
      let more : suc n ≡ 1 + n = omega arith in
      let rows : width * suc n ≡ width + width * n = omega arith in
      let one : width ≡ width * 1 = omega arith in
      let front : length (take width a) ≡ width = (let h = length-take width a in omega arith) in
      let back : length (drop width a) ≡ width * n = (let h = length-drop width a in omega arith) in
      let first : length (scaled x (take width a)) ≡ width * 1 = length-scaled x (take width a) ∙ front ∙ one in
      let whole : column width (1 + n) s a ≡ column width 1 s (take width a) ++ column width n s (drop width a) =
      ap (column width (1 + n) s) (sym (take-append-drop width a)) ∙ column-append 1 n (take width a) (drop width a) (front ∙ one) in
      ap (λ m. column width m s (scaled x (take width a) ++ rows_scaled width (drop width a) f)) more
      ∙ column-append 1 n (scaled x (take width a)) (rows_scaled width (drop width a) f) first
      ∙ ap (λ t. t ++ column width n s (rows_scaled width (drop width a) f)) (column-scaled 1 x (take width a))
      ∙ ap (λ t. scaled x (column width 1 s (take width a)) ++ t) (column-rows (drop width a) f back)
      ∙ ap (products (x ∷ f)) (sym whole) ∙ ap (λ m. products (x ∷ f) (column width m s a)) (sym more)
