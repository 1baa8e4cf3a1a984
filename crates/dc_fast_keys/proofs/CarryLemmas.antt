-- What a block of received symbols contributes to later sums, column by column.
use Rattle.std.proofs.Common.{◌≡◌, ◌≢◌, ℕ, zero, suc, ◌+◌, ◌-◌, ◌*◌, ◌/◌, ◌%◌, ◌<◌, ◌≤◌, min, List, ◌++◌, length, get_or, map, replicate, take, drop, sum_by, refl, sym, ap, subst, ◌∙◌, arith, inl, inr}
use Rattle.std.specs.List.{range_with_len}
use Rattle.std.proofs.lemmas.List.{length-append, length-replicate, length-take, length-drop, get_or-drop, get_or-take, get_or-append-add, get_or_append_left}
use Rattle.std.proofs.lemmas.List.{ext_get_or}
use Rattle.std.proofs.Math.Nat.{div-add-mod}
use Rattle.std.proofs.lemmas.Nat.{mod_below}
use borrow.Rule.Slice.PartMut.{put_mid}
use Rattle.dc_spec.specs.Symbols.{AreSymbols}
use Rattle.std.proofs.lemmas.List.FromFn.{get_or-map-range_with_len}
use Rattle.std.proofs.lemmas.Bool.{cases_lt}
use Rattle.std.proofs.Math.Nat.{mul-le-mul_left}
use Rattle.dc_transform_rules.specs.Residues.{plus}
use Rattle.dc_transform_rules.specs.Polynomials.{sums, products, product, rows_scaled}
use Rattle.dc_transform_rules.specs.Transforms.{size, forward, backward, column}
use Rattle.dc_transform_rules.proofs.ListLemmas.{length-products}
use Rattle.dc_transform_rules.proofs.CoefficientLemmas.{get_or-sums, product-carry, sum_range-same}
use Rattle.dc_transform_rules.proofs.TransformLemmas.{length-forward, product-divided, size-down}
use Rattle.dc_transform_rules.proofs.ColumnLemmas.{map_range-same, column-append, column-products, column-forward, column-backward, column-rows, length-column, size-times}
use Rattle.dc_fast_keys.specs.Spectrum.{padded, IsSpectrum, contribution, AreAlike, Added, CarriedFrom}
use Rattle.dc_fast_keys.proofs.RowLemmas.{row_within}
use Rattle.dc_fast_keys.proofs.SymbolLemmas.{symbols-take, symbols-drop, symbols-append}

-- a number of a column
column-at : (width rows s k : ℕ) (a : List ℕ) → k < rows → get_or (column width rows s a) k 0 ≡ get_or a (width * k + s) 0
column-at width rows s k a lt = get_or-map-range_with_len (λ k. get_or a (width * k + s) 0) 0 rows k k 0 lt (omega arith)

-- a pad
padded-at : (depth k : ℕ) (pads : List ℕ) → k < size 1 depth → get_or (padded depth pads) k 0 ≡ get_or pads k 0
padded-at depth k pads lt = (let e : 1 * k + 0 ≡ k = omega arith in column-at 1 (size 1 depth) 0 k pads lt ∙ ap (λ i. get_or pads i 0) e)

-- a column of zeros
zeros-at : (n k : ℕ) → get_or (replicate {A = ℕ} n 0) k 0 ≡ 0
zeros-at zero k = refl
zeros-at (suc n) zero = refl
zeros-at (suc n) (suc k) = zeros-at n k

column_zeros : (width n s a rows : ℕ) → map (λ k. get_or (replicate {A = ℕ} n 0) (width * k + s) 0) (range_with_len a rows) ≡ replicate {A = ℕ} rows 0
column_zeros width n s a zero = refl
column_zeros width n s a (suc rows) = let h = zeros-at n (width * a + s) in let t = column_zeros width n s (a + 1) rows in cc

module _ (width d s : ℕ) (spectrum block pads : List ℕ) (within : s < width) (low : suc d ≤ 16) (long_block : length block ≡ size width d)
    (long : length spectrum ≡ size width (suc d)) (is : IsSpectrum width (suc d) s spectrum pads) where
  -- a column of the product of the block and the pads
  product_column : column width (size 1 (suc d)) s (backward width (suc d) 0 (products (forward width (suc d) 0 (block ++ replicate (length block) 0)) spectrum))
      ≡ product 1 (padded (suc d) pads) (column width (size 1 d) s block ++ replicate (size 1 d) 0)
  product_column =
      let m = size 1 d in
      let w = block ++ replicate (length block) 0 in
      let f = forward width (suc d) 0 w in
      let c = column width m s block in
      let long_w : length w ≡ size width (suc d) = (let h = length-append block (replicate (length block) 0) in let g = length-replicate {A = ℕ} (length block) 0 in omega arith) in
      let long_f : length f ≡ size width (suc d) = length-forward width (suc d) 0 w long_w in
      let long_p : length (products f spectrum) ≡ size width (suc d) = length-products f spectrum (long_f ∙ sym long) ∙ long_f in
      let halves : column width (m + m) s w ≡ c ++ replicate m 0 =
      column-append width s within m m block (replicate (length block) 0) (long_block ∙ size-times width d)
      ∙ ap (λ t. c ++ t) (column_zeros width (length block) s 0 m) in
      let long_c : length (c ++ replicate m 0) ≡ m + m = (let h = length-append c (replicate m 0) in let g = length-column width s within m block in let r = length-replicate {A = ℕ} m 0 in omega arith) in
      column-backward width s within (suc d) 0 (products f spectrum) long_p
      ∙ ap (backward 1 (suc d) 0) (column-products width s within (m + m) f spectrum (long_f ∙ sym long)
      ∙ ap (λ t. products t (column width (m + m) s spectrum)) (column-forward width s within (suc d) 0 w long_w ∙ ap (forward 1 (suc d) 0) halves))
      ∙ product-divided (suc d) (column width (m + m) s spectrum) (padded (suc d) pads) (c ++ replicate m 0) low (length-column 1 0 (omega arith) (m + m) pads) long_c is

  -- a number of its second half
  product_at : (i : ℕ) → i < size 1 d
      → get_or (backward width (suc d) 0 (products (forward width (suc d) 0 (block ++ replicate (length block) 0)) spectrum)) (width * (size 1 d + i) + s) 0
      ≡ contribution width (size 1 d) s pads block i % 65537
  product_at i lt =
      let m = size 1 d in
      let r = backward width (suc d) 0 (products (forward width (suc d) 0 (block ++ replicate (length block) 0)) spectrum) in
      let c = column width m s block in
      let long_c : length c ≡ m = length-column width s within m block in
      let long_p : length (padded (suc d) pads) ≡ m + m = length-column 1 0 (omega arith) (m + m) pads in
      sym (column-at width (m + m) s (m + i) r (omega arith)) ∙ ap (λ t. get_or t (m + i) 0) product_column
      ∙ product-carry 1 m (padded (suc d) pads) c (m + i) (omega arith) (omega arith)
      ∙ ap (λ n. sum_by (λ k. get_or (padded (suc d) pads) (m + i - k) 0 * get_or c k 0) (range_with_len 0 n) % 65537) long_c
      ∙ ap (λ n. n % 65537) (sum_range-same (λ k. get_or (padded (suc d) pads) (m + i - k) 0 * get_or c k 0) (λ k. get_or pads (m + i - k) 0 * get_or block (width * k + s) 0) 0 m
      (λ k low high. ap (λ x. x * get_or c k 0) (padded-at (suc d) (m + i - k) pads (omega arith)) ∙ ap (λ x. get_or pads (m + i - k) 0 * x) (column-at width m s k block (omega arith))))

-- a place in a row stands in that row
row_below : (width i s m : ℕ) → width * i + s < width * m → i < m
row_below width i s m lt = elim (cases_lt i m) [
  | inl below ↦ below
  | inr le ↦ (let more : width * m ≤ width * i = mul-le-mul_left width le in absurd (omega arith))
]

-- the sums after the second half of the product was added to them
pub added : (width d : ℕ) (spectrum block before after : List ℕ) → suc d ≤ 16 → length block ≡ size width d → length spectrum ≡ size width (suc d)
    → length before ≤ length block
    → after ≡ sums before (take (length before) (drop (length block) (backward width (suc d) 0 (products (forward width (suc d) 0 (block ++ replicate (length block) 0)) spectrum))))
    → length (backward width (suc d) 0 (products (forward width (suc d) 0 (block ++ replicate (length block) 0)) spectrum)) ≡ size width (suc d)
    → Added width (suc d) (size 1 d) spectrum block before after
unfolding plus
added width d spectrum block before after low long_block long within is long_r s pads i lt spectrum_is place =
    let r = backward width (suc d) 0 (products (forward width (suc d) 0 (block ++ replicate (length block) 0)) spectrum) in
    let m = size 1 d in
    let more = take (length before) (drop (length block) r) in
    let rows = size-times width d in
    let long_more : length before ≡ length more = (let h = length-take (length before) (drop (length block) r) in let g = length-drop (length block) r in omega arith) in
    let row : i < m = row_below width i s m (omega arith) in
    let at : length block + (width * i + s) ≡ width * (m + i) + s = (let e : width * (m + i) ≡ width * m + width * i = omega arith in omega arith) in
    let read : get_or more (width * i + s) 0 ≡ contribution width m s pads block i % 65537 =
    get_or-take (length before) (drop (length block) r) (width * i + s) 0 place ∙ get_or-drop (length block) r (width * i + s) 0
    ∙ ap (λ k. get_or r k 0) at ∙ product_at width d s spectrum block pads lt low long_block long spectrum_is i row in
    ap (λ l. get_or l (width * i + s) 0) is ∙ get_or-sums before more (width * i + s) long_more
    ∙ ap (plus (get_or before (width * i + s) 0)) read
    ∙ (let e : (get_or before (width * i + s) 0 + contribution width m s pads block i % 65537) % 65537
    ≡ (get_or before (width * i + s) 0 + contribution width m s pads block i) % 65537 = omega arith in e)

-- the same of a depth that is not 0
pub added-down : (width depth n : ℕ) (spectrum block before after w r : List ℕ) → 0 < depth → depth ≤ 16 → length block ≡ size width (depth - 1)
    → length spectrum ≡ size width depth → length before ≤ length block → w ≡ block ++ replicate (length block) 0
    → r ≡ backward width depth 0 (products (forward width depth 0 w) spectrum) → length r ≡ size width depth → n ≡ length before
    → after ≡ sums before (take n (drop (length block) r)) → Added width depth (size 1 (depth - 1)) spectrum block before after
added-down width zero n spectrum block before after w r some low long_block long within filled made long_r count is = absurd (omega arith)
added-down width (suc d) n spectrum block before after w r some low long_block long within filled made long_r count is =
    let e : suc d - 1 ≡ d = omega arith in
    let full : r ≡ backward width (suc d) 0 (products (forward width (suc d) 0 (block ++ replicate (length block) 0)) spectrum) =
    made ∙ ap (λ l. backward width (suc d) 0 (products (forward width (suc d) 0 l) spectrum)) filled in
    subst (λ (m : ℕ). Added width (suc d) (size 1 m) spectrum block before after) (sym e)
    (added width d spectrum block before after low (long_block ∙ ap (size width) e) long within
    (is ∙ ap (λ k. sums before (take k (drop (length block) r))) count ∙ ap (λ l. sums before (take (length before) (drop (length block) l))) full)
    (sym (ap (λ l. length l) full) ∙ long_r))

-- lists of rows with the same columns are the same
same_columns : (width rows : ℕ) (a b : List ℕ) → 0 < width → length a ≡ width * rows → length b ≡ width * rows
    → ((s : ℕ) → s < width → column width rows s a ≡ column width rows s b) → a ≡ b
same_columns width rows a b some long_a long_b same =
    ext_get_or 0 a b (long_a ∙ sym long_b) (λ i lt.
    let place : width * (i / width) + i % width ≡ i = div-add-mod i width in
    let within = mod_below i width some in
    let low = row_below width (i / width) (i % width) rows (omega arith) in
    ap (λ j. get_or a j 0) (sym place) ∙ sym (column-at width rows (i % width) (i / width) a low)
    ∙ ap (λ l. get_or l (i / width) 0) (same (i % width) within) ∙ column-at width rows (i % width) (i / width) b low ∙ ap (λ j. get_or b j 0) place)

-- half of the rows of a transform
pub half-rows : (depth n : ℕ) → 0 < depth → n ≡ size 1 depth → n / 2 ≡ size 1 (depth - 1)
half-rows depth n some is = let down = size-down 1 depth (omega arith) in omega arith

-- a row that has one number
pub row_alike : (block : List ℕ) (n a width k s : ℕ) → s < width → n ≡ width → a ≡ width * k → a + width ≤ length block
    → ((s : ℕ) → s < length (take n (drop a block)) → get_or (take n (drop a block)) s 0 ≡ get_or (take n (drop a block)) 0 0)
    → get_or block (width * k + s) 0 ≡ get_or block (width * k + 0) 0
row_alike block n a width k s within is place inside same =
    let long : length (take n (drop a block)) ≡ width = (let h = length-take n (drop a block) in let g = length-drop a block in omega arith) in
    ap (λ j. get_or block (j + s) 0) (sym place) ∙ sym (get_or-take n (drop a block) s 0 (omega arith) ∙ get_or-drop a block s 0)
    ∙ same s (omega arith) ∙ get_or-take n (drop a block) 0 0 (omega arith) ∙ get_or-drop a block 0 0 ∙ ap (λ j. get_or block (j + 0) 0) place

-- where all columns of a block are alike, the transform of one of them serves for all
pub alike_products : (width depth rows : ℕ) (spectrum block one : List ℕ) → 0 < width → 0 < depth → length block ≡ size width (depth - 1) → length spectrum ≡ size width depth
    → rows ≡ size 1 (depth - 1) → AreAlike width (size 1 (depth - 1)) block → one ≡ column width rows 0 block ++ replicate rows 0
    → length (rows_scaled width spectrum (forward 1 depth 0 one)) ≡ size width depth
    → rows_scaled width spectrum (forward 1 depth 0 one) ≡ products (forward width depth 0 (block ++ replicate (length block) 0)) spectrum
alike_products width zero rows spectrum block one some none long_block long rows_is alike one_is long_scaled = absurd (omega arith)
alike_products width (suc d) rows spectrum block one some none long_block long rows_is alike one_is long_scaled =
    let m = size 1 d in
    let e : suc d - 1 ≡ d = omega arith in
    let w = block ++ replicate (length block) 0 in
    let f = forward width (suc d) 0 w in
    let g = forward 1 (suc d) 0 one in
    let here : rows ≡ m = rows_is ∙ ap (size 1) e in
    let one_long : length one ≡ m + m = (let h = ap (λ l. length l) one_is in let i = length-append (column width rows 0 block) (replicate rows 0) in let j = length-column width 0 some rows block in let r = length-replicate {A = ℕ} rows 0 in omega arith) in
    let g_long : length g ≡ m + m = length-forward 1 (suc d) 0 one one_long in
    let long_b : length block ≡ size width d = long_block ∙ ap (size width) e in
    let long_w : length w ≡ size width (suc d) = (let h = length-append block (replicate (length block) 0) in let i = length-replicate {A = ℕ} (length block) 0 in omega arith) in
    let long_f : length f ≡ size width (suc d) = length-forward width (suc d) 0 w long_w in
    let whole : size width (suc d) ≡ width * (m + m) = size-times width (suc d) in
    same_columns width (m + m) (rows_scaled width spectrum g) (products f spectrum) some (long_scaled ∙ whole) (length-products f spectrum (long_f ∙ sym long) ∙ long_f ∙ whole)
    (λ s within.
    let same : column width m s block ≡ column width m 0 block =
    map_range-same (λ k. get_or block (width * k + s) 0) (λ k. get_or block (width * k + 0) 0) 0 m (λ k low high. subst (λ (q : ℕ). AreAlike width (size 1 q) block) e alike k s within (omega arith)) in
    let halves : column width (m + m) s w ≡ one =
    column-append width s within m m block (replicate (length block) 0) (long_b ∙ size-times width d)
    ∙ ap (λ t. column width m s block ++ t) (column_zeros width (length block) s 0 m) ∙ ap (λ t. t ++ replicate m 0) same
    ∙ sym (one_is ∙ ap (λ (n : ℕ). column width n 0 block ++ replicate n 0) here) in
    ap (λ (n : ℕ). column width n s (rows_scaled width spectrum g)) (sym g_long)
    ∙ column-rows width s within spectrum g (long ∙ whole ∙ ap (λ (n : ℕ). width * n) (sym g_long))
    ∙ ap (λ (n : ℕ). products g (column width n s spectrum)) g_long
    ∙ sym (column-products width s within (m + m) f spectrum (long_f ∙ sym long)
    ∙ ap (λ t. products t (column width (m + m) s spectrum)) (column-forward width s within (suc d) 0 w long_w ∙ ap (forward 1 (suc d) 0) halves)))

-- a piece that was written
pub put_here : (a k j : ℕ) (xs ys : List ℕ) → a ≤ length xs → j < length ys → get_or (put_mid a k xs ys) (a + j) 0 ≡ get_or ys j 0
put_here a k j xs ys within lt =
    let front : length (take a xs) ≡ a = (let h = length-take a xs in omega arith) in
    ap (λ i. get_or (put_mid a k xs ys) (i + j) 0) (sym front) ∙ get_or-append-add (take a xs) (ys ++ drop k (drop a xs)) j 0
    ∙ get_or_append_left ys (drop k (drop a xs)) 0 j lt

-- the sums from a place on, after a piece of them was added to
pub carried-from : (width depth block now k m : ℕ) (spectrum received before part : List ℕ) → depth ≢ 0 → block ≡ size width (depth - 1) → block ≤ now → now ≤ length received
    → now ≤ length before → m ≡ block → now + k ≡ min (length before) (now + block) → length part ≡ k
    → Added width depth (size 1 (depth - 1)) spectrum (take m (drop (now - block) received)) (take k (drop now before)) part
    → CarriedFrom width depth (size 1 (depth - 1)) block now spectrum received before (put_mid now k before part)
carried-from width depth block now k m spectrum received before part some is_block back in_received in_before count end long added s pads i lt spectrum_is row place =
    let rows = size 1 (depth - 1) in
    let whole : block ≡ width * rows = is_block ∙ size-times width (depth - 1) in
    let inside = row_within width i rows s lt row in
    let near : width * i + s < k = omega arith in
    let piece = take k (drop now before) in
    let long_piece : length piece ≡ k = (let h = length-take k (drop now before) in let g = length-drop now before in omega arith) in
    let old : get_or piece (width * i + s) 0 ≡ get_or before (now + (width * i + s)) 0 =
    get_or-take k (drop now before) (width * i + s) 0 near ∙ get_or-drop now before (width * i + s) 0 in
    let same : contribution width rows s pads (take m (drop (now - block) received)) i
    ≡ sum_by (λ j. get_or pads (rows + i - j) 0 * get_or received (now - block + (width * j + s)) 0) (range_with_len 0 rows) =
    sum_range-same (λ j. get_or pads (rows + i - j) 0 * get_or (take m (drop (now - block) received)) (width * j + s) 0)
    (λ j. get_or pads (rows + i - j) 0 * get_or received (now - block + (width * j + s)) 0) 0 rows (λ j low high.
    let in_block = row_within width j rows s lt (omega arith) in
    ap (λ x. get_or pads (rows + i - j) 0 * x) (get_or-take m (drop (now - block) received) (width * j + s) 0 (omega arith) ∙ get_or-drop (now - block) received (width * j + s) 0)) in
    put_here now k (width * i + s) before part in_before (omega arith) ∙ added s pads i lt spectrum_is (omega arith)
    ∙ ap (λ x. (x + contribution width rows s pads (take m (drop (now - block) received)) i) % 65537) old
    ∙ ap (λ x. (get_or before (now + (width * i + s)) 0 + x) % 65537) same

-- a list of symbols with a piece of symbols in it
pub symbols-put : (a k : ℕ) (xs ys : List ℕ) → AreSymbols xs → AreSymbols ys → AreSymbols (put_mid a k xs ys)
symbols-put a k xs ys all here =
    symbols-append (take a xs) (ys ++ drop k (drop a xs)) (symbols-take a xs all) (symbols-append ys (drop k (drop a xs)) here (symbols-drop k (drop a xs) (symbols-drop a xs all)))
