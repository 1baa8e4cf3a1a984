-- Writes to the places of a list, one after another, and products with a piece of the pads.
use Rattle.std.proofs.Common.{◌≡◌, ℕ, zero, suc, zero-le, replicate, ◌+◌, ◌-◌, ◌*◌, ◌<◌, ◌≤◌, List, length, get_or, take, drop, sum_by, refl, sym, ap, ◌∙◌, arith, inl, inr}
use Rattle.std.specs.List.{range_with_len}
use Rattle.std.proofs.lemmas.Bool.{cases_lt}
use Rattle.std.proofs.lemmas.List.{get_or-take, length-take}
use borrow.Rule.Slice.PartMut.{put_mid}
use Rattle.dc_key_rules.specs.PairKeys.{symbols}
use Rattle.dc_keys.proofs.KeySums.{sum_to-more, sum_to-same, pad_in_piece, symbol_of_word}
use Rattle.dc_conv.specs.Mask.{products_from}
use Rattle.dc_conv.proofs.Pieces.{piece_here, piece_after}

-- a list of zeros
pub zeros_small : (n k : ℕ) → get_or (replicate n 0) k 0 ≤ 65536
zeros_small zero k = zero-le
zeros_small (suc n) zero = zero-le
zeros_small (suc n) (suc k) = zeros_small n k

-- a total with the product of one factor more
pub total_more : (pads factors : List ℕ) (i k n from was now : ℕ) → from ≡ k → i < n
    → now ≡ was + get_or (take n (drop from pads)) i 0 * get_or factors k 0
    → was ≡ sum_by (λ j. get_or pads (i + j) 0 * get_or factors j 0) (range_with_len 0 k)
    → now ≡ sum_by (λ j. get_or pads (i + j) 0 * get_or factors j 0) (range_with_len 0 (k + 1))
total_more pads factors i k n from was now place within is so_far =
    let at : from + i ≡ i + k = omega arith in
    let pad = pad_in_piece pads n from i within ∙ ap (λ (x : ℕ). get_or pads x 0) at in
    let product : get_or (take n (drop from pads)) i 0 * get_or factors k 0 ≡ get_or pads (i + k) 0 * get_or factors k 0 = rw pad refl in
    omega (arith, is, so_far, product, sum_to-more (λ j. get_or pads (i + j) 0 * get_or factors j 0) k)

-- pads that are the same give the same products
products_same : (pads qads factors : List ℕ) (i j : ℕ)
    → ((k : ℕ) → k < length factors → get_or pads (i + k) 0 ≡ get_or qads (j + k) 0) → products_from pads factors i ≡ products_from qads factors j
products_same pads qads factors i j same =
    sum_to-same (λ k. get_or pads (i + k) 0 * get_or factors k 0) (λ k. get_or qads (j + k) 0 * get_or factors k 0) (length factors)
    (λ k lt. ap (λ (x : ℕ). x * get_or factors k 0) (same k lt))

-- the products of a piece of wide pads are those of the pads
pub wide_products : (pads wide factors : List ℕ) (d j n p from : ℕ)
    → ((k : ℕ) → k < length (take p pads) → get_or wide k 0 ≡ get_or (take p pads) k 0)
    → p ≤ length pads → d + j + length factors < p → j + length factors ≤ n → from ≡ d + 1
    → products_from (take n (drop from wide)) factors j ≡ products_from pads factors (d + j + 1)
wide_products pads wide factors d j n p from is within last long start =
    products_same (take n (drop from wide)) pads factors j (d + j + 1) (λ k lt.
    let at : from + (j + k) ≡ d + j + 1 + k = omega arith in
    let below : d + j + 1 + k < length (take p pads) = (let e = length-take p pads in omega arith) in
    pad_in_piece wide n from (j + k) (omega arith) ∙ ap (λ (x : ℕ). get_or wide x 0) at ∙ is (d + j + 1 + k) below ∙ get_or-take p pads (d + j + 1 + k) 0 (omega arith))

-- the products of later pads
pub later_products : (pads factors : List ℕ) (d j n : ℕ) → j + length factors < n
    → products_from (take n (drop d pads)) factors (j + 1) ≡ products_from pads factors (d + j + 1)
later_products pads factors d j n within =
    products_same (take n (drop d pads)) pads factors (j + 1) (d + j + 1) (λ k lt.
    let at : d + (j + 1 + k) ≡ d + j + 1 + k = omega arith in
    pad_in_piece pads n d (j + 1 + k) (omega arith) ∙ ap (λ (x : ℕ). get_or pads x 0) at)

-- the symbols of one word more, the last symbol first
pub word_turned : (words : List (List ℕ)) (w factors places : List ℕ) (t from n : ℕ) → t < length words → w ≡ get_or words t w
    → length w ≡ 16 → length (symbols (take t words)) ≡ 16 * t → length factors ≡ 512 → length words ≤ 32 → length places ≡ n → n ≡ 16
    → from ≡ 16 * (length words - t) - 16 → ((k : ℕ) → k < 16 → get_or places k 0 ≡ get_or w (15 - k) 0)
    → ((k : ℕ) → 16 * (length words - t) ≤ k → k < 16 * length words → get_or factors k 0 ≡ get_or (symbols words) (16 * length words - 1 - k) 0)
    → (k : ℕ) → 16 * (length words - (t + 1)) ≤ k → k < 16 * length words
    → get_or (put_mid from n factors places) k 0 ≡ get_or (symbols words) (16 * length words - 1 - k) 0
word_turned words w factors places t from n lt is wide sixteen room few long sixteen_places start turned so_far k le within =
    let end : from + n ≡ 16 * (length words - t) = omega arith in
    elim (cases_lt k (16 * (length words - t))) [
      | inl here ↦
          let at : from + (k - from) ≡ k = omega arith in
          let place : 16 * t + (15 - (k - from)) ≡ 16 * length words - 1 - k = omega arith in
          ap (λ (i : ℕ). get_or (put_mid from n factors places) i 0) (sym at)
          ∙ piece_here factors places from n (16 * (length words - t)) end (omega arith) long (k - from) (omega arith) ∙ turned (k - from) (omega arith)
          ∙ sym (symbol_of_word words w t (15 - (k - from)) lt is (omega arith) sixteen) ∙ ap (λ (i : ℕ). get_or (symbols words) i 0) place
      | inr after ↦ piece_after factors places from n (16 * (length words - t)) end (omega arith) long k after ∙ so_far k after within
    ]
