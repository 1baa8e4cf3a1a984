-- The pads of a pair: its numbers, and the first of them that is no symbol.
use Rattle.std.proofs.Common.{◌≡◌, ℕ, ◌+◌, ◌*◌, ◌<◌, ◌≤◌, ltb, List, [], ◌∷◌, ◌++◌, length, get_or, Option, Some, None, Ok, Err, All, refl, sym, ◌∙◌, arith}
use Rattle.std.specs.Prelude.{position}
use Rattle.std.proofs.lemmas.List.FromFn.{get_or-map-range_with_len, length-map-range_with_len, map-range_with_len_more}
use Rattle.std.proofs.lemmas.List.Elements.{All-from_get_or}
use Rattle.dc_spec.specs.Words.{IsSymbol}
use Rattle.dc_spec.specs.Bytes.{number_at}
use Rattle.dc_keyfile.proofs.FirstAbove.{small_where_none, none_where_small, first_is}
use Rattle.dc_keyfile.specs.declared.fault.KeyFault.TheVariants.{Symbol}
use Rattle.dc_keyfile.specs.Reading.{numbers_at, pads_or_fault, pads_of}

-- ---- so many pads

pub length-numbers_at : (piece : List ℕ) (index count : ℕ) → length (numbers_at piece index count) ≡ count
length-numbers_at piece index count = length-map-range_with_len (λ n. number_at piece (4 + 4 * (index + n))) 0 count

pub number-numbers_at : (piece : List ℕ) (index count k : ℕ) → k < count → get_or (numbers_at piece index count) k 0 ≡ number_at piece (4 + 4 * (index + k))
number-numbers_at piece index count k lt = get_or-map-range_with_len (λ n. number_at piece (4 + 4 * (index + n))) 0 count k k 0 lt (omega arith)

-- one number more
pub numbers_more : (piece : List ℕ) (index n x : ℕ) (pads more : List ℕ) → pads ≡ numbers_at piece index n → x ≡ number_at piece (4 + 4 * (index + n)) → more ≡ pads ++ x ∷ []
    → more ≡ numbers_at piece index (n + 1)
numbers_more piece index n x pads more so_far here pushed = pushed ∙ rw (so_far, here) (sym (map-range_with_len_more (λ n. number_at piece (4 + 4 * (index + n))) 0 n n (omega arith)))

-- where all are symbols, they are read
pub pads_are_read : (piece : List ℕ) (p index count : ℕ) → All IsSymbol (numbers_at piece index count) → pads_of piece p index count ≡ Ok (numbers_at piece index count)
unfolding pads_of
pads_are_read piece p index count good =
    let none : position (λ x. ltb 65536 x) (numbers_at piece index count) ≡ None = none_where_small (numbers_at piece index count) (λ k lt. let small = good k 0 lt in omega arith) in
    rw none refl

-- the first that is no symbol is told
pub first_is_told : (piece : List ℕ) (p index count n seen : ℕ) → n < count → seen ≡ number_at piece (4 + 4 * (index + n)) → 65536 < seen → All IsSymbol (numbers_at piece index n)
    → pads_of piece p index count ≡ Err (Symbol p (index + n) seen)
unfolding pads_of
first_is_told piece p index count n seen lt is large good =
    let here : get_or (numbers_at piece index count) n 0 ≡ seen = number-numbers_at piece index count n lt ∙ sym is in
    let long = length-numbers_at piece index count in
    let before : (k : ℕ) → k < n → get_or (numbers_at piece index count) k 0 ≤ 65536 = λ k below.
    let small : get_or (numbers_at piece index n) k 0 < 65537 = good k 0 (omega (arith, length-numbers_at piece index n)) in
    omega (arith, number-numbers_at piece index count k (omega arith), number-numbers_at piece index n k below) in
    let found : position (λ x. ltb 65536 x) (numbers_at piece index count) ≡ Some n = first_is (numbers_at piece index count) n (omega arith) (rw here large) before in
    rw (found, here) refl

judged_well : (p index : ℕ) (numbers : List ℕ) (o : Option ℕ) (pads : List ℕ) → pads_or_fault p index numbers o ≡ Ok pads → (pads ≡ numbers) × (o ≡ None)
judged_well p index numbers None pads e = (cc, refl)
judged_well p index numbers (Some n) pads e = absurd cc

-- pads that were read: the numbers that stand there, all symbols
pub pads_found : (piece : List ℕ) (p index count : ℕ) (pads : List ℕ) → pads_of piece p index count ≡ Ok pads → (pads ≡ numbers_at piece index count) × All IsSymbol pads
unfolding pads_of
pads_found piece p index count pads e =
    let parts = judged_well p index (numbers_at piece index count) (position (λ x. ltb 65536 x) (numbers_at piece index count)) pads e in
    (parts.0, rw parts.0 (All-from_get_or IsSymbol (numbers_at piece index count) 0 (λ k lt. let small = small_where_none (numbers_at piece index count) parts.1 k lt in omega arith)))
