-- Laws of products and of the transform.
use Rattle.std.specs.Prelude.{ℕ, ◌+◌, ◌-◌, ◌*◌, ◌%◌, ◌^◌, ◌<◌, ◌≤◌, ◌≡◌, ◌++◌, List, length, replicate, sum_by, slice_index}
use Rattle.std.specs.List.{range_with_len}
use Rattle.dc_spec.specs.Symbols.{AreSymbols}
use Rattle.dc_transform_rules.specs.Polynomials.{product, products, scaled, rows_scaled}
use Rattle.dc_transform_rules.specs.Transforms.{size, forward, backward, column}

-- coefficient k of a product modulo x ^ n - e as a plain sum: the products of coefficients whose
-- numbers add up to k, and e times those whose numbers add up to n + k
abbrev pub ProductIsSum : Type 0
ProductIsSum =
    (e : ℕ) (a b : List ℕ) (k : ℕ) → length b ≡ length a → k < length a →
    slice_index (product e a b) k
    ≡ (sum_by (λ i. slice_index a (k - i) * slice_index b i) (range_with_len 0 (k + 1))
    + e * sum_by (λ i. slice_index a (length a + k - i) * slice_index b i) (range_with_len (k + 1) (length a - (k + 1)))) % 65537

-- where zeros follow the second factor, nothing comes round to the coefficients whose numbers are
-- not below its length
abbrev pub NothingComesRound : Type 0
NothingComesRound =
    (e zeros : ℕ) (a b : List ℕ) (k : ℕ) → length b ≤ k → k < length a →
    slice_index (product e a (b ++ replicate zeros 0)) k
    ≡ sum_by (λ i. slice_index a (k - i) * slice_index b i) (range_with_len 0 (length b)) % 65537

-- the transform of a product is the product of the transforms, place by place
abbrev pub ProductsMultiply : Type 0
ProductsMultiply =
    (depth : ℕ) (a b : List ℕ) → depth ≤ 16 → length a ≡ size 1 depth → length b ≡ size 1 depth →
    forward 1 depth 0 (product 1 a b) ≡ products (forward 1 depth 0 a) (forward 1 depth 0 b)

-- the way back from the transform gives what was transformed, times the number of rows
abbrev pub BackwardUndoes : Type 0
BackwardUndoes =
    (width depth : ℕ) (a : List ℕ) → depth ≤ 16 → length a ≡ size width depth → AreSymbols a →
    backward width depth 0 (forward width depth 0 a) ≡ scaled (2 ^ depth) a

-- the way back from the product of two transforms gives the product, times its length
abbrev pub TransformsMultiply : Type 0
TransformsMultiply =
    (depth : ℕ) (a b : List ℕ) → depth ≤ 16 → length a ≡ size 1 depth → length b ≡ size 1 depth →
    backward 1 depth 0 (products (forward 1 depth 0 a) (forward 1 depth 0 b)) ≡ scaled (2 ^ depth) (product 1 a b)

-- where one of the two transforms was divided by the length before, it gives the product itself
abbrev pub DividedOnce : Type 0
DividedOnce =
    (depth : ℕ) (quotient a b : List ℕ) → depth ≤ 16 → length a ≡ size 1 depth → length b ≡ size 1 depth →
    scaled (2 ^ depth) quotient ≡ forward 1 depth 0 a →
    backward 1 depth 0 (products (forward 1 depth 0 b) quotient) ≡ product 1 a b

-- in a list of rows, each column is transformed by itself
abbrev pub ColumnsGoForward : Type 0
ColumnsGoForward =
    (width depth s : ℕ) (a : List ℕ) → s < width → length a ≡ size width depth →
    column width (size 1 depth) s (forward width depth 0 a) ≡ forward 1 depth 0 (column width (size 1 depth) s a)

-- and so is the way back
abbrev pub ColumnsGoBackward : Type 0
ColumnsGoBackward =
    (width depth s : ℕ) (a : List ℕ) → s < width → length a ≡ size width depth →
    column width (size 1 depth) s (backward width depth 0 a) ≡ backward 1 depth 0 (column width (size 1 depth) s a)

-- where each row is multiplied by a factor of its own, each column is multiplied by the factors
abbrev pub ColumnsOfRows : Type 0
ColumnsOfRows =
    (width s : ℕ) (a factors : List ℕ) → s < width → length a ≡ width * length factors →
    column width (length factors) s (rows_scaled width a factors)
    ≡ products factors (column width (length factors) s a)

-- where each number is multiplied by a constant, so is each column
abbrev pub ColumnsScaled : Type 0
ColumnsScaled =
    (width rows s c : ℕ) (a : List ℕ) → s < width →
    column width rows s (scaled c a) ≡ scaled c (column width rows s a)

-- a list is as long as its rows are together
abbrev pub SizeOfRows : Type 0
SizeOfRows = (width depth : ℕ) → size width depth ≡ width * 2 ^ depth
