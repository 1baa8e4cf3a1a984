-- Sums over a range of places, and pieces of a list.
use Rattle.std.proofs.Common.{◌≡◌, ℕ, ◌+◌, ◌<◌, List, get_or, take, drop, map, sum_by, sym, ap, ◌∙◌, arith}
use Rattle.std.specs.List.{range_with_len}
use Rattle.std.proofs.lemmas.List.{get_or-take, get_or-drop}
use Rattle.std.proofs.lemmas.List.FromFn.{fill_by_all, length-range_with_len, get_or-range_with_len, sum_by-map-range_with_len_more}
use Rattle.dc_spec.proofs.ListLemmas.{below_range}
use Rattle.dc_spec.proofs.SumLemmas.{sum_by-same}

-- a range is its own places
range_is : (n : ℕ) → range_with_len 0 n ≡ map (λ (k : ℕ). k) (range_with_len 0 n)
range_is n = fill_by_all (λ (k : ℕ). k) (range_with_len 0 n) n 0 (length-range_with_len 0 n) (λ k lt. get_or-range_with_len 0 n k 0 lt ∙ omega arith)

-- one place more
pub sum_to-more : (f : ℕ → ℕ) (n : ℕ) → sum_by f (range_with_len 0 (n + 1)) ≡ sum_by f (range_with_len 0 n) + f n
sum_to-more f n =
    ap (λ (xs : List ℕ). sum_by f xs) (range_is (n + 1)) ∙ sum_by-map-range_with_len_more f (λ (k : ℕ). k) 0 n n (omega arith) ∙ ap (λ (xs : List ℕ). sum_by f xs + f n) (sym (range_is n))

-- functions that are the same below the end
pub sum_to-same : (f g : ℕ → ℕ) (n : ℕ) → ((k : ℕ) → k < n → f k ≡ g k) → sum_by f (range_with_len 0 n) ≡ sum_by g (range_with_len 0 n)
sum_to-same f g n same = sum_by-same f g (range_with_len 0 n) (λ k there. let low = below_range 0 n k there in same k (omega arith))

-- an item of a piece
pub item_of_piece : (xs : List ℕ) (n from k : ℕ) → k < n → get_or (take n (drop from xs)) k 0 ≡ get_or xs (from + k) 0
item_of_piece xs n from k lt = get_or-take n (drop from xs) k 0 lt ∙ get_or-drop from xs k 0
