-- The first number of a list that is above 65536.
use Rattle.std.proofs.Common.{◌≡◌, ℕ, ◌<◌, ◌≤◌, true, ltb, List, length, get_or, Some, None, ap, arith}
use Rattle.std.specs.List.{position_or_len}
use Rattle.std.specs.Prelude.{position}
use Rattle.std.proofs.lemmas.Bool.{ltb-false, le-ltb, lt-ltb}
use Rattle.std.proofs.lemmas.List.Sums.{position_or_len_is}
use Rattle.dc_keyfile.proofs.Positions.{fails_where_none, none_where_fails}

pub small_where_none : (xs : List ℕ) → position (λ x. ltb 65536 x) xs ≡ None → (k : ℕ) → k < length xs → get_or xs k 0 ≤ 65536
small_where_none xs none k lt = ltb-false _ _ (fails_where_none (λ x. ltb 65536 x) xs k 0 none lt)

pub none_where_small : (xs : List ℕ) → ((k : ℕ) → k < length xs → get_or xs k 0 ≤ 65536) → position (λ x. ltb 65536 x) xs ≡ None
none_where_small xs small = none_where_fails (λ x. ltb 65536 x) xs 0 (λ k lt. le-ltb _ _ (small k lt))

pub first_is : (xs : List ℕ) (s : ℕ) → s < length xs → 65536 < get_or xs s 0 → ((k : ℕ) → k < s → get_or xs k 0 ≤ 65536) → position (λ x. ltb 65536 x) xs ≡ Some s
first_is xs s lt large small =
    let at : position_or_len (λ x. ltb 65536 x) xs ≡ s = position_or_len_is (λ x. ltb 65536 x) xs s 0 (omega arith) (λ k below. le-ltb _ _ (small k below)) (λ _. lt-ltb _ _ large) in
    let within : ltb (position_or_len (λ x. ltb 65536 x) xs) (length xs) ≡ true = lt-ltb _ _ (omega arith) in
    rw within (ap Some at)
