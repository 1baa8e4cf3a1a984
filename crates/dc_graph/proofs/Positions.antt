-- Where no item of a list passes a test.
use Rattle.std.proofs.Common.{◌≡◌, ℕ, ◌<◌, ◌≤◌, Bool, true, false, cond, ltb, List, length, get_or, Some, None, refl, arith}
use Rattle.std.specs.Prelude.{position}
use Rattle.std.specs.List.{position_or_len}
use Rattle.std.proofs.lemmas.Bool.{ltb-false}
use Rattle.std.proofs.lemmas.List.Sums.{fails_before_first}

none_is_past : (b : Bool) (n : ℕ) → cond b (Some n) None ≡ None → b ≡ false
none_is_past true n e = absurd cc
none_is_past false n e = refl

-- where none is found, each fails
pub fails_where_none : {X : Type 0} (p : X → Bool) (xs : List X) (k : ℕ) (d : X) → position p xs ≡ None → k < length xs → p (get_or xs k d) ≡ false
fails_where_none p xs k d none lt =
    let past : length xs ≤ position_or_len p xs = ltb-false _ _ (none_is_past (ltb (position_or_len p xs) (length xs)) (position_or_len p xs) none) in
    fails_before_first p xs k d (omega arith)
