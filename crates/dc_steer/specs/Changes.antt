-- The changes of the pads of a pair, from what its ends received.
use Rattle.std.specs.Prelude.{ℕ, ◌*◌, ◌/◌, ◌%◌, List, ◌++◌, length, replicate}
use Rattle.dc_key_rules.specs.PairKeys.{symbols}
use Rattle.dc_steering_rules.specs.Steerings.{Steering, first_difference, steered_from, second_changes, first_changes}

-- The ends received the words cu and cv. In each round after that of the first difference the sum is
-- to change by the wanted word; before, it does not change.
abbrev pub changes_for : List (List ℕ) → List (List ℕ) → List (List ℕ) → Steering
changes_for cu cv wanted =
    let p = first_difference (symbols cu) (symbols cv) in
    let e = replicate (steered_from p) 0 ++ symbols wanted in
    let y = second_changes (symbols cu) (symbols cv) e (16 * length cu) in
    record {
      round = p / 16;
      symbol = p % 16;
      first = first_changes (symbols cu) y (16 * length cu);
      second = y;
    }
