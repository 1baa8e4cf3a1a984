-- A key file with the changes of a steering.
use Rattle.std.specs.Prelude.{ℕ, ◌≡◌, ◌*◌, map, length, slice_index, if◌then◌else◌}
use Rattle.dc_spec.specs.Pads.{Pair, Keys}
use Rattle.dc_key_rules.specs.PairKeys.{changed_pair}
use Rattle.dc_steering_rules.specs.Steerings.{Steering, has_ends}

-- a pair, with the changes added to its pads where it has these ends
abbrev pub steered_pair : ℕ → ℕ → Steering → Pair → Pair
steered_pair u v s pair = if has_ends u v pair then changed_pair pair s.first s.second else pair

-- a key file in which the pair of these ends has the changes
abbrev pub steered_keys : ℕ → ℕ → Steering → Keys → Keys
steered_keys u v s keys = record keys { pairs = map (steered_pair u v s) keys.pairs }

-- a change of each first and each second pad of a session of so many words, none of the first second
-- pad
pub record AreChangesFor (words : ℕ) (s : Steering) : Type 0 where
  pub first_changes : length s.first ≡ 16 * words
  pub second_changes : length s.second ≡ 16 * words
  pub no_first : slice_index s.second 0 ≡ 0
