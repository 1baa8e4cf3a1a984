-- What leaves say of the values that stations sent.
use Rattle.std.specs.Prelude.{ℕ, ◌≡◌, ◌+◌, ◌≤◌, Bool, true, List, [], ◌∷◌, All, nat_le, ◌&&◌}
use Rattle.dc_spec.specs.Values.{number_of}
use Rattle.dc_station_rules.specs.Epochs.{Leaf}
use Rattle.dc_message_rules.specs.Tallies.{tally}

-- whether a value's number lies in a range
abbrev pub is_within : ℕ → ℕ → List ℕ → Bool
is_within low high value = nat_le low (number_of value) && nat_le (number_of value) high

-- a leaf is right for these values: the values in its range are all its own, so many times, and
-- there is one at least
pub record IsLeaf (values : List (List ℕ)) (leaf : Leaf) : Type 0 where
  pub times : leaf.times ≡ tally (is_within leaf.low leaf.high) (λ value. 1) values
  pub some : 1 ≤ leaf.times
  pub low : leaf.low ≤ number_of leaf.value
  pub high : number_of leaf.value ≤ leaf.high
  pub same : All (λ value. is_within leaf.low leaf.high value ≡ true → value ≡ leaf.value) values

-- right leaves whose ranges follow one another, from this number on and up to below that one
abbrev pub Covers : List (List ℕ) → ℕ → List Leaf → ℕ → Type 0
Covers values from [] end = from ≡ end
Covers values from (leaf ∷ out) end =
    (leaf.low ≡ from) × IsLeaf values leaf × Covers values (leaf.high + 1) out end
