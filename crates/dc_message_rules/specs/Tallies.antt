-- Sums over the items of a list that pass a test, and the group of the values that do.
use Rattle.std.specs.Prelude.{ℕ, Bool, List, sum_by, slice_index, if◌then◌else◌}
use Rattle.dc_spec.specs.Values.{fifteen}
use Rattle.dc_spec.specs.Groups.{Group}

-- the sum over the items that pass a test
abbrev pub tally : {A : Type 0} → (A → Bool) → (A → ℕ) → List A → ℕ
tally passes f xs = sum_by (λ x. if passes x then f x else 0) xs

-- the group of the values that pass a test: how many, and the sums of their bytes
abbrev pub values_group : (List ℕ → Bool) → List (List ℕ) → Group
values_group passes values =
    record {
      count = tally passes (λ value. 1) values;
      limbs = fifteen (λ i. tally passes (λ value. slice_index value i) values);
    }
