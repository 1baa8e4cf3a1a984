-- What holds of the numbers of every group.
use Rattle.std.specs.Prelude.{◌≡◌, ℕ, ◌*◌, ◌≤◌, length, slice_index}
use Rattle.dc_spec.specs.Groups.{Group}

-- a count of at most 256 and fifteen limbs, each at most 255 times the count (past its end a list reads as 0)
pub record IsGroup (group : Group) : Type 0 where
  pub most : group.count ≤ 256
  pub fifteen : length group.limbs ≡ 15
  pub limbs : (i : ℕ) → slice_index group.limbs i ≤ 255 * group.count
