use Rattle.std.proofs.Common.{◌≡◌, length, vec_capacity}
use Rattle.dc_transform_rules.specs.Residues.{root}
use Rattle.dc_transform.specs.Roots.{ArePowers}
use Rattle.dc_transform.proofs.table.powers.Given as goal

-- the powers so far, in room for all, and the next one
abbrev pub invariant-loop-exponent : goal.invariant-loop-exponent
invariant-loop-exponent l = record {
  long : length l.items.items ≡ l.exponent;
  room : vec_capacity l.items ≡ l.count;
  powers : ArePowers l.items.items l.exponent;
  next : l.power ≡ root l.exponent;
}
