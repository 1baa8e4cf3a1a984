use Rattle.std.proofs.Common.{◌≡◌, take}
use Rattle.dc_field.proofs.items.clones.Given as goal

-- the items so far
abbrev pub invariant-loop-item : goal.invariant-loop-item
invariant-loop-item g l = l.items.items ≡ take l.item-index l.from
