use Rattle.std.proofs.Common.{◌≡◌, take}
use Rattle.dc_spec.specs.Values.{number_of}
use Rattle.dc_field.proofs.group.number_from.Given as goal

-- the number so far is that of the limbs so far
abbrev pub invariant-loop-limb : goal.invariant-loop-limb
invariant-loop-limb l = l.number ≡ number_of (take l.limb-index l.limbs)
