use Rattle.std.proofs.Common.{◌≡◌}
use Rattle.dc_spec.specs.Symbols.{power_below}
use Rattle.dc_field.proofs.sym.last_power.Given as goal

-- so many steps give the power whose exponent is below that power of 2
abbrev pub invariant-loop : goal.invariant-loop
invariant-loop l = l.power ≡ power_below l.x l.counter
