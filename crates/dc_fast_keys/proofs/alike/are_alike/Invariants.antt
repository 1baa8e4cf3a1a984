use Rattle.dc_fast_keys.specs.Spectrum.{AreAlike}
use Rattle.dc_fast_keys.proofs.alike.are_alike.Given as goal

-- the rows so far
abbrev pub invariant-loop-row : goal.invariant-loop-row
invariant-loop-row l = AreAlike l.width l.row l.block
