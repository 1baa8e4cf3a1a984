use Rattle.std.proofs.Common.{◌≡◌, length, vec_capacity}
use Rattle.dc_fast_keys.specs.Spectrum.{AreAllSpectra}
use Rattle.dc_fast_keys.proofs.spectrum.spectra_of.Given as goal

-- the levels so far, in room for all
abbrev pub invariant-loop-level : goal.invariant-loop-level
invariant-loop-level l = record {
  many : length l.items.items ≡ l.level;
  room : vec_capacity l.items ≡ l.levels;
  spectra : AreAllSpectra l.level l.items.items l.pads;
}
