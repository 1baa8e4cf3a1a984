use Rattle.std.proofs.Common.{◌≡◌, ℕ, ◌+◌, ◌*◌, ◌<◌, ◌≤◌, length, get_or}
use Rattle.dc_spec.specs.Symbols.{AreSymbols}
use Rattle.dc_keys.specs.StationPads.{StationPads}
use Rattle.dc_fast_keys.proofs.pads.write_second.Given as goal

-- the columns so far; zeros in the others
abbrev pub invariant-loop-s : goal.invariant-loop-s
invariant-loop-s l = record {
  written : (s k : ℕ) (none : StationPads) → s < l.s → k < l.count → get_or l.rows (length l.pads * k + s) 0 ≡ get_or (get_or l.pads s none).second k 0;
  rest : (s k : ℕ) → l.s ≤ s → s < length l.pads → get_or l.rows (length l.pads * k + s) 0 ≡ 0;
  symbols : AreSymbols l.rows;
}
