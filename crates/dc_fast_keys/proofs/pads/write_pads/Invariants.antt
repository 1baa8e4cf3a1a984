use Rattle.std.proofs.Common.{◌≡◌, ◌≢◌, ℕ, ◌+◌, ◌*◌, ◌<◌, ◌≤◌, get_or}
use Rattle.dc_spec.specs.Symbols.{AreSymbols}
use Rattle.dc_fast_keys.proofs.pads.write_pads.Given as goal

-- the pads so far, zeros after them; the other columns are as they were
abbrev pub invariant-loop-k : goal.invariant-loop-k
invariant-loop-k l = record {
  written : (k : ℕ) → k < l.k → get_or l.rows (l.width * k + l.column) 0 ≡ get_or l.pads k 0;
  rest : (k : ℕ) → l.k ≤ k → get_or l.rows (l.width * k + l.column) 0 ≡ 0;
  others : (k s : ℕ) → s < l.width → s ≢ l.column → get_or l.rows (l.width * k + s) 0 ≡ get_or l.initial.rows (l.width * k + s) 0;
  symbols : AreSymbols l.rows;
}
