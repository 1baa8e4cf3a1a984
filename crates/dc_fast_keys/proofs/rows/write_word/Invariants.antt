use Rattle.std.proofs.Common.{◌≡◌, ◌≢◌, ℕ, ◌+◌, ◌*◌, ◌<◌, get_or}
use Rattle.dc_spec.specs.Symbols.{AreSymbols}
use Rattle.dc_fast_keys.proofs.rows.write_word.Given as goal

-- the symbols so far; the other columns are as they were
abbrev pub invariant-loop-l : goal.invariant-loop-l
invariant-loop-l l = record {
  written : (k : ℕ) → k < l.l → get_or l.rows (l.width * k + l.column) 0 ≡ get_or l.numbers k 0;
  others : (k s : ℕ) → s < l.width → s ≢ l.column → get_or l.rows (l.width * k + s) 0 ≡ get_or l.initial.rows (l.width * k + s) 0;
  symbols : AreSymbols l.rows;
}
