use Rattle.std.proofs.Common.{◌≡◌, ℕ, ◌+◌, ◌*◌, ◌<◌, [], length, get_or, take}
use Rattle.dc_spec.specs.Symbols.{AreSymbols}
use Rattle.dc_spec.specs.Words.{AreWords}
use Rattle.dc_fast_keys.proofs.rows.write_words.Given as goal

-- the words so far
abbrev pub invariant-loop-s : goal.invariant-loop-s
invariant-loop-s l = record {
  are_words : AreWords (take l.s l.words);
  written : (s k : ℕ) → s < l.s → k < 16 → get_or l.rows (length l.words * k + s) 0 ≡ get_or (get_or l.words s []) k 0;
  symbols : AreSymbols l.rows;
}
