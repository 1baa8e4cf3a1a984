use Rattle.std.proofs.Common.{ℕ, ◌+◌, ◌<◌, get_or}
use Rattle.dc_spec.specs.Pads.{Pair}
use Rattle.dc_formats.specs.KeyFile.{IsPair, AreEndsBefore}
use Rattle.dc_keys.proofs.key_file.are_keys.Given as goal

-- the pairs so far are pairs, each before the next
abbrev pub invariant-loop-i : goal.invariant-loop-i
invariant-loop-i l = record {
  pairs : (k : ℕ) (d : Pair) → k < l.i → IsPair l.stations l.words (get_or l.pairs k d);
  rising : (k : ℕ) (d : Pair) → k + 1 < l.i → AreEndsBefore ((get_or l.pairs k d).u, (get_or l.pairs k d).v) ((get_or l.pairs (k + 1) d).u, (get_or l.pairs (k + 1) d).v);
}
