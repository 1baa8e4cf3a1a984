use Rattle.std.proofs.Common.{◌≡◌, length, take}
use Rattle.dc_view.proofs.pads.word_of.Given as goal

-- the symbols so far
abbrev pub invariant-loop-l : goal.invariant-loop-l
invariant-loop-l l = record {
  sixteen : length l.word ≡ 16;
  so_far : take l.l l.word ≡ take l.l l.symbols;
}
