use Rattle.std.proofs.Common.{◌≡◌, length, take, vec_capacity}
use Rattle.dc_conv.proofs.accumulators.Accumulators.of_pads.Given as goal

-- the pads so far, in room for all
abbrev pub invariant-loop-pad : goal.invariant-loop-pad
invariant-loop-pad l = record {
  items : l.items.items ≡ take l.pad-index l.pads;
  room : vec_capacity l.items ≡ length l.pads;
}
