use Rattle.std.proofs.Common.{◌≡◌, ℕ, ◌<◌, false}
use Rattle.dc_graph.specs.Faults.{is_faulty_pair}
use Rattle.dc_graph.proofs.FirstFault.{IsTable}
use Rattle.dc_graph.proofs.judging.pair_fault.Given as goal

-- no place so far is faulty, and the flags of the pairs so far are set
abbrev pub invariant-loop-i : goal.invariant-loop-i
invariant-loop-i l = record {
  clear : (k : ℕ) → k < l.i → is_faulty_pair l.n l.edges k ≡ false;
  table : IsTable l.n l.edges l.i l.seen;
}
