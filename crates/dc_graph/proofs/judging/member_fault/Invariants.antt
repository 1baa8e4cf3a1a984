use Rattle.std.proofs.Common.{◌≡◌, ℕ, ◌<◌, false}
use Rattle.dc_graph.specs.Faults.{is_faulty_member}
use Rattle.dc_graph.proofs.judging.member_fault.Given as goal

-- no place so far is faulty
abbrev pub invariant-loop-i : goal.invariant-loop-i
invariant-loop-i l = (k : ℕ) → k < l.i → is_faulty_member l.n l.members k ≡ false
