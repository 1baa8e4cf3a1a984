use Rattle.dc_net.proofs.KeyStrips.{TookSoFar}
use Rattle.dc_net.proofs.round_keys.take_in_turn.Given as goal

-- the strips so far have taken their words, the others are as they were
abbrev pub invariant-loop-strip : goal.invariant-loop-strip
invariant-loop-strip l = TookSoFar l.row l.fn.strips l.strip-items l.strip-index
