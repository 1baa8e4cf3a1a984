use Rattle.dc_keyfile.proofs.ChunkPairs.{JoinedSoFar}
use Rattle.dc_keyfile.proofs.sharing.joined.Given as goal

-- the parts so far
abbrev pub invariant-loop-part : goal.invariant-loop-part
invariant-loop-part l = JoinedSoFar l.fn.parts.items l.yielded l.part-iterator.rest.items l.pairs.items
