use Rattle.std.proofs.Common.{◌≡◌, ◌*◌, ℕ, List, take}
use Rattle.dc_workers.specs.Chunks.{AreChunks}
use Rattle.dc_workers.proofs.mapping.joined.Given as goal

-- the chunks so far
abbrev pub invariant-loop-part : goal.invariant-loop-part
invariant-loop-part l = (xs : List (List ℕ)) (size : ℕ) → AreChunks xs size l.parts → l.words.items ≡ take (l.part-index * size) xs
