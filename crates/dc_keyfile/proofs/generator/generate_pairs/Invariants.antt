use Rattle.std.proofs.Common.{◌≡◌, ◌*◌, take, map}
use Rattle.dc_keyfile.specs.Generator.{generated_pair}
use Rattle.dc_keyfile.proofs.generator.generate_pairs.Given as goal

-- a pair for each edge so far
abbrev pub invariant-loop-i : goal.invariant-loop-i
invariant-loop-i l = l.pairs.items ≡ map (generated_pair l.base (16 * l.words)) (take l.i l.edges)
