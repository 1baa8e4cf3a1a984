use Rattle.std.proofs.Common.{◌≡◌, take, map}
use Rattle.dc_keyfile.specs.Generator.{seeded}
use Rattle.dc_keyfile.proofs.generator.seed_pairs.Given as goal

-- a pair for each edge so far
abbrev pub invariant-loop-i : goal.invariant-loop-i
invariant-loop-i l = l.pairs.items ≡ map (seeded l.base) (take l.i l.g.edges)
