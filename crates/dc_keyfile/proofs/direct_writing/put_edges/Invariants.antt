use Rattle.std.proofs.Common.{◌≡◌, ◌*◌, ◌++◌, take, map}
use Rattle.std.specs.List.{flat_map}
use Rattle.dc_formats.specs.KeyFile.{pair_bytes}
use Rattle.dc_keyfile.specs.Generator.{generated_pair}
use Rattle.dc_keyfile.proofs.direct_writing.put_edges.Given as goal

-- the pairs of the edges so far are put
abbrev pub invariant-loop-i : goal.invariant-loop-i
invariant-loop-i l = l.bytes.items ≡ l.initial.bytes.items ++ flat_map pair_bytes (map (generated_pair l.base (16 * l.words)) (take l.i l.g.edges))
