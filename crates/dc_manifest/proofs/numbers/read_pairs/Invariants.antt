use Rattle.std.proofs.Common.{◌≡◌, ◌++◌, Ok, drop}
use Rattle.dc_manifest.specs.Fields.{◌>>=◌}
use Rattle.dc_manifest.specs.Reading.{short_pair, each}
use Rattle.dc_manifest.proofs.numbers.read_pairs.Given as goal

abbrev pub invariant-loop-pair : goal.invariant-loop-pair
invariant-loop-pair l =
    (each (short_pair l.name) (drop l.pair-index l.from) >>= λ rest. Ok (l.numbers.items ++ rest)) ≡ each (short_pair l.name) l.from
