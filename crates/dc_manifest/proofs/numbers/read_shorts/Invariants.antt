use Rattle.std.proofs.Common.{◌≡◌, ◌++◌, Ok, drop}
use Rattle.dc_manifest.specs.Fields.{◌>>=◌}
use Rattle.dc_manifest.specs.Reading.{short, each}
use Rattle.dc_manifest.proofs.numbers.read_shorts.Given as goal

abbrev pub invariant-loop-number : goal.invariant-loop-number
invariant-loop-number l =
    (each (short l.name) (drop l.number-index l.from) >>= λ rest. Ok (l.numbers.items ++ rest)) ≡ each (short l.name) l.from
