use Rattle.std.proofs.Common.{◌≡◌, All}
use Rattle.dc_spec.specs.Words.{IsSymbol}
use Rattle.dc_keyfile.specs.Reading.{numbers_at}
use Rattle.dc_keyfile.proofs.reading.read_pads.Given as goal

-- the pads so far are the numbers that stand there, all symbols
abbrev pub invariant-loop-n : goal.invariant-loop-n
invariant-loop-n l = record { read : l.pads.items ≡ numbers_at l.piece l.index l.n; symbols : All IsSymbol l.pads.items }
