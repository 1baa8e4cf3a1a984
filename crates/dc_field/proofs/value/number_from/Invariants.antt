use Rattle.std.proofs.Common.{◌≡◌, take}
use Rattle.dc_spec.specs.Values.{number_of}
use Rattle.dc_field.proofs.value.number_from.Given as goal

-- the number so far is that of the bytes so far
abbrev pub invariant-loop-byte : goal.invariant-loop-byte
invariant-loop-byte l = l.number ≡ number_of (take l.byte-index l.bytes)
