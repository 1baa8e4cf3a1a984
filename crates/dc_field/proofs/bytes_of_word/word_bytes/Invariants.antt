use Rattle.std.proofs.Common.{◌≡◌, ◌*◌, length, take}
use Rattle.std.specs.List.{flat_map}
use Rattle.dc_spec.specs.Bytes.{symbol_bytes}
use Rattle.dc_field.proofs.bytes_of_word.word_bytes.Given as goal

-- the bytes so far are those of the symbols so far
abbrev pub invariant-loop-l : goal.invariant-loop-l
invariant-loop-l l =
    (length l.bytes ≡ 64) × (take (4 * l.l) l.bytes ≡ flat_map symbol_bytes (take l.l l.x-items))
