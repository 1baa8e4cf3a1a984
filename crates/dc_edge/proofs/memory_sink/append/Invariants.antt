-- The bytes so far were appended in place.
use Rattle.std.proofs.Common.{◌≡◌, ◌+◌, ◌++◌, take}
use Rattle.std.specs.Prelude.{vec_len, vec_capacity}
use Rattle.dc_edge.proofs.memory_sink.append.Given as goal

abbrev pub invariant-loop-byte : goal.invariant-loop-byte
invariant-loop-byte l = record {
  items : l.held.items ≡ l.initial.held.items ++ take l.byte-index l.bytes;
  len : vec_len l.held ≡ vec_len l.initial.held + l.byte-index;
  capacity : vec_capacity l.held ≡ vec_capacity l.initial.held;
}
