use Rattle.std.proofs.Common.{◌≡◌, ◌+◌, ◌++◌, take, vec_len, vec_capacity}
use Rattle.dc_station.proofs.log.push_bytes.Given as goal

-- the bytes so far are at the end
abbrev pub invariant-loop-i : goal.invariant-loop-i
invariant-loop-i l = record {
  bytes : l.bytes.items ≡ l.initial.bytes.items ++ take l.i l.more;
  len : vec_len l.bytes ≡ vec_len l.initial.bytes + l.i;
  room : vec_capacity l.bytes ≡ vec_capacity l.initial.bytes;
}
