use Rattle.std.proofs.Common.{◌≡◌, ◌++◌, take}
use Rattle.std.specs.List.{flat_map}
use Rattle.dc_spec.specs.Bytes.{symbol_bytes}
use Rattle.dc_keyfile.proofs.writing.put_pads.Given as goal

-- the pads so far are put
abbrev pub invariant-loop-x : goal.invariant-loop-x
invariant-loop-x l = l.bytes.items ≡ l.initial.bytes.items ++ flat_map symbol_bytes (take l.x-index l.pads)
