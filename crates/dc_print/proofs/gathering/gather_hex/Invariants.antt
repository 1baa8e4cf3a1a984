use Rattle.std.proofs.Common.{take, Ok}
use Rattle.std.specs.List.{flat_map}
use Rattle.dc_formats.specs.TextFile.{byte_text}
use Rattle.dc_print.specs.Gathering.{Gathers}
use Rattle.dc_print.proofs.gathering.gather_hex.Given as goal

-- the digits of the bytes so far are gathered
abbrev pub invariant-loop-byte : goal.invariant-loop-byte
invariant-loop-byte g l = Gathers (flat_map byte_text (take l.byte-index l.bytes)) (take l.initial.end l.initial.buffer) l.buffer (g.K.Sink.state l.initial.out) (g.K.Sink.state l.out) (Ok l.end)
