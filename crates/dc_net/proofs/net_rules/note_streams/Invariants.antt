use Rattle.std.proofs.Common.{take}
use Rattle.std.specs.List.{All}
use Rattle.dc_net.specs.Checked.{KeepsStream}
use Rattle.dc_net.proofs.net_rules.note_streams.Given as goal

-- each place so far
abbrev pub invariant-loop-place : goal.invariant-loop-place
invariant-loop-place l = All KeepsStream (take l.place-index l.streams)
