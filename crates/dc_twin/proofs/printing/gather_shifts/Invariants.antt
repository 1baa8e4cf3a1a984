use Rattle.std.proofs.Common.{take, Ok}
use Rattle.std.specs.List.{flat_map}
use Rattle.dc_print.specs.Gathering.{Gathers}
use Rattle.dc_twin_rules.specs.Shifts.{shift_lines}
use Rattle.dc_twin.proofs.printing.gather_shifts.Given as goal

-- the lines of the edges so far are gathered
abbrev pub invariant-loop-shift : goal.invariant-loop-shift
invariant-loop-shift g l = Gathers (flat_map shift_lines (take l.shift-index l.shifts)) (take 0 l.initial.buffer) l.buffer (g.K.Sink.state l.initial.out) (g.K.Sink.state l.out) (Ok l.end)
