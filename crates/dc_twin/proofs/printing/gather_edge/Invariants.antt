use Rattle.std.proofs.Common.{take, Ok}
use Rattle.std.specs.List.{flat_map, enumerate_from}
use Rattle.dc_print.specs.Gathering.{Gathers}
use Rattle.dc_twin_rules.specs.Shifts.{shift_line}
use Rattle.dc_twin.proofs.printing.gather_edge.Given as goal

-- the lines of the rounds so far are gathered
abbrev pub invariant-loop-r : goal.invariant-loop-r
invariant-loop-r g l = Gathers (flat_map (λ w. shift_line l.shift.u l.shift.v w.0 w.1) (take l.r (enumerate_from 0 l.shift.words))) (take l.initial.end l.initial.buffer) l.buffer
    (g.K.Sink.state l.initial.out) (g.K.Sink.state l.out) (Ok l.end)
