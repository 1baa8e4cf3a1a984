use Rattle.std.proofs.Common.{take, Ok}
use Rattle.std.specs.List.{flat_map, enumerate_from}
use Rattle.dc_steering_rules.specs.SteeringText.{change_line}
use Rattle.dc_print.specs.Gathering.{Gathers}
use Rattle.dc_steer.proofs.text.gather_changes.Given as goal

-- the lines of the changes so far are gathered
abbrev pub invariant-loop-n : goal.invariant-loop-n
invariant-loop-n g l = Gathers (flat_map (λ c. change_line l.beginning c.0 c.1) (take l.n (enumerate_from 0 l.changes))) (take l.initial.end l.initial.buffer) l.buffer
    (g.K.Sink.state l.initial.out) (g.K.Sink.state l.out) (Ok l.end)
