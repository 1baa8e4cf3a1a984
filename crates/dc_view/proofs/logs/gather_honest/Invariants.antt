use Rattle.std.proofs.Common.{take, Ok}
use Rattle.std.specs.List.{flat_map, enumerate_from}
use Rattle.dc_run_texts.specs.Logs.{honest_text}
use Rattle.dc_print.specs.Gathering.{Gathers}
use Rattle.dc_view.proofs.logs.gather_honest.Given as goal

-- the log texts of the stations so far are gathered
abbrev pub invariant-loop-j : goal.invariant-loop-j
invariant-loop-j g l = Gathers (flat_map (λ h. honest_text l.run h.0 h.1) (take l.j (enumerate_from 0 l.honest))) (take 0 l.initial.buffer) l.buffer
    (g.K.Sink.state l.initial.out) (g.K.Sink.state l.out) (Ok l.end)
