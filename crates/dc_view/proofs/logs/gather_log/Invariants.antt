use Rattle.std.proofs.Common.{take, Ok}
use Rattle.std.specs.List.{flat_map}
use Rattle.dc_run_texts.specs.Logs.{log_line}
use Rattle.dc_print.specs.Gathering.{Gathers}
use Rattle.dc_view.proofs.logs.gather_log.Given as goal

-- the lines of the entries so far are gathered
abbrev pub invariant-loop-k : goal.invariant-loop-k
invariant-loop-k g l = Gathers (flat_map log_line (take l.k l.log.entries)) (take l.initial.end l.initial.buffer) l.buffer (g.K.Sink.state l.initial.out) (g.K.Sink.state l.out) (Ok l.end)
