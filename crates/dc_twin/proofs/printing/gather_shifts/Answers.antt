use Rattle.std.proofs.Common.{[], take, Ok, Err, subst, rules}
use Rattle.dc_print.specs.Gathering.{Gathers}
use Rattle.dc_print.proofs.GatherLemmas.{Gathers-more, Gathers-more-stops}
use Rattle.dc_twin_rules.specs.Twins.{Shift}
use Rattle.dc_twin_rules.specs.Shifts.{shift_lines}
use Rattle.dc_twin.proofs.printing.gather_shifts.Goals as goal

pub returns-in_err-end : goal.returns-in_err-end
returns-in_err-end g c =
    Gathers-more-stops shift_lines c.args.shifts.now c.loop-shift.shift-index c.shift-item.result [] c.loop-shift.buffer c.gather_edge.new.buffer _ _ _ c.loop-shift.end c.in_err-end.field-0.0 _
    c.loop-shift-test.true c.loop-shift.invariant
    (subst (λ (s : Shift). Gathers (shift_lines s) (take c.loop-shift.end c.loop-shift.buffer) c.gather_edge.new.buffer (g.K.Sink.state c.loop-shift.out) (g.K.Sink.state c.gather_edge.new.out)
    (Err c.in_err-end.field-0.0)) c.shift-item.is c.in_err-end.ensures) (search rules)

pub loop-shift-preserved : goal.loop-shift-preserved
loop-shift-preserved g c =
    Gathers-more shift_lines c.args.shifts.now c.loop-shift.shift-index c.shift-item.result [] c.loop-shift.buffer c.gather_edge.new.buffer _ _ _ c.loop-shift.end (Ok c.in_ok-end.end)
    c.loop-shift-test.true c.loop-shift.invariant
    (subst (λ (s : Shift). Gathers (shift_lines s) (take c.loop-shift.end c.loop-shift.buffer) c.gather_edge.new.buffer (g.K.Sink.state c.loop-shift.out) (g.K.Sink.state c.gather_edge.new.out)
    (Ok c.in_ok-end.end)) c.shift-item.is c.in_ok-end.ensures)
