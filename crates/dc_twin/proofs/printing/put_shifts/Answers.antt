use Rattle.std.proofs.Common.{◌≡◌, List, ap, subst, ◌∙◌}
use Rattle.dc_edge.specs.Sink.{Puts}
use Rattle.dc_print.proofs.GatherLemmas.{Puts-kept}
use Rattle.dc_twin_rules.specs.Twins.{Shift}
use Rattle.dc_twin_rules.specs.Shifts.{shifts_text}
use Rattle.dc_twin.specs.TwinnedKeys.{TwinnedKeys}
use Rattle.dc_twin.proofs.printing.put_shifts.Goals as goal

pub returns : goal.returns
returns g c =
    let same : c.as_slice.result.now ≡ c.args.t.now.shifts = c.as_slice.ensures ∙ ap (λ (t : TwinnedKeys). t.shifts) c.t.view_is in
    subst (λ (shifts : List Shift). Puts (shifts_text shifts) (g.K.Sink.state c.args.out.now) (g.K.Sink.state c.put.new.self) c.put.result) same
    (Puts-kept _ _ _ _ _ _ _ c.in_ok-end.ensures c.put.ensures)
