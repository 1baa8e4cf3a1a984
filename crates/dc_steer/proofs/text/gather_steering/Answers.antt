use Rattle.std.proofs.Common.{◌++◌, [], Ok, Err, subst, rules}
use Rattle.std.specs.Prelude.{codes, decimal}
use Rattle.dc_spec.specs.Text.{line}
use Rattle.dc_steering_rules.specs.SteeringText.{steering_text, change_lines}
use Rattle.dc_print.specs.Gathering.{Gathers}
use Rattle.dc_print.proofs.GatherLemmas.{Gathers-then, Gathers-stops}
use Rattle.dc_steer.specs.Steered.{KeySteering, steering}
use Rattle.dc_steer.proofs.text.gather_steering.Goals as goal

pub returns-in_err-end : goal.returns-in_err-end
returns-in_err-end g c =
    let s : KeySteering = record { round = c.s.inside.round; symbol = c.s.inside.symbol; first = c.s.inside.first; second = c.s.inside.second; keys = c.s.inside.keys } in
    let head = line (codes "differ " ++ decimal c.s.inside.round ++ codes " " ++ decimal c.s.inside.symbol) in
    let first = change_lines (codes "first ") c.s.inside.first in
    let second = change_lines (codes "second ") c.s.inside.second in
    let x = c.gather_difference.new.buffer in
    let failed = c.in_err-end.field-0.0 in
    subst (λ (t : KeySteering). Gathers (steering_text (steering t)) []
    c.gather_difference.new.buffer (g.K.Sink.state c.args.out.now) (g.K.Sink.state c.gather_difference.new.out) c.from_residual.result) c.s.view_is
    (Gathers-stops (head ++ first) second [] x x _ _ failed _ (Gathers-stops head first [] x x _ _ failed (Err failed) c.in_err-end.ensures (search rules)) (search rules))

pub returns-in_err-end-2 : goal.returns-in_err-end-2
returns-in_err-end-2 g c =
    let s : KeySteering = record { round = c.s.inside.round; symbol = c.s.inside.symbol; first = c.s.inside.first; second = c.s.inside.second; keys = c.s.inside.keys } in
    let head = line (codes "differ " ++ decimal c.s.inside.round ++ codes " " ++ decimal c.s.inside.symbol) in
    let first = change_lines (codes "first ") c.s.inside.first in
    let second = change_lines (codes "second ") c.s.inside.second in
    let x = c.gather_changes.new.buffer in
    let failed = c.in_err-end-2.field-0.0 in
    subst (λ (t : KeySteering). Gathers (steering_text (steering t)) []
    c.gather_changes.new.buffer (g.K.Sink.state c.args.out.now) (g.K.Sink.state c.gather_changes.new.out) c.from_residual-in_err-end-2.result) c.s.view_is
    (Gathers-stops (head ++ first) second [] x x _ _ failed _
    (Gathers-then head first [] c.gather_difference.new.buffer x _ _ _ c.in_ok-end.end (Err failed) c.in_ok-end.ensures (rw c.as_slice.ensures.value at c.in_err-end-2.ensures)) (search rules))

pub returns : goal.returns
returns g c =
    let s : KeySteering = record { round = c.s.inside.round; symbol = c.s.inside.symbol; first = c.s.inside.first; second = c.s.inside.second; keys = c.s.inside.keys } in
    let head = line (codes "differ " ++ decimal c.s.inside.round ++ codes " " ++ decimal c.s.inside.symbol) in
    let first = change_lines (codes "first ") c.s.inside.first in
    let second = change_lines (codes "second ") c.s.inside.second in
    subst (λ (t : KeySteering). Gathers (steering_text (steering t)) []
    c.gather_changes-2.new.buffer (g.K.Sink.state c.args.out.now) (g.K.Sink.state c.gather_changes-2.new.out) c.gather_changes-2.result) c.s.view_is
    (Gathers-then (head ++ first) second [] c.gather_changes.new.buffer c.gather_changes-2.new.buffer _ _ _ c.in_ok-end-2.end _
    (Gathers-then head first [] c.gather_difference.new.buffer c.gather_changes.new.buffer _ _ _ c.in_ok-end.end (Ok c.in_ok-end-2.end) c.in_ok-end.ensures
    (rw c.as_slice.ensures.value at c.in_ok-end-2.ensures)) (rw c.as_slice-2.ensures.value at c.gather_changes-2.ensures))
