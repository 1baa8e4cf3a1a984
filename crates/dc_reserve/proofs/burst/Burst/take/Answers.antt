use Rattle.std.proofs.Common.{rules}
use Rattle.dc_reserve.specs.Phases.{IsGoing}
use Rattle.dc_reserve.specs.StandsFor.{State}
use Rattle.dc_reserve.proofs.StepLemmas.{fits_after}
use Rattle.dc_reserve.proofs.BurstLemmas.{step_after}
use Rattle.dc_reserve.proofs.burst.Burst.take.Goals as goal

pub invariant_of-self : goal.invariant_of-self
invariant_of-self c =
    let going : IsGoing c.self.inside.phase = search rules in
    let fits = fits_after c.self.inside.phase c.self.inside.bytes.items c.args.w.now c.judge-step.result c.judge-step.new.bytes.items going c.self.invariant.0 c.judge-step.ensures.step in
    (rw c.burst_phase_after-self-inside.ensures fits.0, c.judge-step.ensures.room)

pub returns-clause-stands : goal.returns-clause-stands
returns-clause-stands c = λ words stands.
    let going : IsGoing c.self.inside.phase = search rules in
    let before : State = record { phase = c.self.inside.phase; bytes = c.self.inside.bytes.items } in
    let all = step_after before words c.args.w.now c.judge-step.result c.judge-step.new.bytes.items going c.self.invariant.0 c.judge-step.ensures.step (rw c.self.view_is stands) in
    record { kept = rw c.burst_phase_after-self-inside.ensures all.0 }

pub returns-clause-step : goal.returns-clause-step
returns-clause-step c = λ words stands.
    let going : IsGoing c.self.inside.phase = search rules in
    let before : State = record { phase = c.self.inside.phase; bytes = c.self.inside.bytes.items } in
    (step_after before words c.args.w.now c.judge-step.result c.judge-step.new.bytes.items going c.self.invariant.0 c.judge-step.ensures.step (rw c.self.view_is stands)).1
