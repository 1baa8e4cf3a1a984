use Rattle.std.proofs.Common.{sym, subst, ◌∙◌}
use Rattle.dc_superpose.specs.HubCore.{IsHub}
use Rattle.dc_superpose.proofs.HubLemmas.{due, refused_reply, refused_stands, accepted_reply, accepted_stands}
use Rattle.dc_superpose.proofs.hub_core.HubCore.take.Goals as goal

pub accept-requires : goal.accept-requires
accept-requires c = (due c.args.self.now c.args.station c.args.t (subst IsHub c.self.view_is c.self.invariant) (sym c.refusal.ensures.fault ∙ c.in-None.is)).0

pub returns-in-Some-clause-replies : goal.returns-in-Some-clause-replies
returns-in-Some-clause-replies c = λ n rounds xs stands. sym (refused_reply c.args.self.now n rounds xs (record { station = c.args.station; round = c.args.t; word = c.args.w.now }) c.in-Some.fault
    (subst IsHub c.self.view_is c.self.invariant) (sym c.refusal.ensures.fault ∙ c.in-Some.is) stands)

pub returns-in-Some-clause-stands : goal.returns-in-Some-clause-stands
returns-in-Some-clause-stands c = λ n rounds xs stands. refused_stands c.args.self.now n rounds xs (record { station = c.args.station; round = c.args.t; word = c.args.w.now }) c.in-Some.fault
    (subst IsHub c.self.view_is c.self.invariant) (sym c.refusal.ensures.fault ∙ c.in-Some.is) stands

pub returns-in-None-clause-replies : goal.returns-in-None-clause-replies
returns-in-None-clause-replies c = λ n rounds xs stands.
    let hub = subst IsHub c.self.view_is c.self.invariant in
    let is_due = due c.args.self.now c.args.station c.args.t hub (sym c.refusal.ensures.fault ∙ c.in-None.is) in
    accepted_reply c.args.self.now c.accept.new.self n rounds xs (record { station = c.args.station; round = c.args.t; word = c.args.w.now }) c.accept.result hub is_due.0 is_due.1
    c.accept.ensures stands

pub returns-in-None-clause-stands : goal.returns-in-None-clause-stands
returns-in-None-clause-stands c = λ n rounds xs stands.
    let hub = subst IsHub c.self.view_is c.self.invariant in
    let is_due = due c.args.self.now c.args.station c.args.t hub (sym c.refusal.ensures.fault ∙ c.in-None.is) in
    accepted_stands c.args.self.now c.accept.new.self n rounds xs (record { station = c.args.station; round = c.args.t; word = c.args.w.now }) c.accept.result hub is_due.0 is_due.1
    c.accept.ensures stands
