use Rattle.std.proofs.Common.{◌+◌, ◌/◌, ℕ, List, length, sym, ap, subst, ◌∙◌, arith}
use Rattle.dc_spec.specs.Words.{AreWords}
use Rattle.dc_spec.specs.Net.{Net, Run}
use Rattle.dc_net_rules.proofs.Agreeing.{all_agree}
use Rattle.dc_steering_rules.specs.Steerings.{Steering}
use Rattle.dc_steering_rules.specs.Counting.{IsSteeredTo}
use Rattle.dc_steer.specs.SteeredKeys.{AreChangesFor}
use Rattle.dc_steer.specs.Steered.{KeySteering, IsKeySteering, with_new_keys}
use Rattle.dc_steer.proofs.FaultChain.{ends_faultless}
use Rattle.dc_steer.proofs.HonestEnds.{ends_good, are_stations}
use Rattle.dc_steer.proofs.Steering.{sums-count, found, rounds_faulty, later_sums, later_gains, changes_are_due, whole, fits, fitting, steered-wanted}
use Rattle.dc_steer.proofs.steered.steer_neighbours.Goals as goal

pub received_words-requires-clause-station : goal.received_words-requires-clause-station
received_words-requires-clause-station c =
    (are_stations c.args.net.now c.args.u c.args.v c.requires.net.graph (ends_good c.args.net.now c.args.u c.args.v c.requires.ends).edge).0

pub received_words-requires-2-clause-station : goal.received_words-requires-2-clause-station
received_words-requires-2-clause-station c =
    (are_stations c.args.net.now c.args.u c.args.v c.requires.net.graph (ends_good c.args.net.now c.args.u c.args.v c.requires.ends).edge).1

pub returns-in-Some-clause-exact : goal.returns-in-Some-clause-exact
returns-in-Some-clause-exact c =
    rounds_faulty c.args.net.now c.args.u c.args.v c.args.wanted.now _ _ _ c.in-Some.fault c.requires.ends c.in_ok-cu.ensures c.in_ok-cv.ensures c.in_ok-p.ensures
    (sym c.rounds_fault.ensures ∙ c.in-Some.is)

pub gains-requires : goal.gains-requires
gains-requires c =
    let f = found c.args.net.now c.args.u c.args.v c.args.wanted.now _ _ _ _ c.in_ok-cu.ensures c.in_ok-cv.ensures c.in_ok-p.ensures c.rounds_fault.ensures c.in-None.is in
    later_sums c.args.net.now c.args.u c.args.v c.args.wanted.now _ _ _ _ _ f (c.as_slice.ensures ∙ ap (λ (r : Run). r.sums) (c.run.view_is ∙ c.requires.run)) c.as_slice-2.ensures

pub pad_changes-requires-clause-most : goal.pad_changes-requires-clause-most
pad_changes-requires-clause-most c =
    let f = found c.args.net.now c.args.u c.args.v c.args.wanted.now _ _ _ _ c.in_ok-cu.ensures c.in_ok-cv.ensures c.in_ok-p.ensures c.rounds_fault.ensures c.in-None.is in
    omega (arith, f.count, (all_agree c.args.net.now c.requires.net.agrees).words, c.requires.net.keys.most_words)

pub pad_changes-requires-clause-differ : goal.pad_changes-requires-clause-differ
pad_changes-requires-clause-differ c =
    let f = found c.args.net.now c.args.u c.args.v c.args.wanted.now _ _ _ _ c.in_ok-cu.ensures c.in_ok-cv.ensures c.in_ok-p.ensures c.rounds_fault.ensures c.in-None.is in
    omega (arith, f.count, f.place, f.steerable.differ, c.in_ok-p.ensures)

pub pad_changes-requires-clause-wanted : goal.pad_changes-requires-clause-wanted
pad_changes-requires-clause-wanted c =
    let f = found c.args.net.now c.args.u c.args.v c.args.wanted.now _ _ _ _ c.in_ok-cu.ensures c.in_ok-cv.ensures c.in_ok-p.ensures c.rounds_fault.ensures c.in-None.is in
    let all = c.as_slice.ensures ∙ ap (λ (r : Run). r.sums) (c.run.view_is ∙ c.requires.run) in
    let sums = later_sums c.args.net.now c.args.u c.args.v c.args.wanted.now _ _ _ _ _ f all c.as_slice-2.ensures in
    let gained = later_gains _ _ _ (c.in_ok-p.p / 16 + 1) sums c.in_ok-gains.ensures.value in
    let many = ap (λ (ws : List (List ℕ)). length ws) all in
    omega (arith, f.count, c.in_ok-p.ensures, gained, many, sums-count c.args.net.now)

pub steered_keys-requires : goal.steered_keys-requires
steered_keys-requires c =
    let f = found c.args.net.now c.args.u c.args.v c.args.wanted.now _ _ _ _ c.in_ok-cu.ensures c.in_ok-cv.ensures c.in_ok-p.ensures c.rounds_fault.ensures c.in-None.is in
    let all = c.as_slice.ensures ∙ ap (λ (r : Run). r.sums) (c.run.view_is ∙ c.requires.run) in
    let due = changes_are_due c.args.net.now c.args.u c.args.v c.args.wanted.now _ _ _ _ _ _ _ f all c.as_slice-2.ensures c.in_ok-gains.ensures.value c.in_ok-changes.ensures in
    subst (λ (t : ℕ). AreChangesFor t c.in_ok-changes.changes) (sym (ap (λ (n : Net). n.keys.words) c.net.view_is))
    (subst (λ (s : Steering). AreChangesFor c.args.net.now.keys.words s) (sym due) (fitting c.args.net.now c.args.u c.args.v c.args.wanted.now c.requires.net c.requires.ends f.none))

pub invariant_of-result : goal.invariant_of-result
invariant_of-result c =
    let f = found c.args.net.now c.args.u c.args.v c.args.wanted.now _ _ _ _ c.in_ok-cu.ensures c.in_ok-cv.ensures c.in_ok-p.ensures c.rounds_fault.ensures c.in-None.is in
    let all = c.as_slice.ensures ∙ ap (λ (r : Run). r.sums) (c.run.view_is ∙ c.requires.run) in
    let due = changes_are_due c.args.net.now c.args.u c.args.v c.args.wanted.now _ _ _ _ _ _ _ f all c.as_slice-2.ensures c.in_ok-gains.ensures.value c.in_ok-changes.ensures in
    let shown : Steering = record { round = c.changes.inside.round; symbol = c.changes.inside.symbol; first = c.changes.inside.first; second = c.changes.inside.second } in
    let made = whole c.args.net.now c.args.u c.args.v c.args.wanted.now shown _ _ _ c.changes.view_is due (ap (λ (n : Net). n.keys) c.net.view_is) c.in_ok-keys.ensures in
    subst IsKeySteering (sym made) (fits c.args.net.now c.args.u c.args.v c.args.wanted.now c.requires.net c.requires.ends f.none)

pub returns-clause-exact : goal.returns-clause-exact
returns-clause-exact c =
    let f = found c.args.net.now c.args.u c.args.v c.args.wanted.now _ _ _ _ c.in_ok-cu.ensures c.in_ok-cv.ensures c.in_ok-p.ensures c.rounds_fault.ensures c.in-None.is in
    let all = c.as_slice.ensures ∙ ap (λ (r : Run). r.sums) (c.run.view_is ∙ c.requires.run) in
    let due = changes_are_due c.args.net.now c.args.u c.args.v c.args.wanted.now _ _ _ _ _ _ _ f all c.as_slice-2.ensures c.in_ok-gains.ensures.value c.in_ok-changes.ensures in
    let shown : Steering = record { round = c.changes.inside.round; symbol = c.changes.inside.symbol; first = c.changes.inside.first; second = c.changes.inside.second } in
    let made = whole c.args.net.now c.args.u c.args.v c.args.wanted.now shown _ _ _ c.changes.view_is due (ap (λ (n : Net). n.keys) c.net.view_is) c.in_ok-keys.ensures in
    (ends_faultless c.args.net.now c.args.u c.args.v c.args.wanted.now c.requires.ends ∙ f.none, made)

pub returns-clause-wanted : goal.returns-clause-wanted
returns-clause-wanted c =
    let f = found c.args.net.now c.args.u c.args.v c.args.wanted.now _ _ _ _ c.in_ok-cu.ensures c.in_ok-cv.ensures c.in_ok-p.ensures c.rounds_fault.ensures c.in-None.is in
    let all = c.as_slice.ensures ∙ ap (λ (r : Run). r.sums) (c.run.view_is ∙ c.requires.run) in
    let due = changes_are_due c.args.net.now c.args.u c.args.v c.args.wanted.now _ _ _ _ _ _ _ f all c.as_slice-2.ensures c.in_ok-gains.ensures.value c.in_ok-changes.ensures in
    let shown : Steering = record { round = c.changes.inside.round; symbol = c.changes.inside.symbol; first = c.changes.inside.first; second = c.changes.inside.second } in
    let made = whole c.args.net.now c.args.u c.args.v c.args.wanted.now shown _ _ _ c.changes.view_is due (ap (λ (n : Net). n.keys) c.net.view_is) c.in_ok-keys.ensures in
    let words = subst AreWords c.as_slice-2.ensures c.in_ok-gains.ensures.words in
    subst (λ (s : KeySteering). IsSteeredTo c.args.net.now c.args.v s.round c.args.wanted.now (with_new_keys c.args.net.now s.keys)) (sym made)
    (steered-wanted c.args.net.now c.args.u c.args.v c.args.wanted.now c.requires.net c.requires.ends f.none words)
