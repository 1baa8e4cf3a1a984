use Rattle.std.proofs.Common.{sym, ap, subst}
use Rattle.dc_net.specs.Changed.{AreForSamePairs}
use Rattle.dc_twin_rules.proofs.Rounds.{rounds-kept}
use Rattle.dc_twin_rules.proofs.Views.{view-kept}
use Rattle.dc_twin_rules.proofs.Back.{twin-back}
use Rattle.dc_twin.specs.TwinnedKeys.{TwinnedKeys}
use Rattle.dc_twin.proofs.Admitted.{no-fault, permutes-honest, twin-same_pairs, changed-is_twin}
use Rattle.dc_twin.proofs.twinning.twin.Goals as goal

pub twinned-requires-clause-admitted : goal.twinned-requires-clause-admitted
twinned-requires-clause-admitted c =
    let net = c.args.net.now in
    let p = c.args.perm.now in
    let is = c.net-plain.ensures.is_net in
    let good = no-fault net c.net-plain.result.now p c.as_slice.result.now c.in_ok-fault.field-0 is c.net-plain.ensures.value c.as_slice.ensures c.in_ok-fault.ensures c.in_default.is in
    good.0

pub returns-clause-admitted : goal.returns-clause-admitted
returns-clause-admitted c =
    let net = c.args.net.now in
    let p = c.args.perm.now in
    let is = c.net-plain.ensures.is_net in
    let good = no-fault net c.net-plain.result.now p c.as_slice.result.now c.in_ok-fault.field-0 is c.net-plain.ensures.value c.as_slice.ensures c.in_ok-fault.ensures c.in_default.is in
    good

pub returns-clause-same_pairs : goal.returns-clause-same_pairs
returns-clause-same_pairs c =
    let net = c.args.net.now in
    let p = c.args.perm.now in
    let is = c.net-plain.ensures.is_net in
    let good = no-fault net c.net-plain.result.now p c.as_slice.result.now c.in_ok-fault.field-0 is c.net-plain.ensures.value c.as_slice.ensures c.in_ok-fault.ensures c.in_default.is in
    subst (λ (t : TwinnedKeys). AreForSamePairs t.keys net.keys) (sym c.in_ok-twinned.ensures) (twin-same_pairs net p)

pub returns-clause-in_place : goal.returns-clause-in_place
returns-clause-in_place c =
    let net = c.args.net.now in
    let p = c.args.perm.now in
    let is = c.net-plain.ensures.is_net in
    let good = no-fault net c.net-plain.result.now p c.as_slice.result.now c.in_ok-fault.field-0 is c.net-plain.ensures.value c.as_slice.ensures c.in_ok-fault.ensures c.in_default.is in
    permutes-honest net p is good.0

pub returns-clause-changed : goal.returns-clause-changed
returns-clause-changed c =
    let net = c.args.net.now in
    let p = c.args.perm.now in
    let is = c.net-plain.ensures.is_net in
    let good = no-fault net c.net-plain.result.now p c.as_slice.result.now c.in_ok-fault.field-0 is c.net-plain.ensures.value c.as_slice.ensures c.in_ok-fault.ensures c.in_default.is in
    λ changed moves. changed-is_twin net p c.in_ok-twinned.field-0.keys changed is good.0 (ap (λ (t : TwinnedKeys). t.keys) c.in_ok-twinned.ensures) moves

pub returns-clause-rounds : goal.returns-clause-rounds
returns-clause-rounds c =
    let net = c.args.net.now in
    let p = c.args.perm.now in
    let is = c.net-plain.ensures.is_net in
    let good = no-fault net c.net-plain.result.now p c.as_slice.result.now c.in_ok-fault.field-0 is c.net-plain.ensures.value c.as_slice.ensures c.in_ok-fault.ensures c.in_default.is in
    rounds-kept net p is good.1 good.0

pub returns-clause-view : goal.returns-clause-view
returns-clause-view c =
    let net = c.args.net.now in
    let p = c.args.perm.now in
    let is = c.net-plain.ensures.is_net in
    let good = no-fault net c.net-plain.result.now p c.as_slice.result.now c.in_ok-fault.field-0 is c.net-plain.ensures.value c.as_slice.ensures c.in_ok-fault.ensures c.in_default.is in
    view-kept net p is good.1 good.0

pub returns-clause-back : goal.returns-clause-back
returns-clause-back c =
    let net = c.args.net.now in
    let p = c.args.perm.now in
    let is = c.net-plain.ensures.is_net in
    let good = no-fault net c.net-plain.result.now p c.as_slice.result.now c.in_ok-fault.field-0 is c.net-plain.ensures.value c.as_slice.ensures c.in_ok-fault.ensures c.in_default.is in
    twin-back net p is good.1 good.0
