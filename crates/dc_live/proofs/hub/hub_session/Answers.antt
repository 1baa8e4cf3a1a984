use Rattle.std.proofs.Common.{Err, refl, ◌<◌}
use Rattle.std.proofs.lemmas.Result.{err_from_is_err_and}
use Rattle.dc_frame.specs.Frames.{frame_of}
use Rattle.dc_live.specs.Hearing.{word_of}
use Rattle.dc_live.proofs.HubAtLemmas.{HubSoFar-start, not_over, so_far_going, so_far_over, so_far_quiet, so_far_unheard, so_far_frame, so_far_ends, quiet_less, frame_less}
use Rattle.dc_live.proofs.CompleteLemmas.{RunsHub-complete}
use Rattle.dc_live.proofs.hub.hub_session.Goals as goal

pub loop-wire-init : goal.loop-wire-init
loop-wire-init g c = HubSoFar-start c.args.seats.now c.args.core.now (g.W.Wire.state c.args.wire.now) c.requires.greeted c.requires.core

pub returns-in_err-frame-clause-runs : goal.returns-in_err-frame-clause-runs
returns-in_err-frame-clause-runs g c =
    let p = err_from_is_err_and c.from_residual.result c.from_residual.ensures.1 in
    let going : c.loop-wire.core.round < c.loop-wire.core.rounds = not_over c.is_over.result c.loop-wire.core.rounds c.loop-wire.core.round c.is_over.ensures c.loop-wire-test.true in
    rw (p.1, p.2) (so_far_unheard c.next_peer-peer.result c.in_err-frame.field-0.0 c.loop-wire.invariant c.next_peer-peer.ensures.kept c.next_peer-peer.ensures.due
    (so_far_going c.loop-wire.invariant going) (c.in_err-frame.ensures))

pub returns-in_err-frame-clause-complete : goal.returns-in_err-frame-clause-complete
returns-in_err-frame-clause-complete g c = λ gives.
    let p = err_from_is_err_and c.from_residual.result c.from_residual.ensures.1 in
    let going : c.loop-wire.core.round < c.loop-wire.core.rounds = not_over c.is_over.result c.loop-wire.core.rounds c.loop-wire.core.round c.is_over.ensures c.loop-wire-test.true in
    rw p.1 (RunsHub-complete (Err c.in_err-frame.field-0.0) c.requires.greeted.all (so_far_unheard c.next_peer-peer.result c.in_err-frame.field-0.0 c.loop-wire.invariant c.next_peer-peer.ensures.kept c.next_peer-peer.ensures.due
    (so_far_going c.loop-wire.invariant going) (c.in_err-frame.ensures)) gives)

pub loop-wire-smaller-in_default : goal.loop-wire-smaller-in_default
loop-wire-smaller-in_default g c =
    let going : c.loop-wire.core.round < c.loop-wire.core.rounds = not_over c.is_over.result c.loop-wire.core.rounds c.loop-wire.core.round c.is_over.ensures c.loop-wire-test.true in
    quiet_less c.next_peer-peer.result c.in_ok-frame.field-0 c.in_default.is c.loop-wire.invariant c.next_peer-peer.ensures.kept c.next_peer-peer.ensures.due
    (so_far_going c.loop-wire.invariant going) (c.in_ok-frame.ensures)

pub loop-wire-preserved-in_default : goal.loop-wire-preserved-in_default
loop-wire-preserved-in_default g c =
    let going : c.loop-wire.core.round < c.loop-wire.core.rounds = not_over c.is_over.result c.loop-wire.core.rounds c.loop-wire.core.round c.is_over.ensures c.loop-wire-test.true in
    so_far_quiet c.next_peer-peer.result c.in_ok-frame.field-0 c.in_default.is c.loop-wire.invariant c.next_peer-peer.ensures.kept c.next_peer-peer.ensures.due
    (so_far_going c.loop-wire.invariant going) (c.in_ok-frame.ensures)

pub loop-wire-smaller : goal.loop-wire-smaller
loop-wire-smaller g c =
    let going : c.loop-wire.core.round < c.loop-wire.core.rounds = not_over c.is_over.result c.loop-wire.core.rounds c.loop-wire.core.round c.is_over.ensures c.loop-wire-test.true in
    frame_less c.next_peer-peer.result c.in-Some.frame (word_of c.loop-wire.core.round (frame_of c.in-Some.frame)) refl c.loop-wire.invariant c.next_peer-peer.ensures.kept c.next_peer-peer.ensures.due
    (so_far_going c.loop-wire.invariant going) (rw c.in-Some.is at (c.in_ok-frame.ensures)) (c.in_ok-take_frame.ensures)

pub loop-wire-preserved : goal.loop-wire-preserved
loop-wire-preserved g c =
    let going : c.loop-wire.core.round < c.loop-wire.core.rounds = not_over c.is_over.result c.loop-wire.core.rounds c.loop-wire.core.round c.is_over.ensures c.loop-wire-test.true in
    so_far_frame c.next_peer-peer.result c.in-Some.frame c.loop-wire.invariant c.next_peer-peer.ensures.kept c.next_peer-peer.ensures.due
    (so_far_going c.loop-wire.invariant going) (rw c.in-Some.is at (c.in_ok-frame.ensures)) (c.in_ok-take_frame.ensures)

pub returns-in_err-take_frame-clause-runs : goal.returns-in_err-take_frame-clause-runs
returns-in_err-take_frame-clause-runs g c =
    let p = err_from_is_err_and c.from_residual-in_err-take_frame.result c.from_residual-in_err-take_frame.ensures.1 in
    let going : c.loop-wire.core.round < c.loop-wire.core.rounds = not_over c.is_over.result c.loop-wire.core.rounds c.loop-wire.core.round c.is_over.ensures c.loop-wire-test.true in
    rw (p.1, p.2) (so_far_ends c.next_peer-peer.result c.in-Some.frame c.in_err-take_frame.field-0.0 c.loop-wire.invariant c.next_peer-peer.ensures.kept c.next_peer-peer.ensures.due
    (so_far_going c.loop-wire.invariant going) (rw c.in-Some.is at (c.in_ok-frame.ensures)) (c.in_err-take_frame.ensures))

pub returns-in_err-take_frame-clause-complete : goal.returns-in_err-take_frame-clause-complete
returns-in_err-take_frame-clause-complete g c = λ gives.
    let p = err_from_is_err_and c.from_residual-in_err-take_frame.result c.from_residual-in_err-take_frame.ensures.1 in
    let going : c.loop-wire.core.round < c.loop-wire.core.rounds = not_over c.is_over.result c.loop-wire.core.rounds c.loop-wire.core.round c.is_over.ensures c.loop-wire-test.true in
    rw p.1 (RunsHub-complete (Err c.in_err-take_frame.field-0.0) c.requires.greeted.all (so_far_ends c.next_peer-peer.result c.in-Some.frame c.in_err-take_frame.field-0.0 c.loop-wire.invariant c.next_peer-peer.ensures.kept c.next_peer-peer.ensures.due
    (so_far_going c.loop-wire.invariant going) (rw c.in-Some.is at (c.in_ok-frame.ensures)) (c.in_err-take_frame.ensures)) gives)

pub returns-clause-runs : goal.returns-clause-runs
returns-clause-runs g c = so_far_over c.loop-wire.invariant (c.is_over.ensures.0 c.loop-wire-test.false)
