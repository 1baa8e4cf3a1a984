use Rattle.std.proofs.Common.{ℕ, List, Err, ◌≡◌, ◌/◌, length, ap, ◌∙◌, subst, arith}
use Rattle.std.proofs.lemmas.Result.{err_from_is_err_and}
use Rattle.dc_frame.specs.Frames.{frame_of}
use Rattle.dc_live.specs.StationSession.{greeting_of}
use Rattle.dc_live.proofs.StationLemmas.{SoFar, SoFar-greeted, SoFar-next, SoFar-done, SoFar-unsaid, SoFar-unheard, greeting-unsaid, RunsStation-complete}
use Rattle.dc_live.proofs.station.station_session.Goals as goal

pub returns-in_err-send_frame-clause-runs : goal.returns-in_err-send_frame-clause-runs
returns-in_err-send_frame-clause-runs g c =
    let p = err_from_is_err_and c.from_residual.result c.from_residual.ensures.1 in
    rw (p.1, p.2) (greeting-unsaid (frame_of c.args.hello.now) c.in_err-send_frame.field-0.0 c.requires.hello c.requires.before (c.in_err-send_frame.ensures))

pub loop-round-init : goal.loop-round-init
loop-round-init g c = SoFar-greeted (frame_of c.args.hello.now) c.requires.hello c.requires.before c.new-reader.ensures (c.in_ok-send_frame.ensures)

pub returns-in_err-say_word-clause-runs : goal.returns-in_err-say_word-clause-runs
returns-in_err-say_word-clause-runs g c =
    let p = err_from_is_err_and c.from_residual-in_err-say_word.result c.from_residual-in_err-say_word.ensures.1 in
    let low = c.loop-round-test.true in
    let last = c.words_of-round-end.ensures in
    rw (p.1, p.2) (SoFar-unsaid c.in_err-say_word.field-0.0 (omega arith) c.loop-round.invariant (c.in_err-say_word.ensures))

pub returns-in_err-sum-clause-runs : goal.returns-in_err-sum-clause-runs
returns-in_err-sum-clause-runs g c =
    let p = err_from_is_err_and c.from_residual-in_err-sum.result c.from_residual-in_err-sum.ensures.1 in
    let low = c.loop-round-test.true in
    let last = c.words_of-round-end.ensures in
    rw (p.1, p.2) (SoFar-unheard c.in_err-sum.field-0.0 (omega arith) c.loop-round.invariant (c.in_ok-say_word.ensures) (c.in_err-sum.ensures))

pub returns-in_err-sum-clause-complete : goal.returns-in_err-sum-clause-complete
returns-in_err-sum-clause-complete g c = λ gives.
    let p = err_from_is_err_and c.from_residual-in_err-sum.result c.from_residual-in_err-sum.ensures.1 in
    let low = c.loop-round-test.true in
    let last = c.words_of-round-end.ensures in
    let fault = c.in_err-sum.field-0.0 in
    rw p.1 (RunsStation-complete (Err fault) (SoFar-unheard fault (omega arith) c.loop-round.invariant (c.in_ok-say_word.ensures) (c.in_err-sum.ensures)) gives)

pub loop-round-preserved : goal.loop-round-preserved
loop-round-preserved g c =
    let low = c.loop-round-test.true in
    let last = c.words_of-round-end.ensures in
    let at = c.loop-round.invariant.at in
    let received = at.received in
    let taken = at.taken in
    SoFar-next c.in_ok-sum.sum (omega arith) c.loop-round.invariant (c.in_ok-say_word.ensures) (c.in_ok-sum.ensures)
    (record {
      received = omega (arith, c.receive.ensures.counted);
      session = c.receive.ensures.same_total ∙ at.session;
      taken = omega (arith, c.take.ensures.counted);
      pads = ap (λ (b : List ℕ). length b / 16) c.take.ensures.same_pads ∙ at.pads;
    })
    c.receive.ensures.stands c.take.ensures.stands

pub returns-clause-runs : goal.returns-clause-runs
returns-clause-runs g c =
    let ended = c.loop-round-test.false in
    let within = c.loop-round.auto.round-end in
    let last = c.words_of-round-end.ensures in
    let same : c.loop-round.round ≡ (greeting_of (frame_of c.args.hello.now)).words = omega arith in
    SoFar-done (subst (λ (n : ℕ). SoFar c.args.peer n (greeting_of (frame_of c.args.hello.now)) c.args.st.now c.loop-round.st c.args.mask.now c.loop-round.mask c.loop-round.reader
    (g.W.Wire.state c.args.wire.now) (g.W.Wire.state c.loop-round.wire)) same c.loop-round.invariant)
