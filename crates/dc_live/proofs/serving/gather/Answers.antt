use Rattle.std.proofs.Common.{arith}
use Rattle.std.proofs.lemmas.Result.{err_from_is_err_and}
use Rattle.dc_live.proofs.ServeLemmas.{GreetedSoFar-none, GreetedSoFar-more, GreetedSoFar-stops, GreetedSoFar-all}
use Rattle.dc_live.proofs.serving.gather.Goals as goal

pub loop-init : goal.loop-init
loop-init g c = GreetedSoFar-none c.requires.alone c.requires.free c.requires.seats (c.in_ok-listen_at.ensures)

pub greet_next-requires-clause-peers : goal.greet_next-requires-clause-peers
greet_next-requires-clause-peers g c = c.loop.invariant.greeted.peers

pub greet_next-requires-clause-free : goal.greet_next-requires-clause-free
greet_next-requires-clause-free g c =
    let low = c.loop-test.true in
    let last = c.stations-end.ensures in
    let counted = c.loop.invariant.counted in
    let same = c.loop.invariant.greeted.stations_are in
    omega arith

pub greet_next-requires-clause-seats : goal.greet_next-requires-clause-seats
greet_next-requires-clause-seats g c = c.loop.invariant.greeted.new

pub returns-in_err-greet_next : goal.returns-in_err-greet_next
returns-in_err-greet_next g c =
    let p = err_from_is_err_and c.from_residual-in_err-greet_next.result c.from_residual-in_err-greet_next.ensures.1 in
    let low = c.loop-test.true in
    let last = c.stations-end.ensures in
    rw (p.1, p.2) (GreetedSoFar-stops (g.W.Wire.state c.greet_next.new.wire) c.greet_next.new.seats c.greet_next.new.seats c.in_err-greet_next.field-0.0 c.loop.invariant (omega arith) (c.in_err-greet_next.ensures))

pub loop-preserved : goal.loop-preserved
loop-preserved g c = GreetedSoFar-more c.loop.invariant (c.in_ok-greet_next.ensures)

pub returns : goal.returns
returns g c =
    let ended = c.loop-test.false in
    let within = c.loop.auto.counter-end in
    let last = c.stations-end.ensures in
    GreetedSoFar-all c.loop.invariant (omega arith)
