use Rattle.std.proofs.Common.{◌≡◌, List, sym, ap, subst, ◌∙◌, arith}
use Rattle.std.specs.Result.{IfOk}
use Rattle.std.specs.Vec.{with_items}
use Rattle.std.proofs.lemmas.List.{with_items_is}
use Rattle.dc_spec.specs.Net.{Run}
use Rattle.dc_net_rules.specs.Runs.{Round, run_of}
use Rattle.dc_net_rules.proofs.RoundLemmas.{rounds_none}
use Rattle.dc_net.specs.Run.{IsRecorded, AreKeyed, seats_after}
use Rattle.dc_net.proofs.RunIs.{run_is}
use Rattle.dc_net.proofs.running.run.Goals as goal

pub play-requires-clause-seats : goal.play-requires-clause-seats
play-requires-clause-seats g c = λ κs lives. c.deref_mut.ensures.value ∙ c.in_ok-seats.ensures
    ∙ ap (λ (played : List Round). seats_after c.net-net.result.now played) (sym (rounds_none c.net-net.result.now))

pub play-requires-clause-keyed : goal.play-requires-clause-keyed
play-requires-clause-keyed g c = λ κs lives. subst (λ (played : List Round). AreKeyed c.net-net.result.now played c.in_ok-keys.keys)
    (sym (rounds_none c.net-net.result.now)) c.in_ok-keys.ensures

pub play-requires-clause-recorded : goal.play-requires-clause-recorded
play-requires-clause-recorded g c = λ κs lives. subst (λ (played : List Round). IsRecorded c.net-net.result.now played c.in_ok-book.book)
    (sym (rounds_none c.net-net.result.now)) c.in_ok-book.ensures

pub returns : goal.returns
returns g c =
    let kept = with_items_is c.in_ok-seats.seats c.play.new.seats (let long = c.play.auto.seats in let len = c.deref_mut.ensures.len in omega arith) in
    let is = run_is c.net-net.result.now (with_items c.in_ok-seats.seats c.play.new.seats).items
    (record { words = c.play.new.book.words; sums = c.play.new.book.sums; delivered = c.play.new.book.delivered; said = c.play.new.book.said }) (kept
    ∙ c.in_ok-play.ensures.seats) c.in_ok-play.ensures.recorded in
    subst (λ (r : Run). IfOk c.finished.result (λ played. played ≡ r)) (is ∙ ap run_of c.net-net.ensures.value) c.finished.ensures
