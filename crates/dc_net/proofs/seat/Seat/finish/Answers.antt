use Rattle.std.proofs.Common.{ap, ◌∙◌}
use Rattle.dc_station_rules.specs.Stations.{log_of, pending_counts, sent_of}
use Rattle.dc_net.specs.Seat.{SeatState}
use Rattle.dc_net.specs.WordList.{column}
use Rattle.dc_net.proofs.seat.Seat.finish.Goals as goal

pub returns-clause-log : goal.returns-clause-log
returns-clause-log c =
    let received = column c.self.inside.seats c.self.inside.place c.self.inside.heard.value.words in
    c.into_log.ensures c.self.inside.file.now.words received c.self.invariant.receives ∙ ap (λ (s : SeatState). log_of s.received) c.self.view_is

pub returns-clause-sent : goal.returns-clause-sent
returns-clause-sent c =
    let received = column c.self.inside.seats c.self.inside.place c.self.inside.heard.value.words in
    c.into_log-2.ensures c.self.inside.stream.now c.self.inside.file.now.words received c.self.invariant.sends
    ∙ ap (λ (s : SeatState). sent_of s.stream s.received) c.self.view_is

pub returns-clause-pending : goal.returns-clause-pending
returns-clause-pending c =
    let received = column c.self.inside.seats c.self.inside.place c.self.inside.heard.value.words in
    c.pending-pending.ensures c.self.inside.file.now.words received c.self.invariant.sends
    ∙ ap (λ (s : SeatState). pending_counts s.stream s.received) c.self.view_is
