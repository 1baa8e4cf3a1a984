use Rattle.std.proofs.Common.{sym, subst, ◌∙◌}
use Rattle.dc_station.specs.StandsFor.{SenderStandsFor}
use Rattle.dc_station.specs.Receiving.{Receives}
use Rattle.dc_station.proofs.StationLemmas.{plain_reservation, plain_burst, plain_epoch}
use Rattle.dc_station.proofs.sender.Sender.plain.Goals as goal

pub returns-in-Reserve : goal.returns-in-Reserve
returns-in-Reserve c = λ total words stands receiver.
    let now = subst (λ s. SenderStandsFor s c.args.stream.now total words) (sym c.self.view_is) stands in
    let receives = subst (λ r. Receives r words) (sym c.kept-kept.ensures.kept) receiver.receives in
    c.reservation_word.ensures ∙ plain_reservation c.kept-kept.result.now c.self.inside.progress c.args.stream.now words c.in-Reserve.is receives now.sends

pub returns-in-Burst : goal.returns-in-Burst
returns-in-Burst c = λ total words stands receiver.
    let now = subst (λ s. SenderStandsFor s c.args.stream.now total words) (sym c.self.view_is) stands in
    let receives = subst (λ r. Receives r words) (sym c.kept-kept.ensures.kept) receiver.receives in
    c.burst_word.ensures ∙ plain_burst c.kept-kept.result.now c.self.inside.progress c.args.stream.now words c.in-Burst.field c.in-Burst.index c.in-Burst.is receives now.sends

pub returns-in-Epoch : goal.returns-in-Epoch
returns-in-Epoch c = λ total words stands receiver.
    let now = subst (λ s. SenderStandsFor s c.args.stream.now total words) (sym c.self.view_is) stands in
    let receives = subst (λ r. Receives r words) (sym c.kept-kept.ensures.kept) receiver.receives in
    plain_epoch c.kept-kept.result.now c.self.inside.progress c.args.stream.now words c.epoch_word.result c.in-Epoch.is c.epoch_word.ensures receives now.sends
