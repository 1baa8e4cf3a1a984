use Rattle.std.proofs.Common.{sym, subst}
use Rattle.dc_station.specs.StandsFor.{ReceiverStandsFor}
use Rattle.dc_station.proofs.ReceivingLemmas.{phase_of}
use Rattle.dc_station.proofs.receiver.Receiver.phase.Goals as goal

pub returns : goal.returns
returns c = λ total words stands.
    let now = subst (λ s. ReceiverStandsFor s total words) (sym c.self.view_is) stands in
    phase_of c.self.inside.kept words now.receives
