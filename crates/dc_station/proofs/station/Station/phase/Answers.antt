use Rattle.std.proofs.Common.{sym, subst}
use Rattle.dc_station.specs.StandsFor.{StandsFor}
use Rattle.dc_station.proofs.station.Station.phase.Goals as goal

pub returns : goal.returns
returns c = λ stream total words stands.
    let now = subst (λ s. StandsFor s stream total words) (sym c.self.view_is) stands in
    c.phase.ensures total words now.receives
