use Rattle.std.proofs.Common.{sym, subst, ap, ◌∙◌}
use Rattle.dc_station_rules.specs.Stations.{pending_counts}
use Rattle.dc_station.specs.StandsFor.{StandsFor}
use Rattle.dc_station.proofs.station.Station.pending.Goals as goal

pub returns : goal.returns
returns c = λ stream total words stands.
    let now = subst (λ s. StandsFor s stream total words) (sym c.self.view_is) stands in
    c.pending.ensures total words now.sends ∙ ap (λ s. pending_counts s words) now.own
