use Rattle.std.proofs.Common.{sym, subst, ap, ◌∙◌}
use Rattle.dc_station_rules.specs.Stations.{sent_of}
use Rattle.dc_station.specs.StandsFor.{StandsFor}
use Rattle.dc_station.proofs.station.Station.finish.Goals as goal

pub returns-clause-sent : goal.returns-clause-sent
returns-clause-sent c = λ stream total words stands.
    let now = subst (λ s. StandsFor s stream total words) (sym c.self.view_is) stands in
    c.into_log-2.ensures c.self.inside.stream total words now.sends ∙ ap (λ s. sent_of s words) now.own
