use Rattle.std.proofs.Common.{sym, subst, ap, ◌∙◌}
use Rattle.dc_station_rules.specs.Stations.{plain_word}
use Rattle.dc_station.specs.StandsFor.{StandsFor}
use Rattle.dc_station.proofs.station.Station.plain.Goals as goal

pub returns : goal.returns
returns c = λ stream total words stands.
    let now = subst (λ s. StandsFor s stream total words) (sym c.self.view_is) stands in
    c.plain.ensures total words now.sends now.receives ∙ ap (λ s. plain_word s words) now.own
