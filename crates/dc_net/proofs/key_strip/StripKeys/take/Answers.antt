use Rattle.std.proofs.Common.{◌<◌, subst, ◌∙◌}
use Rattle.dc_keys.specs.StationPads.{station_pads}
use Rattle.dc_net.specs.KeyStrip.{stations_in, StripStandsFor, IsAmong}
use Rattle.dc_net.specs.declared.key_strip.StripKeys.{StripKeys}
use Rattle.dc_net.proofs.key_strip.StripKeys.take.Goals as goal

pub returns-in-Many-clause-stands : goal.returns-in-Many-clause-stands
returns-in-Many-clause-stands c = λ s keys station received lt stands.
    let many : IsAmong c.in-Many.keys s keys station received = subst (λ (own : StripKeys). StripStandsFor own s keys station received) c.in-Many.is stands in
    let low : s < c.in-Many.keys.stations = subst (λ (own : StripKeys). s < stations_in own) c.in-Many.is lt in
    record {
      are_keys = many.are_keys;
      session = c.take-in-Many.ensures.words ∙ many.session;
      stands = c.take-in-Many.ensures.stands s (station_pads keys station) received low many.stands;
    }
