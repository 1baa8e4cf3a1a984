use Rattle.std.proofs.Common.{◌<◌, subst, ◌∙◌, arith}
use Rattle.dc_keys.specs.StationPads.{station_pads}
use Rattle.dc_net.specs.KeyStrip.{taken_in, total_in, StripStandsFor, IsAmong}
use Rattle.dc_net.specs.declared.key_strip.StripKeys.{StripKeys}
use Rattle.dc_net.proofs.key_strip.StripKeys.word.Goals as goal

pub returns-in-Many : goal.returns-in-Many
returns-in-Many c = λ keys station received stands.
    let many : IsAmong c.in-Many.keys c.args.s keys station received = subst (λ (own : StripKeys). StripStandsFor own c.args.s keys station received) c.in-Many.is stands in
    let left : c.in-Many.keys.taken < c.in-Many.keys.words = subst (λ (own : StripKeys). taken_in own < total_in own) c.in-Many.is c.requires.left in
    c.word-in-Many.ensures.summed (station_pads keys station) received many.stands
    ∙ c.summed_pads_law.ensures keys station received many.are_keys (omega (arith, many.stands.taken, many.session))
