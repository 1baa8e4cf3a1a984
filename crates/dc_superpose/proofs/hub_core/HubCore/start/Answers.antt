use Rattle.std.proofs.Common.{◌≡◌, ◌*◌, refl}
use Rattle.dc_superpose.proofs.HubLemmas.{start_hub, start_stands}
use Rattle.dc_superpose.proofs.hub_core.HubCore.start.Goals as goal

pub invariant_of-result : goal.invariant_of-result
invariant_of-result c =
    let product : c.from.result * c.from-2.result ≡ c.args.rounds * c.args.stations = rw (c.from.ensures, c.from-2.ensures) refl in
    start_hub c.args.stations c.args.rounds (c.from.result * c.from-2.result) c.in_ok-words.words c.in_ok-there.there c.requires.some_stations c.requires.most_stations c.requires.some_rounds
    c.requires.most_rounds product c.in_ok-words.ensures c.in_ok-there.ensures

pub returns : goal.returns
returns c = start_stands c.args.stations c.args.rounds c.in_ok-words.words c.in_ok-there.there c.requires.some_stations c.requires.some_rounds c.in_ok-there.ensures
