use Rattle.std.proofs.Common.{◌≡◌, List, [], length, get_or, map, subst, ap, ◌∙◌, arith}
use Rattle.std.proofs.lemmas.List.{length-map, get_or-map}
use Rattle.dc_spec.specs.Pads.{Keys}
use Rattle.dc_formats.specs.KeyFile.{IsKeys}
use Rattle.dc_keys.specs.StationPads.{StationPads, station_pads}
use Rattle.dc_fast_keys.specs.NetKeys.{StandsFor}
use Rattle.dc_net.proofs.key_strip.StripKeys.start.Goals as goal

pub returns-clause-stands : goal.returns-clause-stands
returns-clause-stands c = λ s lt.
    let keys = c.args.file.now in
    let stations = c.args.stations.now in
    let none : StationPads = record { first = []; second = [] } in
    let pads : c.deref.result.now ≡ map (station_pads c.args.file.now) c.args.stations.now = c.deref.ensures.value ∙ c.in_ok-pads.ensures in
    let long = ap (λ (ps : List StationPads). length ps) pads ∙ length-map c.args.stations.now (station_pads c.args.file.now) in
    let here = ap (λ (ps : List StationPads). get_or ps s none) pads ∙ get_or-map (station_pads c.args.file.now) c.args.stations.now s 0 none lt in
    record {
      are_keys = subst IsKeys c.file.view_is c.file.invariant;
      session = c.in_ok-keys.ensures.words ∙ ap (λ (k : Keys). k.words) c.file.view_is;
      stands = subst (λ (p : StationPads). StandsFor c.in_ok-keys.keys s p []) here (c.in_ok-keys.ensures.stands s none (omega arith));
    }
