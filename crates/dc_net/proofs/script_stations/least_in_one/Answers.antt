use Rattle.std.proofs.Common.{◌≡◌, ℕ, ◌<◌, List, length, get_or, refl, sym, ap, ◌∙◌, arith}
use Rattle.std.proofs.lemmas.List.{length-map, get_or-map}
use Rattle.dc_spec.specs.Scripts.{Said, stations_of}
use Rattle.dc_net.proofs.Differences.{least_is_first, goes_on, finds_lesser, finds_first, finds_second, finds_none}
use Rattle.dc_net.proofs.script_stations.least_in_one.Goals as goal

station_at : (listed : List Said) (i station : ℕ) (said : Said) → i < length listed → said ≡ get_or listed i said → said.station ≡ station → get_or (stations_of listed) i 0 ≡ station
station_at listed i station said lt at is = get_or-map (λ (s : Said). s.station) listed i said 0 lt ∙ sym (ap (λ (s : Said). s.station) at) ∙ is

pub returns-then-i-stations : goal.returns-then-i-stations
returns-then-i-stations c =
    sym (least_is_first (stations_of c.args.listed.now) c.args.stations.now c.requires.listed c.requires.stations ∙ c.loop-i.invariant.1
    ∙ finds_first (stations_of c.args.listed.now) c.args.stations.now c.loop-i.i c.said.inside.station
    (omega (arith, length-map c.args.listed.now (λ (s : Said). s.station))) (omega arith)
    (station_at c.args.listed.now c.loop-i.i c.said.inside.station c.index-listed-i.result c.loop-i-test.true
    c.index-listed-i.is (ap (λ (s : Said). s.station) (sym c.said.view_is))))

pub returns-then-station-stations : goal.returns-then-station-stations
returns-then-station-stations c =
    sym (least_is_first (stations_of c.args.listed.now) c.args.stations.now c.requires.listed c.requires.stations ∙ c.loop-i.invariant.1
    ∙ finds_lesser (stations_of c.args.listed.now) c.args.stations.now c.loop-i.i c.said.inside.station (get_or c.args.stations.now c.loop-i.i 0) c.min.result
    (omega (arith, length-map c.args.listed.now (λ (s : Said). s.station))) (omega arith)
    (station_at c.args.listed.now c.loop-i.i c.said.inside.station c.index-listed-i.result c.loop-i-test.true
    c.index-listed-i.is (ap (λ (s : Said). s.station) (sym c.said.view_is)))
    refl c.if-station-stations.true c.min.ensures)

pub loop-i-preserved : goal.loop-i-preserved
loop-i-preserved c = (
  omega arith,
  c.loop-i.invariant.1
      ∙ goes_on (stations_of c.args.listed.now) c.args.stations.now c.loop-i.i c.said.inside.station (get_or c.args.stations.now c.loop-i.i 0)
      (omega (arith, length-map c.args.listed.now (λ (s : Said). s.station))) (omega arith)
      (station_at c.args.listed.now c.loop-i.i c.said.inside.station c.index-listed-i.result c.loop-i-test.true
      c.index-listed-i.is (ap (λ (s : Said). s.station) (sym c.said.view_is)))
      refl c.if-station-stations.false,
)

pub returns-then-listed-stations : goal.returns-then-listed-stations
returns-then-listed-stations c =
    let end = c.loop-i-test.false in
    sym (least_is_first (stations_of c.args.listed.now) c.args.stations.now c.requires.listed c.requires.stations ∙ c.loop-i.invariant.1
    ∙ finds_second (stations_of c.args.listed.now) c.args.stations.now c.loop-i.i (get_or c.args.stations.now (length c.args.listed.now) 0)
    (omega (arith, length-map c.args.listed.now (λ (s : Said). s.station))) (omega arith)
    (let at : c.loop-i.i ≡ length c.args.listed.now = omega arith in ap (λ k. get_or c.args.stations.now k 0) at))

pub returns : goal.returns
returns c =
    let end = c.loop-i-test.false in
    sym (least_is_first (stations_of c.args.listed.now) c.args.stations.now c.requires.listed c.requires.stations ∙ c.loop-i.invariant.1
    ∙ finds_none (stations_of c.args.listed.now) c.args.stations.now c.loop-i.i
    (omega (arith, length-map c.args.listed.now (λ (s : Said). s.station))) (omega arith))
