use Rattle.std.proofs.Common.{◌≡◌, ◌<◌, ap, ◌∙◌, arith}
use Rattle.dc_spec.specs.Net.{Net}
use Rattle.dc_net_rules.specs.Agreement.{stream_fault}
use Rattle.dc_net.specs.Faults.{fault_of}
use Rattle.dc_net.proofs.FirstBy.{number_found, number_passed}
use Rattle.dc_net.proofs.stream_checks.streams_fault.Goals as goal

pub returns-in-Some : goal.returns-in-Some
returns-in-Some c =
    let net = c.args.net.now in
    let stations : c.stations-stations.result ≡ net.stations = c.stations-stations.ensures.value ∙ ap (λ (n : Net). n.stations) c.net.view_is in
    let below : c.loop-station.station < net.stations = omega arith in
    number_found fault_of (stream_fault net) c.loop-station.station net.stations c.in-Some.fault below
    c.loop-station.invariant c.in-Some.ensures

pub loop-station-preserved : goal.loop-station-preserved
loop-station-preserved c =
    let net = c.args.net.now in
    let stations : c.stations-stations.result ≡ net.stations = c.stations-stations.ensures.value ∙ ap (λ (n : Net). n.stations) c.net.view_is in
    let below : c.loop-station.station < net.stations = omega arith in
    number_passed fault_of (stream_fault net) c.loop-station.station net.stations below c.loop-station.invariant c.in-None.ensures
