use Rattle.std.proofs.Common.{◌≡◌, ap, ◌∙◌}
use Rattle.dc_net_rules.specs.Runs.{honest_stations}
use Rattle.dc_view.proofs.ViewText.{logs_text-by_place}
use Rattle.dc_view.proofs.logs.put_logs.Goals as goal

pub returns : goal.returns
returns g c =
    let honest : c.as_slice.result.now ≡ honest_stations c.args.net.now =
    c.as_slice.ensures.value ∙ (rw c.stations.ensures.value at c.honest_of-honest.ensures) ∙ ap honest_stations (c.net.view_is ∙ c.net-net.ensures.value) in
    rw (logs_text-by_place c.args.net.now c.args.run.now c.as_slice.result.now honest) c.put_honest.ensures
