use Rattle.std.proofs.Common.{◌<◌, ℕ, subst, ap}
use Rattle.dc_formats.specs.KeyFile.{IsKeys}
use Rattle.dc_net_files.specs.declared.station.StationParts.{StationParts}
use Rattle.dc_cli.specs.Playing.{IsPlayerOf}
use Rattle.dc_cli.proofs.PlayingLemmas.{plays_as}
use Rattle.dc_cli.proofs.playing.play_as.Goals as goal

pub returns-in-Ok : goal.returns-in-Ok
returns-in-Ok g c =
    let Below : ℕ → Type 0 = λ n. c.args.id < n in
    let Plays : StationParts → Type 0 = λ q. IsPlayerOf c.args.id q.keys q.stream c.in-Ok.player in
    plays_as _ _ c.args.parts c.in-Ok.player _ _ _ _ _
    (subst IsKeys (ap (λ (q : StationParts). q.keys) c.parts.view_is) c.in-Ok.ensures.keys)
    (subst Below (ap (λ (q : StationParts). q.keys.stations) c.parts.view_is) c.if-stations-id.false)
    (subst Plays c.parts.view_is c.in-Ok.ensures.player) c.play.ensures
