use Rattle.std.proofs.Common.{sym}
use Rattle.dc_cli.proofs.CommandLemmas.{texts-front, no_player, ReadsAsPlayer-files}
use Rattle.dc_cli.proofs.command.player_at.Goals as goal

pub returns-in-Some : goal.returns-in-Some
returns-in-Some c =
    rw (texts-front c.args.rest.now c.digits-item.result c.in-len1-up.len_at_least)
    (rw (← c.digits-item.is, ← c.as_str.ensures.value) (ReadsAsPlayer-files _ _ _ _ _ (sym c.in-Some.ensures) c.player_with.ensures))

pub returns-in-None : goal.returns-in-None
returns-in-None c =
    no_player c.args.rest.now c.digits-item.result c.args.addr.now c.in-len1-up.len_at_least (rw (← c.digits-item.is, ← c.as_str.ensures.value) (sym c.in-None.ensures))
