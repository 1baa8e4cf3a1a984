use Rattle.std.proofs.Common.{sym}
use Rattle.dc_cli.proofs.CommandLemmas.{texts-front, no_length, ReadsAsLength-target}
use Rattle.dc_cli.proofs.command.hub_among.Goals as goal

pub returns-in-Some : goal.returns-in-Some
returns-in-Some c =
    rw (texts-front c.args.rest.now c.digits-item.result c.in-len1-up.len_at_least)
    (rw (← c.digits-item.is, ← c.as_str.ensures.value) (ReadsAsLength-target _ _ _ _ _ _ (sym c.in-Some.ensures) c.hub_for.ensures))

pub returns-in-None : goal.returns-in-None
returns-in-None c =
    no_length c.args.rest.now c.digits-item.result c.args.addr.now c.args.stations c.in-len1-up.len_at_least (rw (← c.digits-item.is, ← c.as_str.ensures.value) (sym c.in-None.ensures))
