use Rattle.std.proofs.Common.{sym, ◌∙◌}
use Rattle.dc_cli.proofs.CommandLemmas.{texts-front, ReadsAsSteer-ends}
use Rattle.dc_cli.proofs.command.steer_of.Goals as goal

pub returns-in-len1-up : goal.returns-in-len1-up
returns-in-len1-up c =
    let same = c.as_str-in-len1-up.ensures.value ∙ sym c.as_str.ensures.value in
    rw (texts-front c.args.rest.now c.net-item.result c.in-len1-up.len_at_least)
    (rw (← c.net-item.is, ← c.as_str-in-len1-up.ensures.value) (ReadsAsSteer-ends _ _ _ (rw same (sym c.if-is_name.ensures)) c.steer_with.ensures))
