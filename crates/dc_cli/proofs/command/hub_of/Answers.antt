use Rattle.std.proofs.Common.{sym, ◌∙◌}
use Rattle.dc_cli.proofs.CommandLemmas.{texts-front, ReadsAsHub-hosted}
use Rattle.dc_cli.proofs.command.hub_of.Goals as goal

pub returns-in-len1-up : goal.returns-in-len1-up
returns-in-len1-up c =
    let same = c.as_str-in-len1-up.ensures.value ∙ sym c.as_str.ensures.value in
    rw (texts-front c.args.rest.now c.addr-item.result c.in-len1-up.len_at_least)
    (rw (← c.addr-item.is, ← c.as_str-in-len1-up.ensures.value) (ReadsAsHub-hosted _ _ _ (rw same (sym c.if-is_name.ensures)) c.hub_at.ensures))
