use Rattle.std.proofs.Common.{refl, sym, ◌∙◌}
use Rattle.std.specs.Prelude.{codes}
use Rattle.dc_cli.proofs.CommandLemmas.{texts_one, same_text}
use Rattle.dc_cli.proofs.command.keygen_by.Goals as goal

pub returns-in-len1 : goal.returns-in-len1
returns-in-len1 c =
    let one = texts_one c.args.flags.now c.flag-item.result c.in-len1.len_at_least c.in-len1.len_below in
    let flag = same_text c.as_str.result.now (codes "--seeds") (sym c.eq.ensures ∙ c.if-eq.true) in
    (refl, refl, refl, rw (one, ← c.flag-item.is, ← c.as_str.ensures.value, flag) refl)
