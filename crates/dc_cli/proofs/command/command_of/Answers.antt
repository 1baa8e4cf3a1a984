use Rattle.std.proofs.Common.{rules, tests}
use Rattle.dc_cli.proofs.CommandLemmas.{texts-front, no_words}
use Rattle.dc_cli.proofs.command.command_of.Goals as goal

pub returns-in-len1-up : goal.returns-in-len1-up
returns-in-len1-up c =
    rw (texts-front c.args.words.now c.verb-item.result c.in-len1-up.len_at_least) (rw (← c.verb-item.is, ← c.as_str.ensures.value) c.command_with.ensures)

pub returns-in_default : goal.returns-in_default
returns-in_default c = no_words c.args.words.now (search (rules, tests))
