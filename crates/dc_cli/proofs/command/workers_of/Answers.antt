use Rattle.dc_cli.proofs.CommandLemmas.{texts-front, ReadsAsWorkers-count}
use Rattle.dc_cli.proofs.command.workers_of.Goals as goal

pub returns-in-len1-up : goal.returns-in-len1-up
returns-in-len1-up c =
    rw (texts-front c.args.rest.now c.option-item.result c.in-len1-up.len_at_least)
    (rw (← c.option-item.is, ← c.as_str.ensures.value) (ReadsAsWorkers-count _ _ _ _ c.if-eq.ensures c.count_of.ensures))
