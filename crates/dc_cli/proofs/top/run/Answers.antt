use Rattle.std.proofs.Common.{rules}
use Rattle.dc_cli.proofs.RanLemmas.{Ran-command, Spells-runnable}
use Rattle.dc_cli.proofs.top.run.Goals as goal

pub returns-in-Ok : goal.returns-in-Ok
returns-in-Ok g c = Ran-command _ _ _ _ _ _ _ _ _ c.in-Ok.ensures c.run_command.ensures.wire c.run_command.ensures.ran

pub run_command-requires-clause-runnable : goal.run_command-requires-clause-runnable
run_command-requires-clause-runnable g c = let runnable = Spells-runnable _ _ c.in-Ok.ensures in search rules
