use Rattle.std.proofs.Common.{◌≡◌, ◌≢◌, refl}
use Rattle.dc_cli.specs.Lines.{outcome_line, fault_line}
use Rattle.dc_cli.specs.declared.outcome.Outcome.{Outcome}
use Rattle.dc_cli.specs.declared.outcome.Outcome.TheVariants.{Done}
use Rattle.dc_cli.proofs.fault_line.put_fault.Goals as goal

-- every outcome but `Done` has its line
line-not_done : (o : Outcome) → o ≢ Done → fault_line o ≡ outcome_line o
line-not_done Done not_done = absurd (not_done refl)
line-not_done _ not_done = refl

pub returns-in_default : goal.returns-in_default
returns-in_default g c = rw (line-not_done c.args.o.now c.in_default.not-Done) c.put_whole_line.ensures
