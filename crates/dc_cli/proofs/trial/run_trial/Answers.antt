use Rattle.std.proofs.Common.{subst}
use Rattle.dc_spec.specs.Net.{Net}
use Rattle.dc_cli.specs.Trials.{SummaryRan}
use Rattle.dc_cli.proofs.trial.run_trial.Goals as goal

pub returns-in-Ok : goal.returns-in-Ok
returns-in-Ok g c =
    let P : Net → Type 0 = λ net. SummaryRan c.args.seed c.args.stations c.args.words net
    (g.K.Sink.state c.args.out.now) (g.K.Sink.state c.summed_run.new.out) c.summed_run.result in
    subst P c.in-Ok.ensures c.summed_run.ensures
