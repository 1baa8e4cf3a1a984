use Rattle.std.proofs.Common.{sym, ap, ◌∙◌, rules}
use Rattle.dc_station_rules.specs.Epochs.{for_at_most}
use Rattle.dc_average.proofs.TakeLemmas.{asked_by}
use Rattle.dc_average.proofs.StackLemmas.{top_some}
use Rattle.dc_average.proofs.epoch.Epoch.ask.Goals as goal

pub returns-in-Some-clause-ask : goal.returns-in-Some-clause-ask
returns-in-Some-clause-ask c = λ words stands. ap for_at_most c.mean.ensures.mean ∙ sym (asked_by c.args.self.now words c.self.inside.begun c.self.inside.stack c.in-Some.top c.self.view_is (search rules) (sym c.in-Some.ensures.top) stands)

pub mean-requires : goal.mean-requires
mean-requires c = top_some c.self.inside.stack c.in-Some.top c.in-Some.ensures.stack.some c.in-Some.ensures.top
