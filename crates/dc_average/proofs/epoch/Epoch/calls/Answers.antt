use Rattle.std.proofs.Common.{sym, ap, ◌∙◌, Some, rules}
use Rattle.dc_station_rules.specs.Epochs.{is_called}
use Rattle.dc_average.proofs.TakeLemmas.{called_by}
use Rattle.dc_average.proofs.epoch.Epoch.calls.Goals as goal

pub returns-in-Some : goal.returns-in-Some
returns-in-Some c = λ words stands. (c.calls.ensures ∙ ap (λ n. is_called n (Some c.in-Some.top)) c.number.ensures.number) ∙ sym (called_by c.args.self.now words c.args.v.now c.self.inside.begun c.self.inside.stack c.in-Some.top c.self.view_is (search rules) (sym c.in-Some.ensures.top) stands)
