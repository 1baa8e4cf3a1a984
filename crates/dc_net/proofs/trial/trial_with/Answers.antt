use Rattle.std.proofs.Common.{◌≡◌, refl, ◌∙◌, ap, sym, subst}
use Rattle.dc_graph.specs.Graph.{PlainGraph}
use Rattle.dc_keyfile.specs.Generator.{generated_keys}
use Rattle.dc_net.specs.Checked.{IsChecked}
use Rattle.dc_net.specs.TrialNets.{trial_base}
use Rattle.dc_net.proofs.TrialAgrees.{trial_checked, trial_made}
use Rattle.dc_net.proofs.trial.trial_with.Goals as goal

pub of_agreeing-requires : goal.of_agreeing-requires
of_agreeing-requires c =
    let keys : c.args.keys ≡ generated_keys (trial_base c.args.seed) c.args.graph c.args.words = c.requires.keys in
    subst IsChecked (sym (trial_made c.args.seed c.args.stations c.args.words _ _ _ _ _ _ _ c.trial_base.ensures
    refl c.requires.graph c.empty-coalition.ensures (keys ∙ ap (λ b. generated_keys b c.args.graph c.args.words) (sym c.trial_base.ensures)) c.in_ok-script.ensures c.in_ok-streams.ensures))
    (trial_checked c.args.seed c.args.stations c.args.words)

pub returns : goal.returns
returns c =
    let keys : c.args.keys ≡ generated_keys (trial_base c.args.seed) c.args.graph c.args.words = c.requires.keys in
    c.of_agreeing.ensures ∙ trial_made c.args.seed c.args.stations c.args.words _ _ _ _ _ _ _ c.trial_base.ensures
    refl c.requires.graph c.empty-coalition.ensures (keys ∙ ap (λ b. generated_keys b c.args.graph c.args.words) (sym c.trial_base.ensures)) c.in_ok-script.ensures c.in_ok-streams.ensures
