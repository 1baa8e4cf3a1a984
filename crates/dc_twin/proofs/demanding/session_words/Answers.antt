use Rattle.std.proofs.Common.{ap, ◌∙◌}
use Rattle.dc_spec.specs.Pads.{Keys}
use Rattle.dc_spec.specs.Net.{Net}
use Rattle.dc_net_rules.proofs.Agreeing.{all_agree}
use Rattle.dc_twin.proofs.demanding.session_words.Goals as goal

pub returns-clause-value : goal.returns-clause-value
returns-clause-value c =
    ap (λ (k : Keys). k.words) c.keys.view_is ∙ ap (λ (n : Net). n.keys.words) c.net.view_is ∙ (all_agree c.args.net.now c.requires.agrees).words
