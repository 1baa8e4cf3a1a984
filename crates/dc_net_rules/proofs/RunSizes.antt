-- How many sums a run records.
use Rattle.std.proofs.Common.{◌≡◌, length, sym, ◌∙◌}
use Rattle.std.proofs.lemmas.List.{length-map}
use Rattle.dc_spec.specs.Net.{Net}
use Rattle.dc_net_rules.specs.Runs.{Round, run_of, all_rounds}
use Rattle.dc_net_rules.specs.Agreement.{Agrees}
use Rattle.dc_net_rules.proofs.RoundLemmas.{length-rounds_of}
use Rattle.dc_net_rules.proofs.Agreeing.{all_agree}

-- one for each round of the script
pub length-sums : (net : Net) → Agrees net → length (run_of net).sums ≡ length net.script.rounds
length-sums net agrees = length-map (all_rounds net) (λ (round : Round). round.sum) ∙ length-rounds_of net net.words ∙ sym (all_agree net agrees).rounds
