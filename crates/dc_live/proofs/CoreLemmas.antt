-- What the core of a hub answers to a word that is due.
use Rattle.std.proofs.Common.{◌≡◌, ℕ, List, [], ◌∷◌, ◌++◌, Option, Some, None, Result, Ok, Err, sym, ap, subst, ◌∙◌}
use Rattle.dc_hub_rules.specs.Hubs.{Arrival, reply}
use Rattle.dc_superpose.specs.HubCore.{HubState, StandsFor}
use Rattle.dc_superpose.specs.HubSteps.{answer_of, Counts}
use Rattle.dc_superpose.specs.declared.hub_step.HubStep.{HubStep}
use Rattle.dc_superpose.specs.declared.hub_step.HubStep.TheVariants.{Waiting, Complete}
use Rattle.dc_superpose.specs.declared.hub_fault.HubFault.{HubFault}
use Rattle.dc_live.specs.HubSteps.{FeedsCore, sum_in}

-- the sum that an answer of the core gives
pub complete_is : (answer : Result HubStep HubFault) (step : HubStep) (sum : List ℕ) → answer ≡ Ok step → step ≡ Complete sum → Some sum ≡ sum_in answer
complete_is answer step sum is same = sym (ap sum_in (is ∙ ap (λ (s : HubStep). Ok s) same))

pub waiting_is : (answer : Result HubStep HubFault) (step : HubStep) (missing : ℕ) → answer ≡ Ok step → step ≡ Waiting missing → None ≡ sum_in answer
waiting_is answer step missing is same = sym (ap sum_in (is ∙ ap (λ (s : HubStep). Ok s) same))

pub refused_is : (answer : Result HubStep HubFault) (fault : HubFault) → answer ≡ Err fault → None ≡ sum_in answer
refused_is answer fault is = sym (ap sum_in is)

-- a word for the round in progress
pub feeds : (station now : ℕ) (word : List ℕ) (c new : HubState) (answer : Result HubStep HubFault) (sum : Option (List ℕ)) → now ≡ c.round → sum ≡ sum_in answer
    → ((n rounds : ℕ) (arrivals : List Arrival) → StandsFor c n rounds arrivals → answer ≡ answer_of (reply n rounds arrivals (record { station = station; round = now; word = word })))
    → ((n rounds : ℕ) (arrivals : List Arrival) → StandsFor c n rounds arrivals → StandsFor new n rounds (arrivals ++ record { station = station; round = now; word = word } ∷ []))
    → Counts c new answer → FeedsCore station word c new sum
feeds station now word c new answer sum same sum_is replies stands counts = record {
  answer = answer;
  sum_is = sum_is;
  replies = subst (λ (t : ℕ). (n rounds : ℕ) (arrivals : List Arrival) → StandsFor c n rounds arrivals → answer ≡ answer_of (reply n rounds arrivals (record { station = station; round = t; word = word }))) same replies;
  stands = subst (λ (t : ℕ). (n rounds : ℕ) (arrivals : List Arrival) → StandsFor c n rounds arrivals → StandsFor new n rounds (arrivals ++ record { station = station; round = t; word = word } ∷ [])) same stands;
  counts = counts;
}
