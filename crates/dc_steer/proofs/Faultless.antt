-- There is no fault exactly where the two may be steered.
use Rattle.std.proofs.Common.{◌≡◌, ℕ, ◌+◌, ◌-◌, ◌/◌, ◌↔◌, List, length, None, refl, sym, ◌∙◌}
use Rattle.dc_spec.specs.Net.{Net}
use Rattle.dc_net_rules.specs.Nets.{IsNet}
use Rattle.dc_steering_rules.specs.Counting.{MaySteer}
use Rattle.dc_steer.specs.Faults.{heard_difference, steer_fault}
use Rattle.dc_steer.specs.Tests.{ends_fault, rounds_fault}
use Rattle.dc_steer.proofs.FaultChain.{ends_faultless, fine_ends}
use Rattle.dc_steer.proofs.HonestEnds.{ends_good, no_ends_fault, neighbours_if, ends_if}
use Rattle.dc_steer.proofs.LaterRounds.{AreSteerable, rounds_good, no_rounds_fault}

-- the tests of both groups
pub may_steer : (net : Net) (u v : ℕ) (wanted : List (List ℕ)) → IsNet net → ends_fault net u v ≡ None → rounds_fault net (heard_difference net u v) wanted ≡ None →
    MaySteer net u v (heard_difference net u v / 16)
may_steer net u v wanted is ends rounds =
    let are = ends_good net u v ends in
    let later = rounds_good net (heard_difference net u v) wanted rounds in
    record { is_net = is; ends = are.ends; neighbours = neighbours_if net u v are; differ = later.differ; in_round = refl; fixed = later.fixed }

pub faultless : (net : Net) (u v : ℕ) (wanted : List (List ℕ)) → IsNet net →
    steer_fault net u v wanted ≡ None ↔ MaySteer net u v (heard_difference net u v / 16) × (length wanted ≡ net.words - (heard_difference net u v / 16 + 1))
faultless net u v wanted is = (
  λ none. (
      let ends = fine_ends net u v wanted none in
      let rounds = sym (ends_faultless net u v wanted ends) ∙ none in
      (may_steer net u v wanted is ends rounds, (rounds_good net (heard_difference net u v) wanted rounds).count)),
  λ both. (
      let may = both.0 in
      let later : AreSteerable net (heard_difference net u v) wanted = record { differ = may.differ; fixed = may.fixed; count = both.1 } in
      ends_faultless net u v wanted (no_ends_fault net u v (ends_if net u v may.ends may.neighbours)) ∙ no_rounds_fault net (heard_difference net u v) wanted later),
)
