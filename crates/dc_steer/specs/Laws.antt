-- Laws of the faults of steerings.
use Rattle.std.specs.Prelude.{ℕ, ◌+◌, ◌-◌, ◌/◌, ◌<◌, ◌≡◌, ◌↔◌, List, length, Some, None}
use Rattle.dc_spec.specs.Net.{Net}
use Rattle.dc_net_rules.specs.Nets.{IsNet}
use Rattle.dc_net_rules.specs.Runs.{history, all_rounds}
use Rattle.dc_steering_rules.specs.Counting.{MaySteer}
use Rattle.dc_steer.specs.declared.fault.SteerFault.TheVariants.{NeverDiffered}
use Rattle.dc_steer.specs.Faults.{heard_difference, difference_fault, steer_fault}

-- in a checked net there is no fault exactly where the two are neighbours that may be steered from
-- the round of their first difference, and there is a wanted word for each later round
abbrev pub FaultlessMaySteer : Type 0
FaultlessMaySteer =
    (net : Net) (u v : ℕ) (wanted : List (List ℕ)) → IsNet net →
    (let s = heard_difference net u v / 16 in
    steer_fault net u v wanted ≡ None ↔ MaySteer net u v s × (length wanted ≡ net.words - (s + 1)))

-- two stations of a net never differed exactly where they received the same words
abbrev pub NeverDifferedIsAlike : Type 0
NeverDifferedIsAlike =
    (net : Net) (u v : ℕ) → u < net.stations → v < net.stations →
    difference_fault net (heard_difference net u v) ≡ Some NeverDiffered
    ↔ history (all_rounds net) u ≡ history (all_rounds net) v
