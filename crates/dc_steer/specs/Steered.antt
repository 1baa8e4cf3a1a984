-- The steering of a net with the keys that it gives, and the answer of the call.
use Rattle.std.specs.Prelude.{ℕ, ◌*◌, ◌≤◌, ◌≡◌, List, length, Some, None, Result, Ok, Err}
use Rattle.dc_spec.specs.Limits as limit
use Rattle.dc_spec.specs.Pads.{Keys}
use Rattle.dc_spec.specs.Net.{Net}
use Rattle.dc_steering_rules.specs.Steerings.{Steering, steering_of, steered_net}
use Rattle.dc_field.specs.declared.refusal.Refusal.{Refusal}
use Rattle.dc_field.specs.declared.refusal.Refusal.TheVariants.{NoMemory, Bad}
use Rattle.dc_steer.specs.declared.fault.SteerFault.{SteerFault}
use Rattle.dc_steer.specs.Faults.{steer_fault}

-- a steering, and the keys of a net with its changes added
pub record KeySteering : Type 0 where
  pub round : ℕ
  pub symbol : ℕ
  pub first : List ℕ
  pub second : List ℕ
  pub keys : Keys

-- a change for each first and each second pad of a session
pub record IsKeySteering (s : KeySteering) : Type 0 where
  pub most_words : s.keys.words ≤ limit.most_words
  pub first_changes : length s.first ≡ 16 * s.keys.words
  pub second_changes : length s.second ≡ 16 * s.keys.words

-- a steering with keys
abbrev pub with_keys : Steering → Keys → KeySteering
with_keys s keys = record { round = s.round; symbol = s.symbol; first = s.first; second = s.second; keys = keys }

-- the steering alone
abbrev pub steering : KeySteering → Steering
steering s = record { round = s.round; symbol = s.symbol; first = s.first; second = s.second }

-- the steering of stations u < v of a net towards wanted words, and the steered keys
abbrev pub steered_of : Net → ℕ → ℕ → List (List ℕ) → KeySteering
steered_of net u v wanted = with_keys (steering_of net u v wanted) (steered_net net u v wanted).keys

-- Ok is the steering, and there is no fault; a fault is the first one; memory may run out
abbrev pub SteerAnswer : Net → ℕ → ℕ → List (List ℕ) → Result KeySteering (Refusal SteerFault) → Type 0
SteerAnswer net u v wanted (Ok s) =
    (steer_fault net u v wanted ≡ None) × (s ≡ steered_of net u v wanted)
SteerAnswer net u v wanted (Err NoMemory) = Unit {0}
SteerAnswer net u v wanted (Err (Bad fault)) = steer_fault net u v wanted ≡ Some fault

-- a net with other keys
abbrev pub with_new_keys : Net → Keys → Net
with_new_keys net keys = record net { keys = keys }
