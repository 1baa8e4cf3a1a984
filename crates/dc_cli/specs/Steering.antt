-- The command `steer`: wanted words make other pads of a pair of neighbours.
use Rattle.std.specs.Prelude.{ℕ, List, Option, Some, None, Result, Ok, Err}
use Rattle.dc_spec.specs.Limits.{wanted_words_limit}
use Rattle.dc_spec.specs.Net.{Net}
use Rattle.dc_field.specs.declared.list_fault.ListFault.{ListFault}
use Rattle.dc_formats.specs.KeyFile.{keys_bytes}
use Rattle.dc_steering_rules.specs.Steerings.{steering_of, steered_net}
use Rattle.dc_steering_rules.specs.SteeringText.{steering_text}
use Rattle.dc_steer.specs.Faults.{steer_fault}
use Rattle.dc_steer.specs.Wanted.{wanted_from_bytes}
use Rattle.dc_steer.specs.declared.fault.SteerFault.{SteerFault}
use Rattle.dc_cli.specs.Altering.{Altered, misread, refused, altered, Alteration}
use Rattle.dc_cli.specs.declared.outcome.CommandFault.TheVariants.{Steer}

-- the steering towards wanted words, by the first fault where there is one
abbrev pub steer_by : Net → ℕ → ℕ → List (List ℕ) → Option SteerFault → Altered
steer_by net u v wanted (Some fault) = refused (Steer fault)
steer_by net u v wanted None = altered (keys_bytes (steered_net net u v wanted).keys) (steering_text (steering_of net u v wanted))

-- the steering towards wanted words, or why there is none
abbrev pub steer_towards : Net → ℕ → ℕ → List (List ℕ) → Altered
steer_towards net u v wanted = steer_by net u v wanted (steer_fault net u v wanted)

-- the steering towards words that were read
abbrev pub steer_of : Net → ℕ → ℕ → Result (List (List ℕ)) ListFault → Altered
steer_of net u v (Err fault) = misread fault
steer_of net u v (Ok wanted) = steer_towards net u v wanted

-- what the bytes of wanted words make of a net
abbrev pub steer_from : ℕ → ℕ → Net → List ℕ → Altered
steer_from u v net bytes = steer_of net u v (wanted_from_bytes bytes)

-- `steer` alters a net by wanted words
abbrev pub steering : ℕ → ℕ → List ℕ → List ℕ → Alteration
steering u v wanted target = record { alter = steer_from u v; list = wanted; limit = wanted_words_limit; target = target }
