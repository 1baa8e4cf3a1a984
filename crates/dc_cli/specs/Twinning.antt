-- The command `twin`: a list of images makes the twin of a net.
use Rattle.std.specs.Prelude.{ℕ, List, Option, Some, None, Result, Ok, Err}
use Rattle.dc_spec.specs.Limits.{permutation_limit}
use Rattle.dc_spec.specs.Net.{Net}
use Rattle.dc_field.specs.declared.list_fault.ListFault.{ListFault}
use Rattle.dc_formats.specs.KeyFile.{keys_bytes}
use Rattle.dc_graph.specs.Images.{perm_from_bytes}
use Rattle.dc_twin_rules.specs.Twins.{shifts, twin}
use Rattle.dc_twin_rules.specs.Shifts.{shifts_text}
use Rattle.dc_twin.specs.Faults.{twin_fault}
use Rattle.dc_twin.specs.declared.fault.TwinFault.{TwinFault}
use Rattle.dc_cli.specs.Altering.{Altered, misread, refused, altered, Alteration}
use Rattle.dc_cli.specs.declared.outcome.CommandFault.TheVariants.{Twin}

-- the twin by images, by the first fault where there is one
abbrev pub twin_by : Net → List ℕ → Option TwinFault → Altered
twin_by net p (Some fault) = refused (Twin fault)
twin_by net p None = altered (keys_bytes (twin net p).keys) (shifts_text (shifts net p))

-- the twin by images, or why there is none
abbrev pub twin_by_images : Net → List ℕ → Altered
twin_by_images net p = twin_by net p (twin_fault net p)

-- the twin by a list that was read
abbrev pub twin_of : Net → Result (List ℕ) ListFault → Altered
twin_of net (Err fault) = misread fault
twin_of net (Ok p) = twin_by_images net p

-- what the bytes of a list make of a net
abbrev pub twin_from : Net → List ℕ → Altered
twin_from net bytes = twin_of net (perm_from_bytes bytes)

-- `twin` alters a net by a list of images
abbrev pub twinning : List ℕ → List ℕ → Alteration
twinning perm target = record { alter = twin_from; list = perm; limit = permutation_limit; target = target }
