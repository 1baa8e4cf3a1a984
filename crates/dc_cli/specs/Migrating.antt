-- The command `migrate`: a key file of either version is read, and the key file of its pads is written.
use Rattle.std.specs.Prelude.{ℕ, List, Result, Ok, Err}
use Rattle.dc_spec.specs.Limits.{key_file_limit}
use Rattle.dc_spec.specs.Pads.{Keys}
use Rattle.dc_formats.specs.KeyFile.{keys_bytes}
use Rattle.dc_keyfile.specs.Reading.{keys_from_bytes}
use Rattle.dc_keyfile.specs.declared.fault.KeyFault.{KeyFault}
use Rattle.dc_cli.specs.Making.{Making}
use Rattle.dc_cli.specs.declared.outcome.FileFault.{FileFault}
use Rattle.dc_cli.specs.declared.outcome.FileFault.TheVariants.{Keys as of_keys}

-- the key file of pads that was read, or its fault
abbrev pub pads_for : Result Keys KeyFault → Result (List ℕ) FileFault
pads_for (Ok keys) = Ok (keys_bytes keys)
pads_for (Err fault) = Err (of_keys fault)

-- what the bytes of a key file make
abbrev pub migrated_file : List ℕ → Result (List ℕ) FileFault
migrated_file bytes = pads_for (keys_from_bytes bytes)

-- `migrate` makes the key file of the pads of a key file
abbrev pub migrate_making : List ℕ → List ℕ → Making
migrate_making keys target = record { due = migrated_file; source = keys; limit = key_file_limit; target = target }
