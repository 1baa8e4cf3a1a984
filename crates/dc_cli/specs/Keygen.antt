-- The command `keygen`: a manifest is read, and a key file for its net is written.
use Rattle.std.specs.Prelude.{ℕ, List, Result, Ok, Err}
use Rattle.dc_spec.specs.Limits.{manifest_limit}
use Rattle.dc_formats.specs.KeyFile.{keys_bytes}
use Rattle.dc_formats.specs.SeedFile.{seeds_bytes}
use Rattle.dc_keyfile.specs.Generator.{generated_keys, seeds_of}
use Rattle.dc_manifest.specs.Content.{Content}
use Rattle.dc_manifest.specs.Reading.{manifest_of}
use Rattle.dc_manifest.specs.declared.fault.ManifestFault.{ManifestFault}
use Rattle.dc_cli.specs.Making.{Making}
use Rattle.dc_cli.specs.declared.keygen.KeyMaterial.{KeyMaterial}
use Rattle.dc_cli.specs.declared.keygen.KeyMaterial.TheVariants.{Pads, Seeds}
use Rattle.dc_cli.specs.declared.outcome.FileFault.{FileFault}
use Rattle.dc_cli.specs.declared.outcome.FileFault.TheVariants.{Manifest}

-- the key file for the graph and the words of a manifest: with the pads that a seed generates, or with this seed for each edge
abbrev pub key_file_for : KeyMaterial → List ℕ → Content → List ℕ
key_file_for Pads seed content = keys_bytes (generated_keys seed content.graph content.words)
key_file_for Seeds seed content = seeds_bytes (seeds_of seed content.graph content.words)

-- this key file, or the manifest's fault
abbrev pub keys_for : KeyMaterial → List ℕ → Result Content ManifestFault → Result (List ℕ) FileFault
keys_for material seed (Ok content) = Ok (key_file_for material seed content)
keys_for material seed (Err fault) = Err (Manifest fault)

-- what the bytes of a manifest make with a seed
abbrev pub generated_file : KeyMaterial → List ℕ → List ℕ → Result (List ℕ) FileFault
generated_file material seed bytes = keys_for material seed (manifest_of bytes)

-- `keygen` makes the key file of a manifest
abbrev pub keygen_making : KeyMaterial → List ℕ → List ℕ → List ℕ → Making
keygen_making material seed net target = record { due = generated_file material seed; source = net; limit = manifest_limit; target = target }
