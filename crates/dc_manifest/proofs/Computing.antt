-- What an answer unfolds to compute what a literal holds as a manifest.
use Rattle.std.specs.Prelude.{⊤}
use Rattle.toml.proofs.OnLiterals.{toml_on_literals}
use Rattle.std.specs.Str.{chars, is_utf8}
use Rattle.dc_manifest.specs.Fields.{values_of}
use Rattle.dc_manifest.specs.Reading.{numbers_of, content_of, manifest_of_document, manifest_of}

unfoldable pub manifest_on_literals : ⊤
unfolding toml_on_literals chars is_utf8 values_of numbers_of content_of manifest_of_document manifest_of
manifest_on_literals = tt
