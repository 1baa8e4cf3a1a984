use Rattle.std.proofs.Common.{rules}
use Rattle.std.proofs.lemmas.Str.{is_utf8-from_IsUtf8, IsUtf8-from_is_utf8}
use Rattle.dc_manifest.proofs.reading.text_of.Goals as goal

pub returns : goal.returns
returns c = search (rules, is_utf8-from_IsUtf8, IsUtf8-from_is_utf8)
