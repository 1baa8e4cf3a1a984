use Rattle.std.proofs.Common.{◌≡◌, subst, ap, ◌∙◌, rules}
use Rattle.dc_formats.specs.KeyFile.{IsKeys, keys_bytes}
use Rattle.dc_keyfile.specs.Reading.{keys_from_bytes}
use Rattle.dc_keyfile.proofs.Rereading.{keys_again}
use Rattle.dc_keyfile.proofs.writing.key_bytes.Goals as goal

pub returns-clause-read : goal.returns-clause-read
returns-clause-read c =
    let written : c.from_vec.result ≡ keys_bytes c.args.f.now = search rules in
    ap keys_from_bytes written ∙ keys_again c.args.f.now (subst IsKeys c.f.view_is c.f.invariant)
