use Rattle.std.proofs.Common.{◌≡◌, subst, ap, ◌∙◌, rules}
use Rattle.dc_formats.specs.SeedFile.{IsSeeds, seeds_bytes}
use Rattle.dc_keyfile.specs.SeedReading.{seeds_from_bytes}
use Rattle.dc_keyfile.proofs.SeedSpelling.{seeds_again}
use Rattle.dc_keyfile.proofs.writing.seed_bytes.Goals as goal

pub returns-clause-read : goal.returns-clause-read
returns-clause-read c =
    let written : c.from_vec.result ≡ seeds_bytes c.args.f.now = search rules in
    ap seeds_from_bytes written ∙ seeds_again c.args.f.now (subst IsSeeds c.f.view_is c.f.invariant)
