use Rattle.std.proofs.Common.{subst, ap, ◌∙◌, arith}
use Rattle.dc_field.specs.Answers.{Answers}
use Rattle.dc_keyfile.specs.SeedReading.{seeds_from_bytes}
use Rattle.dc_keyfile.proofs.SeedSpelling.{is_found, seeds_again}
use Rattle.dc_keyfile.proofs.seed_reading.read_seeds.Goals as goal

pub returns-clause-found : goal.returns-clause-found
returns-clause-found c = is_found c.args.b.now c.read_seed_file.result (λ i. omega (arith, c.type_inv.b i)) c.read_seed_file.ensures

pub returns-clause-only : goal.returns-clause-only
returns-clause-only c = λ s is e. subst (λ due. Answers c.read_seed_file.result due) (ap seeds_from_bytes e ∙ seeds_again s is) c.read_seed_file.ensures
