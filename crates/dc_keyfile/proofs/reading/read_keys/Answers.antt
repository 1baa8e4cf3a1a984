use Rattle.std.proofs.Common.{subst, ap, ◌∙◌, arith}
use Rattle.dc_field.specs.Answers.{Answers}
use Rattle.dc_keyfile.specs.Reading.{keys_from_bytes}
use Rattle.dc_keyfile.proofs.Spelling.{keys_found}
use Rattle.dc_keyfile.proofs.Rereading.{keys_again, expanded_again}
use Rattle.dc_keyfile.proofs.reading.read_keys.Goals as goal

pub returns-clause-found : goal.returns-clause-found
returns-clause-found g c = keys_found c.args.b.now c.read_either.result (λ i. omega (arith, c.type_inv.b i)) c.read_either.ensures

pub returns-clause-only : goal.returns-clause-only
returns-clause-only g c = λ k is e. subst (λ due. Answers c.read_either.result due) (ap keys_from_bytes e ∙ keys_again k is) c.read_either.ensures

pub returns-clause-seeds : goal.returns-clause-seeds
returns-clause-seeds g c = λ s is e. subst (λ due. Answers c.read_either.result due) (ap keys_from_bytes e ∙ expanded_again s is) c.read_either.ensures
