use Rattle.std.proofs.Common.{subst, ap, ◌∙◌, arith}
use Rattle.dc_field.specs.Answers.{Answers}
use Rattle.dc_superpose.specs.Reading.{transcript_of}
use Rattle.dc_superpose.proofs.Spelling.{is_found, transcript_again}
use Rattle.dc_superpose.proofs.reading.read_transcript.Goals as goal

pub returns-clause-found : goal.returns-clause-found
returns-clause-found c = is_found c.args.b.now c.read_in_order.result (λ i. omega (arith, c.type_inv.b i)) c.read_in_order.ensures

pub returns-clause-only : goal.returns-clause-only
returns-clause-only c = λ t is e. subst (λ due. Answers c.read_in_order.result due) (ap transcript_of e ∙ transcript_again t is) c.read_in_order.ensures
