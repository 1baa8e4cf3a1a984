use Rattle.std.proofs.Common.{subst, ap, ◌∙◌}
use Rattle.dc_field.specs.Answers.{Answers}
use Rattle.dc_stream.specs.ReadingByLists.{stream_by_lists}
use Rattle.dc_stream.proofs.SameReading.{same_reading}
use Rattle.dc_stream.proofs.Rereading.{is_found, stream_again}
use Rattle.dc_stream.proofs.reading.read_stream.Goals as goal

pub returns-clause-exact : goal.returns-clause-exact
returns-clause-exact c = subst (λ due. Answers c.read_lines.result due) (same_reading c.args.b.now) c.read_lines.ensures

pub returns-clause-found : goal.returns-clause-found
returns-clause-found c = is_found c.args.b.now c.read_lines.result c.read_lines.ensures

pub returns-clause-only : goal.returns-clause-only
returns-clause-only c = λ s is e. subst (λ due. Answers c.read_lines.result due) (ap stream_by_lists e ∙ stream_again s is) c.read_lines.ensures
