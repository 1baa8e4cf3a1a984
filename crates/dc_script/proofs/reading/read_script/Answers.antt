use Rattle.std.proofs.Common.{Result, subst}
use Rattle.dc_spec.specs.Scripts.{Script}
use Rattle.dc_field.specs.Answers.{Answers}
use Rattle.dc_script.specs.declared.fault.ScriptFault.{ScriptFault}
use Rattle.dc_script.proofs.SameReading.{same_reading}
use Rattle.dc_script.proofs.Spelled.{answer_found}
use Rattle.dc_script.proofs.Respelled.{answer_only}
use Rattle.dc_script.proofs.reading.read_script.Goals as goal

pub returns-clause-exact : goal.returns-clause-exact
returns-clause-exact c = subst (λ (due : Result Script ScriptFault). Answers {X = Script} c.read_head.result due) (same_reading c.args.b.now) c.read_head.ensures

pub returns-clause-found : goal.returns-clause-found
returns-clause-found c = answer_found c.args.b.now c.read_head.result c.read_head.ensures

pub returns-clause-only : goal.returns-clause-only
returns-clause-only c = answer_only c.args.b.now c.read_head.result c.read_head.ensures
