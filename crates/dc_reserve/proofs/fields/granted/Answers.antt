use Rattle.std.proofs.Common.{rules}
use Rattle.dc_reserve.proofs.FieldLemmas.{granted_flags}
use Rattle.dc_reserve.proofs.fields.granted.Goals as goal

pub returns-clause-fields : goal.returns-clause-fields
returns-clause-fields c = granted_flags c.loop-field.flags c.args.w.now (search rules)
