use Rattle.std.proofs.Common.{rules}
use Rattle.dc_print.proofs.GatherLemmas.{Gathers-unkept}
use Rattle.dc_print.proofs.gathering.gather_bytes.Goals as goal

pub returns-in_err-put : goal.returns-in_err-put
returns-in_err-put g c = Gathers-unkept _ _ _ _ _ _ _ c.in_err-put.ensures (search rules)
