use Rattle.dc_print.proofs.GatherLemmas.{Gathers-then}
use Rattle.dc_print.proofs.gathering.gather_payload_line.Goals as goal

pub returns : goal.returns
returns g c = Gathers-then _ _ _ _ _ _ _ _ _ _ c.in_ok-end.ensures c.gather_bytes.ensures
