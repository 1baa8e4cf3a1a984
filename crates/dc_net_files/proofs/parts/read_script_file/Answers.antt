use Rattle.dc_net_files.proofs.EndedLemmas.{Ended-unread, Ended-error, Ended-read, script_fault}
use Rattle.dc_net_files.proofs.parts.read_script_file.Goals as goal

pub returns-in_err-bytes : goal.returns-in_err-bytes
returns-in_err-bytes g c = Ended-error _ _ _ _ _ c.from_residual.ensures.1 (Ended-unread _ _ _ _ _ _ c.in_err-bytes.ensures)

pub returns : goal.returns
returns g c = Ended-read _ _ _ _ _ _ _ _ _ script_fault c.in_ok-bytes.ensures c.as_slice.ensures c.script_in.ensures c.named.ensures
