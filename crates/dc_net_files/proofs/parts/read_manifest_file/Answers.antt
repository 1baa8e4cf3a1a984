use Rattle.dc_net_files.proofs.EndedLemmas.{Ended-unread, Ended-error, Ended-read, manifest_fault}
use Rattle.dc_net_files.proofs.parts.read_manifest_file.Goals as goal

pub returns-in_err-bytes-clause-ended : goal.returns-in_err-bytes-clause-ended
returns-in_err-bytes-clause-ended g c = Ended-error _ _ _ _ _ c.from_residual.ensures.1 (Ended-unread _ _ _ _ _ _ c.in_err-bytes.ensures)

pub returns-clause-ended : goal.returns-clause-ended
returns-clause-ended g c = Ended-read _ _ _ _ _ _ _ _ _ manifest_fault c.in_ok-bytes.ensures c.as_slice.ensures c.manifest_in.ensures.exact c.named.ensures
