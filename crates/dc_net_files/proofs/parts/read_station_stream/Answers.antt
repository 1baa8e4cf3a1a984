use Rattle.dc_net_files.proofs.EndedLemmas.{Ended-error}
use Rattle.dc_net_files.proofs.StreamLemmas.{station-read, station-unread}
use Rattle.dc_net_files.proofs.parts.read_station_stream.Goals as goal

pub returns-in_err-stream : goal.returns-in_err-stream
returns-in_err-stream g c = Ended-error _ _ _ _ _ c.from_residual.ensures.1 (station-unread _ _ _ _ c.if-is_empty.ensures c.in_err-stream.ensures)

pub returns : goal.returns
returns g c = station-read _ _ _ _ c.if-is_empty.ensures c.in_ok-stream.ensures
