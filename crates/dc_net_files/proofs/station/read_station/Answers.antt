use Rattle.dc_net_files.specs.Station.{station_step}
use Rattle.dc_net_files.proofs.EndedLemmas.{Ended-error}
use Rattle.dc_net_files.proofs.StationLemmas.{no_keys, no_stream, both_read}
use Rattle.dc_net_files.proofs.SettledLemmas.{Ended-settled}
use Rattle.dc_net_files.proofs.station.read_station.Goals as goal

pub returns-in_err-keys-clause-read : goal.returns-in_err-keys-clause-read
returns-in_err-keys-clause-read g c =
    Ended-error _ _ _ _ _ c.from_residual.ensures.1 (no_keys _ _ _ _ _ c.in_err-keys.ensures)

pub returns-in_err-keys-clause-settled : goal.returns-in_err-keys-clause-settled
returns-in_err-keys-clause-settled g c =
    Ended-settled (station_step c.args.keys.now c.args.stream.now) _ _ _
    (Ended-error _ _ _ _ _ c.from_residual.ensures.1 (no_keys _ _ _ _ _ c.in_err-keys.ensures))

pub returns-in_err-stream-clause-read : goal.returns-in_err-stream-clause-read
returns-in_err-stream-clause-read g c =
    Ended-error _ _ _ _ _ c.from_residual-in_err-stream.ensures.1
    (no_stream _ _ c.in_ok-keys.keys _ _ _ _ c.in_ok-keys.ensures c.in_err-stream.ensures)

pub returns-in_err-stream-clause-settled : goal.returns-in_err-stream-clause-settled
returns-in_err-stream-clause-settled g c =
    Ended-settled (station_step c.args.keys.now c.args.stream.now) _ _ _
    (Ended-error _ _ _ _ _ c.from_residual-in_err-stream.ensures.1
    (no_stream _ _ c.in_ok-keys.keys _ _ _ _ c.in_ok-keys.ensures c.in_err-stream.ensures))

pub returns-clause-read : goal.returns-clause-read
returns-clause-read g c = both_read _ _ c.in_ok-keys.keys c.in_ok-stream.stream _ _ _ c.in_ok-keys.ensures c.in_ok-stream.ensures

pub returns-clause-settled : goal.returns-clause-settled
returns-clause-settled g c =
    Ended-settled (station_step c.args.keys.now c.args.stream.now) _ _ _
    (both_read _ _ c.in_ok-keys.keys c.in_ok-stream.stream _ _ _ c.in_ok-keys.ensures c.in_ok-stream.ensures)
