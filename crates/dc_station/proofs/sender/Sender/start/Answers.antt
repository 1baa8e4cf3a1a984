use Rattle.std.proofs.Common.{refl}
use Rattle.dc_station.proofs.StationLemmas.{sends_none}
use Rattle.dc_station.proofs.sender.Sender.start.Goals as goal

pub returns-clause-stands : goal.returns-clause-stands
returns-clause-stands c = λ stream.
    let progress = c.in_ok-progress.progress in
    record { session = refl; counted = refl; sends = sends_none progress stream (c.in_ok-progress.ensures.left stream) c.in_ok-progress.ensures.short c.in_ok-progress.ensures.long c.in_ok-progress.ensures.log }
