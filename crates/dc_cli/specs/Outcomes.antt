-- The status of each outcome.
use Rattle.std.specs.Prelude.{ℕ}
use Rattle.dc_cli.specs.declared.outcome.Outcome.{Outcome}
use Rattle.dc_cli.specs.declared.outcome.Outcome.TheVariants.{Done, Usage, Missing, TooLong, Malformed, Disagree, Refused, ShelfFault, SinkFault, WireFault, Peer, NoMemory}

abbrev pub status_of : Outcome → ℕ
status_of Done = 0
status_of (Usage place) = 2
status_of (Missing name) = 3
status_of (TooLong name) = 4
status_of (Malformed name fault) = 5
status_of (Disagree fault) = 6
status_of (Refused fault) = 7
status_of ShelfFault = 8
status_of SinkFault = 9
status_of WireFault = 10
status_of (Peer peer fault) = 11
status_of NoMemory = 12
