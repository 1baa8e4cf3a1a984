-- The outcome of a session that ended early.
use Rattle.dc_live.specs.declared.fault.LiveFault.{LiveFault}
use Rattle.dc_live.specs.declared.fault.LiveFault.TheVariants as lives
use Rattle.dc_cli.specs.declared.outcome.Outcome.{Outcome}
use Rattle.dc_cli.specs.declared.outcome.Outcome.TheVariants.{WireFault, Peer}

-- the outcome of a fault of a session
abbrev pub outcome_of_session : LiveFault → Outcome
outcome_of_session lives.Wire = WireFault
outcome_of_session (lives.Peer peer fault) = Peer peer fault
