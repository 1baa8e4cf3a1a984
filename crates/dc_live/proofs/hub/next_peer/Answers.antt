use Rattle.dc_live.proofs.HubLemmas.{missing_told, missing_due}
use Rattle.dc_live.proofs.hub.next_peer.Goals as goal

pub peer_of-hint-requires : goal.peer_of-hint-requires
peer_of-hint-requires g c = missing_told c.first_missing.result c.requires.step c.first_missing.ensures.station

pub returns-else-is_due-clause-due : goal.returns-else-is_due-clause-due
returns-else-is_due-clause-due g c =
    missing_due c.first_missing.result c.peer_of-hint.result c.requires.step c.requires.going c.first_missing.ensures.missing c.peer_of-hint.ensures.peer c.peer_of-hint.ensures.station
