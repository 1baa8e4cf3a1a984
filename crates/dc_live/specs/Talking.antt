-- A talk with one peer: what it gave and what it was sent.
use Rattle.std.specs.Prelude.{ℕ, ◌≤◌, ◌≡◌, List, Result, Ok, Err}
use Rattle.dc_spec.specs.Outside.{WireState, IsFront, grown, preceded}
use Rattle.dc_edge.specs.Wire.{OthersStay}
use Rattle.dc_live.specs.declared.fault.LiveFault.{LiveFault}
use Rattle.dc_live.specs.declared.fault.LiveFault.TheVariants.{Wire, Peer}

-- the peer gave the taken bytes and was sent the given ones, where that is known; all else stays, and the count never falls
pub record Talks (peer : ℕ) (taken given : List ℕ) (before after : WireState) : Type 0 where
  pub peers : after.peers ≡ before.peers
  pub left : before.left peer ≡ preceded taken (after.left peer)
  pub others_left : OthersStay peer before.left after.left
  pub sent : after.sent peer ≡ grown (before.sent peer) given
  pub others_sent : OthersStay peer before.sent after.sent
  pub asked : after.asked ≡ before.asked
  pub counted : before.faults ≤ after.faults

-- the text was sent, or at a fault of the wire a front of it
abbrev pub Spoke : List ℕ → List ℕ → Result Unit LiveFault → Type 0
Spoke text given (Err Wire) = IsFront given text
Spoke text given (Err (Peer peer fault)) = given ≡ text
Spoke text given (Ok _) = given ≡ text
