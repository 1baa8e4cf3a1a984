-- Sending a text to a peer.
use Rattle.std.specs.Prelude.{ℕ, ◌≡◌, List, [], Result, Ok, Err}
use Rattle.dc_spec.specs.Outside.{WireState, Rose, IsFront}
use Rattle.dc_live.specs.Talking.{Talks}
use Rattle.dc_live.specs.declared.fault.LiveFault.{LiveFault}
use Rattle.dc_live.specs.declared.fault.LiveFault.TheVariants.{Wire, Peer}

-- when each answer of a send comes
abbrev pub SendAnswer : List ℕ → List ℕ → WireState → WireState → Result Unit LiveFault → Type 0
SendAnswer text given before after (Ok _) = given ≡ text
SendAnswer text given before after (Err Wire) = IsFront given text × Rose before.faults after.faults
SendAnswer text given before after (Err (Peer peer fault)) = ⊥

-- the text was sent to a peer, or a front of it and the count of faults rose
pub record SendsText (peer : ℕ) (text : List ℕ) (before after : WireState) (result : Result Unit LiveFault) : Type 0 where
  pub given : List ℕ
  pub talks : Talks peer [] given before after
  pub answer : SendAnswer text given before after result
