-- What a session hears of a peer's frames: the words of its rounds, and the first fault.
use Rattle.std.specs.Prelude.{ℕ, ◌+◌, ◌==◌, nat_lt, if◌then◌else◌, List, [], ◌∷◌, Option, Some, None, option_map, Result, Ok, Err}
use Rattle.dc_spec.specs.Frames.{Frame as frame, hello, send, all}
use Rattle.dc_frame.specs.Reading.{reading, fault_in}
use Rattle.dc_live.specs.declared.fault.PeerFault.{PeerFault}
use Rattle.dc_live.specs.declared.fault.PeerFault.TheVariants.{Frame, Unexpected, Round}

-- the word of a frame where the sum of this round is due, or the fault that the frame shows
abbrev pub sum_of : ℕ → frame → Result (List ℕ) PeerFault
sum_of now (all told word) = if told == now then Ok word else Err (Round told now)
sum_of now (hello _ _ _) = Err (Unexpected 1)
sum_of now (send _ _) = Err (Unexpected 2)

-- the word of a frame where a station's word for this round is due, or the fault that the frame shows
abbrev pub word_of : ℕ → frame → Result (List ℕ) PeerFault
word_of now (send told word) = if told == now then Ok word else Err (Round told now)
word_of now (hello _ _ _) = Err (Unexpected 1)
word_of now (all _ _) = Err (Unexpected 3)

-- the words of the first rounds, and the first fault
pub record Heard : Type 0 where
  pub words : List (List ℕ)
  pub fault : Option PeerFault

-- what one more frame at the front adds: a word, or the fault at which all ends
abbrev pub heard_first : Result (List ℕ) PeerFault → Heard → Heard
heard_first (Ok word) rest = record { words = word ∷ rest.words; fault = rest.fault }
heard_first (Err fault) rest = record { words = []; fault = Some fault }

-- what a session of so many rounds hears from round `now` on: nothing after its last round; before it, each frame gives the
-- word of its round or the fault, and behind the last frame there is this fault or none
abbrev pub hear : (ℕ → frame → Result (List ℕ) PeerFault) → ℕ → ℕ → List frame → Option PeerFault → Heard
hear due total now [] fault = record { words = []; fault = if nat_lt now total then fault else None }
hear due total now (first ∷ frames) fault =
    if nat_lt now total then heard_first (due now first) (hear due total (now + 1) frames fault)
    else record { words = []; fault = None }

-- the fault of bytes that are no frames
abbrev pub frame_fault : List ℕ → Option PeerFault
frame_fault bytes = option_map Frame (fault_in bytes)

-- what a station hears of its hub, which gave these bytes
unfoldable pub sums_heard : ℕ → List ℕ → Heard
sums_heard total bytes = hear sum_of total 0 (reading bytes).frames (frame_fault bytes)

-- the words of the sums of rounds 0, 1 and so on that the bytes begin with, at most so many
abbrev pub heard : ℕ → List ℕ → List (List ℕ)
heard total bytes = (sums_heard total bytes).words

-- the fault that the bytes show a station, if one
abbrev pub station_fault : ℕ → List ℕ → Option PeerFault
station_fault total bytes = (sums_heard total bytes).fault
