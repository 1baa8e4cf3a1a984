-- The seats of a hub: which station each peer announced in its hello, and what was taken of its bytes.
use Rattle.std.specs.Prelude.{ℕ, ◌+◌, ◌<◌, ◌≤◌, ◌≡◌, ◌≢◌, List, [], ◌∷◌, ◌++◌, length, get_or, set, Option, Result}
use Rattle.dc_spec.specs.Limits.{most_words}
use Rattle.dc_spec.specs.Outside.{WireState}
use Rattle.dc_spec.specs.Frames.{hello}
use Rattle.dc_frame.specs.Reader.{ReaderState}
use Rattle.dc_live.specs.Receiving.{HasRead, Waits, ReceivesFrame}
use Rattle.dc_frame.specs.declared.frame.Frame.{Frame}
use Rattle.dc_live.specs.declared.fault.LiveFault.{LiveFault}
use Rattle.dc_live.specs.declared.seats.Seat.{Seat}

-- how many stations and words the session has; by peer the station that it announced, how many words were taken of it, and its
-- reader
pub record SeatsState : Type 0 where
  pub stations : ℕ
  pub words : ℕ
  pub told : List ℕ
  pub seats : List Seat

-- the seat of no peer
abbrev pub no_seat : Seat
no_seat = record { heard = 0; reader = record { start = 0; part = [] } }

-- the seat of a peer, and the station that it announced
abbrev pub seat_at : SeatsState → ℕ → Seat
seat_at s p = get_or s.seats p no_seat

abbrev pub told_by : SeatsState → ℕ → ℕ
told_by s p = get_or s.told p 0

-- another seat for a peer
abbrev pub with_seat : SeatsState → ℕ → Seat → SeatsState
with_seat s p seat = record s { seats = set s.seats p seat }

-- a seat with one more word, and with another reader
abbrev pub counted_once : Seat → Seat
counted_once seat = record { heard = seat.heard + 1; reader = seat.reader }

abbrev pub read_by : Seat → ReaderState → Seat
read_by seat r = record { heard = seat.heard; reader = r }

-- bytes were received from a peer into its seat
pub record ReceivesAt (peer : ℕ) (s new : SeatsState) (before after : WireState)
    (result : Result (Option Frame) LiveFault) : Type 0 where
  pub reader : ReaderState
  pub seats : new ≡ with_seat s peer (read_by (seat_at s peer) reader)
  pub receives : ReceivesFrame peer (seat_at s peer).reader reader before after result

-- one more peer, of which the hello was taken
abbrev pub with_peer : SeatsState → ℕ → ReaderState → SeatsState
with_peer s i r = record s { told = s.told ++ i ∷ []; seats = s.seats ++ record { heard = 0; reader = r } ∷ [] }

-- at least one station, 1 to 4096 words; no more peers than stations, each announced a station that exists, no two the same; of
-- each a seat, whose reader waits for more bytes
pub record AreSeats (s : SeatsState) : Type 0 where
  pub some_stations : 1 ≤ s.stations
  pub some_words : 1 ≤ s.words
  pub few_words : s.words ≤ most_words
  pub within : length s.told ≤ s.stations
  pub seats : length s.seats ≡ length s.told
  pub below : (p : ℕ) → p < length s.told → told_by s p < s.stations
  pub distinct : (p q : ℕ) → p < q → q < length s.told → told_by s p ≢ told_by s q
  pub waits : (p : ℕ) → p < length s.told → Waits (seat_at s p).reader

-- no word was taken of any peer yet
pub record AreNew (s : SeatsState) : Type 0 where
  pub are : AreSeats s
  pub fresh : (p : ℕ) → p < length s.told → (seat_at s p).heard ≡ 0

-- each station has a peer, of which no word was taken yet
pub record AreGreeted (s : SeatsState) : Type 0 where
  pub new : AreNew s
  pub all : length s.told ≡ s.stations

-- each peer gave these bytes so far: its hello and nothing behind it
abbrev pub GaveHellos : SeatsState → (ℕ → List ℕ) → Type 0
GaveHellos s gave = (p : ℕ) → p < length s.told → HasRead (seat_at s p).reader (gave p) (hello (told_by s p) s.stations s.words ∷ [])
