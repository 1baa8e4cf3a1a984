-- The hub core, and the arrivals that it has taken.
use Rattle.std.specs.Prelude.{ℕ, ◌+◌, ◌*◌, ◌<◌, ◌≤◌, ◌≡◌, Bool, false, nat_lt, ◌==◌, ◌&&◌, ◌||◌, if◌then◌else◌, List, [], length, get_or, slice_get, Option, Some, None}
use Rattle.dc_spec.specs.Recorded.{Recorded, IsRecorded, superposed}
use Rattle.dc_hub_rules.specs.Hubs.{Arrival, accepted, broadcast, complete_rounds}
use Rattle.dc_superpose.specs.Presence.{first_clear}

-- how many stations and rounds the session has, how many rounds are complete, a table of words by
-- round and station, and for each station whether its word of the round in progress is there
pub record HubState : Type 0 where
  pub stations : ℕ
  pub rounds : ℕ
  pub round : ℕ
  pub words : List (List ℕ)
  pub there : List Bool

-- the table has the form of a recorded session, no more rounds are complete than there are, and of
-- the round in progress a word is missing
pub record IsHub (c : HubState) : Type 0 where
  pub session : IsRecorded (record { stations = c.stations; rounds = c.rounds; words = c.words })
  pub within : c.round ≤ c.rounds
  pub flags : length c.there ≡ c.stations
  pub missing : (i : ℕ) × (first_clear c.there ≡ Some i)

-- whether the table has a station's word for a round
abbrev pub is_kept : ℕ → List Bool → ℕ → ℕ → Bool
is_kept round there i t = nat_lt t round || ((t == round) && get_or there i false)

-- the word of a station for a round by the table, if it is there
abbrev pub kept_word : ℕ → ℕ → List (List ℕ) → List Bool → ℕ → ℕ → Option (List ℕ)
kept_word n round words there i t =
    if is_kept round there i t then Some (get_or words (t * n + i) []) else None

-- the core is of so many stations and rounds and has taken these arrivals: so many rounds are
-- complete, and the accepted words are those of the table
pub record StandsFor (c : HubState) (stations rounds : ℕ) (arrivals : List Arrival) : Type 0 where
  pub stations_are : c.stations ≡ stations
  pub rounds_are : c.rounds ≡ rounds
  pub round_is : c.round ≡ complete_rounds c.stations c.rounds arrivals
  pub words_are : (i t : ℕ) → i < c.stations → t < c.rounds
      → accepted c.stations arrivals i t ≡ kept_word c.stations c.round c.words c.there i t

-- a session that has these numbers, the accepted word in each of its places, and the broadcasts as
-- its superposed words
pub record IsRecordOf (stations rounds : ℕ) (arrivals : List Arrival) (t : Recorded) : Type 0 where
  pub stations_are : t.stations ≡ stations
  pub rounds_are : t.rounds ≡ rounds
  pub words_are : (i r : ℕ) → i < stations → r < rounds
      → slice_get t.words (r * stations + i) ≡ accepted stations arrivals i r
  pub sums_are : (r : ℕ) → r < rounds → slice_get (superposed t) r ≡ broadcast stations arrivals r
