-- What a hub core answers to an arrival, and what it has after it.
use Rattle.std.specs.Prelude.{ℕ, ◌+◌, ◌*◌, ◌<◌, ◌≡◌, Bool, true, false, nat_lt, nat_le, ◌==◌, if◌then◌else◌, List, [], get_or, set, replicate, Option, Some, None, Result, Ok, Err}
use Rattle.dc_spec.specs.Recorded.{round_words}
use Rattle.dc_spec.specs.Words.{word_sum}
use Rattle.dc_hub_rules.specs.Hubs.{HubReply, waiting, complete, no_station, over, old, ahead, repeated}
use Rattle.dc_superpose.specs.Presence.{first_clear}
use Rattle.dc_superpose.specs.HubCore.{HubState}
use Rattle.dc_superpose.specs.declared.hub_step.HubStep.{HubStep}
use Rattle.dc_superpose.specs.declared.hub_step.HubStep.TheVariants.{Waiting, Complete}
use Rattle.dc_superpose.specs.declared.hub_fault.HubFault.{HubFault}
use Rattle.dc_superpose.specs.declared.hub_fault.HubFault.TheVariants.{Station, Over, Old, Ahead, Repeated}

-- a reply as the answer of a call
abbrev pub answer_of : HubReply → Result HubStep HubFault
answer_of (waiting missing) = Ok (Waiting missing)
answer_of (complete sum) = Ok (Complete sum)
answer_of (no_station seen) = Err (Station seen)
answer_of over = Err Over
answer_of (old now) = Err (Old now)
answer_of (ahead now) = Err (Ahead now)
answer_of (repeated kept) = Err (Repeated kept)

-- the fault of a word of a station for a round, by what the core has
abbrev pub fault_of : HubState → ℕ → ℕ → Option HubFault
fault_of c i t =
    if nat_le c.stations i then Some (Station i)
    else if c.round == c.rounds then Some Over
    else if nat_lt t c.round then Some (Old c.round)
    else if nat_lt c.round t then Some (Ahead c.round)
    else if get_or c.there i false
    then Some (Repeated (get_or c.words (c.round * c.stations + i) []))
    else None

-- the station has no word yet for the round in progress
pub record IsDue (c : HubState) (i : ℕ) : Type 0 where
  pub station : i < c.stations
  pub going : c.round < c.rounds
  pub missing : get_or c.there i false ≡ false

-- the table with one word more
abbrev pub words_with : HubState → ℕ → List ℕ → List (List ℕ)
words_with c i w = set c.words (c.round * c.stations + i) w

-- the words of the round in progress of a table
abbrev pub words_now : HubState → List (List ℕ) → List (List ℕ)
words_now c words =
    round_words (record { stations = c.stations; rounds = c.rounds; words = words }) c.round

-- the core in this round, with this table and these flags
abbrev pub with_table : HubState → ℕ → List (List ℕ) → List Bool → HubState
with_table c round words there = record {
  stations = c.stations;
  rounds = c.rounds;
  round = round;
  words = words;
  there = there;
}

-- the core with the word of a station that was missing, by the answer: the round goes on, or the
-- next one begins
abbrev pub Accepts : HubState → ℕ → List ℕ → HubState → HubStep → Type 0
Accepts c i w new (Waiting missing) = (first_clear (set c.there i true) ≡ Some missing)
    × (new ≡ with_table c c.round (words_with c i w) (set c.there i true))
Accepts c i w new (Complete sum) = (first_clear (set c.there i true) ≡ None)
    × (new ≡ with_table c (c.round + 1) (words_with c i w) (replicate c.stations false))
    × (sum ≡ word_sum (words_now c (words_with c i w)))

-- the numbers of the session stay, and one more round is complete exactly by the answer that says
-- so
abbrev pub Counts : HubState → HubState → Result HubStep HubFault → Type 0
Counts c new (Ok (Complete sum)) =
    (new.stations ≡ c.stations) × (new.rounds ≡ c.rounds) × (new.round ≡ c.round + 1)
Counts c new (Ok (Waiting missing)) =
    (new.stations ≡ c.stations) × (new.rounds ≡ c.rounds) × (new.round ≡ c.round)
Counts c new (Err fault) = new ≡ c
