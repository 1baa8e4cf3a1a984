-- Cycles: a session is cycles one after the other. A cycle is a reservation word, then a burst for
-- each field that it grants, in rising order, then an epoch.
use Rattle.std.specs.Prelude.{ℕ, List, [], ◌∷◌, ◌++◌, length, drop, filter, slice_index, Option, Some, None, ◌==◌, if◌then◌else◌}
use Rattle.std.specs.List.{range_with_len, flat_map}
use Rattle.std.specs.Option.{option_to_list}
use Rattle.dc_station_rules.specs.Bursts.{burst_of, has_ended}
use Rattle.dc_station_rules.specs.Epochs.{epoch_of, is_over}

-- the fields that a reservation word grants: those whose symbol is exactly 1, rising
unfoldable pub granted : List ℕ → List ℕ
granted word = filter (λ field. slice_index word field == 1) (range_with_len 0 16)

-- a cycle, whole or only begun: its reservation word; each burst that has ended, with its field;
-- and the words since then, which are those of the next burst, or of the epoch where each granted
-- field has had its burst
pub record Cycle : Type 0 where
  pub reservation : List ℕ
  pub bursts : List (ℕ × List (List ℕ))
  pub since : List (List ℕ)

-- the granted fields whose burst has not ended
abbrev pub fields_left : Cycle → List ℕ
fields_left cycle = drop (length cycle.bursts) (granted cycle.reservation)

-- a history: the cycles that are whole, and the one that is begun, if one is
pub record History : Type 0 where
  pub whole : List Cycle
  pub begun : Option Cycle

-- the words of bursts, in order
abbrev pub burst_words : List (ℕ × List (List ℕ)) → List (List ℕ)
burst_words bursts = flat_map (λ (b : ℕ × List (List ℕ)). b.1) bursts

-- the words of a cycle: its reservation word, its bursts, and the words since then
abbrev pub cycle_words : Cycle → List (List ℕ)
cycle_words cycle = cycle.reservation ∷ burst_words cycle.bursts ++ cycle.since

-- all cycles of a history, the begun one last
abbrev pub cycles : History → List Cycle
cycles history = history.whole ++ option_to_list history.begun

-- the words of all cycles of a history
abbrev pub history_words : History → List (List ℕ)
history_words history = flat_map cycle_words (cycles history)

-- a cycle of which only the reservation word is there
abbrev pub opened : List ℕ → Cycle
opened word = record { reservation = word; bursts = []; since = [] }

-- the cycle when the words since its last ended burst are these, and belong to the burst of this
-- field: where they end that burst it is one more of the cycle's bursts
abbrev pub with_burst : Cycle → ℕ → List (List ℕ) → Cycle
with_burst cycle field words =
    if has_ended (burst_of words)
    then record cycle { bursts = cycle.bursts ++ (field, words) ∷ []; since = [] }
    else record cycle { since = words }

-- the history when these cycles are whole and the words of the next one's epoch are these:
-- where they end the epoch that cycle is whole too
abbrev pub with_epoch : List Cycle → Cycle → List (List ℕ) → History
with_epoch whole cycle words =
    let now = record cycle { since = words } in
    if is_over (epoch_of words) then record { whole = whole ++ now ∷ []; begun = None }
    else record { whole = whole; begun = Some now }

-- the history after whole cycles, a begun one that has these fields left, and one more word
abbrev pub continued : List Cycle → Cycle → List ℕ → List ℕ → History
continued whole cycle [] word = with_epoch whole cycle (cycle.since ++ word ∷ [])
continued whole cycle (field ∷ fields) word =
    record { whole = whole; begun = Some (with_burst cycle field (cycle.since ++ word ∷ [])) }

-- the history after whole cycles, the begun one if there is one, and one more word
abbrev pub next_history : List Cycle → Option Cycle → List ℕ → History
next_history whole None word = record { whole = whole; begun = Some (opened word) }
next_history whole (Some cycle) word = continued whole cycle (fields_left cycle) word

-- a history after one more word
unfoldable pub with_next : History → List ℕ → History
with_next history word = next_history history.whole history.begun word

-- a history after more words
abbrev pub with_rest : History → List (List ℕ) → History
with_rest history [] = history
with_rest history (word ∷ words) = with_rest (with_next history word) words

-- words as a history
unfoldable pub history_of : List (List ℕ) → History
history_of words = with_rest (record { whole = []; begun = None }) words

-- what the next word is for: a reservation; the burst of a field, after these words of it; or an
-- epoch, after these words of it
pub data Place : Type 0 where
  at_reservation : Place
  in_burst : ℕ → List (List ℕ) → Place
  in_epoch : List (List ℕ) → Place

-- the place in a begun cycle with these fields left
abbrev pub place_among : List ℕ → List (List ℕ) → Place
place_among [] words = in_epoch words
place_among (field ∷ fields) words = in_burst field words

-- the place where this cycle is begun, or where none is
abbrev pub place_in : Option Cycle → Place
place_in None = at_reservation
place_in (Some cycle) = place_among (fields_left cycle) cycle.since

-- the place after a list of words
unfoldable pub place_of : List (List ℕ) → Place
place_of words = place_in (history_of words).begun

-- the words of a place that belong to an epoch
abbrev pub words_of_epoch : Place → List (List ℕ)
words_of_epoch at_reservation = []
words_of_epoch (in_burst field words) = []
words_of_epoch (in_epoch words) = words

-- the words of a cycle's epoch; there are none before its bursts have ended
abbrev pub epoch_words : Cycle → List (List ℕ)
epoch_words cycle = words_of_epoch (place_among (fields_left cycle) cycle.since)

-- the words of the ended burst of a field in a cycle
abbrev pub words_for : ℕ → List (ℕ × List (List ℕ)) → List (List ℕ)
words_for field [] = []
words_for field (b ∷ bursts) = if b.0 == field then b.1 else words_for field bursts
