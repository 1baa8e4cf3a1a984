-- The laws of bursts, each proved as the contract of a function of laws.rt.
use Rattle.std.specs.Prelude.{◌≡◌, ℕ, ◌+◌, ◌*◌, ◌≤◌, List, length}
use Rattle.dc_spec.specs.Entries.{IsMessage}
use Rattle.dc_station_rules.specs.Bursts.{fragments, gave, burst_of}

-- the fragments of a message, received as they are, give it
abbrev pub FragmentsGiveTheirMessage : Type 0
FragmentsGiveTheirMessage = (message : List ℕ) → IsMessage message → burst_of (fragments message) ≡ gave message

-- a burst of so many words gives a message of at most fifteen bytes for each of them, less two
abbrev pub MessagesAreShort : Type 0
MessagesAreShort = (words : List (List ℕ)) (message : List ℕ) → burst_of words ≡ gave message → length message + 2 ≤ 15 * length words
