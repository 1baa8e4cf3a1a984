-- How often a message is in a list of entries.
use Rattle.std.specs.Prelude.{ℕ, List, sum_by, if◌then◌else◌, bytes_eq}
use Rattle.dc_spec.specs.Entries.{Entry, short, long}

-- a message: a value, or a byte list
pub data Message : Type 0 where
  value : List ℕ → Message
  text : List ℕ → Message

-- how often an entry is a message: for a value the number of stations that sent it
abbrev pub times_in : Message → Entry → ℕ
times_in (value v) (short w times) = if bytes_eq v w then times else 0
times_in (text b) (long c) = if bytes_eq b c then 1 else 0
times_in _ _ = 0

-- how often a message is in a list of entries
abbrev pub count_in : Message → List Entry → ℕ
count_in m entries = sum_by (times_in m) entries
