-- Logs as the code keeps them: the bytes of all entries, and for each entry where its bytes lie.
use Rattle.std.specs.Prelude.{◌≡◌, ℕ, ◌+◌, ◌*◌, ◌≤◌, List, length, map, take, drop, Option, Some, None}
use Rattle.std.specs.List.{AllByRecursion}
use Rattle.dc_spec.specs.Entries.{Entry, short, long, bytes_in}
use Rattle.dc_station.specs.declared.log.Kind.{Kind}
use Rattle.dc_station.specs.declared.log.Kind.TheVariants.{Short, Long}
use Rattle.dc_station.specs.declared.log.Row.{Row}

-- entries, and for how many words there is room
pub record Kept : Type 0 where
  pub entries : List Entry
  pub room : ℕ

-- entries fit in the room of so many words: one entry and fifteen bytes for each
pub record FitsRoom (entries : List Entry) (room : ℕ) : Type 0 where
  pub few : length entries ≤ room
  pub short : bytes_in entries ≤ 15 * room

-- how many stations sent an entry, where it is a value
abbrev pub entry_times : Entry → Option ℕ
entry_times (short value times) = Some times
entry_times (long message) = None

-- the entry of this kind with these bytes
abbrev pub entry_as : Kind → List ℕ → Entry
entry_as (Short times) bytes = short bytes times
entry_as Long bytes = long bytes

-- a value has fifteen bytes
abbrev pub IsSized : Kind → ℕ → Type 0
IsSized (Short times) size = size ≡ 15
IsSized Long size = Unit {0}

-- the entry of a row, among these bytes, and those of rows
abbrev pub entry_at : List ℕ → Row → Entry
entry_at bytes row = entry_as row.kind (take row.size (drop row.begin bytes))

abbrev pub entries_of : List ℕ → List Row → List Entry
entries_of bytes rows = map (entry_at bytes) rows

-- the bytes of a row lie among these
pub record LiesIn (bytes : List ℕ) (row : Row) : Type 0 where
  pub within : row.begin + row.size ≤ length bytes
  pub sized : IsSized row.kind row.size

-- rows lie among these bytes, which are no more than theirs, and there is room for both
pub record AreLaid (bytes : List ℕ) (rows : List Row) (room : ℕ) : Type 0 where
  pub lie : AllByRecursion (LiesIn bytes) rows
  pub counted : bytes_in (entries_of bytes rows) ≡ length bytes
  pub fit : FitsRoom (entries_of bytes rows) room
