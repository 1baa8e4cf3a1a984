-- What a shelf in memory keeps, and what hold, read and write do to it.
use Rattle.std.specs.Prelude.{ℕ, ◌+◌, ◌-◌, ◌^◌, ◌≡◌, ◌==◌, min, if◌then◌else◌, nat_le, List, [], ◌∷◌, ◌++◌, length, Option, Some, None, Result, Ok, Err}
use Rattle.std.specs.List.{list_any}
use Rattle.std.specs.Str.{bytes_eq}
use Rattle.dc_spec.specs.Outside.{Holding, absent, held, ShelfState}
use Rattle.dc_edge.specs.declared.fault.ShelfFault.{ShelfFault}
use Rattle.dc_edge.specs.declared.fault.ShelfFault.TheVariants.{Missing, TooLong, Failed, NoMemory}
use Rattle.dc_edge.specs.declared.fault.WriteFault.{WriteFault}
use Rattle.dc_edge.specs.declared.fault.WriteFault.TheVariants as writes

-- the names with their bytes, the last one held first; the names asked for; the numbers of the calls that fail; the calls and the faults so far
pub record ShelfBook : Type 0 where
  pub files : List (List ℕ × List ℕ)
  pub asked : List (List ℕ)
  pub fails : List ℕ
  pub calls : ℕ
  pub faults : ℕ

-- the bytes that a name holds, where it is held
abbrev pub held_bytes : List (List ℕ × List ℕ) → List ℕ → Option (List ℕ)
held_bytes [] name = None
held_bytes (file ∷ files) name = if bytes_eq file.0 name then Some file.1 else held_bytes files name

-- what is known of a name in a shelf in memory: all
abbrev pub holding_of : Option (List ℕ) → Holding
holding_of None = absent
holding_of (Some bytes) = held bytes

-- all of a shelf in memory is known
abbrev pub shelf_state : ShelfBook → ShelfState
shelf_state book = record { holds = λ name. holding_of (held_bytes book.files name); asked = Some book.asked; faults = book.faults }

-- the bytes are held under the name from here on
abbrev pub book_holding : ShelfBook → List ℕ → List ℕ → ShelfBook
book_holding book name bytes = record { files = (name, bytes) ∷ book.files; asked = book.asked; fails = book.fails; calls = book.calls; faults = book.faults }

-- a numbered call asked for the name
abbrev pub book_asked : ShelfBook → List ℕ → ShelfBook
book_asked book name = record { files = book.files; asked = book.asked ++ name ∷ []; fails = book.fails; calls = min (book.calls + 1) (2 ^ 32 - 1); faults = book.faults }

-- a numbered call asked for the name and failed
abbrev pub failed_book_asked : ShelfBook → List ℕ → ShelfBook
failed_book_asked book name = record { files = book.files; asked = book.asked ++ name ∷ []; fails = book.fails; calls = min (book.calls + 1) (2 ^ 32 - 1); faults = min (book.faults + 1) (2 ^ 64 - 1) }

-- the answer by the bytes that the name holds
abbrev pub answer_of : Option (List ℕ) → ℕ → Result (List ℕ) ShelfFault
answer_of None limit = Err Missing
answer_of (Some bytes) limit = if nat_le (length bytes) limit then Ok bytes else Err TooLong

-- the book after a read, and the answer: a call that is to fail fails, else the bytes under the name decide
abbrev pub read_of : ShelfBook → List ℕ → ℕ → ShelfBook × Result (List ℕ) ShelfFault
read_of book name limit =
    if list_any (λ n. n == book.calls) book.fails then (failed_book_asked book name, Err Failed)
    else (book_asked book name, answer_of (held_bytes book.files name) limit)

-- a read does what read_of says, or nothing where memory ran out
abbrev pub ReadsBook : List ℕ → ℕ → ShelfBook → ShelfBook → Result (List ℕ) ShelfFault → Type 0
ReadsBook name limit book now (Err NoMemory) = now ≡ book
ReadsBook name limit book now result = (now, result) ≡ read_of book name limit

-- the book after a write, and the answer: a call that is to fail changes no file, else the bytes are held under the name
abbrev pub write_of : ShelfBook → List ℕ → List ℕ → ShelfBook × Result Unit WriteFault
write_of book name bytes =
    if list_any (λ n. n == book.calls) book.fails then (failed_book_asked book name, Err writes.Failed)
    else (book_asked (book_holding book name bytes) name, Ok tt)

-- a write does what write_of says, or nothing where memory ran out
abbrev pub WritesBook : List ℕ → List ℕ → ShelfBook → ShelfBook → Result Unit WriteFault → Type 0
WritesBook name bytes book now (Err writes.NoMemory) = now ≡ book
WritesBook name bytes book now result = (now, result) ≡ write_of book name bytes
