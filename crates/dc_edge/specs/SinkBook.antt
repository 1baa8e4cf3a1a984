-- What a sink in memory keeps, and what a put does to it.
use Rattle.std.specs.Prelude.{ℕ, ◌+◌, ◌-◌, ◌^◌, ◌==◌, min, Bool, true, false, if◌then◌else◌, nat_le, List, [], ◌∷◌, ◌++◌, length, take, Some}
use Rattle.std.specs.List.{list_any}
use Rattle.dc_spec.specs.Outside.{SinkState}

-- the bytes appended, the room for all of them, the numbers of the calls that fail, the calls and the faults so far
pub record SinkBook : Type 0 where
  pub written : List ℕ
  pub room : ℕ
  pub fails : List ℕ
  pub calls : ℕ
  pub faults : ℕ

-- all of a sink in memory is known
abbrev pub sink_state : SinkBook → SinkState
sink_state book = record { written = Some book.written; faults = book.faults }

-- a numbered call appended these bytes
abbrev pub book_with : SinkBook → List ℕ → SinkBook
book_with book bytes = record { written = book.written ++ bytes; room = book.room; fails = book.fails; calls = min (book.calls + 1) (2 ^ 32 - 1); faults = book.faults }

-- a numbered call appended these bytes and failed
abbrev pub failed_book_with : SinkBook → List ℕ → SinkBook
failed_book_with book bytes = record { written = book.written ++ bytes; room = book.room; fails = book.fails; calls = min (book.calls + 1) (2 ^ 32 - 1); faults = min (book.faults + 1) (2 ^ 64 - 1) }

-- the book after a put, and whether it succeeded: an empty piece is no call; a call that is to fail appends nothing; past the room what fits is appended
abbrev pub put_of : SinkBook → List ℕ → SinkBook × Bool
put_of book [] = (book, true)
put_of book (b ∷ bs) =
    if list_any (λ n. n == book.calls) book.fails then (failed_book_with book [], false)
    else (if nat_le (length book.written + length (b ∷ bs)) book.room then (book_with book (b ∷ bs), true)
    else (failed_book_with book (take (book.room - length book.written) (b ∷ bs)), false))
