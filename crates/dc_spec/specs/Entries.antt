-- What a station has to send, its stream, and what it received, the entries of its log.
use Rattle.std.specs.Prelude.{ℕ, ◌<◌, ◌≤◌, List, length, All, ◌+◌, [], ◌∷◌}
use Rattle.dc_spec.specs.Limits as limit

-- a message: bytes, and no more than a burst can carry
pub record IsMessage (message : List ℕ) : Type 0 where
  pub most : length message ≤ limit.most_message
  pub are_bytes : All (λ b. b < 256) message

-- an entry of a log or of a list of sent entries: a value with how many stations sent it, or a
-- message
pub data Entry : Type 0 where
  short : List ℕ → ℕ → Entry
  long : List ℕ → Entry

-- the bytes of an entry's value or message
abbrev pub entry_bytes : Entry → List ℕ
entry_bytes (short value times) = value
entry_bytes (long message) = message

-- how many bytes the values and messages of entries have
abbrev pub bytes_in : List Entry → ℕ
bytes_in [] = 0
bytes_in (entry ∷ entries) = length (entry_bytes entry) + bytes_in entries

-- what a station has to send: its values, its messages, and the fields that it marks to reserve a
-- burst
pub record Stream : Type 0 where
  pub shorts : List (List ℕ)
  pub longs : List (List ℕ)
  pub coins : List ℕ
