-- Parts of a list of pairs that were made chunk by chunk.
use Rattle.std.specs.Prelude.{ℕ, ◌≡◌, ◌<◌, List, length, slice_index_or, Result, IfOk}
use Rattle.std.specs.Fork.{slice_chunk}
use Rattle.dc_spec.specs.Pads.{Pair}

-- each part is an error or the chunk of that number
abbrev pub AreChunks : {E : Type 0} → List Pair → ℕ → List (Result (List Pair) E) → Type 0
AreChunks {E} xs size parts = (n : ℕ) (d : Result (List Pair) E) → n < length parts → IfOk (slice_index_or parts n d) (λ ps. ps ≡ slice_chunk xs size n)
