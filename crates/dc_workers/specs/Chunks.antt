-- Parts of a list that were made chunk by chunk.
use Rattle.std.specs.Prelude.{ℕ, ◌≡◌, ◌<◌, List, length, slice_index_or, Result, IfOk}
use Rattle.std.specs.Fork.{slice_chunk}

-- each part is an error or the chunk of that number
abbrev pub AreChunks : {E : Type 0} → List (List ℕ) → ℕ → List (Result (List (List ℕ)) E) → Type 0
AreChunks {E} xs size parts = (n : ℕ) (d : Result (List (List ℕ)) E) → n < length parts → IfOk (slice_index_or parts n d) (λ ws. ws ≡ slice_chunk xs size n)
