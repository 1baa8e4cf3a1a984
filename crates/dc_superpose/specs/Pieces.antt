-- Some words of a file, and its symbols so far.
use Rattle.std.specs.Prelude.{ℕ, ◌+◌, ◌*◌, ◌<◌, ◌≤◌, ◌≡◌, List, map, Result, Ok, Err}
use Rattle.std.specs.List.{range_with_len}
use Rattle.dc_spec.specs.Bytes.{number_at, word_at}
use Rattle.dc_superpose.specs.Reading.{symbol_offset, words_of}
use Rattle.dc_superpose.specs.declared.fault.TranscriptFault.{TranscriptFault}

-- the first numbers of a file are symbols
pub record FirstAreSymbols (b : List ℕ) (count : ℕ) : Type 0 where
  pub small : (s : ℕ) → s < count → number_at b (symbol_offset s) ≤ 65536

-- the words of a file from word number `first` on
abbrev pub words_from : List ℕ → ℕ → ℕ → List (List ℕ)
words_from bytes first count = map (λ i. word_at bytes (8 + 64 * i)) (range_with_len first count)

-- these are the words from word number `first` on, and all symbols so far are good; or the fault is the file's, however many words it has
abbrev pub ReadsWords : List ℕ → ℕ → ℕ → Result Unit TranscriptFault → List (List ℕ) → Type 0
ReadsWords bytes first count (Ok _) words = (words ≡ words_from bytes first count) × FirstAreSymbols bytes (16 * (first + count))
ReadsWords bytes first count (Err fault) words = (total : ℕ) → first + count ≤ total → words_of bytes total ≡ Err fault
