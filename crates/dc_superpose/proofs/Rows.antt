-- Worked files, by computation.
use Rattle.std.proofs.Common.{◌≡◌, ℕ, List, [], ◌∷◌, ◌++◌, take, Ok, Err, refl}
use Rattle.std.specs.Prelude.{codes, replicate}
use Rattle.std.specs.List.{flat_map}
use Rattle.dc_spec.specs.Words.{word_of}
use Rattle.dc_spec.specs.Recorded.{Recorded, superposed}
use Rattle.dc_superpose.specs.declared.fault.TranscriptFault.TheVariants.{Truncated, Magic, Words, Symbol, Rest}
use Rattle.dc_superpose.specs.Reading.{transcript_of, sized, body_of, words_of}

-- four bytes, so many times
abbrev times : ℕ → List ℕ → List ℕ
times n bytes = flat_map {X = ℕ} (λ _. bytes) (replicate n 0)

-- two stations, one round: a word of 65536s after this first symbol, and a word of ones
abbrev two_words : List ℕ → List ℕ
two_words first = codes "DCT1" ++ (0 ∷ 2 ∷ 0 ∷ 1 ∷ []) ++ first ++ times 15 (0 ∷ 1 ∷ 0 ∷ 0 ∷ []) ++ times 16 (0 ∷ 0 ∷ 0 ∷ 1 ∷ [])

abbrev two_words_recorded : Recorded
two_words_recorded = record { stations = 2; rounds = 1; words = replicate 16 65536 ∷ replicate 16 1 ∷ [] }

two_words_are_read : transcript_of (two_words (0 ∷ 1 ∷ 0 ∷ 0 ∷ [])) ≡ Ok two_words_recorded
unfolding transcript_of sized body_of words_of word_of
two_words_are_read = refl

two_words_cancel : superposed two_words_recorded ≡ replicate 16 0 ∷ []
unfolding word_of
two_words_cancel = refl

first_symbol_above : transcript_of (two_words (0 ∷ 1 ∷ 0 ∷ 1 ∷ [])) ≡ Err (Symbol 8 65537)
unfolding transcript_of sized body_of words_of word_of
first_symbol_above = refl

without_last_byte : transcript_of (take 135 (two_words (0 ∷ 1 ∷ 0 ∷ 0 ∷ []))) ≡ Err (Truncated 135 136)
unfolding transcript_of sized body_of words_of word_of
without_last_byte = refl

one_byte_more : transcript_of (two_words (0 ∷ 1 ∷ 0 ∷ 0 ∷ []) ++ 0 ∷ []) ≡ Err (Rest 136)
unfolding transcript_of sized body_of words_of word_of
one_byte_more = refl

no_bytes : transcript_of [] ≡ Err (Truncated 0 8)
unfolding transcript_of sized body_of words_of word_of
no_bytes = refl

-- a bad symbol is reported before bytes after the last word
symbol_before_rest : transcript_of (codes "DCT1" ++ (0 ∷ 1 ∷ 0 ∷ 1 ∷ []) ++ times 13 (0 ∷ 0 ∷ 0 ∷ 0 ∷ []) ++ times 1 (255 ∷ 255 ∷ 255 ∷ 255 ∷ []) ++ times 5 (0 ∷ 0 ∷ 0 ∷ 0 ∷ [])) ≡ Err
    (Symbol 60 4294967295)
unfolding transcript_of sized body_of words_of word_of
symbol_before_rest = refl

-- the number of rounds is reported before the length
rounds_before_length : transcript_of (codes "DCT1" ++ (0 ∷ 2 ∷ 0 ∷ 0 ∷ [])) ≡ Err (Words 0)
unfolding transcript_of sized body_of words_of word_of
rounds_before_length = refl

-- the first bytes are reported before the number of stations
magic_before_stations : transcript_of (68 ∷ 67 ∷ 2 ∷ 49 ∷ 0 ∷ 0 ∷ 0 ∷ 0 ∷ []) ≡ Err Magic
unfolding transcript_of sized body_of words_of word_of
magic_before_stations = refl
