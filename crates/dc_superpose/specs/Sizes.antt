-- Reading a recorded session once its sizes are known.
use Rattle.std.specs.Prelude.{ℕ, ◌*◌, ◌≤◌, ◌≡◌, List, length, Result, Ok, Err}
use Rattle.dc_spec.specs.Limits.{most_stations, most_words}
use Rattle.dc_spec.specs.Recorded.{Recorded, IsRecorded, transcript_bytes, superposed}
use Rattle.dc_field.specs.declared.refusal.Refusal.{Refusal}
use Rattle.dc_field.specs.declared.refusal.Refusal.TheVariants.{NoMemory, Bad}
use Rattle.dc_superpose.specs.Reading.{due_length, words_of, session_of_words, transcript_of}
use Rattle.dc_superpose.specs.declared.fault.TranscriptFault.{TranscriptFault}
use Rattle.dc_superpose.specs.declared.sizes.Sizes.{Sizes}

-- the session of these sizes, once the words and the end of the bytes are tested, or the first fault
abbrev pub session_of_sizes : List ℕ → Result Sizes TranscriptFault → Result Recorded TranscriptFault
session_of_sizes bytes (Ok sizes) = session_of_words bytes sizes.stations sizes.rounds (words_of bytes (sizes.rounds * sizes.stations))
session_of_sizes bytes (Err fault) = Err fault

-- the sizes are within their limits, the due length is theirs, and the bytes are so many or more
pub record AreSizes (bytes : List ℕ) (sizes : Sizes) : Type 0 where
  pub some_stations : 1 ≤ sizes.stations
  pub most_stations : sizes.stations ≤ most_stations
  pub some_rounds : 1 ≤ sizes.rounds
  pub most_rounds : sizes.rounds ≤ most_words
  pub due_is : sizes.due ≡ due_length (sizes.rounds * sizes.stations)
  pub long_enough : due_length (sizes.rounds * sizes.stations) ≤ length bytes

-- the superposed words of what was read
abbrev pub sums_of : Result Recorded TranscriptFault → Result (List (List ℕ)) TranscriptFault
sums_of (Ok session) = Ok (superposed session)
sums_of (Err fault) = Err fault

-- the superposed words of the words that were read
abbrev pub summed : Sizes → Result (List (List ℕ)) TranscriptFault → Result (List (List ℕ)) TranscriptFault
summed sizes (Ok words) = Ok (superposed (record { stations = sizes.stations; rounds = sizes.rounds; words = words }))
summed sizes (Err fault) = Err fault

-- the superposed words of the session that the bytes spell, or the first fault
abbrev pub GivesSums : List ℕ → Result (List (List ℕ)) (Refusal TranscriptFault) → Type 0
GivesSums bytes (Ok words) = (session : Recorded) × IsRecorded session × (bytes ≡ transcript_bytes session) × (transcript_of bytes ≡ Ok session) × (words ≡ superposed session)
GivesSums bytes (Err NoMemory) = Unit {0}
GivesSums bytes (Err (Bad fault)) = transcript_of bytes ≡ Err fault
