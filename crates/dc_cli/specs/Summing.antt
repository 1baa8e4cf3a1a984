-- The command `sum`: a transcript is read, and the text of its superposed words is put.
use Rattle.std.specs.Prelude.{ℕ, ◌≡◌, ◌⊎◌, List, Result, Ok, Err}
use Rattle.dc_spec.specs.Outside.{ShelfState, SinkState}
use Rattle.dc_spec.specs.Limits.{transcript_limit}
use Rattle.dc_spec.specs.Recorded.{Recorded, IsRecorded, transcript_bytes, superposed}
use Rattle.dc_spec.specs.Text.{words_text}
use Rattle.dc_edge.specs.Shelf.{Reads}
use Rattle.dc_edge.specs.Sink.{Puts}
use Rattle.dc_edge.specs.declared.fault.Failed.{Failed}
use Rattle.dc_edge.specs.declared.fault.ShelfFault.TheVariants as faults
use Rattle.dc_superpose.specs.Reading.{transcript_of}
use Rattle.dc_superpose.specs.declared.fault.TranscriptFault.{TranscriptFault}
use Rattle.dc_cli.specs.Reading.{Unasked, GaveBytes}
use Rattle.dc_cli.specs.declared.outcome.Outcome.{Outcome}
use Rattle.dc_cli.specs.declared.outcome.Outcome.TheVariants.{Done, Missing, TooLong, Malformed, ShelfFault, SinkFault, NoMemory}
use Rattle.dc_cli.specs.declared.outcome.FileFault.TheVariants.{Transcript}

-- the bytes are the transcript of a session, and the words are its superposed words
pub record Summed (bytes : List ℕ) (words : List (List ℕ)) : Type 0 where
  pub session : Recorded
  pub recorded : IsRecorded session
  pub spelled : bytes ≡ transcript_bytes session
  pub decoded : transcript_of bytes ≡ Ok session
  pub sums : words ≡ superposed session

-- the bytes are the transcript of no session
abbrev pub IsNoTranscript : List ℕ → Type 0
IsNoTranscript bytes = (session : Recorded) → IsRecorded session → bytes ≡ transcript_bytes session → ⊥

-- the bytes are no transcript, and this is their first fault
pub record Refused (bytes : List ℕ) (fault : TranscriptFault) : Type 0 where
  pub first_fault : transcript_of bytes ≡ Err fault
  pub no_transcript : IsNoTranscript bytes

-- the words of the sums, or why there are none, by the bytes of the file
abbrev pub SummedBytes : List ℕ → List ℕ → Result (List (List ℕ)) Outcome → Type 0
SummedBytes file bytes (Ok words) = Summed bytes words
SummedBytes file bytes (Err (Malformed name (Transcript fault))) = (name ≡ file) × Refused bytes fault
SummedBytes file bytes (Err NoMemory) = Unit {0}
SummedBytes file bytes (Err _) = ⊥

-- the words of the sums, or why there are none, by what the shelf did
abbrev pub SummedFile : List ℕ → ShelfState → ShelfState → Result (List (List ℕ)) Outcome → Type 0
SummedFile file before after (Ok words) = GaveBytes file transcript_limit before after (λ bytes. Summed bytes words)
SummedFile file before after (Err (Missing name)) = (name ≡ file) × Reads file transcript_limit before after (Err faults.Missing)
SummedFile file before after (Err (TooLong name)) = (name ≡ file) × Reads file transcript_limit before after (Err faults.TooLong)
SummedFile file before after (Err (Malformed name (Transcript fault))) = (name ≡ file) × GaveBytes file transcript_limit before after (λ bytes. Refused bytes fault)
SummedFile file before after (Err ShelfFault) = Reads file transcript_limit before after (Err faults.Failed)
SummedFile file before after (Err NoMemory) = Unasked before after ⊎ GaveBytes file transcript_limit before after (λ bytes. Unit {0})
SummedFile file before after (Err _) = ⊥

-- the sums of the file's transcript were put, and this is how the put ended
pub record PutSums (file : List ℕ) (shelf shelf' : ShelfState) (out out' : SinkState) (ended : Result Unit Failed) : Type 0 where
  pub words : List (List ℕ)
  pub summed : GaveBytes file transcript_limit shelf shelf' (λ bytes. Summed bytes words)
  pub put : Puts (words_text words) out out' ended

-- what `sum` did, by its outcome
abbrev pub SumRan : List ℕ → ShelfState → ShelfState → SinkState → SinkState → Outcome → Type 0
SumRan file shelf shelf' out out' Done = PutSums file shelf shelf' out out' (Ok tt)
SumRan file shelf shelf' out out' SinkFault = (failed : Failed) × PutSums file shelf shelf' out out' (Err failed)
SumRan file shelf shelf' out out' other = (out' ≡ out) × SummedFile file shelf shelf' (Err other)
