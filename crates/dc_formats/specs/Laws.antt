-- Laws of the formats: no two contents have the same bytes, texts are printable lines, and no file
-- is longer than its read limit.
use Rattle.std.specs.Prelude.{ℕ, ◌+◌, ◌*◌, ◌<◌, ◌≤◌, ◌≡◌, List, length, map, All, false}
use Rattle.dc_spec.specs.Limits as limit
use Rattle.dc_spec.specs.Lists.{is_among}
use Rattle.dc_spec.specs.Scripts.{delivered_words, stations_of, Turn, Script}
use Rattle.dc_spec.specs.Recorded.{IsRecorded, transcript_bytes}
use Rattle.dc_formats.specs.TextFile.{IsTextLine, IsTextFile, text_file, ended, file_lines}
use Rattle.dc_formats.specs.KeyFile.{IsKeys, keys_bytes}
use Rattle.dc_formats.specs.SeedFile.{IsSeeds, seeds_bytes}
use Rattle.dc_formats.specs.StreamFile.{IsStream, stream_text}
use Rattle.dc_formats.specs.ScriptFile.{IsScript, script_text}
use Rattle.dc_formats.specs.ListFiles.{AreImages, images_text, AreWanted, wanted_text}
use Rattle.dc_formats.specs.Frames.{IsFrame, frames_bytes}

-- two contents within the limits that have the same bytes are the same content
abbrev pub TellsContent : {C : Type 0} → (C → Type 0) → (C → List ℕ) → Type 0
TellsContent {C} IsContent spelling =
    (x y : C) → IsContent x → IsContent y → spelling x ≡ spelling y → x ≡ y

-- of the lines of a text file
abbrev pub TextFilesTellLines : Type 0
TextFilesTellLines = TellsContent (All IsTextLine) text_file

-- of a recorded session
abbrev pub TranscriptsTellContent : Type 0
TranscriptsTellContent = TellsContent IsRecorded transcript_bytes

-- of a key file
abbrev pub KeyFilesTellContent : Type 0
KeyFilesTellContent = TellsContent IsKeys keys_bytes

-- of a key file of seeds
abbrev pub SeedFilesTellContent : Type 0
SeedFilesTellContent = TellsContent IsSeeds seeds_bytes

-- of a stream
abbrev pub StreamsTellContent : Type 0
StreamsTellContent = TellsContent IsStream stream_text

-- of a script
abbrev pub ScriptsTellContent : Type 0
ScriptsTellContent = TellsContent IsScript script_text

-- of the images of stations
abbrev pub ImagesTellContent : Type 0
ImagesTellContent = TellsContent AreImages images_text

-- of wanted words
abbrev pub WantedWordsTellContent : Type 0
WantedWordsTellContent = TellsContent AreWanted wanted_text

-- of any number of frames one after the other
abbrev pub FramesTellContent : Type 0
FramesTellContent = TellsContent (All IsFrame) frames_bytes

-- the spelling of each content within the limits is a text file
abbrev pub IsText : {C : Type 0} → (C → Type 0) → (C → List ℕ) → Type 0
IsText {C} IsContent spelling = (x : C) → IsContent x → IsTextFile (spelling x)

-- of a stream
abbrev pub StreamsAreText : Type 0
StreamsAreText = IsText IsStream stream_text

-- of a script
abbrev pub ScriptsAreText : Type 0
ScriptsAreText = IsText IsScript script_text

-- of the images of stations
abbrev pub ImagesAreText : Type 0
ImagesAreText = IsText AreImages images_text

-- of wanted words
abbrev pub WantedWordsAreText : Type 0
WantedWordsAreText = IsText AreWanted wanted_text

-- the spelling of each content within the limits has at most so many bytes
abbrev pub IsWithin : {C : Type 0} → ℕ → (C → Type 0) → (C → List ℕ) → Type 0
IsWithin {C} limit IsContent spelling = (x : C) → IsContent x → length (spelling x) ≤ limit

-- the longest transcript has a head of 8 bytes and a word of 64 for each round and station
abbrev pub TranscriptsAreShort : Type 0
TranscriptsAreShort =
    IsWithin (8 + 64 * (limit.most_words * limit.most_stations)) IsRecorded transcript_bytes

-- transcripts are within their read limit
abbrev pub TranscriptsAreWithin : Type 0
TranscriptsAreWithin = IsWithin limit.transcript_limit IsRecorded transcript_bytes

-- and key files
abbrev pub KeyFilesAreWithin : Type 0
KeyFilesAreWithin = IsWithin limit.key_file_limit IsKeys keys_bytes

-- and key files of seeds
abbrev pub SeedFilesAreWithin : Type 0
SeedFilesAreWithin = IsWithin limit.key_file_limit IsSeeds seeds_bytes

-- and streams
abbrev pub StreamsAreWithin : Type 0
StreamsAreWithin = IsWithin limit.stream_limit IsStream stream_text

-- a round that a net can have: its stations are below the limit, and no station both says a word
-- and is delivered one
pub record FitsNets (turn : Turn) : Type 0 where
  pub saying : All (λ i. i < limit.most_stations) (stations_of turn.says)
  pub receiving : All (λ i. i < limit.most_stations) (stations_of (delivered_words turn.delivery))
  pub apart : All (λ i. is_among (stations_of (delivered_words turn.delivery)) i ≡ false)
      (stations_of turn.says)

-- and scripts, where a net can have each round
abbrev pub ScriptsAreWithin : Type 0
ScriptsAreWithin =
    (script : Script) → IsScript script → All FitsNets script.rounds
    → length (script_text script) ≤ limit.script_limit

-- and files of images
abbrev pub ImagesAreWithin : Type 0
ImagesAreWithin = IsWithin limit.permutation_limit AreImages images_text

-- and files of wanted words
abbrev pub WantedWordsAreWithin : Type 0
WantedWordsAreWithin = IsWithin limit.wanted_words_limit AreWanted wanted_text

-- the lines of a text file are its texts, each with its end
abbrev pub TextFilesHaveLines : Type 0
TextFilesHaveLines =
    (texts : List (List ℕ)) → All IsTextLine texts → file_lines (text_file texts) ≡ map ended texts

-- a file whose lines all have their end is the text file of them
abbrev pub EndedLinesAreFile : Type 0
EndedLinesAreFile =
    (bytes : List ℕ) (texts : List (List ℕ)) → file_lines bytes ≡ map ended texts
    → bytes ≡ text_file texts
