-- The forms of the command line.
use Rattle.std.specs.Prelude.{String, ℕ, suc, ◌/◌, Bool, true, false, not, ◌&&◌, ◌==◌, min, max, nat_le, List, [], ◌∷◌, ◌++◌, length, map, slice_index_or, codes, if◌then◌else◌, fold, Option, None, Some, is_some, unwrap_or}
use Rattle.std.specs.String.{string_bytes}
use Rattle.std.specs.Str.{bytes_eq}
use Rattle.std.specs.List.{list_any}
use Rattle.dc_spec.specs.Limits.{most_stations, most_words}
use Rattle.dc_field.specs.NumberInText.{number_in}
use Rattle.dc_text.specs.Payload.{payload_in}

-- the place of a word in a form: a fixed word, a name, a seed, or a number from one to another
pub data Slot : Type 0 where
  literal : List ℕ → Slot
  name : Slot
  seed_word : Slot
  number : ℕ → ℕ → Slot

-- a name is not empty and does not begin with `-`
abbrev pub is_name : List ℕ → Bool
is_name [] = false
is_name (c ∷ _) = not (c == 45)

-- bytes that are so many
abbrev pub of_length : ℕ → Option (List ℕ) → Option (List ℕ)
of_length n None = None
of_length n (Some bytes) = if length bytes == n then Some bytes else None

-- the 32 bytes of a seed, which a word spells in 64 lower-case hexadecimal digits
abbrev pub seed_in : List ℕ → Option (List ℕ)
seed_in word = of_length 32 (payload_in word)

-- a number, where it is one from low to high
abbrev pub where_between : ℕ → ℕ → Option ℕ → Option ℕ
where_between low high None = None
where_between low high (Some n) = if nat_le low n && nat_le n high then Some n else None

-- the number from low to high that a word spells in decimal, without leading zeros
abbrev pub number_between : ℕ → ℕ → List ℕ → Option ℕ
number_between low high word = where_between low high (number_in word)

-- a word fits a place: it is the fixed word, a name, a seed, or a number within its limits
abbrev pub fits : Slot → List ℕ → Bool
fits (literal due) word = bytes_eq word due
fits name word = is_name word
fits seed_word word = is_some (seed_in word)
fits (number low high) word = is_some (number_between low high word)

-- how many words from the front fit a form, one by one
abbrev pub begun : List Slot → List (List ℕ) → ℕ
begun [] words = 0
begun (slot ∷ slots) [] = 0
begun (slot ∷ slots) (word ∷ words) = if fits slot word then suc (begun slots words) else 0

-- the words spell a form: each fits, and none is missing or left over
abbrev pub spells : List Slot → List (List ℕ) → Bool
spells [] [] = true
spells [] (_ ∷ _) = false
spells (slot ∷ slots) [] = false
spells (slot ∷ slots) (word ∷ words) = fits slot word && spells slots words

-- what stands after `keygen`: a seed, the name of a manifest and the name of the key file; a flag more for a key file of seeds
abbrev pub keygen_slots : List Slot
keygen_slots = seed_word ∷ name ∷ name ∷ []

abbrev pub seeds_slots : List Slot
seeds_slots = seed_word ∷ name ∷ name ∷ literal (codes "--seeds") ∷ []

-- what stands after `twin`: the names of a manifest, of a list of images, and of the key file
abbrev pub twin_slots : List Slot
twin_slots = name ∷ name ∷ name ∷ []

-- what stands after `steer`: the name of a manifest, two stations, the names of a list of wanted words and of the key file
abbrev pub second_slots : List Slot
second_slots = number 0 255 ∷ name ∷ name ∷ []

abbrev pub ends_slots : List Slot
ends_slots = number 0 255 ∷ second_slots

abbrev pub steer_slots : List Slot
steer_slots = name ∷ ends_slots

-- what stands after `station`: an address, a station, the names of a key file and of a stream
abbrev pub player_slots : List Slot
player_slots = number 0 255 ∷ name ∷ name ∷ []

abbrev pub station_slots : List Slot
station_slots = name ∷ player_slots

-- what stands after `hub`: an address, a number of stations, a number of words, the name of the transcript
abbrev pub length_slots : List Slot
length_slots = number 1 most_words ∷ name ∷ []

abbrev pub hosted_slots : List Slot
hosted_slots = number 1 most_stations ∷ length_slots

abbrev pub hub_slots : List Slot
hub_slots = name ∷ hosted_slots

-- the option that gives a number of workers
abbrev pub workers_slots : List Slot
workers_slots = literal (codes "--workers") ∷ number 1 64 ∷ []

-- the most words of a trial of so many stations: all stations together send at most 524288
abbrev pub most_words_of : ℕ → ℕ
most_words_of stations = min most_words (524288 / stations)

-- the number of stations that a word spells; 1 where it spells none
abbrev pub stations_in : List ℕ → ℕ
stations_in word = unwrap_or (number_between 1 most_stations word) 1

-- what stands after `trial`: a number as the seed, a number of stations, and a number of words, of which more stations allow fewer
abbrev pub words_slots : ℕ → List Slot
words_slots stations = number 1 (most_words_of stations) ∷ []

abbrev pub stations_slots : List ℕ → List Slot
stations_slots stations = number 1 most_stations ∷ words_slots (stations_in stations)

abbrev pub trial_slots : List ℕ → List Slot
trial_slots stations = number 0 4294967295 ∷ stations_slots stations

-- all forms of a command line of these words: the most words of a trial depend on its number of stations, which is the third word
abbrev pub forms : List (List ℕ) → List (List Slot)
forms words =
    let stations = slice_index_or words 2 [] in
    (literal (codes "sum") ∷ name ∷ [])
    ∷ (literal (codes "keygen") ∷ keygen_slots)
    ∷ (literal (codes "keygen") ∷ seeds_slots)
    ∷ (literal (codes "migrate") ∷ name ∷ name ∷ [])
    ∷ (literal (codes "replay") ∷ name ∷ [])
    ∷ (literal (codes "replay") ∷ name ∷ workers_slots)
    ∷ (literal (codes "logs") ∷ name ∷ [])
    ∷ (literal (codes "twin") ∷ twin_slots)
    ∷ (literal (codes "steer") ∷ steer_slots)
    ∷ (literal (codes "station") ∷ station_slots)
    ∷ (literal (codes "hub") ∷ hub_slots)
    ∷ (literal (codes "trial") ∷ trial_slots stations)
    ∷ (literal (codes "trial") ∷ trial_slots stations ++ workers_slots)
    ∷ []

-- the words are one of the forms
abbrev pub is_form : List (List ℕ) → Bool
is_form words = list_any (λ form. spells form words) (forms words)

-- the length of the longest beginning of the words that begins a form
abbrev pub longest_begun : List (List ℕ) → ℕ
longest_begun words = fold max 0 (map (λ form. begun form words) (forms words))

-- the words of a command line as lists of bytes
abbrev pub texts : {A : Type 0} → List (String A) → List (List ℕ)
texts words = map string_bytes words
