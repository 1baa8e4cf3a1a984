-- Files that are one list: the images of a permutation, and wanted words.
use Rattle.std.specs.Prelude.{ℕ, ◌<◌, ◌≤◌, List, length, All}
use Rattle.std.specs.List.{flat_map}
use Rattle.std.specs.Fmt.{decimal}
use Rattle.dc_spec.specs.Limits as limit
use Rattle.dc_spec.specs.Words.{AreWords}
use Rattle.dc_spec.specs.Text.{line, words_text}

-- a line for each station, from station 0 on, with the number of its image
abbrev pub images_text : List ℕ → List ℕ
images_text images = flat_map (λ i. line (decimal i)) images

-- numbers of stations, no more of them than stations; they need not be a permutation
pub record AreImages (images : List ℕ) : Type 0 where
  pub most : length images ≤ limit.most_stations
  pub numbers : All (λ i. i < limit.most_stations) images

-- a line for each wanted word
abbrev pub wanted_text : List (List ℕ) → List ℕ
wanted_text words = words_text words

-- no more words than a session has
pub record AreWanted (words : List (List ℕ)) : Type 0 where
  pub most : length words ≤ limit.most_words
  pub are_words : AreWords words
