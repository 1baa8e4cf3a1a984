-- Lines that end in a word: that of a station, and that of a pair of stations in a round.
use Rattle.std.specs.Prelude.{ℕ, ◌*◌, List, ◌++◌, take, drop, codes}
use Rattle.std.specs.Fmt.{decimal}
use Rattle.dc_spec.specs.Text.{line, word_text}

-- a beginning, the station's number, a blank, the word
abbrev pub station_word_line : List ℕ → ℕ → List ℕ → List ℕ
station_word_line beginning i w = line (beginning ++ decimal i ++ codes " " ++ word_text w)

-- a beginning, the pair's two numbers and the round with a blank after each, the word
abbrev pub pair_word_line : List ℕ → ℕ → ℕ → ℕ → List ℕ → List ℕ
pair_word_line beginning u v r w = line
    (beginning ++ decimal u ++ codes " " ++ decimal v ++ codes " " ++ decimal r ++ codes " "
    ++ word_text w)

-- the items of one round, of a list that has so many items for each round
abbrev pub items_of_round : {A : Type 0} → ℕ → ℕ → List A → List A
items_of_round count r items = take count (drop (count * r) items)
