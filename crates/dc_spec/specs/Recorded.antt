-- A recorded session: all published words, round by round, in each round by station number.
use Rattle.std.specs.Prelude.{ℕ, ◌*◌, ◌≤◌, ◌≡◌, List, ◌++◌, length, take, drop, map, codes}
use Rattle.std.specs.List.{range_with_len, flat_map}
use Rattle.std.specs.Int.{w16, to_be_bytes}
use Rattle.dc_spec.specs.Limits as limit
use Rattle.dc_spec.specs.Words.{AreWords, word_sum}
use Rattle.dc_spec.specs.Bytes.{word_bytes}

-- how many stations and rounds a session has, and its published words, all of a round before those
-- of the next
pub record Recorded : Type 0 where
  pub stations : ℕ
  pub rounds : ℕ
  pub words : List (List ℕ)

-- at least one station and one round, no more than the limits, and a word for each station and
-- round
pub record IsRecorded (t : Recorded) : Type 0 where
  pub some_stations : 1 ≤ t.stations
  pub most_stations : t.stations ≤ limit.most_stations
  pub some_rounds : 1 ≤ t.rounds
  pub most_rounds : t.rounds ≤ limit.most_words
  pub count : length t.words ≡ t.rounds * t.stations
  pub are_words : AreWords t.words

-- the words of one round
abbrev pub round_words : Recorded → ℕ → List (List ℕ)
round_words t r = take t.stations (drop (r * t.stations) t.words)

-- the superposed words: for each round the sum of its words
abbrev pub superposed : Recorded → List (List ℕ)
superposed t = map (λ r. word_sum (round_words t r)) (range_with_len 0 t.rounds)

-- the file of a recorded session
abbrev pub transcript_bytes : Recorded → List ℕ
transcript_bytes t =
    codes "DCT1" ++ to_be_bytes w16 t.stations ++ to_be_bytes w16 t.rounds
    ++ flat_map word_bytes t.words
