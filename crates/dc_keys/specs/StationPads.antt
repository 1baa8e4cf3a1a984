-- The pads of a station: for each number the signed sum of its pairs' pads.
use Rattle.std.specs.Prelude.{ℕ, ◌+◌, ◌-◌, ◌*◌, ◌/◌, ◌%◌, ◌<◌, ◌≡◌, ◌==◌, ◌++◌, List, length, map, filter, sum_by, slice_index}
use Rattle.std.specs.List.{range_with_len}
use Rattle.dc_spec.specs.Words.{AreWords, word_of}
use Rattle.dc_spec.specs.Pads.{Pair, Keys}
use Rattle.dc_formats.specs.KeyFile.{IsKeys}
use Rattle.dc_key_rules.specs.PairKeys.{symbols, key_word, key_part}
use Rattle.dc_keys.specs.Pads.{ArePads}

-- as many first as second pads
pub record StationPads : Type 0 where
  pub first : List ℕ
  pub second : List ℕ

-- for how many words there are pads, sixteen a word
abbrev pub pad_words : StationPads → ℕ
pad_words p = length p.first / 16

-- a station's pads are pads of a session
abbrev pub IsStationPads : StationPads → Type 0
IsStationPads p = ArePads p.first p.second

-- pad n of the pairs whose smaller end is station me, minus pad n of those whose larger end it is
abbrev pub signed_pad : (Pair → List ℕ) → List Pair → ℕ → ℕ → ℕ
signed_pad pads pairs me n = (sum_by (λ p. slice_index (pads p) n) (filter (λ p. p.u == me) pairs) + sum_by (λ p. 65537 - slice_index (pads p) n) (filter (λ p. p.v == me) pairs)) % 65537

-- the signed sums for so many words
unfoldable pub signed_pads : (Pair → List ℕ) → List Pair → ℕ → ℕ → List ℕ
signed_pads pads pairs me words = map (signed_pad pads pairs me) (range_with_len 0 (16 * words))

-- the pads of station me: the signed sums of the first pads, and those of the second pads
abbrev pub station_pads : Keys → ℕ → StationPads
station_pads keys me = record { first = signed_pads (λ p. p.a) keys.pairs me keys.words; second = signed_pads (λ p. p.b) keys.pairs me keys.words }

-- the key that the pads of a station give for the word after a history
abbrev pub station_key : StationPads → List (List ℕ) → List ℕ
station_key pads history = key_word (record { u = 0; v = 0; a = pads.first; b = pads.second }) (symbols history) (length history)

-- the key that the summed pads give is the signed sum of the keys of the station's pairs
abbrev pub KeysOfSummedPads : Type 0
KeysOfSummedPads = (keys : Keys) (me : ℕ) (history : List (List ℕ)) → IsKeys keys → length history < keys.words → station_key (station_pads keys me) history ≡ key_part keys.pairs me history

-- for symbol n: the sum of the products of all symbols of a history with second pads, symbol k with pad n - k, not reduced
abbrev pub history_sum : List ℕ → List (List ℕ) → ℕ → ℕ
history_sum second history n =
    sum_by (λ k. slice_index second (n - k) * slice_index (symbols history) k) (range_with_len 0 (16 * length history))

-- each symbol of the key that the pads of a station give is a first pad plus the sum over the history
abbrev pub KeysOfSums : Type 0
KeysOfSums =
    (pads : StationPads) (history : List (List ℕ)) → station_key pads history
    ≡ word_of (λ l. (slice_index pads.first (16 * length history + l)
    + history_sum pads.second history (16 * length history + l)) % 65537)

-- the sum over a history is the sum over its front and the sum over its rest
abbrev pub KeySumsSplit : Type 0
KeySumsSplit =
    (second : List ℕ) (front rest : List (List ℕ)) (n : ℕ) → AreWords front →
    history_sum second (front ++ rest) n
    ≡ history_sum second front n + history_sum second rest (n - 16 * length front)
