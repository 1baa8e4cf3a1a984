-- The sum of the plain words of all stations of a net.
use Rattle.std.specs.Prelude.{ℕ, List, map}
use Rattle.std.specs.List.{range_with_len}
use Rattle.dc_spec.specs.Words.{word_sum}
use Rattle.dc_spec.specs.Net.{Net}
use Rattle.dc_station_rules.specs.Stations.{plain_word}
use Rattle.dc_net_rules.specs.Runs.{station_stream}

-- the plain words of all stations after these received words, by station
abbrev pub plain_words : Net → List (List ℕ) → List (List ℕ)
plain_words net received =
    map (λ i. plain_word (station_stream net i) received) (range_with_len 0 net.stations)

-- and their sum
abbrev pub plain_sum : Net → List (List ℕ) → List ℕ
plain_sum net received = word_sum (plain_words net received)
