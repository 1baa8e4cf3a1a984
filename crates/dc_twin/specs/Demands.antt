-- What demands are made of: the words that a station received, and its two senders.
use Rattle.std.specs.Prelude.{ℕ, ◌+◌, ◌*◌, List, [], length, map, take, slice_index_or, if◌then◌else◌}
use Rattle.std.specs.List.{range_with_len}
use Rattle.dc_spec.specs.Words.{zero_word, word_sub}
use Rattle.dc_spec.specs.Entries.{Stream}
use Rattle.dc_spec.specs.Lists.{is_among}
use Rattle.dc_spec.specs.Net.{Net}
use Rattle.dc_station_rules.specs.Stations.{plain_word}
use Rattle.dc_net_rules.specs.Runs.{history, all_rounds}
use Rattle.dc_twin_rules.specs.Twins.{demand}

-- the plain word of one stream after each beginning of a list of words, minus that of another one
abbrev pub stream_demands : Stream → Stream → List (List ℕ) → List (List ℕ)
stream_demands own other received =
    map (λ t. word_sub (plain_word own (take t received)) (plain_word other (take t received)))
    (range_with_len 0 (length received))

-- the demands of a station round by round; a member has none
abbrev pub station_demands : Net → List ℕ → ℕ → List (List ℕ)
station_demands net p i =
    if is_among net.coalition i then []
    else map (λ t. demand net p i (take t (history (all_rounds net) i))) (range_with_len 0 net.words)

-- the words at one place of each row, for so many rows of n words
abbrev pub words_at : ℕ → ℕ → ℕ → List (List ℕ) → List (List ℕ)
words_at rows n j words = map (λ t. slice_index_or words (t * n + j) zero_word) (range_with_len 0 rows)

-- the words of one row, each from a list by rows; the zero word where a list has none
abbrev pub row_of : List (List (List ℕ)) → ℕ → List (List ℕ)
row_of columns t = map (λ column. slice_index_or column t zero_word) columns
