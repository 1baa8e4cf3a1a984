-- What the shifts of edges are made of: the rows of a list of words, the sums below the stations of
-- each row, and the words of one edge.
use Rattle.std.specs.Prelude.{ℕ, ◌+◌, ◌*◌, ◌==◌, if◌then◌else◌, Bool, List, map, take, drop, slice_index_or, Option, option_map}
use Rattle.std.specs.List.{flat_map, range_with_len}
use Rattle.std.specs.Option.{option_map_or}
use Rattle.dc_spec.specs.Words.{zero_word, word_sub}
use Rattle.dc_spec.specs.Pads.{Pair}
use Rattle.dc_graph_rules.specs.Graphs.{KeyGraph}
use Rattle.dc_graph_rules.specs.Forests.{parents, below_sums}
use Rattle.dc_key_rules.specs.PairKeys.{symbols, pads_add}
use Rattle.dc_twin_rules.specs.Twins.{Shift, child_end}

-- the row of this number, where each row has n words
abbrev pub row_in : ℕ → List (List ℕ) → ℕ → List (List ℕ)
row_in n words t = take n (drop (t * n) words)

-- for so many rows the sums below all stations
abbrev pub sums_in : KeyGraph → ℕ → List (List ℕ) → List (List ℕ)
sums_in g rows words =
    flat_map (λ t. below_sums g (row_in g.stations words t)) (range_with_len 0 rows)

-- a word, or where it is to be subtracted, minus that word
abbrev pub signed : Bool → List ℕ → List ℕ
signed adds w = if adds then w else word_sub zero_word w

-- the words of an edge: for so many rows of n words the one at the place of the child
abbrev pub edge_words : ℕ → ℕ → ℕ → Bool → List (List ℕ) → List (List ℕ)
edge_words rows n child adds sums =
    map (λ t. signed adds (slice_index_or sums (t * n + child) zero_word)) (range_with_len 0 rows)

-- the shift of a pair whose edge is one of the forest, by the sums of so many rows
abbrev pub edge_shift : KeyGraph → ℕ → List (List ℕ) → Pair → Option Shift
edge_shift g rows sums pair = option_map (λ child. record {
  u = pair.u;
  v = pair.v;
  words = edge_words rows g.stations child (child == pair.u) sums;
}) (child_end (parents g) pair)

-- a pair with a shift added to its first pads
abbrev pub with_shift : Option Shift → Pair → Pair
with_shift o pair =
    option_map_or (λ s. record pair { a = pads_add pair.a (symbols s.words) }) o pair
