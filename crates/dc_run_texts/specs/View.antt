-- The view of a run: what the coalition and everyone else can see of it. No pad of two honest
-- stations, and no stream.
use Rattle.std.specs.Prelude.{ℕ, List, ◌++◌, length, filter, slice_index_or, codes, [], zip}
use Rattle.std.specs.List.{flat_map, range_with_len, enumerate_from}
use Rattle.std.specs.Fmt.{decimal}
use Rattle.dc_spec.specs.Text.{line, word_text}
use Rattle.dc_spec.specs.Pads.{Pair}
use Rattle.dc_spec.specs.Scripts.{Delivery, all_sum, each}
use Rattle.dc_spec.specs.Net.{Net, Run}
use Rattle.dc_net_rules.specs.Runs.{honest_stations}
use Rattle.dc_formats.specs.WordLines.{station_word_line, pair_word_line, items_of_round}
use Rattle.dc_run_texts.specs.Coalition.{members, is_known}

-- an edge of the key graph
abbrev pub edge_line : ℕ → ℕ → List ℕ
edge_line u v = line (codes "edge " ++ decimal u ++ codes " " ++ decimal v)

-- a line for each of so many rounds, with the sixteen pads of that round
abbrev pub pad_lines : List ℕ → ℕ → ℕ → ℕ → List ℕ → List ℕ
pad_lines beginning words u v pads =
    flat_map (λ r. pair_word_line beginning u v r (items_of_round 16 r pads))
    (range_with_len 0 words)

-- all first pads of a pair, then all second pads
abbrev pub pair_lines : ℕ → Pair → List ℕ
pair_lines words p =
    pad_lines (codes "first ") words p.u p.v p.a ++ pad_lines (codes "second ") words p.u p.v p.b

-- the edges and the members, both in rising order, then all pads that a member knows
abbrev pub net_text : Net → List ℕ
net_text net = flat_map (λ e. edge_line e.0 e.1) net.edges
    ++ flat_map (λ i. line (codes "member " ++ decimal i)) (members net)
    ++ flat_map (pair_lines net.words) (filter (is_known net) net.keys.pairs)

-- the kind of delivery: the sum, or a word for each station
abbrev pub delivery_line : Delivery → List ℕ
delivery_line all_sum = line (codes "all")
delivery_line (each dealt) = line (codes "each")

-- the words published in a round, by station
abbrev pub published_lines : Net → Run → ℕ → List ℕ
published_lines net run r = flat_map (λ w. station_word_line (codes "word ") w.0 w.1)
    (enumerate_from 0 (items_of_round net.stations r run.words))

-- the words received in a round, by honest station
abbrev pub received_lines : Net → Run → ℕ → List ℕ
received_lines net run r = flat_map (λ g. station_word_line (codes "got ") g.0 g.1)
    (zip (honest_stations net) (items_of_round (length (honest_stations net)) r run.delivered))

-- a round: its published words, their sum, the kind of delivery, the received words
abbrev pub round_text : Net → Run → ℕ → Delivery → List ℕ
round_text net run r delivery = line (codes "round " ++ decimal r)
    ++ published_lines net run r
    ++ line (codes "sum " ++ word_text (slice_index_or run.sums r []))
    ++ delivery_line delivery
    ++ received_lines net run r

-- the whole view of a net and its run
unfoldable pub view_text : Net → Run → List ℕ
view_text net run = line (codes "view 1")
    ++ line (codes "net " ++ decimal net.stations ++ codes " " ++ decimal net.words)
    ++ net_text net
    ++ flat_map (λ t. round_text net run t.0 t.1.delivery) (enumerate_from 0 net.script.rounds)
