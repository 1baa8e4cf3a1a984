-- The text of a view, and that of a net, in the pieces in which they are put.
use Rattle.std.proofs.Common.{◌≡◌, ℕ, List, ◌++◌, filter, refl, append_assoc}
use Rattle.std.specs.Prelude.{codes, decimal}
use Rattle.std.specs.List.{enumerate_from, flat_map, range_with_len}
use Rattle.dc_spec.specs.Lists.{is_among}
use Rattle.dc_spec.specs.Text.{line}
use Rattle.dc_spec.specs.Net.{Net, Run}
use Rattle.dc_spec.specs.Pads.{Pair}
use Rattle.dc_spec.specs.Scripts.{Turn}
use Rattle.dc_net_rules.specs.Runs.{honest_stations}
use Rattle.dc_run_texts.specs.Coalition.{is_known}
use Rattle.dc_run_texts.specs.Logs.{honest_text, logs_text}
use Rattle.dc_run_texts.specs.View.{edge_line, net_text, pair_lines, round_text, view_text}
use Rattle.dc_view.specs.Pads.{known_lines}
use Rattle.dc_view.proofs.KnownPads.{known-filtered}

-- the first two lines of a view
abbrev pub head_text : ℕ → ℕ → List ℕ
head_text stations words = line (codes "view 1") ++ line (codes "net " ++ decimal stations ++ codes " " ++ decimal words)

-- the lines of edges
abbrev pub edges_text : List (ℕ × ℕ) → List ℕ
edges_text edges = flat_map (λ e. edge_line e.0 e.1) edges

-- the lines of members
abbrev pub members_text : List ℕ → ℕ → List ℕ
members_text coalition stations =
    flat_map (λ i. line (codes "member " ++ decimal i)) (filter (is_among coalition) (range_with_len 0 stations))

-- the texts of rounds
abbrev pub rounds_text : Net → Run → List Turn → List ℕ
rounds_text net run rounds = flat_map (λ t. round_text net run t.0 t.1.delivery) (enumerate_from 0 rounds)

-- a net: edges, members, pads
pub net_text-pieces : (net : Net) (edges : List (ℕ × ℕ)) (coalition : List ℕ) (stations words : ℕ) (pairs : List Pair)
    → edges ≡ net.edges → coalition ≡ net.coalition → stations ≡ net.stations → words ≡ net.words → pairs ≡ net.keys.pairs
    → net_text net ≡ edges_text edges ++ (members_text coalition stations ++ flat_map (known_lines coalition words) pairs)
net_text-pieces net edges coalition stations words pairs e1 e2 e3 e4 e5 =
    let known = known-filtered net.coalition net.words net.keys.pairs in
    rw (e1, e2, e3, e4, e5, known) (append_assoc (edges_text net.edges) (members_text net.coalition net.stations) (flat_map (pair_lines net.words) (filter (is_known net) net.keys.pairs)))

-- a view: its head, the net, the rounds
pub view_text-pieces : (net : Net) (run : Run) (stations words : ℕ) (rounds : List Turn)
    → stations ≡ net.stations → words ≡ net.words → rounds ≡ net.script.rounds
    → view_text net run ≡ head_text stations words ++ (net_text net ++ rounds_text net run rounds)
unfolding view_text
view_text-pieces net run stations words rounds e1 e2 e3 =
    rw (e1, e2, e3) (append_assoc (head_text net.stations net.words) (net_text net) (rounds_text net run net.script.rounds))

-- logs: those of the honest stations
pub logs_text-by_place : (net : Net) (run : Run) (honest : List ℕ) → honest ≡ honest_stations net
    → logs_text net run ≡ flat_map (λ h. honest_text run h.0 h.1) (enumerate_from 0 honest)
unfolding logs_text
logs_text-by_place net run honest e = rw e refl
