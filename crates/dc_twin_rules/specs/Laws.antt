-- Laws of twins.
use Rattle.std.specs.Prelude.{ℕ, ◌<◌, ◌≡◌, ◌↔◌, IsTrue, List, slice_index, slice_index_or, None}
use Rattle.dc_spec.specs.Net.{Net}
use Rattle.dc_graph_rules.specs.Graphs.{IsKeyGraph, key_graph}
use Rattle.dc_net_rules.specs.Nets.{IsNet}
use Rattle.dc_net_rules.specs.Runs.{all_rounds, run_of, IsAlike}
use Rattle.dc_run_texts.specs.View.{view_text}
use Rattle.dc_twin_rules.specs.Twins.{IsPermutationOf, Admits, admits, inverse, twin}

-- the test whether a net admits a permutation is right
abbrev pub AdmitsAsComputed : Type 0
AdmitsAsComputed =
    (net : Net) (p : List ℕ) → IsKeyGraph (key_graph net) → IsTrue (admits net p) ↔ Admits net p

-- in the twin, the image of a station has the stream that the station has in the net
abbrev pub TwinMovesStreams : Type 0
TwinMovesStreams =
    (net : Net) (p : List ℕ) → IsPermutationOf net.stations p → (i : ℕ) → i < net.stations
    → slice_index_or (twin net p).streams (slice_index p i) None
    ≡ slice_index_or net.streams i None

-- where all honest stations receive alike, the rounds of a twin are those of its net: the words of
-- all stations, their sums and what each station receives
abbrev pub TwinKeepsRounds : Type 0
TwinKeepsRounds =
    (net : Net) (p : List ℕ) → IsNet net → IsAlike net → Admits net p
    → all_rounds (twin net p) ≡ all_rounds net

-- a twin is a net of the files too
abbrev pub TwinIsNet : Type 0
TwinIsNet = (net : Net) (p : List ℕ) → IsNet net → Admits net p → IsNet (twin net p)

-- and all its honest stations receive alike where those of the net do
abbrev pub TwinIsAlike : Type 0
TwinIsAlike =
    (net : Net) (p : List ℕ) → IsNet net → IsAlike net → Admits net p → IsAlike (twin net p)

-- where all honest stations receive alike, the view of a twin and its run is that of its net
abbrev pub TwinKeepsView : Type 0
TwinKeepsView =
    (net : Net) (p : List ℕ) → IsNet net → IsAlike net → Admits net p
    → view_text (twin net p) (run_of (twin net p)) ≡ view_text net (run_of net)

-- a twin admits the inverse permutation
abbrev pub TwinAdmitsInverse : Type 0
TwinAdmitsInverse =
    (net : Net) (p : List ℕ) → Admits net p → Admits (twin net p) (inverse p)

-- and its twin by the inverse permutation is the net: its streams, and each pad
abbrev pub TwinOfTwin : Type 0
TwinOfTwin =
    (net : Net) (p : List ℕ) → IsNet net → IsAlike net → Admits net p
    → twin (twin net p) (inverse p) ≡ net
