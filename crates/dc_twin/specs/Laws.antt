-- Laws of the faults of twins, and of changed nets.
use Rattle.std.specs.Prelude.{ℕ, ◌≡◌, ◌↔◌, List, None}
use Rattle.dc_spec.specs.Pads.{Keys}
use Rattle.dc_spec.specs.Net.{Net}
use Rattle.dc_graph_rules.specs.Graphs.{IsKeyGraph, key_graph}
use Rattle.dc_net_rules.specs.Runs.{IsAlike}
use Rattle.dc_net.specs.Checked.{IsChecked}
use Rattle.dc_net.specs.Changed.{PermutesHonest, IsMoved}
use Rattle.dc_twin_rules.specs.Twins.{Admits, moved}
use Rattle.dc_twin.specs.Faults.{twin_fault}

-- there is no fault exactly where the net admits the permutation and its honest stations received
-- alike
abbrev pub FaultlessIsAdmitted : Type 0
FaultlessIsAdmitted =
    (net : Net) (p : List ℕ) → IsKeyGraph (key_graph net)
    → twin_fault net p ≡ None ↔ Admits net p × IsAlike net

-- a net changed by a permutation and keys is the net with moved streams and these keys
abbrev pub ChangedIsMoved : Type 0
ChangedIsMoved =
    (net : Net) (p : List ℕ) (keys : Keys) (changed : Net) → IsChecked net → PermutesHonest net p
    → IsMoved net p keys changed → changed ≡ record (moved net p) { keys = keys }
