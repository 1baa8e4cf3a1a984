-- What a permutation that a net admits gives.
use Rattle.std.proofs.Common.{◌≡◌, ℕ, ◌<◌, true, List, [], ◌∷◌, map, get_or, slice_index, Option, None, refl, sym, ◌∙◌, ap}
use Rattle.dc_spec.specs.Pads.{Pair, Keys}
use Rattle.dc_spec.specs.Net.{Net}
use Rattle.dc_spec.specs.Lists.{is_among}
use Rattle.dc_graph_rules.specs.Graphs.{key_graph}
use Rattle.dc_graph_rules.specs.Forests.{parents}
use Rattle.dc_net_rules.specs.Nets.{IsNet}
use Rattle.dc_net.specs.Changed.{PermutesHonest, AreForSamePairs, IsMoved, ends_of}
use Rattle.dc_twin_rules.specs.Twins.{Admits, moved, twin}
use Rattle.dc_twin_rules.proofs.Admitting.{stands}
use Rattle.dc_twin_rules.proofs.Changes.{changed, sums_of, twin-pairs}
use Rattle.dc_twin_rules.proofs.Shifting.{shift_of, kept-u, kept-v}
use Rattle.dc_twin_rules.proofs.Kept.{stays}
use Rattle.dc_net_rules.specs.Runs.{IsAlike}
use Rattle.dc_twin.specs.declared.fault.TwinFault.{TwinFault}
use Rattle.dc_twin.specs.Faults.{twin_fault}
use Rattle.dc_twin.proofs.Faultless.{faultless}
use Rattle.dc_twin.proofs.Moved.{changed-is}

-- it leaves the members in place
pub permutes-honest : (net : Net) (p : List ℕ) → IsNet net → Admits net p → PermutesHonest net p
permutes-honest net p is admitted =
    let perm = admitted.permutation in
    record {
      count = perm.count;
      are_stations = perm.stations;
      distinct = perm.distinct;
      members = λ k d low. in_place (get_or net.coalition k d) (is.members k d low) (stands net.coalition k d low);
    }
  where
    in_place : (m : ℕ) → m < net.stations → is_among net.coalition m ≡ true → slice_index p m ≡ m
    in_place m low member = let joined = admitted.joined m low in sym (stays (key_graph net) m joined.0 (slice_index p m) member joined.1)

-- the keys of the twin are for the same pairs
pub twin-same_pairs : (net : Net) (p : List ℕ) → AreForSamePairs (twin net p).keys net.keys
twin-same_pairs net p = record {
  stations = refl;
  words = refl;
  ends = ap ends_of (twin-pairs net p) ∙ same net.keys.pairs;
}
  where
    one_more : {a b c d : ℕ} {es fs : List (ℕ × ℕ)} → a ≡ b → c ≡ d → es ≡ fs → ◌≡◌ {A = List (ℕ × ℕ)} ((a, c) ∷ es) ((b, d) ∷ fs)
    one_more one other rest = cc

    same : (xs : List Pair) → ends_of (map (changed net p) xs) ≡ ends_of xs
    same [] = refl
    same (q ∷ xs) =
        one_more (kept-u (shift_of (parents (key_graph net)) (sums_of net p) q) q) (kept-v (shift_of (parents (key_graph net)) (sums_of net p) q) q) (same xs)

-- a net changed by the keys of the twin is the twin
pub changed-is_twin : (net : Net) (p : List ℕ) (keys : Keys) (changed : Net) → IsNet net → Admits net p → keys ≡ (twin net p).keys → IsMoved net p keys changed → changed ≡ twin net p
changed-is_twin net p keys changed is admitted same moves =
    changed-is net p keys changed is.streams (permutes-honest net p is admitted) moves ∙ ap (λ (k : Keys). with_keys k) same
  where
    with_keys : Keys → Net
    with_keys k = record (moved net p) { keys = k }

-- where no test fails there is a twin
pub no-fault : (net own : Net) (p q : List ℕ) (o : Option TwinFault) → IsNet net → own ≡ net → q ≡ p → o ≡ twin_fault own q → o ≡ None → Admits net p × IsAlike net
no-fault net own p q o is same read found none =
    (faultless net p is.graph).0 (ap (twin_fault net) (sym read) ∙ ap (λ (n : Net). twin_fault n q) (sym same) ∙ sym found ∙ none)
