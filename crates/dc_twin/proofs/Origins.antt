-- The demands of a station from its stream and the stream of its origin.
use Rattle.std.proofs.Common.{◌≡◌, ℕ, ◌<◌, Bool, true, false, cond, List, [], length, map, take, get_or, slice_index, sym, ◌∙◌, ap, subst, arith}
use Rattle.std.specs.List.{range_with_len}
use Rattle.std.proofs.lemmas.List.FromFn.{length-map-range_with_len}
use Rattle.dc_spec.specs.Entries.{Stream}
use Rattle.dc_spec.specs.Lists.{is_among}
use Rattle.dc_spec.specs.Net.{Net}
use Rattle.dc_net_rules.specs.Runs.{honest_stations, station_stream, history, all_rounds, run_of}
use Rattle.dc_net.specs.Changed.{PermutesHonest}
use Rattle.dc_net.proofs.ChangedNets.{member_kept}
use Rattle.dc_twin_rules.specs.Twins.{inverse, demand}
use Rattle.dc_twin_rules.proofs.Permuted.{inverse-below, there-back}
use Rattle.dc_twin_rules.proofs.Histories.{moved-stream}
use Rattle.dc_twin.specs.Demands.{stream_demands, station_demands, words_at}
use Rattle.dc_twin.proofs.Moved.{permutes}
use Rattle.dc_twin.proofs.Received.{received_is}
use Rattle.dc_twin.proofs.DemandRows.{own-demands}

-- the origin of a station by a table of origins
pub origin-is : (net : Net) (p os : List ℕ) → PermutesHonest net p → ((k : ℕ) → k < length p → slice_index os (slice_index p k) ≡ k) → (i : ℕ) → i < net.stations
    → slice_index os i ≡ slice_index (inverse p) i
origin-is net p os is table i low =
    let perm = permutes net p is in
    let below : slice_index (inverse p) i < net.stations = inverse-below net.stations p perm i low in
    let count = is.count in
    subst (λ (z : ℕ). slice_index os z ≡ slice_index (inverse p) i) (there-back net.stations p perm i low) (table (slice_index (inverse p) i) (omega arith))

-- it is a station
pub origin-below : (net : Net) (p os : List ℕ) → PermutesHonest net p → ((k : ℕ) → k < length p → slice_index os (slice_index p k) ≡ k) → (i : ℕ) → i < net.stations
    → slice_index os i < net.stations
origin-below net p os is table i low =
    subst (λ (z : ℕ). z < net.stations) (sym (origin-is net p os is table i low)) (inverse-below net.stations p (permutes net p is) i low)

-- and honest where the station is
pub origin-honest : (net : Net) (p os : List ℕ) → PermutesHonest net p → ((k : ℕ) → k < length p → slice_index os (slice_index p k) ≡ k) → (i : ℕ) → i < net.stations
    → is_among net.coalition i ≡ false → is_among net.coalition (slice_index os i) ≡ false
origin-honest net p os is table i low honest =
    let perm = permutes net p is in
    ap (is_among net.coalition) (origin-is net p os is table i low) ∙ sym (member_kept net p is (slice_index (inverse p) i) (inverse-below net.stations p perm i low))
    ∙ ap (is_among net.coalition) (there-back net.stations p perm i low) ∙ honest

-- the demands of an honest station
pub column-is : (net : Net) (p os : List ℕ) (i j o : ℕ) (received column : List (List ℕ)) → PermutesHonest net p → ((k : ℕ) → k < length p → slice_index os (slice_index p k) ≡ k)
    → i < net.stations → is_among net.coalition i ≡ false → j < length (honest_stations net) → get_or (honest_stations net) j 0 ≡ i → o ≡ slice_index os i
    → received ≡ words_at net.words (length (honest_stations net)) j (run_of net).delivered
    → column ≡ stream_demands (station_stream net i) (station_stream net o) received → column ≡ station_demands net p i
column-is net p os i j o received column is table low honest place here origin heard made =
    let perm = permutes net p is in
    made ∙ ap (λ (z : ℕ). stream_demands (station_stream net i) (station_stream net z) received) (origin ∙ origin-is net p os is table i low)
    ∙ ap (λ (s : Stream). stream_demands (station_stream net i) s received) (sym (moved-stream net p perm i low))
    ∙ own-demands net p i received honest (heard ∙ received_is net i j place here)

-- a member has none
pub member-column : (net : Net) (p : List ℕ) (i : ℕ) → is_among net.coalition i ≡ true → [] ≡ station_demands net p i
member-column net p i member =
    sym (ap (λ (b : Bool). cond b [] (map (λ t. demand net p i (take t (history (all_rounds net) i))) (range_with_len 0 net.words))) member)

-- as many words as rounds
pub length-words_at : (rows n j : ℕ) (words : List (List ℕ)) → length (words_at rows n j words) ≡ rows
length-words_at rows n j words = length-map-range_with_len _ 0 rows
