-- A changed net is the net with moved streams and with the new keys.
use Rattle.std.proofs.Common.{◌≡◌, ℕ, ◌<◌, List, length, slice_index, slice_index_or, Option, None, sym, ◌∙◌, ap, arith}
use Rattle.std.proofs.lemmas.List.{length-map, ext_get_or}
use Rattle.dc_spec.specs.Entries.{Stream}
use Rattle.dc_spec.specs.Pads.{Keys}
use Rattle.dc_spec.specs.Net.{Net}
use Rattle.dc_net.specs.Changed.{PermutesHonest, AreMoved, IsMoved}
use Rattle.dc_twin_rules.specs.Twins.{IsPermutationOf, inverse, moved}
use Rattle.dc_twin_rules.proofs.Permuted.{length-inverse, inverse-below, there-back}
use Rattle.dc_twin_rules.proofs.Histories.{moved-place}

-- a permutation that leaves the members in place is a permutation
pub permutes : (net : Net) (p : List ℕ) → PermutesHonest net p → IsPermutationOf net.stations p
permutes net p is = record { count = is.count; stations = is.are_stations; distinct = is.distinct }

-- moved streams
streams-moved : (net : Net) (p : List ℕ) (streams : List (Option Stream)) → length net.streams ≡ net.stations → PermutesHonest net p → AreMoved net.streams p streams
    → streams ≡ (moved net p).streams
streams-moved net p streams count is moves =
    let perm = permutes net p is in
    let size : length (moved net p).streams ≡ net.stations = length-map (inverse p) (λ (i : ℕ). slice_index_or net.streams i None) ∙ length-inverse net.stations p perm in
    let many : length streams ≡ net.stations = moves.count ∙ count in
    ext_get_or None streams (moved net p).streams (many ∙ sym size) (λ w within. (let low : w < net.stations = omega arith in
    let k = slice_index (inverse p) w in
    let below : slice_index (inverse p) w < net.stations = inverse-below net.stations p perm w low in
    ap (λ (z : ℕ). slice_index_or streams z None) (sym (there-back net.stations p perm w low))
    ∙ moves.each (slice_index (inverse p) w) (omega arith) ∙ sym (moved-place net p perm w low)))

-- so a changed net is this one
pub changed-is : (net : Net) (p : List ℕ) (keys : Keys) (changed : Net) → length net.streams ≡ net.stations → PermutesHonest net p → IsMoved net p keys changed
    → changed ≡ record (moved net p) { keys = keys }
changed-is net p keys changed count is moves =
    let streams = streams-moved net p changed.streams count is moves.streams in
    λ i. record {
      stations = moves.stations i;
      edges = moves.edges i;
      coalition = moves.coalition i;
      keys = moves.new_keys i;
      streams = streams i;
      script = moves.script i;
      words = moves.words i;
    }
