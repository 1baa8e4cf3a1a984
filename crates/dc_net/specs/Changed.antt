-- A net with other pads and with its streams moved among the honest stations.
use Rattle.std.specs.Prelude.{ℕ, ◌<◌, ◌≡◌, ◌≢◌, List, length, map, slice_index, slice_index_or, Option, None, All, AllPairs}
use Rattle.dc_spec.specs.Entries.{Stream}
use Rattle.dc_spec.specs.Pads.{Pair, Keys}
use Rattle.dc_spec.specs.Net.{Net}

-- the ends of pairs, in their order
abbrev pub ends_of : List Pair → List (ℕ × ℕ)
ends_of pairs = map (λ p. (p.u, p.v)) pairs

-- keys for as many stations and words, with pairs of the same ends in the same order
pub record AreForSamePairs (keys own : Keys) : Type 0 where
  pub stations : keys.stations ≡ own.stations
  pub words : keys.words ≡ own.words
  pub ends : ends_of keys.pairs ≡ ends_of own.pairs

-- a permutation of the stations of a net, as a list: item i is the image of station i. The image of
-- a member is the member itself
pub record PermutesHonest (net : Net) (p : List ℕ) : Type 0 where
  pub count : length p ≡ net.stations
  pub are_stations : All (λ image. image < net.stations) p
  pub distinct : AllPairs (λ i j. i ≢ j) p
  pub members : All (λ m. slice_index p m ≡ m) net.coalition

-- streams by station, in which the image of each station has the stream of that station
pub record AreMoved (streams : List (Option Stream)) (p : List ℕ) (moved : List (Option Stream)) : Type 0 where
  pub count : length moved ≡ length streams
  pub each : (i : ℕ) → i < length streams
      → slice_index_or moved (slice_index p i) None ≡ slice_index_or streams i None

-- the net with these keys, in which the image of each station has the stream of that station
pub record IsMoved (net : Net) (p : List ℕ) (keys : Keys) (changed : Net) : Type 0 where
  pub stations : changed.stations ≡ net.stations
  pub edges : changed.edges ≡ net.edges
  pub coalition : changed.coalition ≡ net.coalition
  pub new_keys : changed.keys ≡ keys
  pub streams : AreMoved net.streams p changed.streams
  pub script : changed.script ≡ net.script
  pub words : changed.words ≡ net.words
