-- Histories of a run: their beginnings, and those of an alike run.
use Rattle.std.proofs.Common.{◌≡◌, ℕ, zero, suc, ◌+◌, ◌-◌, ◌%◌, ◌<◌, ◌≤◌, not, false, List, [], ◌∷◌, take, slice_index, slice_index_or, Option, Some, None, refl, sym, ◌∙◌, ap, subst, inl, inr, arith, zero-le, eq-or-lt_of_le}
use Rattle.std.specs.List.{All, range_with_len}
use Rattle.std.specs.Option.{unwrap_or}
use Rattle.std.proofs.lemmas.List.{get_or-map, take-map, take_all, take-append-le}
use Rattle.std.proofs.lemmas.List.Elements.{All-head, All-tail, All-take, All-nil}
use Rattle.std.proofs.lemmas.List.FromFn.{get_or-map-range_with_len}
use Rattle.dc_spec.specs.Entries.{IsMessage, Stream}
use Rattle.dc_spec.specs.Values.{IsValue}
use Rattle.dc_spec.specs.Words.{IsWord, zero_word}
use Rattle.dc_spec.specs.Net.{Net}
use Rattle.dc_spec.specs.Lists.{is_among}
use Rattle.dc_spec.proofs.ListLemmas.{passes_kept, in_range}
use Rattle.dc_spec.proofs.WordLemmas.{IsWord-word_of, symbol-word_of}
use Rattle.dc_formats.specs.StreamFile.{IsStream}
use Rattle.dc_station_rules.specs.Stations.{plain_word}
use Rattle.dc_net_rules.specs.Nets.{IsNet}
use Rattle.dc_net_rules.specs.Runs.{Round, word_of_station, station_stream, history, rounds_of, all_rounds, next_round, IsHonest, IsAlikeIn, IsAlike}
use Rattle.dc_net_rules.proofs.RoundLemmas.{length-rounds_of}
use Rattle.dc_twin_rules.specs.Twins.{IsPermutationOf, inverse, moved, demand, demands_in}
use Rattle.dc_twin_rules.proofs.Permuted.{length-inverse, image-below, back-there}
use Rattle.dc_twin_rules.proofs.PlainSymbols.{IsFit, plain-symbol}

-- the first rounds of a run
pub take-rounds : (net : Net) (t m : ℕ) → t ≤ m → take t (rounds_of net m) ≡ rounds_of net t
unfolding rounds_of
take-rounds net t zero le = let none : t ≡ 0 = omega arith in ap (λ (k : ℕ). take k (rounds_of net zero)) none ∙ sym (ap (λ (k : ℕ). rounds_of net k) none)
take-rounds net t (suc m) le = elim (eq-or-lt_of_le le) [
  | inl same ↦ take_all t (rounds_of net (suc m)) (let size = length-rounds_of net (suc m) in omega arith) ∙ sym (ap (λ (k : ℕ). rounds_of net k) same)
  | inr less ↦ (let size = length-rounds_of net m in
      take-append-le t (rounds_of net m) (next_round net (rounds_of net m) ∷ []) (omega arith) ∙ take-rounds net t m (omega arith))
]

pub take-history : (net : Net) (t i : ℕ) → t ≤ net.words → take t (history (all_rounds net) i) ≡ history (rounds_of net t) i
take-history net t i le = take-map (λ (r : Round). word_of_station r.received i) t (all_rounds net) ∙ ap (λ (rounds : List Round). history rounds i) (take-rounds net t net.words le)

-- in an alike run the honest stations have one history
same-history : (net : Net) (rounds : List Round) → All (IsAlikeIn net) rounds → (i j : ℕ) → IsHonest net i → IsHonest net j → history rounds i ≡ history rounds j
same-history net [] alike i j honest_i honest_j = refl
same-history net (r ∷ rs) alike i j honest_i honest_j =
    ap (λ (w : List ℕ). w ∷ history rs i) (All-head (IsAlikeIn net) r rs alike i j honest_i honest_j)
    ∙ ap (λ (ws : List (List ℕ)). word_of_station r.received j ∷ ws) (same-history net rs (All-tail (IsAlikeIn net) r rs alike) i j honest_i honest_j)

pub one-history : (net : Net) → IsAlike net → (t : ℕ) → t ≤ net.words → (i j : ℕ) → IsHonest net i → IsHonest net j → history (rounds_of net t) i ≡ history (rounds_of net t) j
one-history net alike t le i j honest_i honest_j =
    same-history net (rounds_of net t) (subst (λ (rounds : List Round). All (IsAlikeIn net) rounds) (take-rounds net t net.words le) (All-take (IsAlikeIn net) t
    (all_rounds net) alike)) i j honest_i honest_j

pub is-honest : (net : Net) (i : ℕ) → i < net.stations → is_among net.coalition i ≡ false → IsHonest net i
is-honest net i low honest = passes_kept (λ j. not (is_among net.coalition j)) (range_with_len 0 net.stations) i (in_range 0 net.stations i zero-le (omega arith)) (ap not honest)

-- the streams of a net fit their limits
stream-fits : (place : Option Stream) → ((s : Stream) → place ≡ Some s → IsStream s) → IsFit (unwrap_or place (record { shorts = []; longs = []; coins = [] }))
stream-fits None are = record { shorts = All-nil IsValue; longs = All-nil IsMessage }
stream-fits (Some s) are = let is = are s refl in record { shorts = is.are_values; longs = is.are_messages }

pub station-fits : (net : Net) → IsNet net → (i : ℕ) → i < net.stations → IsFit (station_stream net i)
station-fits net is i low = stream-fits (slice_index_or net.streams i None) (is.are_streams i None (let size = is.streams in omega arith))

-- the stream that a permutation moves to a station
pub moved-place : (net : Net) (p : List ℕ) → IsPermutationOf net.stations p → (i : ℕ) → i < net.stations → slice_index_or (moved net p).streams i None
    ≡ slice_index_or net.streams (slice_index (inverse p) i) None
moved-place net p permutes i low = get_or-map (λ (k : ℕ). slice_index_or net.streams k None) (inverse p) i 0 None (let size = length-inverse net.stations p permutes in omega arith)

-- so the image of a station has that station's stream
pub image-place : (net : Net) (p : List ℕ) → IsPermutationOf net.stations p → (i : ℕ) → i < net.stations →
    slice_index_or (moved net p).streams (slice_index p i) None ≡ slice_index_or net.streams i None
image-place net p permutes i low = moved-place net p permutes (slice_index p i) (image-below net.stations p permutes i low)
    ∙ ap (λ (k : ℕ). slice_index_or net.streams k None) (back-there net.stations p permutes i low)

pub moved-stream : (net : Net) (p : List ℕ) → IsPermutationOf net.stations p → (i : ℕ) → i < net.stations → station_stream (moved net p) i ≡ station_stream net (slice_index (inverse p) i)
moved-stream net p permutes i low = ap (λ (place : Option Stream). unwrap_or place (record { shorts = []; longs = []; coins = [] })) (moved-place net p permutes i low)

-- the demand of a station
pub demand-at : (net : Net) (p : List ℕ) (played : List Round) (t i : ℕ) → i < net.stations → word_of_station (demands_in net p played t) i ≡ demand net p i (take t (history played i))
demand-at net p played t i low = get_or-map-range_with_len (λ k. demand net p k (take t (history played k))) 0 net.stations i i zero_word low (omega arith)

pub demand-word : (net : Net) (p : List ℕ) (i : ℕ) (received : List (List ℕ)) → IsWord (demand net p i received)
demand-word net p i received = IsWord-word_of (λ l. (slice_index (plain_word (station_stream net i) received) l + (65537 - slice_index (plain_word (station_stream
    (moved net p) i) received) l)) % 65537) (λ l few. small _)
  where
    small : (x : ℕ) → x % 65537 < 65537
    small x = omega arith

pub demand-symbol : (net : Net) (p : List ℕ) → IsPermutationOf net.stations p → (i : ℕ) → i < net.stations → (received : List (List ℕ)) (l : ℕ) → l < 16 →
    slice_index (demand net p i received) l ≡ (slice_index (plain_word (station_stream net i) received) l + (65537 - slice_index (plain_word (station_stream net (slice_index
    (inverse p) i)) received) l)) % 65537
demand-symbol net p permutes i low received l few =
    symbol-word_of (λ k. (slice_index (plain_word (station_stream net i) received) k + (65537 - slice_index (plain_word (station_stream (moved net p) i) received) k)) % 65537) l few
    ∙ ap (λ (s : Stream). (slice_index (plain_word (station_stream net i) received) l + (65537 - slice_index (plain_word s received) l)) % 65537) (moved-stream net p permutes i low)

pub plain-below : (net : Net) → IsNet net → (i : ℕ) → i < net.stations → (received : List (List ℕ)) (l : ℕ) → l < 16 → slice_index (plain_word (station_stream net i) received) l < 65537
plain-below net is i low received l few = plain-symbol (station_stream net i) (station-fits net is i low) received l few
