-- The sums of a net without a coalition are a session of its streams, so messages balance.
use Rattle.std.proofs.Common.{◌≡◌, ℕ, ◌+◌, ◌<◌, ◌≤◌, List, [], ◌∷◌, ◌++◌, length, map, take, get_or, slice_index_or, sum_by, All, Option, Some, None, refl, sym, ◌∙◌, ap, arith, length-append}
use Rattle.std.specs.List.{range_with_len}
use Rattle.std.specs.Option.{unwrap_or}
use Rattle.std.proofs.lemmas.List.{get_or-take, get_or-append-add, take-append-le, take_all, take-take, length-take-le, length-map}
use Rattle.std.proofs.lemmas.List.Elements.{All-nil, All-map}
use Rattle.std.proofs.lemmas.List.FromFn.{get_or-range_with_len, length-range_with_len, length-map-range_with_len}
use Rattle.dc_spec.specs.Words.{word_sum}
use Rattle.dc_spec.specs.Entries.{IsMessage, Stream}
use Rattle.dc_spec.specs.Values.{IsValue}
use Rattle.dc_spec.specs.Net.{Net}
use Rattle.dc_spec.proofs.ListLemmas.{below_range}
use Rattle.dc_spec.proofs.SumLemmas.{sum_by-map, sum_by-same}
use Rattle.dc_formats.specs.StreamFile.{IsStream}
use Rattle.dc_station_rules.specs.Stations.{plain_word, log_of, sent_of}
use Rattle.dc_net_rules.specs.Bags.{Message, count_in}
use Rattle.dc_net_rules.specs.Nets.{IsNet}
use Rattle.dc_net_rules.specs.Runs.{Round, history, rounds_of, run_of, station_stream}
use Rattle.dc_net_rules.proofs.Agreeing.{all_agree}
use Rattle.dc_net_rules.proofs.RoundLemmas.{length-rounds_of}
use Rattle.dc_message_rules.specs.PlainSums.{plain_sum}
use Rattle.dc_message_rules.specs.Sessions.{session_sum, AreSums}
use Rattle.dc_message_rules.proofs.Deliveries.{histories-sums}
use Rattle.dc_message_rules.proofs.PlainSums.{sums-plain}
use Rattle.dc_message_rules.proofs.Balance.{AreFit, map-twice}
use Rattle.dc_message_rules.proofs.SessionBalance.{session-holds}

-- the streams of a net, by station
abbrev pub net_streams : Net → List Stream
net_streams net = map (station_stream net) (range_with_len 0 net.stations)

-- they are streams of values and messages
fit-place : (place : Option Stream) → ((s : Stream) → place ≡ Some s → IsStream s)
    → let stream = unwrap_or place (record { shorts = []; longs = []; coins = [] }) in All IsValue stream.shorts × All IsMessage stream.longs
fit-place None are = (All-nil IsValue, All-nil IsMessage)
fit-place (Some s) are = let is = are s refl in (is.are_values, is.are_messages)

fit-station : (net : Net) → IsNet net → (i : ℕ) → i < net.stations → All IsValue (station_stream net i).shorts × All IsMessage (station_stream net i).longs
fit-station net is i low = fit-place (slice_index_or net.streams i None) (is.are_streams i None (let size = is.streams in omega arith))

range-below : (n k d : ℕ) → k < length (range_with_len 0 n) → get_or (range_with_len 0 n) k d < n
range-below n k d within = let size = length-range_with_len 0 n in let at = get_or-range_with_len 0 n k d (omega arith) in omega arith

pub fit-net : (net : Net) → IsNet net → AreFit (net_streams net)
fit-net net is =
    let most = is.keys.most_stations in
    let count = (all_agree net is.agrees).key_stations in
    let size = length-map-range_with_len (station_stream net) 0 net.stations in
    record {
      values = All-map (λ (s : Stream). All IsValue s.shorts) (station_stream net) (range_with_len 0 net.stations) (λ k d within. (fit-station net is
          (get_or (range_with_len 0 net.stations) k d) (range-below net.stations k d within)).0);
      messages = All-map (λ (s : Stream). All IsMessage s.longs) (station_stream net) (range_with_len 0 net.stations) (λ k d within. (fit-station net is
          (get_or (range_with_len 0 net.stations) k d) (range-below net.stations k d within)).1);
      few = omega arith;
    }

-- the sum of their plain words
plain-session : (net : Net) (received : List (List ℕ)) → plain_sum net received ≡ session_sum (net_streams net) received
plain-session net received = ap word_sum (sym (map-twice (λ (s : Stream). plain_word s received) (station_stream net) (range_with_len 0 net.stations)))

-- a front of the first words
front-take : (h front : List (List ℕ)) (word : List ℕ) (rest : List (List ℕ)) → h ≡ front ++ word ∷ rest
    → (take (length front) h ≡ front) × (get_or h (length front) [] ≡ word) × (length front < length h)
front-take h front word rest e =
    let size = ap (λ (ws : List (List ℕ)). length ws) e ∙ length-append front (word ∷ rest) in (
      ap (take (length front)) e ∙ take-append-le (length front) front (word ∷ rest) (omega arith) ∙ take_all (length front) front (omega arith),
      ap (λ (ws : List (List ℕ)). get_or ws (length front) []) e ∙ ap (λ (k : ℕ). get_or (front ++ word ∷ rest) k []) (let e : length front ≡ length front + 0 = omega arith in e)
          ∙ get_or-append-add front (word ∷ rest) 0 [],
      omega arith,
    )

-- the first sums of a net are a session of its streams
pub first-sums : (net : Net) → IsNet net → net.coalition ≡ [] → (t : ℕ) → t ≤ net.words → AreSums (net_streams net) (take t (run_of net).sums)
first-sums net is none t le front word rest e =
    let sums = (run_of net).sums in
    let k = length front in
    let parts = front-take (take t sums) front word rest e in
    let rounds = length-map (rounds_of net net.words) (λ (r : Round). r.sum) in
    let played = length-rounds_of net net.words in
    let short = length-take-le t sums (let e : t ≤ length sums = omega arith in e) in
    let less : k < t = (let within = parts.2 in omega arith) in
    let here : take k sums ≡ front = sym (take-take k t sums (omega arith)) ∙ parts.0 in
    sym parts.1 ∙ get_or-take t sums k [] less ∙ sums-plain net is none k (omega arith) ∙ ap (plain_sum net) here ∙ plain-session net front

-- so messages balance
pub messages-balance : (net : Net) → IsNet net → net.coalition ≡ [] → (t : ℕ) → t ≤ net.words → (i : ℕ) → i < net.stations → (x : Message)
    → count_in x (log_of (history (rounds_of net t) i)) ≡ sum_by (λ j. count_in x (sent_of (station_stream net j) (history (rounds_of net t) j))) (range_with_len 0 net.stations)
messages-balance net is none t le i low x =
    let h = take t (run_of net).sums in
    let stations = range_with_len 0 net.stations in
    ap (λ (ws : List (List ℕ)). count_in x (log_of ws)) (histories-sums net is none t le i low)
    ∙ (session-holds (net_streams net) (fit-net net is) h (first-sums net is none t le)).balance x
    ∙ sum_by-map (λ (s : Stream). count_in x (sent_of s h)) (station_stream net) stations
    ∙ sum_by-same (λ j. count_in x (sent_of (station_stream net j) h)) (λ j. count_in x (sent_of (station_stream net j) (history (rounds_of net t) j))) stations
    (λ j there. let below : j < 0 + net.stations = below_range 0 net.stations j there in
    ap (λ (ws : List (List ℕ)). count_in x (sent_of (station_stream net j) ws)) (sym (histories-sums net is none t le j (omega arith))))
