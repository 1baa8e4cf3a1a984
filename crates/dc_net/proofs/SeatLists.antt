-- The seats of all honest stations.
use Rattle.std.proofs.Common.{◌≡◌, ℕ, ◌+◌, ◌-◌, ◌<◌, ◌≤◌, true, false, not, List, [], ◌∷◌, ◌++◌, length, get_or, map, drop, filter, Option, Some, None, unwrap_or, sym, ap, ◌∙◌, arith}
use Rattle.std.specs.List.{range_with_len}
use Rattle.std.specs.Option.{is_some}
use Rattle.std.proofs.lemmas.List.{length-map, get_or-map, same_lists, length_push, length-drop}
use Rattle.std.proofs.lemmas.List.FromFn.{map-range_with_len_more}
use Rattle.std.proofs.lemmas.List.FromFn.{length-range_with_len}
use Rattle.std.proofs.lemmas.List.Sums.{length-filter, count_by-le-length}
use Rattle.dc_spec.specs.Lists.{is_among}
use Rattle.dc_spec.specs.Entries.{Stream}
use Rattle.dc_spec.specs.Net.{Net}
use Rattle.dc_net_rules.specs.Runs.{honest_stations, station_stream}
use Rattle.dc_net_rules.proofs.Agreeing.{has_stream}
use Rattle.dc_net.specs.Checked.{IsChecked}
use Rattle.dc_net.specs.Seat.{SeatState}
use Rattle.dc_net.specs.Run.{seat_at, seats_after}
use Rattle.dc_net.proofs.RowWalk.{passing, passed_over}

-- there are no more honest stations than stations
pub few_honest : (net : Net) → length (honest_stations net) ≤ net.stations
few_honest net =
    let kept = length-filter (λ i. not (is_among net.coalition i)) (range_with_len 0 net.stations) in
    let few = count_by-le-length (λ i. not (is_among net.coalition i)) (range_with_len 0 net.stations) in
    let all = length-range_with_len 0 net.stations in
    omega arith

-- the honest stations after the first i stations, and the seats of those among them
pub record Seated (net : Net) (seats : List SeatState) (i : ℕ) : Type 0 where
  pub rest : drop (length seats) (honest_stations net) ≡ filter (λ x. not (is_among net.coalition x)) (range_with_len i (net.stations - i))
  pub seats_are : seats ≡ map (seat_at net []) (range_with_len 0 (length seats))
  pub few : length seats ≤ length (honest_stations net)

-- a station with a stream is the next honest station
next_honest : (net : Net) (seats : List SeatState) (i : ℕ) (stream : Stream) → IsChecked net → i < net.stations → Seated net seats i
    → get_or net.streams i None ≡ Some stream
    → (length seats < length (honest_stations net)) ×
    ((get_or (honest_stations net) (length seats) 0 ≡ i) ×
    (drop (length seats + 1) (honest_stations net) ≡ filter (λ x. not (is_among net.coalition x)) (range_with_len (i + 1) (net.stations - (i + 1)))))
next_honest net seats i stream checked below seated is =
    let there : not (is_among net.coalition i) ≡ true = sym (has_stream net checked.agrees i below) ∙ ap (λ (o : Option Stream). is_some o) is in
    passing (λ x. not (is_among net.coalition x)) (honest_stations net) net.stations i (length seats) below seated.rest there

-- so there is room for its seat
pub room_for_seat : (net : Net) (seats : List SeatState) (i : ℕ) (stream : Stream) → IsChecked net → i < net.stations → Seated net seats i
    → get_or net.streams i None ≡ Some stream → length seats < length (honest_stations net)
room_for_seat net seats i stream checked below seated is = (next_honest net seats i stream checked below seated is).0

-- and it is the station at this place
pub place_of_seat : (net : Net) (seats : List SeatState) (i : ℕ) (stream : Stream) → IsChecked net → i < net.stations → Seated net seats i
    → get_or net.streams i None ≡ Some stream → get_or (honest_stations net) (length seats) 0 ≡ i
place_of_seat net seats i stream checked below seated is = (next_honest net seats i stream checked below seated is).1.0

-- its seat is next
pub Seated-more : (net : Net) (seats : List SeatState) (i : ℕ) (stream : Stream) (seat : SeatState) → IsChecked net → i < net.stations → Seated net seats i
    → get_or net.streams i None ≡ Some stream
    → seat ≡ record { stream = stream; keys = net.keys; station = i; received = []; place = length seats; seats = length (honest_stations net) }
    → Seated net (seats ++ seat ∷ []) (i + 1)
Seated-more net seats i stream seat checked below seated is seat_is =
    let here = next_honest net seats i stream checked below seated is in
    let none : Stream = record { shorts = []; longs = []; coins = [] } in
    let at : ℕ → SeatState = λ k. record {
      stream = station_stream net k;
      keys = net.keys;
      station = k;
      received = [];
      place = length seats;
      seats = length
          (honest_stations net);
    } in
    let own : station_stream net i ≡ stream = ap (λ (o : Option Stream). unwrap_or o none) is in
    let same : seat ≡ seat_at net [] (length seats) =
    seat_is ∙ ap (λ (s : Stream). record {
      stream = s;
      keys = net.keys;
      station = i;
      received = [];
      place = length seats;
      seats = length
          (honest_stations net);
    }) (sym own) ∙ ap at (sym here.1.0) in
    let long = length_push seats seat in
    record {
      rest = ap (λ (k : ℕ). drop k (honest_stations net)) long ∙ here.1.1;
      seats_are = ap (λ (xs : List SeatState). xs ++ seat ∷ []) seated.seats_are
          ∙ ap (λ (s : SeatState). map (seat_at net []) (range_with_len 0 (length seats)) ++ s ∷ []) same
          ∙ sym (map-range_with_len_more (seat_at net []) 0 (length seats) (length seats) (omega arith))
          ∙ ap (λ (k : ℕ). map (seat_at net []) (range_with_len 0 k)) (sym long);
      few = let low = here.0 in omega arith;
    }

-- a station without a stream is passed over
pub Seated-past : (net : Net) (seats : List SeatState) (i : ℕ) → IsChecked net → i < net.stations → Seated net seats i
    → is_some (get_or net.streams i None) ≡ false → Seated net seats (i + 1)
Seated-past net seats i checked below seated none =
    let away : not (is_among net.coalition i) ≡ false = sym (has_stream net checked.agrees i below) ∙ none in
    record {
      rest = passed_over (λ x. not (is_among net.coalition x)) (honest_stations net) net.stations i
          (length seats) below seated.rest away;
      seats_are = seated.seats_are;
      few = seated.few;
    }

-- at the end all honest stations are seated
pub all_seated : (net : Net) (seats : List SeatState) (i : ℕ) → net.stations ≤ i → Seated net seats i → seats ≡ seats_after net []
all_seated net seats i past seated =
    let none : net.stations - i ≡ 0 = omega arith in
    let left = sym (length-drop (length seats) (honest_stations net))
    ∙ ap (λ (xs : List ℕ). length xs) (seated.rest ∙ ap (λ (k : ℕ). filter (λ x. not (is_among net.coalition x)) (range_with_len i k)) none) in
    let all : length seats ≡ length (honest_stations net) = let few = seated.few in omega arith in
    seated.seats_are ∙ ap (λ (k : ℕ). map (seat_at net []) (range_with_len 0 k)) all
