-- The seats of the honest stations, round after round.
use Rattle.std.proofs.Common.{◌≡◌, ℕ, ◌+◌, ◌-◌, ◌*◌, ◌<◌, ◌≤◌, Bool, true, ltb, if◌then◌else◌, List, [], ◌∷◌, ◌++◌, length, get_or, map, take, drop, refl, sym, ap, subst, ◌∙◌, arith, lt-ltb, All}
use Rattle.std.specs.List.{flat_map}
use Rattle.std.proofs.Math.Nat.{mul-le-mul_right}
use Rattle.std.proofs.lemmas.List.{length-map, length-append, length-drop, get_or-map, get_or-take, get_or-drop, get_or_default, length-take-le, get_or_push, get_or_append_left}
use Rattle.std.proofs.lemmas.List.Concat.{get_or-flat_map}
use Rattle.std.proofs.lemmas.List.FromFn.{get_or-map-range_with_len, length-map-range_with_len, fill_by_all}
use Rattle.dc_spec.specs.Words.{zero_word}
use Rattle.dc_spec.specs.Pads.{Keys}
use Rattle.dc_spec.specs.Net.{Net}
use Rattle.dc_net_rules.specs.Runs.{Round, word_of_station, honest_stations, history, station_stream, next_round, rounds_of}
use Rattle.dc_net_rules.proofs.Agreeing.{all_agree}
use Rattle.dc_net_rules.proofs.RoundLemmas.{length-rounds_of, rounds_more, pieces_more, history_more, length-history}
use Rattle.dc_net.specs.Checked.{IsChecked}
use Rattle.dc_net.specs.Rows.{AreWordsOf}
use Rattle.dc_net.specs.RoundKeys.{RoundKeysState, KeysAt}
use Rattle.dc_net.specs.Seat.{SeatState, seat_word, HearsNext, TakesNext, with_heard}
use Rattle.dc_net.specs.Run.{seat_at, seats_after, AreKeyed, heard_row, honest_word}
use Rattle.dc_net.proofs.Seats.{with_word}
use Rattle.dc_net.proofs.Recording.{length-delivered}

-- the words of the seats are those of the honest stations
pub seat_words : (net : Net) (t : ℕ) → IsChecked net → t < net.words
    → AreWordsOf (honest_word net (rounds_of net t)) (honest_stations net) (map seat_word (seats_after net (rounds_of net t)))
seat_words net t checked low = λ k within.
    let played = rounds_of net t in
    let i = get_or (honest_stations net) k 0 in
    let words = (all_agree net checked.agrees).words in
    let long = length-history net t (get_or (honest_stations net) k 0) in
    let before : ltb (length (history (rounds_of net t) (get_or (honest_stations net) k 0))) net.keys.words ≡ true = lt-ltb _ _ (omega arith) in
    let count = length-map-range_with_len (seat_at net (rounds_of net t)) 0 (length (honest_stations net)) in
    get_or-map seat_word (seats_after net (rounds_of net t)) k (seat_at net (rounds_of net t) k) zero_word (omega arith)
    ∙ ap seat_word (get_or-map-range_with_len (seat_at net (rounds_of net t)) 0 (length (honest_stations net)) k k (seat_at net (rounds_of net t) k) within
    (omega arith))
    ∙ ap (λ (b : Bool). if b then honest_word net (rounds_of net t) (get_or (honest_stations net) k 0) else zero_word) before

-- all seats are there
pub length-seats : (net : Net) (played : List Round) → length (seats_after net played) ≡ length (honest_stations net)
length-seats net played = length-map-range_with_len (seat_at net played) 0 (length (honest_stations net))

-- a word that was delivered, by round and place
delivered_at : (net : Net) (played : List Round) (k j : ℕ) (round : Round) → k < length played → j < length (honest_stations net)
    → get_or (flat_map (heard_row net) played) (k * length (honest_stations net) + j) zero_word ≡ word_of_station (get_or played k round).received
    (get_or (honest_stations net) j 0)
delivered_at net played k j round low place =
    let first = length-delivered net (take k played) ∙ ap (λ (m : ℕ). m * length (honest_stations net)) (length-take-le k played (omega arith)) in
    let row = length-map (honest_stations net) (word_of_station (get_or played k round).received) in
    ap (λ (m : ℕ). get_or (flat_map (heard_row net) played) (m + j) zero_word) (sym first)
    ∙ get_or-flat_map (heard_row net) played k j round zero_word low (omega arith)
    ∙ get_or-map (word_of_station (get_or played k round).received) (honest_stations net) j 0 zero_word place

-- a seat that received the words of so many rounds hears the word of the round after them
hears_next : (net : Net) (t j : ℕ) → IsChecked net → t < net.words → j < length (honest_stations net)
    → HearsNext (flat_map (heard_row net) (rounds_of net t ++ next_round net (rounds_of net t) ∷ [])) (seat_at net (rounds_of net t) j)
hears_next net t j checked low place =
    let played = rounds_of net t in
    let i = get_or (honest_stations net) j 0 in
    let words = (all_agree net checked.agrees).words in
    let rounds = length-rounds_of net t in
    let long = length-history net t (get_or (honest_stations net) j 0) in
    let all = length-delivered net (rounds_of net t ++ next_round net (rounds_of net t) ∷ [])
    ∙ ap (λ (m : ℕ). m * length (honest_stations net)) (length-append (rounds_of net t) (next_round net (rounds_of net t) ∷ [])
    ∙ ap (λ (m : ℕ). m + 1) rounds) in
    record {
      place = place;
      session = omega arith;
      count = all ∙ (let e : (t + 1) * length (honest_stations net) ≡ t * length (honest_stations net) + length (honest_stations net) = omega arith in e)
          ∙ ap (λ (m : ℕ). m * length (honest_stations net) + length (honest_stations net)) (sym long);
      before = λ k less.
          let early : k < length (rounds_of net t) = omega arith in
          let next = next_round net (rounds_of net t) in
          get_or-map (λ (round : Round). word_of_station round.received (get_or (honest_stations net) j 0)) (rounds_of net t) k
          (next_round net (rounds_of net t)) zero_word early
          ∙ sym (delivered_at net (rounds_of net t) k j (next_round net (rounds_of net t)) early place)
          ∙ sym (ap (λ (ws : List (List ℕ)). get_or ws (k * length (honest_stations net) + j) zero_word)
          (pieces_more (heard_row net) (rounds_of net t) (next_round net (rounds_of net t)))
          ∙ get_or_front (flat_map (heard_row net) (rounds_of net t)) (heard_row net (next_round net (rounds_of net t))) (k * length (honest_stations net) + j)
          (let size = length-delivered net (rounds_of net t) in let fits = mul-le-mul_right {m = k + 1} {n = length (rounds_of net t)}
          (length (honest_stations net)) (omega arith) in omega arith));
    }
  where
    get_or_front : (xs ys : List (List ℕ)) (m : ℕ) → m < length xs → get_or (xs ++ ys) m zero_word ≡ get_or xs m zero_word
    get_or_front xs ys m less = get_or_append_left xs ys zero_word m less

-- and has then received the words of one round more
next_seat : (net : Net) (t j : ℕ) → IsChecked net → t < net.words → j < length (honest_stations net)
    → with_heard (flat_map (heard_row net) (rounds_of net t ++ next_round net (rounds_of net t) ∷ [])) (seat_at net (rounds_of net t) j) ≡ seat_at net
    (rounds_of net t ++ next_round net (rounds_of net t) ∷ []) j
next_seat net t j checked low place =
    let next = next_round net (rounds_of net t) in
    let i = get_or (honest_stations net) j 0 in
    let rounds = length-rounds_of net t in
    let long = length-append (rounds_of net t) (next_round net (rounds_of net t) ∷ []) in
    let all = length-delivered net (rounds_of net t ++ next_round net (rounds_of net t) ∷ [])
    ∙ ap (λ (m : ℕ). m * length (honest_stations net)) (long ∙ ap (λ (m : ℕ). m + 1) rounds) in
    let at : length (flat_map (heard_row net) (rounds_of net t ++ next_round net (rounds_of net t) ∷ [])) - length (honest_stations net) + j ≡ t * length
    (honest_stations net) + j =
    let e : (t + 1) * length (honest_stations net) ≡ t * length (honest_stations net) + length (honest_stations net) = omega arith in omega arith in
    let last : word_of_station (next_round net (rounds_of net t)).received (get_or (honest_stations net) j 0)
    ≡ get_or (flat_map (heard_row net) (rounds_of net t ++ next_round net (rounds_of net t) ∷ []))
    (length (flat_map (heard_row net) (rounds_of net t ++ next_round net (rounds_of net t) ∷ [])) - length (honest_stations net) + j) zero_word =
    sym (ap (λ (m : ℕ). get_or (flat_map (heard_row net) (rounds_of net t ++ next_round net (rounds_of net t) ∷ [])) m zero_word) at
    ∙ delivered_at net (rounds_of net t ++ next_round net (rounds_of net t) ∷ []) t j (next_round net (rounds_of net t)) (omega arith) place
    ∙ ap (λ (round : Round). word_of_station round.received (get_or (honest_stations net) j 0))
    (get_or_push (rounds_of net t) (next_round net (rounds_of net t)) (next_round net (rounds_of net t)) t rounds)) in
    let received = with_word (flat_map (heard_row net) (rounds_of net t ++ next_round net (rounds_of net t) ∷ [])) (seat_at net (rounds_of net t) j) _
    (hears_next net t j checked low place) last
    ∙ sym (history_more (rounds_of net t) (next_round net (rounds_of net t)) (get_or (honest_stations net) j 0)) in
    ap (λ (ws : List (List ℕ)). record {
      stream = station_stream net (get_or (honest_stations net) j 0);
      keys = net.keys;
      station = get_or (honest_stations net) j 0;
      received = ws;
      place = j;
      seats = length (honest_stations net);
    }) received

-- a whole row was heard
pub row_there : (net : Net) (t : ℕ) (heard : List (List ℕ)) → heard ≡ flat_map (heard_row net) (rounds_of net (t + 1))
    → length (honest_stations net) ≤ length heard
row_there net t heard is =
    let all = ap (λ (ws : List (List ℕ)). length ws) is ∙ length-delivered net (rounds_of net (t + 1)) in
    let rounds = length-rounds_of net (t + 1) in
    let one = mul-le-mul_right {m = 1} {n = length (rounds_of net (t + 1))} (length (honest_stations net)) (omega arith) in omega arith

-- the last row, and the word at a place of it
pub length-last_row : (heard : List (List ℕ)) (n : ℕ) → n ≤ length heard
    → length (take (length heard - (length heard - n)) (drop (length heard - n) heard)) ≡ n
length-last_row heard n le =
    let kept = length-drop (length heard - n) heard in
    length-take-le (length heard - (length heard - n)) (drop (length heard - n) heard) (omega arith)
    ∙ (let e : length heard - (length heard - n) ≡ n = omega arith in e)

pub last_row-at : (heard : List (List ℕ)) (n m j : ℕ) → n ≡ m → m ≤ length heard → j < m
    → get_or (take (length heard - (length heard - n)) (drop (length heard - n) heard)) j [] ≡ get_or heard (length heard - m + j) zero_word
last_row-at heard n m j same le low =
    get_or-take (length heard - (length heard - n)) (drop (length heard - n) heard) j [] (omega arith)
    ∙ get_or-drop (length heard - n) heard j []
    ∙ ap (λ (k : ℕ). get_or heard (length heard - k + j) []) same
    ∙ get_or_default heard (length heard - m + j) [] zero_word (omega arith)

-- a station's history with the word at its place in the last row
pub next_history : (net : Net) (t j : ℕ) (heard : List (List ℕ)) → IsChecked net → t < net.words → j < length (honest_stations net)
    → heard ≡ flat_map (heard_row net) (rounds_of net (t + 1))
    → history (rounds_of net t) (get_or (honest_stations net) j 0) ++ get_or heard (length heard - length (honest_stations net) + j) zero_word ∷ []
    ≡ history (rounds_of net (t + 1)) (get_or (honest_stations net) j 0)
next_history net t j heard checked low place is =
    let more = rounds_of net t ++ next_round net (rounds_of net t) ∷ [] in
    let all : heard ≡ flat_map (heard_row net) more = is ∙ ap (λ (played : List Round). flat_map (heard_row net) played) (rounds_more net t) in
    let here = with_word (flat_map (heard_row net) more) (seat_at net (rounds_of net t) j)
    (get_or (flat_map (heard_row net) more) (length (flat_map (heard_row net) more) - length (honest_stations net) + j) zero_word)
    (hears_next net t j checked low place) refl in
    let next = ap (λ (s : SeatState). s.received) (next_seat net t j checked low place) in
    ap (λ (ws : List (List ℕ)). history (rounds_of net t) (get_or (honest_stations net) j 0) ++ get_or ws (length ws - length (honest_stations net) + j) zero_word ∷ []) all
    ∙ sym here ∙ next ∙ ap (λ (played : List Round). history played (get_or (honest_stations net) j 0)) (sym (rounds_more net t))

-- the keys of all honest stations with the words of one round more
pub AreKeyed-more : (net : Net) (t : ℕ) (heard row : List (List ℕ)) (keys after : RoundKeysState) → IsChecked net → t < net.words
    → heard ≡ flat_map (heard_row net) (rounds_of net (t + 1))
    → ((j : ℕ) → j < length (honest_stations net) → get_or row j [] ≡ get_or heard (length heard - length (honest_stations net) + j) zero_word)
    → AreKeyed net (rounds_of net t) keys → after.places ≡ keys.places → after.taken ≡ keys.taken + 1 → after.total ≡ keys.total
    → ((place : ℕ) (pads : Keys) (station : ℕ) (received : List (List ℕ)) → KeysAt keys place pads station received
    → KeysAt after place pads station (received ++ get_or row place [] ∷ []))
    → AreKeyed net (rounds_of net (t + 1)) after
AreKeyed-more net t heard row keys after checked low is read keyed places taken total takes = record {
  places = places ∙ keyed.places;
  taken = let e = keyed.taken in let long = length-rounds_of net t in let more = length-rounds_of net (t + 1) in omega arith;
  total = total ∙ keyed.total;
  each = λ j place.
      let i = get_or (honest_stations net) j 0 in
      subst (λ (ws : List (List ℕ)). KeysAt after j net.keys (get_or (honest_stations net) j 0) ws)
      (ap (λ (w : List ℕ). history (rounds_of net t) (get_or (honest_stations net) j 0) ++ w ∷ []) (read j place)
      ∙ next_history net t j heard checked low place is)
      (takes j net.keys (get_or (honest_stations net) j 0) (history (rounds_of net t) (get_or (honest_stations net) j 0)) (keyed.each j place));
}

-- so each seat can take its word, once the keys have taken theirs
pub all_take : (net : Net) (t : ℕ) (heard : List (List ℕ)) (keys : RoundKeysState) → IsChecked net → t < net.words
    → heard ≡ flat_map (heard_row net) (rounds_of net (t + 1)) → AreKeyed net (rounds_of net (t + 1)) keys
    → All (TakesNext heard keys) (seats_after net (rounds_of net t))
all_take net t heard keys checked low is keyed = λ k d within.
    let place : k < length (honest_stations net) = let count = length-seats net (rounds_of net t) in omega arith in
    let more = rounds_of net t ++ next_round net (rounds_of net t) ∷ [] in
    let all : flat_map (heard_row net) more ≡ heard = sym (is ∙ ap (λ (played : List Round). flat_map (heard_row net) played) (rounds_more net t)) in
    let hears : HearsNext heard (seat_at net (rounds_of net t) k) = subst (λ (ws : List (List ℕ)). HearsNext ws (seat_at net (rounds_of net t) k)) all
    (hears_next net t k checked low place) in
    let received : history (rounds_of net (t + 1)) (get_or (honest_stations net) k 0) ≡ (with_heard heard (seat_at net (rounds_of net t) k)).received =
    sym (ap (λ (ws : List (List ℕ)). (with_heard ws (seat_at net (rounds_of net t) k)).received) (sym all)
    ∙ ap (λ (s : SeatState). s.received) (next_seat net t k checked low place)
    ∙ ap (λ (played : List Round). history played (get_or (honest_stations net) k 0)) (sym (rounds_more net t))) in
    let here : TakesNext heard keys (seat_at net (rounds_of net t) k) = record {
      hears = hears;
      keyed = subst (λ (ws : List (List ℕ)). KeysAt keys k net.keys (get_or (honest_stations net) k 0) ws) received (keyed.each k place);
    } in
    subst (λ (seat : SeatState). TakesNext heard keys seat)
    (sym (get_or-map-range_with_len (seat_at net (rounds_of net t)) 0 (length (honest_stations net)) k k d place (omega arith))) here

pub seats_taken : (net : Net) (t : ℕ) (heard : List (List ℕ)) → IsChecked net → t < net.words → heard ≡ flat_map (heard_row net) (rounds_of net (t + 1))
    → map (with_heard heard) (seats_after net (rounds_of net t)) ≡ seats_after net (rounds_of net (t + 1))
seats_taken net t heard checked low is =
    let all : flat_map (heard_row net) (rounds_of net t ++ next_round net (rounds_of net t) ∷ []) ≡ heard = sym (is
    ∙ ap (λ (played : List Round). flat_map (heard_row net) played) (rounds_more net t)) in
    let count = length-seats net (rounds_of net t) in
    let one : map (with_heard heard) (seats_after net (rounds_of net t)) ≡ seats_after net (rounds_of net t ++ next_round net (rounds_of net t) ∷ []) =
    fill_by_all (seat_at net (rounds_of net t ++ next_round net (rounds_of net t) ∷ [])) (map (with_heard heard) (seats_after net (rounds_of net t)))
    (length (honest_stations net)) (seat_at net (rounds_of net t) 0)
    (length-map (seats_after net (rounds_of net t)) (with_heard heard) ∙ count)
    (λ k place.
    get_or-map (with_heard heard) (seats_after net (rounds_of net t)) k (seat_at net (rounds_of net t) 0) (seat_at net (rounds_of net t) 0) (omega arith)
    ∙ ap (with_heard heard)
    (get_or-map-range_with_len (seat_at net (rounds_of net t)) 0 (length (honest_stations net)) k k (seat_at net (rounds_of net t) 0) place (omega arith))
    ∙ sym (ap (λ (ws : List (List ℕ)). with_heard ws (seat_at net (rounds_of net t) k)) all) ∙ next_seat net t k checked low place) in
    one ∙ ap (λ (played : List Round). seats_after net played) (sym (rounds_more net t))
