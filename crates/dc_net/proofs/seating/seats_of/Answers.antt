use Rattle.std.proofs.Common.{◌≡◌, ℕ, ◌+◌, ◌<◌, List, [], length, get_or, Option, None, sym, ap, subst, ◌∙◌, arith}
use Rattle.std.specs.Option.{is_some}
use Rattle.std.proofs.lemmas.List.{get_or_default}
use Rattle.dc_spec.specs.Entries.{Stream}
use Rattle.dc_spec.specs.Pads.{Keys}
use Rattle.dc_spec.specs.Net.{Net}
use Rattle.dc_key_rules.specs.PairKeys.{key_part}
use Rattle.dc_net_rules.specs.Runs.{honest_stations}
use Rattle.dc_net.specs.Checked.{IsChecked}
use Rattle.dc_net.specs.RoundKeys.{KeysAt}
use Rattle.dc_net.specs.Seat.{SeatState}
use Rattle.dc_net.proofs.SeatLists.{Seated, Seated-more, Seated-past, room_for_seat, place_of_seat, all_seated}
use Rattle.dc_net.proofs.seating.seats_of.Goals.{in-Some+in_ok-seat, in_default}
use Rattle.dc_net.proofs.seating.seats_of.Goals as goal

-- the stream of a station, as it was read
stream_read : (net : Net) (streams : List (Option Stream)) (at i : ℕ) (o : Option Stream) → IsChecked net → i < net.stations → streams ≡ net.streams → at ≡ i
    → o ≡ get_or streams at o → get_or net.streams i None ≡ o
stream_read net streams at i o checked below same place is =
    let low : i < length net.streams = let e = checked.streams in omega arith in
    get_or_default net.streams i None o low ∙ sym (is ∙ ap (λ (k : ℕ). get_or streams k o) place ∙ ap (λ (xs : List (Option Stream)). get_or xs i o) same)

-- a new seat of these parts
same_seat : (stream : Stream) (keys own : Keys) (i place here count all : ℕ) → keys ≡ own → place ≡ here → count ≡ all
    → ◌≡◌ {A = SeatState} (record { stream = stream; keys = keys; station = i; received = []; place = place; seats = count })
    (record { stream = stream; keys = own; station = i; received = []; place = here; seats = all })
same_seat stream keys own i place here count all same at counted =
    ap (λ (k : Keys). record { stream = stream; keys = k; station = i; received = []; place = place; seats = count }) same
    ∙ ap (λ (p : ℕ). record { stream = stream; keys = own; station = i; received = []; place = p; seats = count }) at
    ∙ ap (λ (n : ℕ). record { stream = stream; keys = own; station = i; received = []; place = here; seats = n }) counted

-- the place of the next seat
pub word-key-requires : goal.word-key-requires
word-key-requires c =
    let stations = c.stations-i-end.ensures.value ∙ ap (λ (n : Net). n.stations) c.net.view_is in
    let streams = c.as_slice-streams.ensures ∙ ap (λ (n : Net). n.streams) c.net.view_is in
    let below : c.loop-i.i < c.args.net.now.stations = let low = c.loop-i-test.true in omega arith in
    let read = stream_read c.args.net.now c.as_slice-streams.result.now c.from.result c.loop-i.i c.index-streams-from.result c.requires.checked below streams c.from.ensures
    c.index-streams-from.is in
    let room = room_for_seat c.args.net.now c.loop-i.seats.items c.loop-i.i c.in-Some.stream c.requires.checked below c.loop-i.invariant.seated (read
    ∙ c.in-Some.is) in
    let long = c.loop-i.seats.ok in let place = c.len-place.ensures in let places = c.requires.keyed.places in omega arith

-- its first key
pub start-requires-clause-key : goal.start-requires-clause-key
start-requires-clause-key c = λ some.
    let stations = c.stations-i-end.ensures.value ∙ ap (λ (n : Net). n.stations) c.net.view_is in
    let streams = c.as_slice-streams.ensures ∙ ap (λ (n : Net). n.streams) c.net.view_is in
    let below : c.loop-i.i < c.args.net.now.stations = let low = c.loop-i-test.true in omega arith in
    let read = stream_read c.args.net.now c.as_slice-streams.result.now c.from.result c.loop-i.i c.index-streams-from.result c.requires.checked below streams c.from.ensures
    c.index-streams-from.is in
    let room = room_for_seat c.args.net.now c.loop-i.seats.items c.loop-i.i c.in-Some.stream c.requires.checked below c.loop-i.invariant.seated (read
    ∙ c.in-Some.is) in
    let here : length c.loop-i.seats.items ≡ c.len-place.result = let long = c.loop-i.seats.ok in let place = c.len-place.ensures in omega arith in
    let station = place_of_seat c.args.net.now c.loop-i.seats.items c.loop-i.i c.in-Some.stream c.requires.checked below c.loop-i.invariant.seated (read ∙ c.in-Some.is) in
    let at = subst (λ (i : ℕ). KeysAt c.args.keys.now c.len-place.result c.args.net.now.keys i []) (ap (λ (k : ℕ). get_or (honest_stations c.args.net.now) k 0) (sym here) ∙ station)
    (c.requires.keyed.each c.len-place.result (let e = here in omega arith)) in
    let keys : c.net.inside.keys ≡ c.args.net.now.keys = ap (λ (n : Net). n.keys) c.net.view_is in
    c.word-key.ensures c.args.net.now.keys c.loop-i.i [] at (subst (λ (k : Keys). 0 < k.words) keys some)
    ∙ ap (λ (k : Keys). key_part k.pairs c.loop-i.i []) (sym keys)

pub push_reserved-requires : goal.push_reserved-requires
push_reserved-requires c =
    let stations = c.stations-i-end.ensures.value ∙ ap (λ (n : Net). n.stations) c.net.view_is in
    let streams = c.as_slice-streams.ensures ∙ ap (λ (n : Net). n.streams) c.net.view_is in
    let below : c.loop-i.i < c.args.net.now.stations = let low = c.loop-i-test.true in omega arith in
    let read = stream_read c.args.net.now c.as_slice-streams.result.now c.from.result c.loop-i.i c.index-streams-from.result c.requires.checked below streams c.from.ensures
    c.index-streams-from.is in
    let room = room_for_seat c.args.net.now c.loop-i.seats.items c.loop-i.i c.in-Some.stream c.requires.checked below c.loop-i.invariant.seated (read
    ∙ c.in-Some.is) in
    let long = c.loop-i.seats.ok in let all = c.loop-i.invariant.room in let count = c.requires.count in omega arith

pub loop-i-preserved : goal.loop-i-preserved
loop-i-preserved c =
    let stations = c.stations-i-end.ensures.value ∙ ap (λ (n : Net). n.stations) c.net.view_is in
    let streams = c.as_slice-streams.ensures ∙ ap (λ (n : Net). n.streams) c.net.view_is in
    let below : c.loop-i.i < c.args.net.now.stations = let low = c.loop-i-test.true in omega arith in
    let read = stream_read c.args.net.now c.as_slice-streams.result.now c.from.result c.loop-i.i c.index-streams-from.result c.requires.checked below streams c.from.ensures
    c.index-streams-from.is in
    elim c.match-streams-from.branch [
      | in-Some+in_ok-seat w ↦ rw w.seats-is (record {
        seated = subst (λ xs. Seated c.args.net.now xs (c.loop-i.i + 1)) (sym {A = List SeatState} w.push_reserved.ensures.items)
            (Seated-more c.args.net.now c.loop-i.seats.items c.loop-i.i w.in-Some.stream w.in_ok-seat.seat c.requires.checked below c.loop-i.invariant.seated
            (read ∙ w.in-Some.is)
            (w.in_ok-seat.ensures
            ∙ same_seat w.in-Some.stream c.net.inside.keys c.args.net.now.keys c.loop-i.i w.len-place.result (length c.loop-i.seats.items) c.args.count _
            (ap (λ (n : Net). n.keys) c.net.view_is) (let long = c.loop-i.seats.ok in let l = w.len-place.ensures in omega arith) c.requires.count));
        room = w.push_reserved.ensures.capacity ∙ c.loop-i.invariant.room;
      })
      | in_default w ↦ rw w.seats-is (record {
        seated = Seated-past c.args.net.now c.loop-i.seats.items c.loop-i.i c.requires.checked below c.loop-i.invariant.seated
            (ap (λ (o : Option Stream). is_some o) (read ∙ w.in_default.is));
        room = c.loop-i.invariant.room;
      })
    ]

pub returns : goal.returns
returns c =
    let stations = c.stations-i-end.ensures.value ∙ ap (λ (n : Net). n.stations) c.net.view_is in
    all_seated c.args.net.now c.loop-i.seats.items c.loop-i.i (let past = c.loop-i-test.false in omega arith) c.loop-i.invariant.seated
