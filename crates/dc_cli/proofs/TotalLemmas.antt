-- Where messages balance, so do their numbers: what the first log has and what is pending is all that the streams had.
use Rattle.std.proofs.Common.{◌≡◌, ℕ, ◌+◌, ◌*◌, ◌≤◌, ◌<◌, Bool, true, false, cond, List, [], ◌∷◌, length, map, filter, get_or, sum_by, Option, None, Some, refl, sym, ap, ◌∙◌, arith}
use Rattle.std.specs.List.{range_with_len, flat_map, list_any}
use Rattle.std.specs.Str.{bytes_eq}
use Rattle.std.proofs.lemmas.List.Sums.{sum_by-cons, sum_by-append}
use Rattle.std.proofs.lemmas.Slice.Eq.{bytes_eq-Decides}
use Rattle.dc_spec.specs.Entries.{Entry, short, long, Stream}
use Rattle.dc_spec.specs.Net.{Net}
use Rattle.dc_spec.proofs.SumLemmas.{sum_by-map, sum_by-plus, sum_by-filter}
use Rattle.std.proofs.lemmas.List.{length-drop}
use Rattle.std.specs.Prelude.{not, slice_index_or, unwrap_or}
use Rattle.std.proofs.lemmas.List.FromFn.{get_or-map-range_with_len, length-range_with_len}
use Rattle.dc_spec.specs.Lists.{is_among}
use Rattle.dc_station_rules.specs.Bursts.{burst_of, message_of}
use Rattle.dc_station_rules.specs.Cycles.{Cycle, cycles, history_of, words_for}
use Rattle.dc_station_rules.specs.Epochs.{Leaf}
use Rattle.dc_station_rules.specs.Stations.{first_short, first_long, gave_message, is_leaf_of, marked, cycle_leaves, longs_sent, shorts_sent, left_by, left_after, sent_in, sent_over, log_of, sent_of, pending_of, pending_counts}
use Rattle.dc_net_rules.specs.Bags.{Message, value, text, times_in, count_in}
use Rattle.dc_net_rules.specs.Nets.{IsNet}
use Rattle.dc_net_rules.specs.Runs.{history, honest_stations, all_rounds, rounds_of, run_of, station_stream}
use Rattle.dc_message_rules.proofs.Tallies.{total-same, total-zero, total-ones, total-times}
use Rattle.dc_message_rules.proofs.NetBalance.{messages-balance}
use Rattle.dc_run_texts.specs.Trial.{shorts_in, longs_in, first_log}

-- ---- lists that have each key equally often have equally many

-- how much the items with this key weigh
abbrev weighed : {A : Type 0} → (A → List ℕ) → (A → ℕ) → List ℕ → List A → ℕ
weighed key weight k xs = sum_by (λ x. cond (bytes_eq k (key x)) (weight x) 0) xs

-- the items without those of this key
abbrev others : {A : Type 0} → (A → List ℕ) → (A → ℕ) → List ℕ → A → ℕ
others key weight k x = cond (bytes_eq k (key x)) 0 (weight x)

bytes_same : (k : List ℕ) → bytes_eq k k ≡ true
bytes_same k = (bytes_eq-Decides k k).1 refl

cond_zero : (b : Bool) → cond {A = ℕ} b 0 0 ≡ 0
cond_zero true = refl
cond_zero false = refl

cond_parted : (b : Bool) (n : ℕ) → n ≡ cond b n 0 + cond b 0 n
cond_parted true n = omega arith
cond_parted false n = omega arith

nothing_weighs : {A : Type 0} (key : A → List ℕ) (weight : A → ℕ) (xs : List A) → ((k : List ℕ) → weighed key weight k xs ≡ 0) → sum_by weight xs ≡ 0
nothing_weighs key weight [] none = refl
nothing_weighs key weight (x ∷ xs) none =
    let all = sum_by-cons weight x xs in
    let here = none (key x) in
    let at = sum_by-cons (λ y. cond (bytes_eq (key x) (key y)) (weight y) 0) x xs in
    let own : cond (bytes_eq (key x) (key x)) (weight x) 0 ≡ weight x = rw (bytes_same (key x)) refl in
    let rest = nothing_weighs key weight xs (λ k. let e = none k in let c = sum_by-cons (λ y. cond (bytes_eq k (key y)) (weight y) 0) x xs in omega arith) in
    omega arith

parted : {A : Type 0} (key : A → List ℕ) (weight : A → ℕ) (k : List ℕ) (xs : List A) → sum_by weight xs ≡ weighed key weight k xs + sum_by (others key weight k) xs
parted key weight k [] = refl
parted key weight k (x ∷ xs) =
    let rest = parted key weight k xs in
    let all = sum_by-cons weight x xs in
    let with = sum_by-cons (λ y. cond (bytes_eq k (key y)) (weight y) 0) x xs in
    let without = sum_by-cons (others key weight k) x xs in
    let here = cond_parted (bytes_eq k (key x)) (weight x) in
    omega arith

-- without the items of a key, that key weighs nothing and any other as before
cleared_same : {A : Type 0} (key : A → List ℕ) (weight : A → ℕ) (k : List ℕ) (xs : List A) → weighed key (others key weight k) k xs ≡ 0
cleared_same key weight k xs = total-same (λ x. cond (bytes_eq k (key x)) (others key weight k x) 0) (λ x. 0) xs (λ i d within. twice (bytes_eq k (key (get_or xs i d))) (weight (get_or xs i d))) ∙ total-zero xs
  where
    twice : (b : Bool) (n : ℕ) → cond b (cond b 0 n) 0 ≡ 0
    twice true n = refl
    twice false n = refl

cleared_other : {A : Type 0} (key : A → List ℕ) (weight : A → ℕ) (k j : List ℕ) → bytes_eq j k ≡ false → (xs : List A) → weighed key (others key weight k) j xs ≡ weighed key weight j xs
cleared_other key weight k j other xs = total-same (λ x. cond (bytes_eq j (key x)) (others key weight k x) 0) (λ x. cond (bytes_eq j (key x)) (weight x) 0) xs
    (λ i d within. one (key (get_or xs i d)) (weight (get_or xs i d)))
  where
    both : (a : List ℕ) (b c : Bool) (n : ℕ) → bytes_eq j a ≡ b → bytes_eq k a ≡ c → cond b (cond c 0 n) 0 ≡ cond b n 0
    both a true true n p q =
        let first : j ≡ a = (bytes_eq-Decides j a).0 p in
        let second : k ≡ a = (bytes_eq-Decides k a).0 q in
        let same : bytes_eq j k ≡ true = (bytes_eq-Decides j k).1 (first ∙ sym second) in
        absurd cc
    both a true false n p q = refl
    both a false c n p q = refl

    one : (a : List ℕ) (n : ℕ) → cond (bytes_eq j a) (cond (bytes_eq k a) 0 n) 0 ≡ cond (bytes_eq j a) n 0
    one a n = both a (bytes_eq j a) (bytes_eq k a) n refl refl

equal_totals : {A : Type 0} (key : A → List ℕ) (weight : A → ℕ) (xs ys : List A) → ((k : List ℕ) → weighed key weight k xs ≡ weighed key weight k ys) → sum_by weight xs ≡ sum_by weight ys
equal_totals key weight [] ys same = sym (nothing_weighs key weight ys (λ k. sym (same k)))
equal_totals key weight (x ∷ xs) ys same =
    let k = key x in
    let left = parted key weight k (x ∷ xs) in
    let right = parted key weight k ys in
    let gone : others key weight k x ≡ 0 = rw (bytes_same (key x)) refl in
    let front = sum_by-cons (others key weight k) x xs in
    let rest = equal_totals key (others key weight k) xs ys (λ j. by_key k j (bytes_eq j k) refl gone) in
    let here = same k in
    omega arith
  where
    by_key : (k j : List ℕ) (b : Bool) → bytes_eq j k ≡ b → others key weight k x ≡ 0 → weighed key (others key weight k) j xs ≡ weighed key (others key weight k) j ys
    by_key k j true e gone =
        let is : j ≡ k = (bytes_eq-Decides j k).0 e in
        rw is (cleared_same key weight k xs ∙ sym (cleared_same key weight k ys))
    by_key k j false e gone =
        let front = sum_by-cons (λ y. cond (bytes_eq j (key y)) (others key weight k y) 0) x xs in
        let first : cond (bytes_eq j (key x)) (others key weight k x) 0 ≡ 0 = ap (λ n. cond (bytes_eq j (key x)) n 0) gone ∙ cond_zero (bytes_eq j (key x)) in
        let all = cleared_other key weight k j e (x ∷ xs) ∙ same j ∙ sym (cleared_other key weight k j e ys) in
        omega arith

-- ---- entries

short_key : Entry → List ℕ
short_key (short v times) = v
short_key (long message) = []

long_key : Entry → List ℕ
long_key (short v times) = []
long_key (long message) = message

short_times : (v : List ℕ) (e : Entry) → times_in (value v) e ≡ cond (bytes_eq v (short_key e)) (shorts_in e) 0
unfolding short_key
short_times v (short w times) = refl
short_times v (long message) = sym (cond_zero (bytes_eq v []))

long_times : (b : List ℕ) (e : Entry) → times_in (text b) e ≡ cond (bytes_eq b (long_key e)) (longs_in e) 0
unfolding long_key
long_times b (short w times) = sym (cond_zero (bytes_eq b []))
long_times b (long message) = refl

equal_shorts : (xs ys : List Entry) → ((m : Message) → count_in m xs ≡ count_in m ys) → sum_by shorts_in xs ≡ sum_by shorts_in ys
equal_shorts xs ys same = equal_totals short_key shorts_in xs ys (λ k. sym (counted k xs) ∙ same (value k) ∙ counted k ys)
  where
    counted : (k : List ℕ) (zs : List Entry) → count_in (value k) zs ≡ weighed short_key shorts_in k zs
    counted k zs = total-same (times_in (value k)) (λ e. cond (bytes_eq k (short_key e)) (shorts_in e) 0) zs (λ i d within. short_times k (get_or zs i d))

equal_longs : (xs ys : List Entry) → ((m : Message) → count_in m xs ≡ count_in m ys) → sum_by longs_in xs ≡ sum_by longs_in ys
equal_longs xs ys same = equal_totals long_key longs_in xs ys (λ k. sym (counted k xs) ∙ same (text k) ∙ counted k ys)
  where
    counted : (k : List ℕ) (zs : List Entry) → count_in (text k) zs ≡ weighed long_key longs_in k zs
    counted k zs = total-same (times_in (text k)) (λ e. cond (bytes_eq k (long_key e)) (longs_in e) 0) zs (λ i d within. long_times k (get_or zs i d))

-- the sum over lists one after the other
sum_by-flat : {A B : Type 0} (f : B → ℕ) (g : A → List B) (xs : List A) → sum_by f (flat_map g xs) ≡ sum_by (λ x. sum_by f (g x)) xs
sum_by-flat f g [] = refl
sum_by-flat f g (x ∷ xs) =
    let rest = sum_by-flat f g xs in
    let parts = sum_by-append f (g x) (flat_map g xs) in
    let all = sum_by-cons (λ y. sum_by f (g y)) x xs in
    omega arith

-- ---- a station: what it sent and what is pending is its stream

ones : {A : Type 0} (f : A → Entry) (weight : Entry → ℕ) (n : ℕ) → ((x : A) → weight (f x) ≡ n) → (xs : List A) → sum_by weight (map f xs) ≡ sum_by (λ x. n) xs
ones f weight n is xs = sum_by-map weight f xs ∙ total-same (λ x. weight (f x)) (λ x. n) xs (λ i d within. is (get_or xs i d))

shorts_few : (shorts : List (List ℕ)) (out : List Leaf) → length (first_short shorts out) ≤ length shorts
shorts_few [] out = omega arith
shorts_few (v ∷ shorts) out = few (list_any (is_leaf_of v) out)
  where
    few : (b : Bool) → length (cond b (v ∷ []) []) ≤ length (v ∷ shorts)
    few true = omega arith
    few false = omega arith

longs_few : (longs : List (List ℕ)) (mark : Option ℕ) (cycle : Cycle) → length (first_long longs mark cycle) ≤ length longs
longs_few [] mark cycle = omega arith
longs_few (m ∷ longs) None cycle = omega arith
longs_few (m ∷ longs) (Some field) cycle = few (gave_message m (message_of (burst_of (words_for field cycle.bursts))))
  where
    few : (b : Bool) → length (cond b (m ∷ []) []) ≤ length (m ∷ longs)
    few true = omega arith
    few false = omega arith

-- one cycle
shorts_in_cycle : (s : Stream) (cycle : Cycle) → sum_by shorts_in (sent_in s cycle) + length (left_by s cycle).shorts ≡ length s.shorts
unfolding left_by shorts_sent longs_sent
shorts_in_cycle s cycle =
    let gone = first_short s.shorts (cycle_leaves cycle) in
    let few = shorts_few s.shorts (cycle_leaves cycle) in
    let longs = first_long s.longs (marked s) cycle in
    let parts = sum_by-append shorts_in (map long longs) (map (λ v. short v 1) gone) in
    let none = ones long shorts_in 0 (λ m. refl) longs ∙ total-zero longs in
    let each = ones (λ v. short v 1) shorts_in 1 (λ v. refl) gone ∙ total-ones gone in
    let left = length-drop (length gone) s.shorts in
    omega arith

longs_in_cycle : (s : Stream) (cycle : Cycle) → sum_by longs_in (sent_in s cycle) + length (left_by s cycle).longs ≡ length s.longs
unfolding left_by shorts_sent longs_sent
longs_in_cycle s cycle =
    let gone = first_long s.longs (marked s) cycle in
    let few = longs_few s.longs (marked s) cycle in
    let shorts = first_short s.shorts (cycle_leaves cycle) in
    let parts = sum_by-append longs_in (map long gone) (map (λ v. short v 1) shorts) in
    let none = ones (λ v. short v 1) longs_in 0 (λ v. refl) shorts ∙ total-zero shorts in
    let each = ones long longs_in 1 (λ m. refl) gone ∙ total-ones gone in
    let left = length-drop (length gone) s.longs in
    omega arith

shorts_over : (s : Stream) (cs : List Cycle) → sum_by shorts_in (sent_over s cs) + length (left_after s cs).shorts ≡ length s.shorts
shorts_over s [] = omega arith
shorts_over s (cycle ∷ cs) =
    let here = shorts_in_cycle s cycle in
    let rest = shorts_over (left_by s cycle) cs in
    let parts = sum_by-append shorts_in (sent_in s cycle) (sent_over (left_by s cycle) cs) in
    omega arith

longs_over : (s : Stream) (cs : List Cycle) → sum_by longs_in (sent_over s cs) + length (left_after s cs).longs ≡ length s.longs
longs_over s [] = omega arith
longs_over s (cycle ∷ cs) =
    let here = longs_in_cycle s cycle in
    let rest = longs_over (left_by s cycle) cs in
    let parts = sum_by-append longs_in (sent_in s cycle) (sent_over (left_by s cycle) cs) in
    omega arith

shorts_of_station : (s : Stream) (words : List (List ℕ)) → sum_by shorts_in (sent_of s words) + (pending_counts s words).0 ≡ length s.shorts
unfolding sent_of pending_of
shorts_of_station s words = shorts_over s (cycles (history_of words))

longs_of_station : (s : Stream) (words : List (List ℕ)) → sum_by longs_in (sent_of s words) + (pending_counts s words).1 ≡ length s.longs
unfolding sent_of pending_of
longs_of_station s words = longs_over s (cycles (history_of words))

-- ---- a net without a coalition

-- what stands in the log of a station and what is pending at all stations is what their streams had
pub shorts_of_net : (net : Net) → IsNet net → net.coalition ≡ [] → (t : ℕ) → t ≤ net.words → (i : ℕ) → i < net.stations →
    (let stations = range_with_len 0 net.stations in
    sum_by shorts_in (log_of (history (rounds_of net t) i)) + sum_by (λ j. (pending_counts (station_stream net j) (history (rounds_of net t) j)).0) stations
    ≡ sum_by (λ j. length (station_stream net j).shorts) stations)
shorts_of_net net is none t le i low =
    let stations = range_with_len 0 net.stations in
    let sents : ℕ → List Entry = λ j. sent_of (station_stream net j) (history (rounds_of net t) j) in
    let log = log_of (history (rounds_of net t) i) in
    let same = equal_shorts log (flat_map sents stations) (λ m. messages-balance net is none t le i low m ∙ sym (sum_by-flat (times_in m) sents stations)) in
    let flat = sum_by-flat shorts_in sents stations in
    let both = sum_by-plus (λ j. sum_by shorts_in (sents j)) (λ j. (pending_counts (station_stream net j) (history (rounds_of net t) j)).0) stations in
    let each = total-same (λ j. sum_by shorts_in (sents j) + (pending_counts (station_stream net j) (history (rounds_of net t) j)).0) (λ j. length (station_stream net j).shorts) stations
    (λ k d within. shorts_of_station (station_stream net (get_or stations k d)) (history (rounds_of net t) (get_or stations k d))) in
    omega arith

pub longs_of_net : (net : Net) → IsNet net → net.coalition ≡ [] → (t : ℕ) → t ≤ net.words → (i : ℕ) → i < net.stations →
    (let stations = range_with_len 0 net.stations in
    sum_by longs_in (log_of (history (rounds_of net t) i)) + sum_by (λ j. (pending_counts (station_stream net j) (history (rounds_of net t) j)).1) stations
    ≡ sum_by (λ j. length (station_stream net j).longs) stations)
longs_of_net net is none t le i low =
    let stations = range_with_len 0 net.stations in
    let sents : ℕ → List Entry = λ j. sent_of (station_stream net j) (history (rounds_of net t) j) in
    let log = log_of (history (rounds_of net t) i) in
    let same = equal_longs log (flat_map sents stations) (λ m. messages-balance net is none t le i low m ∙ sym (sum_by-flat (times_in m) sents stations)) in
    let flat = sum_by-flat longs_in sents stations in
    let both = sum_by-plus (λ j. sum_by longs_in (sents j)) (λ j. (pending_counts (station_stream net j) (history (rounds_of net t) j)).1) stations in
    let each = total-same (λ j. sum_by longs_in (sents j) + (pending_counts (station_stream net j) (history (rounds_of net t) j)).1) (λ j. length (station_stream net j).longs) stations
    (λ k d within. longs_of_station (station_stream net (get_or stations k d)) (history (rounds_of net t) (get_or stations k d))) in
    omega arith

-- without a coalition all stations are honest
all_honest : (net : Net) → net.coalition ≡ [] → honest_stations net ≡ range_with_len 0 net.stations
all_honest net none = ap (λ members. filter (λ i. not (is_among members i)) (range_with_len 0 net.stations)) none ∙ kept (range_with_len 0 net.stations)
  where
    kept : (xs : List ℕ) → filter (λ i. not (is_among [] i)) xs ≡ xs
    kept [] = refl
    kept (x ∷ xs) = ap (λ ys. x ∷ ys) (kept xs)

-- the run of a net: its first log, and what is pending
pub shorts_of_run : (net : Net) → IsNet net → net.coalition ≡ [] → 1 ≤ net.stations →
    sum_by shorts_in (first_log (run_of net)) + sum_by (λ p. p.0) (run_of net).pending ≡ sum_by (λ j. length (station_stream net j).shorts) (range_with_len 0 net.stations)
shorts_of_run net is none some =
    let played = all_rounds net in
    let honest = all_honest net none in
    let log : ℕ → List Entry = λ i. log_of (history played i) in
    let left : ℕ → ℕ × ℕ = λ j. pending_counts (station_stream net j) (history played j) in
    let first : first_log (run_of net) ≡ log 0 = ap (λ (is : List ℕ). get_or (map log is) 0 []) honest ∙ get_or-map-range_with_len log 0 net.stations 0 0 [] (omega arith) refl in
    let logged = ap (λ (es : List Entry). sum_by shorts_in es) first in
    let pending : sum_by (λ p. p.0) (run_of net).pending ≡ sum_by (λ j. (left j).0) (range_with_len 0 net.stations)
    = ap (λ (is : List ℕ). sum_by (λ p. p.0) (map left is)) honest ∙ sum_by-map (λ (p : ℕ × ℕ). p.0) left (range_with_len 0 net.stations) in
    let all = shorts_of_net net is none net.words (omega arith) 0 (omega arith) in
    omega arith

pub longs_of_run : (net : Net) → IsNet net → net.coalition ≡ [] → 1 ≤ net.stations →
    sum_by longs_in (first_log (run_of net)) + sum_by (λ p. p.1) (run_of net).pending ≡ sum_by (λ j. length (station_stream net j).longs) (range_with_len 0 net.stations)
longs_of_run net is none some =
    let played = all_rounds net in
    let honest = all_honest net none in
    let log : ℕ → List Entry = λ i. log_of (history played i) in
    let left : ℕ → ℕ × ℕ = λ j. pending_counts (station_stream net j) (history played j) in
    let first : first_log (run_of net) ≡ log 0 = ap (λ (is : List ℕ). get_or (map log is) 0 []) honest ∙ get_or-map-range_with_len log 0 net.stations 0 0 [] (omega arith) refl in
    let logged = ap (λ (es : List Entry). sum_by longs_in es) first in
    let pending : sum_by (λ p. p.1) (run_of net).pending ≡ sum_by (λ j. (left j).1) (range_with_len 0 net.stations)
    = ap (λ (is : List ℕ). sum_by (λ p. p.1) (map left is)) honest ∙ sum_by-map (λ (p : ℕ × ℕ). p.1) left (range_with_len 0 net.stations) in
    let all = longs_of_net net is none net.words (omega arith) 0 (omega arith) in
    omega arith

-- streams by a function of the station
pub stream_at : (f : ℕ → Stream) (n j : ℕ) (e : Stream) → j < n → unwrap_or (slice_index_or (map (λ i. Some (f i)) (range_with_len 0 n)) j None) e ≡ f j
stream_at f n j e low = ap (λ (o : Option Stream). unwrap_or o e) (get_or-map-range_with_len (λ i. Some (f i)) 0 n j j None low (omega arith))

-- so many times a number
pub sum_constant : (k n : ℕ) → sum_by (λ j. k) (range_with_len 0 n) ≡ k * n
sum_constant k n =
    let many = total-times k (λ j. 1) (range_with_len 0 n) in
    let ones = total-ones (range_with_len 0 n) in
    let size = length-range_with_len 0 n in
    total-same (λ j. k) (λ j. k * 1) (range_with_len 0 n) (λ i d within. (let e : k ≡ k * 1 = omega arith in e)) ∙ many ∙ ap (λ m. k * m) (ones ∙ size)

-- the items that pass a test are as many as the sum of 1 for each
pub sum_passing : (p : ℕ → Bool) (xs : List ℕ) → sum_by (λ x. cond (p x) 1 0) xs ≡ length (filter p xs)
sum_passing p xs = sym (sum_by-filter (λ x. 1) p xs) ∙ total-ones (filter p xs)
