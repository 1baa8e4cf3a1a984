-- What is broadcast does not depend on the order of arrivals, where none is refused.
use Rattle.std.proofs.Common.{◌≡◌, ℕ, zero, suc, ◌+◌, ◌-◌, ◌<◌, ◌≤◌, max, Bool, true, false, cond, ◌&&◌, ◌⊎◌, ◌==◌, if◌then◌else◌, List, [], ◌∷◌, ◌++◌, length, drop, fold, count_by, filter_map, slice_get, nat_eq, nat_lt, nat_le, Option, Some, None, option_map, option_and_then, is_some, IsPermutation, refl, sym, ◌∙◌, ap, subst, inl, inr, arith, eqb-true, eq-eqb, true≢false, ltb-true, ltb-false, append-nil, append_assoc}
use Rattle.std.proofs.lemmas.Option.{slice_get_within, slice_get-get_or, get_or_from_slice_get}
use Rattle.std.proofs.lemmas.List.Sorted.{All-permutation, IsPermutation-sym}
use Rattle.std.proofs.lemmas.List.FromFn.{length-range_with_len}
use Rattle.std.proofs.lemmas.List.Sums.{sum_by-cons}
use Rattle.std.proofs.Math.Seq.{drop-append-le}
use Rattle.std.specs.List.{range_with_len, position_from, list_all}
use Rattle.std.proofs.lemmas.Bool.{and_parts, cases_Bool}
use Rattle.dc_spec.specs.Words.{word_sum}
use Rattle.dc_spec.specs.Lists.{is_among}
use Rattle.dc_hub_rules.specs.Hubs.{Arrival, no_station, over, old, ahead, first_arrival, places, end_from, round_start, accepted, accepted_sum, is_complete, broadcast, complete_rounds, reply_now, reply, replies_after, is_taken, AreAllTaken}
use Rattle.dc_spec.proofs.Booleans.{or_cases, or_first, or_second}

-- the parts of a Some are equal
pub same_some : {X : Type 0} (x y : X) → Some x ≡ Some y → x ≡ y
same_some x y h = cc

-- nothing is not something
pub none_some : {X : Type 0} (x : X) (o : Option X) → o ≡ Some x → o ≡ None → ⊥
none_some x o is none = let clash : ⊥ = cc in clash

-- there is nothing, or there is something
pub none_or_some : {X : Type 0} (o : Option X) → (o ≡ None) ⊎ ((x : X) × (o ≡ Some x))
none_or_some None = inl refl
none_or_some (Some x) = inr (x, refl)

-- what a search from a place finds stands there and passes
pub position_stands : {X : Type 0} (p : X → Bool) (s : ℕ) (xs : List X) (k : ℕ) → position_from p s xs ≡ Some k → (i : ℕ) × (x : X) × (k ≡ s + i) × (slice_get xs i ≡ Some x) × (p x ≡ true)
position_stands p s [] k h = absurd (none_some k _ h refl)
position_stands p s (x ∷ xs) k h = (elim (p x) as (λ b. p x ≡ b → cond b (Some s) (position_from p (s + 1) xs) ≡ Some k → (i : ℕ) × (y : _) × (k ≡ s + i) × (slice_get (x ∷ xs) i ≡ Some y)
    × (p y ≡ true)) [
      | true ↦ λ e found. (0, x, (let same = same_some s k found in omega arith), refl, e)
      | false ↦ λ e later. (let rest = position_stands p (s + 1) xs k later in (suc rest.0, rest.1, (let at = rest.2 in omega arith), rest.3, rest.4))
    ]) refl h

-- where an item passes, the search finds one
pub position_found : {X : Type 0} (p : X → Bool) (s : ℕ) (xs : List X) (i : ℕ) (x : X) → slice_get xs i ≡ Some x → p x ≡ true → (k : ℕ) × (position_from p s xs ≡ Some k)
position_found p s [] i x at passes = absurd (none_some x _ at refl)
position_found p s (y ∷ ys) zero x at passes = (s, ap (λ b. cond b (Some s) (position_from p (s + 1) ys)) (subst (λ z. p z ≡ true) (sym (same_some y x at)) passes))
position_found p s (y ∷ ys) (suc i) x at passes = (elim (p y) as (λ b. (k : ℕ) × (cond b (Some s) (position_from p (s + 1) ys) ≡ Some k)) [
  | true ↦ (s, refl)
  | false ↦ position_found p (s + 1) ys i x at passes
])

-- more items behind leave what was found
position_kept : {X : Type 0} (p : X → Bool) (s : ℕ) (xs more : List X) (k : ℕ) → position_from p s xs ≡ Some k → position_from p s (xs ++ more) ≡ Some k
position_kept p s [] more k h = absurd (none_some k _ h refl)
position_kept p s (x ∷ xs) more k h = (elim (p x) as (λ b. cond b (Some s) (position_from p (s + 1) xs) ≡ Some k → cond b (Some s) (position_from p (s + 1) (xs ++ more)) ≡ Some k) [
  | true ↦ λ found. found
  | false ↦ λ later. position_kept p (s + 1) xs more k later
]) h

-- an item of the rest of a list, in the whole list
slice_get-drop : {X : Type 0} (xs : List X) (s i j : ℕ) → s + i ≡ j → slice_get (drop s xs) i ≡ slice_get xs j
slice_get-drop xs zero i j e = ap (slice_get xs) (let same : i ≡ j = omega arith in same)
slice_get-drop [] (suc s) i j e = refl
slice_get-drop (x ∷ xs) (suc s) i zero e = absurd (omega arith)
slice_get-drop (x ∷ xs) (suc s) i (suc j) e = slice_get-drop xs s i j (omega arith)

-- an item of a list with one more at its end is one of the list or the last
pub slice_get-push : {X : Type 0} (xs : List X) (a : X) (i : ℕ) (x : X) → slice_get (xs ++ a ∷ []) i ≡ Some x → (slice_get xs i ≡ Some x) ⊎ ((i ≡ length xs) × (a ≡ x))
slice_get-push [] a zero x h = inr (refl, same_some a x h)
slice_get-push [] a (suc i) x h = absurd (none_some x _ h refl)
slice_get-push (y ∷ ys) a zero x h = inl h
slice_get-push (y ∷ ys) a (suc i) x h = elim (slice_get-push ys a i x h) [
  | inl there ↦ inl there
  | inr last ↦ inr (ap suc last.0, last.1)
]

-- what stands at the place of a station's word for a round
pub place_stands : (xs : List Arrival) (from i t k : ℕ) → first_arrival xs from i t ≡ Some k → (a : Arrival) × (slice_get xs k ≡ Some a) × (a.station ≡ i) × (a.round ≡ t) × (from ≤ k)
place_stands xs from i t k h =
    let found = position_stands (λ a. (a.station == i) && (a.round == t)) from (drop from xs) k h in
    let tests = and_parts (found.1.station == i) (found.1.round == t) found.4 in
    let at = found.2 in
    (found.1, sym (slice_get-drop xs from found.0 k (sym at)) ∙ found.3, eqb-true found.1.station i tests.0, eqb-true found.1.round t tests.1, omega arith)

-- a word that came since then has a place
pub place_found : (xs : List Arrival) (from i t q : ℕ) (a : Arrival) → slice_get xs q ≡ Some a → from ≤ q → a.station ≡ i → a.round ≡ t → (k : ℕ) × (first_arrival xs from i t ≡ Some k)
place_found xs from i t q a at since is_i is_t = position_found (λ b. (b.station == i) && (b.round == t)) from (drop from xs) (q - from) a
    (slice_get-drop xs from (q - from) q (omega arith) ∙ at)
    (both_true (a.station == i) (a.round == t) (eq-eqb a.station i is_i) (eq-eqb a.round t is_t))
  where
    both_true : (b c : Bool) → b ≡ true → c ≡ true → (b && c) ≡ true
    both_true true c first second = second
    both_true false c first second = absurd (true≢false (sym first))

-- it keeps its place when others come
pub place_kept : (xs more : List Arrival) (from i t k : ℕ) → first_arrival xs from i t ≡ Some k → first_arrival (xs ++ more) from i t ≡ Some k
place_kept xs more from i t k h =
    let stands = place_stands xs from i t k h in
    let inside = slice_get_within xs k stands.0 stands.1 in
    let since = stands.4 in
    ap (position_from (λ a. (a.station == i) && (a.round == t)) from) (drop-append-le from xs more (omega arith)) ∙ position_kept (λ a. (a.station == i) && (a.round == t)) from (drop from xs) more k h

-- what is kept of a list is no longer than it
filter_map-at_most : (h : ℕ → Option ℕ) (xs : List ℕ) → length (filter_map h xs) ≤ length xs
filter_map-at_most h [] = omega arith
filter_map-at_most h (x ∷ xs) = let ih = filter_map-at_most h xs in (elim (none_or_some (h x)) [
  | inl none ↦ rw none (omega arith)
  | inr some ↦ rw some.1 (omega arith)
])

-- where as many are kept, each item gives something
filter_map-full : (h : ℕ → Option ℕ) (xs : List ℕ) → length (filter_map h xs) ≡ length xs → (x : ℕ) → is_among xs x ≡ true → (y : ℕ) × (h x ≡ Some y)
filter_map-full h [] full x h' = absurd (true≢false (sym h'))
filter_map-full h (z ∷ zs) full x there = elim (none_or_some (h z)) [
  | inl none ↦ (let few = filter_map-at_most h zs in let short : length (filter_map h zs) ≡ suc (length zs) = (rw none at full) in absurd (omega arith))
  | inr some ↦ (let rest : suc (length (filter_map h zs)) ≡ suc (length zs) = (rw some.1 at full) in elim (or_cases (nat_eq x z) (is_among zs x) there) [
    | inl same ↦ subst (λ (w : ℕ). (y : ℕ) × (h w ≡ Some y)) (sym (eqb-true x z same)) (some.0, some.1)
    | inr later ↦ filter_map-full h zs (omega arith) x later
  ])
]

-- where each item gives something, as many are kept
pub full-filter_map : (h : ℕ → Option ℕ) (xs : List ℕ) → ((x : ℕ) → is_among xs x ≡ true → (y : ℕ) × (h x ≡ Some y)) → length (filter_map h xs) ≡ length xs
full-filter_map h [] some = refl
full-filter_map h (x ∷ xs) some =
    let here = some x (or_first (nat_eq x x) (is_among xs x) (eq-eqb x x refl)) in
    let ih = full-filter_map h xs (λ y there. some y (or_second (nat_eq y x) (is_among xs y) there)) in
    rw here.1 (ap suc ih)

-- functions that agree on the items keep the same
filter_map-same : {Y : Type 0} (h g : ℕ → Option Y) (xs : List ℕ) → ((x : ℕ) → is_among xs x ≡ true → h x ≡ g x) → filter_map h xs ≡ filter_map g xs
filter_map-same h g [] same = refl
filter_map-same h g (x ∷ xs) same =
    let here = same x (or_first (nat_eq x x) (is_among xs x) (eq-eqb x x refl)) in
    let ih = filter_map-same h g xs (λ y there. same y (or_second (nat_eq y x) (is_among xs y) there)) in
    rw here (rw ih refl)

-- the greatest of places below a bound, plus one, is at most the bound
last_place : (h : ℕ → Option ℕ) (most m : ℕ) (xs : List ℕ) → m ≤ most → ((x k : ℕ) → h x ≡ Some k → k < most) → fold (λ a place. max a (place + 1)) m (filter_map h xs) ≤ most
last_place h most m [] low below = low
last_place h most m (x ∷ xs) low below = elim (none_or_some (h x)) [
  | inl none ↦ rw none (last_place h most m xs low below)
  | inr some ↦ (let place = below x some.0 some.1 in rw some.1 (last_place h most (max m (some.0 + 1)) xs (omega arith) below))
]

-- a round that has an end has all places
pub end_full : (n : ℕ) (xs : List Arrival) (t from s : ℕ) → end_from n xs t from ≡ Some s → (length (places n xs from t) ≡ n) × (fold (λ m place. max m (place + 1)) from (places n xs from t) ≡ s)
end_full n xs t from s h = (elim (length (places n xs from t) == n) as (λ b. length (places n xs from t) == n ≡ b
    → (if b then Some (fold (λ m place. max m (place + 1)) from (places n xs from t)) else None) ≡ Some s → (length (places n xs from t) ≡ n)
    × (fold (λ m place. max m (place + 1)) from (places n xs from t) ≡ s)) [
      | true ↦ λ e found. (eqb-true (length (places n xs from t)) n e, same_some _ s found)
      | false ↦ λ e missing. absurd (none_some s _ missing refl)
    ]) refl h

-- and one that has all places has an end
pub full_end : (n : ℕ) (xs : List Arrival) (t from : ℕ) → length (places n xs from t) ≡ n → end_from n xs t from ≡ Some (fold (λ m place. max m (place + 1)) from (places n xs from t))
full_end n xs t from full = ap (λ b. if b then Some (fold (λ m place. max m (place + 1)) from (places n xs from t)) else None) (eq-eqb (length (places n xs from t)) n full)

-- each station of a round that has an end has a place in it
pub end_places : (n : ℕ) (xs : List Arrival) (t from s i : ℕ) → end_from n xs t from ≡ Some s → is_among (range_with_len 0 n) i ≡ true → (k : ℕ) × (first_arrival xs from i t ≡ Some k)
end_places n xs t from s i h there = let count = length-range_with_len 0 n in filter_map-full (λ j. first_arrival xs from j t) (range_with_len 0 n) ((end_full n xs t from s h).0 ∙ sym count) i there

-- the end stays where more arrivals come
end_kept : (n : ℕ) (xs more : List Arrival) (t from s : ℕ) → end_from n xs t from ≡ Some s → end_from n (xs ++ more) t from ≡ Some s
end_kept n xs more t from s h =
    let same : places n (xs ++ more) from t ≡ places n xs from t = filter_map-same (λ i. first_arrival (xs ++ more) from i t) (λ i. first_arrival xs from i t) (range_with_len 0 n)
    (λ i there. let place = end_places n xs t from s i h there in place_kept xs more from i t place.0 place.1 ∙ sym place.1) in
    ap (λ found. if length found == n then Some (fold (λ m place. max m (place + 1)) from found) else None) same ∙ h

-- it is no place past the arrivals
end_within : (n : ℕ) (xs : List Arrival) (t from s : ℕ) → from ≤ length xs → end_from n xs t from ≡ Some s → s ≤ length xs
end_within n xs t from s low h =
    let bound = last_place (λ i. first_arrival xs from i t) (length xs) from (range_with_len 0 n) low (λ i k found. let stands = place_stands xs from i t k found in
    slice_get_within xs k stands.0 stands.1) in
    let is = (end_full n xs t from s h).1 in
    omega arith

-- a round began where it began when more arrivals come
pub start_kept : (n : ℕ) (xs more : List Arrival) (t s : ℕ) → round_start n xs t ≡ Some s → round_start n (xs ++ more) t ≡ Some s
unfolding round_start
start_kept n xs more zero s h = h
start_kept n xs more (suc t) s h = elim (none_or_some (round_start n xs t)) [
  | inl none ↦ absurd (none_some s _ h (ap (option_and_then (end_from n xs t)) none))
  | inr from ↦ (ap (option_and_then (end_from n (xs ++ more) t)) (start_kept n xs more t from.0 from.1)
      ∙ end_kept n xs more t from.0 s (sym (ap (option_and_then (end_from n xs t)) from.1) ∙ h))
]

-- not past the arrivals
pub start_within : (n : ℕ) (xs : List Arrival) (t s : ℕ) → round_start n xs t ≡ Some s → s ≤ length xs
unfolding round_start
start_within n xs zero s h = let same = same_some 0 s h in omega arith
start_within n xs (suc t) s h = elim (none_or_some (round_start n xs t)) [
  | inl none ↦ absurd (none_some s _ h (ap (option_and_then (end_from n xs t)) none))
  | inr from ↦ end_within n xs t from.0 s (start_within n xs t from.0 from.1) (sym (ap (option_and_then (end_from n xs t)) from.1) ∙ h)
]

-- a round that began has one before it that began and has an end
pub start_before : (n : ℕ) (xs : List Arrival) (t s : ℕ) → round_start n xs (suc t) ≡ Some s → (from : ℕ) × (round_start n xs t ≡ Some from) × (end_from n xs t from ≡ Some s)
unfolding round_start
start_before n xs t s h = elim (none_or_some (round_start n xs t)) [
  | inl none ↦ absurd (none_some s _ h (ap (option_and_then (end_from n xs t)) none))
  | inr from ↦ (from.0, from.1, sym (ap (option_and_then (end_from n xs t)) from.1) ∙ h)
]

-- and the other way round
pub start_after : (n : ℕ) (xs : List Arrival) (t from s : ℕ) → round_start n xs t ≡ Some from → end_from n xs t from ≡ Some s → round_start n xs (suc t) ≡ Some s
unfolding round_start
start_after n xs t from s began ended = ap (option_and_then (end_from n xs t)) began ∙ ended

-- no round after one that has not begun is complete
pub none_complete : (n : ℕ) (xs : List Arrival) (t d : ℕ) → round_start n xs t ≡ None → round_start n xs (t + d) ≡ None
none_complete n xs t zero none = ap (round_start n xs) (let same : t + 0 ≡ t = omega arith in same) ∙ none
none_complete n xs t (suc d) none = elim (none_or_some (round_start n xs (t + suc d))) [
  | inl still ↦ still
  | inr some ↦ absurd (let before = start_before n xs (t + d) some.0 (ap (round_start n xs) (let same : suc (t + d) ≡ t + suc d = omega arith in same) ∙ some.1) in
      none_some before.0 _ before.1 (none_complete n xs t d none))
]

-- a test that fails from some number on passes for no more numbers than are below it
count_at_most : (p : ℕ → Bool) (c a m : ℕ) → ((t : ℕ) → c ≤ t → p t ≡ false) → count_by p (range_with_len a m) ≤ c - a
count_at_most p c a zero fails = omega arith
count_at_most p c a (suc m) fails =
    let ih = count_at_most p c (a + 1) m fails in
    let split = sum_by-cons (λ t. cond (p t) 1 0) a (range_with_len (a + 1) m) in
    elim (cases_Bool (nat_lt a c)) [
      | inl low ↦ (let below = ltb-true a c low in let one : cond {A = ℕ} (p a) 1 0 ≤ 1 = at_most_one (p a) in omega arith)
      | inr high ↦ (let none : cond {A = ℕ} (p a) 1 0 ≡ 0 = ap (λ b. cond {A = ℕ} b 1 0) (fails a (ltb-false a c high)) in let past : c ≤ a = ltb-false a c high in omega arith)
    ]
  where
    at_most_one : (b : Bool) → cond {A = ℕ} b 1 0 ≤ 1
    at_most_one true = omega arith
    at_most_one false = omega arith

-- the round in progress has begun
pub progress_began : (n rounds : ℕ) (xs : List Arrival) (c : ℕ) → complete_rounds n rounds xs ≡ c → (s : ℕ) × (round_start n xs c ≡ Some s)
unfolding round_start
progress_began n rounds xs zero is = (0, refl)
progress_began n rounds xs (suc c) is = elim (none_or_some (round_start n xs (suc c))) [
  | inr some ↦ some
  | inl none ↦ absurd (let most = count_at_most (is_complete n xs) c 0 rounds (λ t low. ap is_some (ap (round_start n xs) (let same : t + 1 ≡ suc c + (t - c) = omega arith in same)
      ∙ none_complete n xs (suc c) (t - c) none)) in omega arith)
]

-- each arrival came when its round had begun
record AreInTime (n : ℕ) (xs : List Arrival) : Type 0 where
  pub began : (q : ℕ) (a : Arrival) → slice_get xs q ≡ Some a → (s : ℕ) × (round_start n xs a.round ≡ Some s) × (s ≤ q)

-- no two arrivals are of the same station and round
record AreSingle (xs : List Arrival) : Type 0 where
  pub same : (q r : ℕ) (a b : Arrival) → slice_get xs q ≡ Some a → slice_get xs r ≡ Some b → a.station ≡ b.station → a.round ≡ b.round → a ≡ b

-- a word that came in time is accepted, or an earlier one of its station and round is
in_time_accepted : (n : ℕ) (xs : List Arrival) → AreInTime n xs → (q : ℕ) (a : Arrival) → slice_get xs q ≡ Some a → (w : List ℕ) × (accepted n xs a.station a.round ≡ Some w)
in_time_accepted n xs timely q a at =
    let start = timely.began q a at in
    let place = place_found xs start.0 a.station a.round q a at start.2 refl refl in
    let stands = place_stands xs start.0 a.station a.round place.0 place.1 in (
      stands.0.word,
      ap (λ o. option_and_then (λ k. option_map (λ b. b.word) (slice_get xs k)) (option_and_then (λ from. first_arrival xs from a.station a.round) o)) start.1
          ∙ ap (option_and_then (λ k. option_map (λ b. b.word) (slice_get xs k))) place.1
          ∙ ap (option_map (λ b. b.word)) stands.1,
    )

-- an arrival that is taken is of the round in progress, and no word of its station and round was accepted before
pub record IsNew (n rounds : ℕ) (before : List Arrival) (a : Arrival) : Type 0 where
  pub now : complete_rounds n rounds before ≡ a.round
  pub none : accepted n before a.station a.round ≡ None

-- what the hub takes is new
taken_new : (n rounds : ℕ) (before : List Arrival) (a : Arrival) → is_taken (reply n rounds before a) ≡ true → IsNew n rounds before a
taken_new n rounds before a h =
    let now = complete_rounds n rounds before in
    step (nat_le n a.station) (now == rounds) (nat_lt a.round now) (nat_lt now a.round) (accepted n before a.station now) refl refl refl h
  where
    last : (o : Option (List ℕ)) → accepted n before a.station (complete_rounds n rounds before) ≡ o → is_taken (reply_now n before a o) ≡ true → nat_lt a.round (complete_rounds n rounds before)
        ≡ false → nat_lt (complete_rounds n rounds before) a.round ≡ false → IsNew n rounds before a
    last (Some kept) is taken low high = absurd (true≢false (sym taken))
    last None is taken low high =
        let not_below = ltb-false a.round (complete_rounds n rounds before) low in
        let not_above = ltb-false (complete_rounds n rounds before) a.round high in
        let same : complete_rounds n rounds before ≡ a.round = omega arith in
        record { now = same; none = ap (accepted n before a.station) (sym same) ∙ is }

    step : (b c d e : Bool) (o : Option (List ℕ)) → nat_lt a.round (complete_rounds n rounds before) ≡ d → nat_lt (complete_rounds n rounds before) a.round ≡ e
        → accepted n before a.station (complete_rounds n rounds before) ≡ o →
        is_taken (if b then no_station a.station else if c then over else if d then old (complete_rounds n rounds before) else if e then ahead
        (complete_rounds n rounds before) else reply_now n before a o) ≡ true → IsNew n rounds before a
    step true c d e o is_d is_e is_o taken = absurd (true≢false (sym taken))
    step false true d e o is_d is_e is_o taken = absurd (true≢false (sym taken))
    step false false true e o is_d is_e is_o taken = absurd (true≢false (sym taken))
    step false false false true o is_d is_e is_o taken = absurd (true≢false (sym taken))
    step false false false false o is_d is_e is_o taken = last o is_o taken is_d is_e

-- a new arrival comes in time
new_in_time : (n rounds : ℕ) (before : List Arrival) (a : Arrival) → AreInTime n before → IsNew n rounds before a → AreInTime n (before ++ a ∷ [])
new_in_time n rounds before a timely new = record {
  began = λ q b at. elim (slice_get-push before a q b at) [
    | inl there ↦ (let start = timely.began q b there in (start.0, start_kept n before (a ∷ []) b.round start.0 start.1, start.2))
    | inr last ↦ (let start = progress_began n rounds before a.round new.now in
        let within = start_within n before a.round start.0 start.1 in
        let place = last.0 in
        (start.0, start_kept n before (a ∷ []) b.round start.0 (ap (λ c. round_start n before c.round) (sym last.1) ∙ start.1), omega arith))
  ];
}

-- it repeats no station and round
new_single : (n rounds : ℕ) (before : List Arrival) (a : Arrival) → AreInTime n before → AreSingle before → IsNew n rounds before a → AreSingle (before ++ a ∷ [])
new_single n rounds before a timely single new = record {
  same = λ q r b c at_b at_c station round. elim (slice_get-push before a q b at_b) [
    | inl old_b ↦ (elim (slice_get-push before a r c at_c) [
      | inl old_c ↦ single.same q r b c old_b old_c station round
      | inr last ↦ absurd (clash q b old_b (station ∙ sym (ap (λ d. d.station) last.1)) (round ∙ sym (ap (λ d. d.round) last.1)))
    ])
    | inr last_b ↦ (elim (slice_get-push before a r c at_c) [
      | inl old_c ↦ absurd (clash r c old_c (sym station ∙ sym (ap (λ d. d.station) last_b.1)) (sym round ∙ sym (ap (λ d. d.round) last_b.1)))
      | inr last_c ↦ sym last_b.1 ∙ last_c.1
    ])
  ];
}
  where
    clash : (q : ℕ) (b : Arrival) → slice_get before q ≡ Some b → b.station ≡ a.station → b.round ≡ a.round → ⊥
    clash q b at station round =
        let word = in_time_accepted n before timely q b at in
        none_some word.0 _ word.1 (ap (λ i. accepted n before i b.round) station ∙ ap (accepted n before a.station) round ∙ new.none)

-- where no arrival is refused, all came in time and none repeats another
taken_good : (n rounds : ℕ) (before more : List Arrival) → AreInTime n before → AreSingle before → list_all is_taken (replies_after n rounds before more) ≡ true → AreInTime n (before ++ more)
    × AreSingle (before ++ more)
taken_good n rounds before [] timely single h = (subst (AreInTime n) (sym (append-nil before)) timely, subst AreSingle (sym (append-nil before)) single)
taken_good n rounds before (a ∷ more) timely single h =
    let tests = and_parts (is_taken (reply n rounds before a)) (list_all is_taken (replies_after n rounds (before ++ a ∷ []) more)) h in
    let new = taken_new n rounds before a tests.0 in
    let rest = taken_good n rounds (before ++ a ∷ []) more (new_in_time n rounds before a timely new) (new_single n rounds before a timely single new) tests.1 in
    let joined : (before ++ a ∷ []) ++ more ≡ before ++ (a ∷ more) = append_assoc before (a ∷ []) more in
    (subst (AreInTime n) joined rest.0, subst AreSingle joined rest.1)

-- all arrivals of a list without refusals
all_good : (n rounds : ℕ) (xs : List Arrival) → AreAllTaken n rounds xs → AreInTime n xs × AreSingle xs
all_good n rounds xs h = taken_good n rounds [] xs (record { began = λ q a at. absurd (none_some a _ at refl) }) (record { same = λ q r a b at_a at_b s t. absurd (none_some a _ at_a refl) }) h

-- an arrival stands in a rearranged list too
stands_in : (xs ys : List Arrival) → IsPermutation xs ys → (q : ℕ) (a : Arrival) → slice_get xs q ≡ Some a → (r : ℕ) × (slice_get ys r ≡ Some a)
stands_in xs ys moved q a at =
    let all = All-permutation (λ b. (r : ℕ) × (slice_get ys r ≡ Some b)) ys xs (IsPermutation-sym xs ys moved) (λ k d low. (k, slice_get-get_or ys k d low)) in
    subst (λ b. (r : ℕ) × (slice_get ys r ≡ Some b)) (get_or_from_slice_get xs q a a at) (all q a (slice_get_within xs q a at))

-- a round that has an end has one in a rearranged list too
ended_too : (n : ℕ) (xs ys : List Arrival) → IsPermutation xs ys → AreInTime n ys → (t s : ℕ) → round_start n xs t ≡ Some s → (r : ℕ) × (round_start n ys t ≡ Some r)
unfolding round_start
ended_too n xs ys moved timely zero s h = (0, refl)
ended_too n xs ys moved timely (suc t) s h =
    let before = start_before n xs t s h in
    let began = ended_too n xs ys moved timely t before.0 before.1 in
    let count = length-range_with_len 0 n in
    let full = full-filter_map (λ i. first_arrival ys began.0 i t) (range_with_len 0 n) (λ i there.
    let place = end_places n xs t before.0 s i before.2 there in
    let stands = place_stands xs before.0 i t place.0 place.1 in
    let again = stands_in xs ys moved place.0 stands.0 stands.1 in
    let start = timely.began again.0 stands.0 again.1 in
    let same : start.0 ≡ began.0 = same_some start.0 began.0 (sym start.1 ∙ ap (round_start n ys) stands.3 ∙ began.1) in
    let since = start.2 in
    place_found ys began.0 i t again.0 stands.0 again.1 (omega arith) stands.2 stands.3) in
    (fold (λ m place. max m (place + 1)) began.0 (places n ys began.0 t), start_after n ys t began.0 _ began.1 (full_end n ys t began.0 (full ∙ count)))

-- the accepted word of a station in a complete round stands in the list
pub accepted_stands : (n : ℕ) (xs : List Arrival) (t s i : ℕ) → round_start n xs (suc t) ≡ Some s → is_among (range_with_len 0 n) i ≡ true → (q : ℕ) × (a : Arrival) × (slice_get xs q ≡ Some a)
    × (a.station ≡ i) × (a.round ≡ t) × (accepted n xs i t ≡ Some a.word)
accepted_stands n xs t s i h there =
    let before = start_before n xs t s h in
    let place = end_places n xs t before.0 s i before.2 there in
    let stands = place_stands xs before.0 i t place.0 place.1 in (
      place.0,
      stands.0,
      stands.1,
      stands.2,
      stands.3,
      ap (λ o. option_and_then (λ k. option_map (λ b. b.word) (slice_get xs k)) (option_and_then (λ from. first_arrival xs from i t) o)) before.1
          ∙ ap (option_and_then (λ k. option_map (λ b. b.word) (slice_get xs k))) place.1
          ∙ ap (option_map (λ b. b.word)) stands.1,
    )

-- two rearranged lists without refusals give the same broadcasts
pub broadcasts-agree : (n rounds : ℕ) (xs ys : List Arrival) → IsPermutation xs ys → AreAllTaken n rounds xs → AreAllTaken n rounds ys → (t : ℕ) → broadcast n xs t ≡ broadcast n ys t
broadcasts-agree n rounds xs ys moved taken_x taken_y t =
    let good_x = all_good n rounds xs taken_x in
    let good_y = all_good n rounds ys taken_y in
    let back = IsPermutation-sym xs ys moved in
    let next : t + 1 ≡ suc t = omega arith in
    elim (none_or_some (round_start n xs (suc t))) [
      | inl none_x ↦ (elim (none_or_some (round_start n ys (suc t))) [
        | inl none_y ↦ nothing xs none_x ∙ sym (nothing ys none_y)
        | inr some_y ↦ absurd (let too = ended_too n ys xs back good_x.0 (suc t) some_y.0 some_y.1 in none_some too.0 _ too.1 none_x)
      ])
      | inr some_x ↦ (let some_y = ended_too n xs ys moved good_y.0 (suc t) some_x.0 some_x.1 in
          let words = filter_map-same (λ i. accepted n xs i t) (λ i. accepted n ys i t) (range_with_len 0 n) (λ i there.
          let in_x = accepted_stands n xs t some_x.0 i some_x.1 there in
          let in_y = accepted_stands n ys t some_y.0 i some_y.1 there in
          let again = stands_in ys xs back in_y.0 in_y.1 in_y.2 in
          let same = good_x.1.same in_x.0 again.0 in_x.1 in_y.1 in_x.2 again.1 (in_x.3 ∙ sym in_y.3) (in_x.4 ∙ sym in_y.4) in
          in_x.5 ∙ ap (λ a. Some a.word) same ∙ sym in_y.5) in
          something xs some_x.0 some_x.1 ∙ ap (λ ws. Some (word_sum ws)) words ∙ sym (something ys some_y.0 some_y.1))
    ]
  where
    nothing : (zs : List Arrival) → round_start n zs (suc t) ≡ None → broadcast n zs t ≡ None
    nothing zs none = ap (λ k. if is_some (round_start n zs k) then Some (accepted_sum n zs t) else None) (let same : t + 1 ≡ suc t = omega arith in same)
        ∙ ap (λ o. if is_some o then Some (accepted_sum n zs t) else None) none

    something : (zs : List Arrival) (s : ℕ) → round_start n zs (suc t) ≡ Some s → broadcast n zs t ≡ Some (accepted_sum n zs t)
    something zs s some = ap (λ k. if is_some (round_start n zs k) then Some (accepted_sum n zs t) else None) (let same : t + 1 ≡ suc t = omega arith in same)
        ∙ ap (λ o. if is_some o then Some (accepted_sum n zs t) else None) some
