-- What one more arrival changes: which words are accepted, and which rounds are complete.
use Rattle.std.proofs.Common.{◌≡◌, ℕ, zero, suc, ◌+◌, ◌-◌, ◌<◌, ◌≤◌, max, Bool, true, false, cond, ◌&&◌, ◌==◌, List, [], ◌∷◌, ◌++◌, length, drop, fold, count_by, filter_map, slice_get, nat_eq, Option, Some, None, option_map, option_and_then, is_some, refl, sym, ◌∙◌, ap, inl, inr, arith, eqb-true, true≢false}
use Rattle.std.proofs.Math.ListN.{drop_of_length-le}
use Rattle.std.proofs.Math.Seq.{drop-append-le}
use Rattle.std.proofs.lemmas.Bool.{cases_lt}
use Rattle.std.proofs.lemmas.List.{length-append, length-drop}
use Rattle.std.proofs.lemmas.List.FromFn.{length-range_with_len}
use Rattle.std.proofs.lemmas.List.Sums.{sum_by-cons, count_by-le-length}
use Rattle.std.specs.List.{range_with_len, position_from}
use Rattle.dc_spec.specs.Lists.{is_among}
use Rattle.dc_spec.proofs.Booleans.{or_cases}
use Rattle.dc_spec.proofs.ListLemmas.{in_range, below_range}
use Rattle.dc_hub_rules.specs.Hubs.{Arrival, first_arrival, places, end_from, round_start, accepted, is_complete, complete_rounds}
use Rattle.dc_hub_rules.proofs.HubLemmas.{same_some, none_some, none_or_some, slice_get-push, place_stands, place_found, place_kept, full-filter_map, end_full, full_end, end_places, start_kept, start_within, start_before, start_after, none_complete, accepted_stands}

-- whether an arrival is of this station and round
abbrev pub is_from : ℕ → ℕ → Arrival → Bool
is_from i t a = (a.station == i) && (a.round == t)

-- an item of a front stands in the whole list
slice_get-front : {X : Type 0} (xs more : List X) (k : ℕ) (x : X) → slice_get xs k ≡ Some x → slice_get (xs ++ more) k ≡ Some x
slice_get-front [] more k x h = absurd (none_some x _ h refl)
slice_get-front (y ∷ ys) more zero x h = h
slice_get-front (y ∷ ys) more (suc k) x h = slice_get-front ys more k x h

-- the last item
slice_get-last : {X : Type 0} (xs : List X) (a : X) → slice_get (xs ++ a ∷ []) (length xs) ≡ Some a
slice_get-last [] a = refl
slice_get-last (y ∷ ys) a = slice_get-last ys a

-- where a search found nothing, it finds one more item or nothing
position_more : {X : Type 0} (p : X → Bool) (s : ℕ) (ys : List X) (a : X) → position_from p s ys ≡ None → position_from p s (ys ++ a ∷ []) ≡ cond (p a) (Some (s + length ys)) None
position_more p s [] a h = ap (λ (k : ℕ). cond (p a) (Some k) None) (let e : s ≡ s + 0 = omega arith in e)
position_more p s (y ∷ ys) a h = (elim (p y) as (λ b. cond b (Some s) (position_from p (s + 1) ys) ≡ None
    → cond b (Some s) (position_from p (s + 1) (ys ++ a ∷ [])) ≡ cond (p a) (Some (s + suc (length ys))) None) [
      | true ↦ λ found. absurd (none_some s _ refl found)
      | false ↦ λ later. position_more p (s + 1) ys a later ∙ ap (λ (k : ℕ). cond (p a) (Some k) None) (let e : s + 1 + length ys ≡ s + suc (length ys) = omega arith in e)
    ]) h

-- a station without a word for a round gets one by an arrival of this station and round
first_more : (xs : List Arrival) (a : Arrival) (from i t : ℕ) → from ≤ length xs → first_arrival xs from i t ≡ None
    → first_arrival (xs ++ a ∷ []) from i t ≡ cond (is_from i t a) (Some (length xs)) None
first_more xs a from i t low h =
    ap (position_from (λ b. (b.station == i) && (b.round == t)) from) (drop-append-le from xs (a ∷ []) low)
    ∙ position_more (λ b. (b.station == i) && (b.round == t)) from (drop from xs) a h
    ∙ ap (λ (k : ℕ). cond (is_from i t a) (Some k) None) (let d = length-drop from xs in let e : from + length (drop from xs) ≡ length xs = omega arith in e)

-- the word at a place
abbrev word_there : List Arrival → Option ℕ → Option (List ℕ)
word_there xs place = option_and_then (λ k. option_map (λ (b : Arrival). b.word) (slice_get xs k)) place

accepted_from : (n : ℕ) (xs : List Arrival) (i t from : ℕ) → round_start n xs t ≡ Some from → accepted n xs i t ≡ word_there xs (first_arrival xs from i t)
accepted_from n xs i t from began = ap (λ (o : Option ℕ). word_there xs (option_and_then (λ f. first_arrival xs f i t) o)) began

-- no word is accepted in a round that has not begun
pub accepted_none : (n : ℕ) (xs : List Arrival) (i t : ℕ) → round_start n xs t ≡ None → accepted n xs i t ≡ None
accepted_none n xs i t none = ap (λ (o : Option ℕ). word_there xs (option_and_then (λ f. first_arrival xs f i t) o)) none

-- a word at a place is accepted
accepted_at : (n : ℕ) (xs : List Arrival) (i t from k : ℕ) → round_start n xs t ≡ Some from → first_arrival xs from i t ≡ Some k → (b : Arrival) × (slice_get xs k ≡ Some b)
    × (accepted n xs i t ≡ Some b.word)
accepted_at n xs i t from k began found =
    let stands = place_stands xs from i t k found in
    (stands.0, stands.1, accepted_from n xs i t from began ∙ ap (word_there xs) found ∙ ap (option_map (λ (b : Arrival). b.word)) stands.1)

-- an accepted word has a place
accepted_place_found : (n : ℕ) (xs : List Arrival) (i t from : ℕ) (w : List ℕ) → round_start n xs t ≡ Some from → accepted n xs i t ≡ Some w → (k : ℕ) × (first_arrival xs from i t ≡ Some k)
accepted_place_found n xs i t from w began h = elim (none_or_some (first_arrival xs from i t)) [
  | inl none ↦ absurd (none_some w _ h (accepted_from n xs i t from began ∙ ap (word_there xs) none))
  | inr place ↦ place
]

-- an accepted word stays the accepted one
pub accepted_kept : (n : ℕ) (xs more : List Arrival) (i t : ℕ) (w : List ℕ) → accepted n xs i t ≡ Some w → accepted n (xs ++ more) i t ≡ Some w
accepted_kept n xs more i t w h = elim (none_or_some (round_start n xs t)) [
  | inl none ↦ absurd (none_some w _ h (accepted_none n xs i t none))
  | inr from ↦ (let place = accepted_place_found n xs i t from.0 w from.1 h in
      let at = accepted_at n xs i t from.0 place.0 from.1 place.1 in
      accepted_from n (xs ++ more) i t from.0 (start_kept n xs more t from.0 from.1)
      ∙ ap (word_there (xs ++ more)) (place_kept xs more from.0 i t place.0 place.1)
      ∙ ap (option_map (λ (b : Arrival). b.word)) (slice_get-front xs more place.0 at.0 at.1)
      ∙ (sym at.2 ∙ h))
]

-- in a round that has begun, a missing word is accepted where it arrives
pub accepted_new : (n : ℕ) (xs : List Arrival) (a : Arrival) (i t from : ℕ) → round_start n xs t ≡ Some from → accepted n xs i t ≡ None
    → accepted n (xs ++ a ∷ []) i t ≡ cond (is_from i t a) (Some a.word) None
accepted_new n xs a i t from began h = elim (none_or_some (first_arrival xs from i t)) [
  | inr place ↦ absurd (let at = accepted_at n xs i t from place.0 began place.1 in none_some at.0.word _ at.2 h)
  | inl none ↦ accepted_from n (xs ++ a ∷ []) i t from (start_kept n xs (a ∷ []) t from began)
      ∙ ap (word_there (xs ++ a ∷ [])) (first_more xs a from i t (start_within n xs t from began) none)
      ∙ last xs a (is_from i t a)
]
  where
    last : (xs : List Arrival) (a : Arrival) (b : Bool) → word_there (xs ++ a ∷ []) (cond b (Some (length xs)) None) ≡ cond b (Some a.word) None
    last xs a true = ap (option_map (λ (b : Arrival). b.word)) (slice_get-last xs a)
    last xs a false = refl

-- the end of a round is no place before its begin
last_at_least : (ks : List ℕ) (m : ℕ) → m ≤ fold (λ a place. max a (place + 1)) m ks
last_at_least [] m = omega arith
last_at_least (k ∷ ks) m = let rest = last_at_least ks (max m (k + 1)) in omega arith

-- and past each of its places
place_below_end : (h : ℕ → Option ℕ) (m : ℕ) (xs : List ℕ) (x k : ℕ) → is_among xs x ≡ true → h x ≡ Some k → k < fold (λ a place. max a (place + 1)) m (filter_map h xs)
place_below_end h m [] x k there found = absurd (true≢false (sym there))
place_below_end h m (z ∷ zs) x k there found = elim (or_cases (nat_eq x z) (is_among zs x) there) [
  | inl same ↦ (let here : h z ≡ Some k = ap h (sym (eqb-true x z same)) ∙ found in
      let rest = last_at_least (filter_map h zs) (max m (k + 1)) in
      rw here (omega arith))
  | inr later ↦ (elim (none_or_some (h z)) [
    | inl none ↦ rw none (place_below_end h m zs x k later found)
    | inr some ↦ rw some.1 (place_below_end h (max m (some.0 + 1)) zs x k later found)
  ])
]

-- a round that begins by the last arrival begins after it
late_start : (n : ℕ) (xs : List Arrival) (a : Arrival) (t s : ℕ) → round_start n xs t ≡ None → round_start n (xs ++ a ∷ []) t ≡ Some s → length xs < s
unfolding round_start
late_start n xs a zero s none h = absurd (none_some 0 _ refl none)
late_start n xs a (suc t) s none h =
    let before = start_before n (xs ++ a ∷ []) t s h in
    let ended = end_full n (xs ++ a ∷ []) t before.0 s before.2 in
    elim (none_or_some (round_start n xs t)) [
      | inl still ↦ (let later = late_start n xs a t before.0 still before.1 in
          let low = last_at_least (places n (xs ++ a ∷ []) before.0 t) before.0 in
          let is = ended.1 in omega arith)
      | inr began ↦ (elim (cases_lt (length xs) s) [
        | inl less ↦ less
        | inr le ↦ absurd (let again = start_kept n xs (a ∷ []) t began.0 began.1 in
            let same : began.0 ≡ before.0 = same_some began.0 before.0 (sym again ∙ before.1) in
            let here : round_start n xs t ≡ Some before.0 = began.1 ∙ ap (λ (k : ℕ). Some k) same in
            let full = full-filter_map (λ i. first_arrival xs before.0 i t) (range_with_len 0 n) (λ i there. placed before.0 s before.2 (ended.1) le i there) in
            none_some _ _ (start_after n xs t before.0 _ here (full_end n xs t before.0 (full ∙ length-range_with_len 0 n))) none)
      ])
    ]
  where
    placed : (from s : ℕ) → end_from n (xs ++ a ∷ []) t from ≡ Some s → fold (λ m place. max m (place + 1)) from (places n (xs ++ a ∷ []) from t) ≡ s → s ≤ length xs
        → (i : ℕ) → is_among (range_with_len 0 n) i ≡ true → (k : ℕ) × (first_arrival xs from i t ≡ Some k)
    placed from s ended is le i there =
        let place = end_places n (xs ++ a ∷ []) t from s i ended there in
        let below = place_below_end (λ j. first_arrival (xs ++ a ∷ []) from j t) from (range_with_len 0 n) i place.0 there place.1 in
        let stands = place_stands (xs ++ a ∷ []) from i t place.0 place.1 in
        elim (slice_get-push xs a place.0 stands.0 stands.1) [
          | inl old ↦ place_found xs from i t place.0 stands.0 old stands.4 stands.2 stands.3
          | inr last ↦ absurd (let e = last.0 in omega arith)
        ]

-- no word is accepted by the last arrival in a round that had not begun
pub accepted_late : (n : ℕ) (xs : List Arrival) (a : Arrival) (i t : ℕ) → round_start n xs t ≡ None → accepted n (xs ++ a ∷ []) i t ≡ None
accepted_late n xs a i t none = elim (none_or_some (round_start n (xs ++ a ∷ []) t)) [
  | inl still ↦ accepted_none n (xs ++ a ∷ []) i t still
  | inr began ↦ (let late = late_start n xs a t began.0 none began.1 in
      let long = length-append xs (a ∷ []) in
      let nothing : drop began.0 (xs ++ a ∷ []) ≡ [] = drop_of_length-le (xs ++ a ∷ []) (omega arith) in
      accepted_from n (xs ++ a ∷ []) i t began.0 began.1
      ∙ ap (λ (ys : List Arrival). word_there (xs ++ a ∷ []) (position_from (λ b. (b.station == i) && (b.round == t)) began.0 ys)) nothing)
]

-- each station has an accepted word in a complete round
pub complete_accepted : (n : ℕ) (xs : List Arrival) (t s i : ℕ) → round_start n xs (suc t) ≡ Some s → i < n → (w : List ℕ) × (accepted n xs i t ≡ Some w)
complete_accepted n xs t s i h lt = let stands = accepted_stands n xs t s i h (in_range 0 n i (omega arith) (omega arith)) in (stands.1.word, stands.5)

-- a round that has begun, with an accepted word of each station, is complete
pub accepted_complete : (n : ℕ) (xs : List Arrival) (t from : ℕ) → round_start n xs t ≡ Some from → ((i : ℕ) → i < n → (w : List ℕ) × (accepted n xs i t ≡ Some w))
    → (s : ℕ) × (round_start n xs (suc t) ≡ Some s)
accepted_complete n xs t from began all =
    let full = full-filter_map (λ i. first_arrival xs from i t) (range_with_len 0 n)
    (λ i there. let word = all i (let lt = below_range 0 n i there in omega arith) in accepted_place_found n xs i t from word.0 began word.1) in
    (fold (λ m place. max m (place + 1)) from (places n xs from t), start_after n xs t from _ began (full_end n xs t from (full ∙ length-range_with_len 0 n)))

-- a test that passes for the first numbers of a range counts them
count_at_least : (p : ℕ → Bool) (c a m : ℕ) → c ≤ m → ((t : ℕ) → a ≤ t → t < a + c → p t ≡ true) → c ≤ count_by p (range_with_len a m)
count_at_least p zero a m le passes = omega arith
count_at_least p (suc c) a zero le passes = absurd (omega arith)
count_at_least p (suc c) a (suc m) le passes =
    let ih = count_at_least p c (a + 1) m (omega arith) (λ t low high. passes t (omega arith) (omega arith)) in
    let split = sum_by-cons (λ t. cond (p t) 1 0) a (range_with_len (a + 1) m) in
    let one : cond {A = ℕ} (p a) 1 0 ≡ 1 = ap (λ b. cond {A = ℕ} b 1 0) (passes a (omega arith) (omega arith)) in
    omega arith

-- and where it fails for the others, only them
count_front : (p : ℕ → Bool) (c a m : ℕ) → c ≤ m → ((t : ℕ) → a ≤ t → t < a + c → p t ≡ true) → ((t : ℕ) → a + c ≤ t → t < a + m → p t ≡ false)
    → count_by p (range_with_len a m) ≡ c
count_front p zero a zero le passes fails = refl
count_front p (suc c) a zero le passes fails = absurd (omega arith)
count_front p zero a (suc m) le passes fails =
    let ih = count_front p zero (a + 1) m (omega arith) (λ t low high. absurd (omega arith)) (λ t low high. fails t (omega arith) (omega arith)) in
    let split = sum_by-cons (λ t. cond (p t) 1 0) a (range_with_len (a + 1) m) in
    let none : cond {A = ℕ} (p a) 1 0 ≡ 0 = ap (λ b. cond {A = ℕ} b 1 0) (fails a (omega arith) (omega arith)) in
    omega arith
count_front p (suc c) a (suc m) le passes fails =
    let ih = count_front p c (a + 1) m (omega arith) (λ t low high. passes t (omega arith) (omega arith)) (λ t low high. fails t (omega arith) (omega arith)) in
    let split = sum_by-cons (λ t. cond (p t) 1 0) a (range_with_len (a + 1) m) in
    let one : cond {A = ℕ} (p a) 1 0 ≡ 1 = ap (λ b. cond {A = ℕ} b 1 0) (passes a (omega arith) (omega arith)) in
    omega arith

-- a round before one that has begun has begun
pub began_before : (n : ℕ) (xs : List Arrival) (c s t : ℕ) → round_start n xs c ≡ Some s → t ≤ c → (r : ℕ) × (round_start n xs t ≡ Some r)
began_before n xs c s t began le = elim (none_or_some (round_start n xs t)) [
  | inr some ↦ some
  | inl none ↦ absurd (let same : c ≡ t + (c - t) = omega arith in none_some s _ began (ap (round_start n xs) same ∙ none_complete n xs t (c - t) none))
]

-- no more rounds are complete than there are
pub rounds_within : (n rounds : ℕ) (xs : List Arrival) → complete_rounds n rounds xs ≤ rounds
rounds_within n rounds xs = let most = count_by-le-length (is_complete n xs) (range_with_len 0 rounds) in let long = length-range_with_len 0 rounds in omega arith

-- a round whose next one has begun is complete
pub complete_before : (n : ℕ) (xs : List Arrival) (c s t : ℕ) → round_start n xs c ≡ Some s → t < c → is_complete n xs t ≡ true
complete_before n xs c s t began lt = let some = began_before n xs c s (t + 1) began (omega arith) in ap is_some some.1

-- the rounds after the one in progress have not begun
pub later_not_begun : (n rounds : ℕ) (xs : List Arrival) (c t : ℕ) → complete_rounds n rounds xs ≡ c → c < t → t ≤ rounds → round_start n xs t ≡ None
later_not_begun n rounds xs c t is lt le = elim (none_or_some (round_start n xs t)) [
  | inl none ↦ none
  | inr some ↦ absurd (let least = count_at_least (is_complete n xs) t 0 rounds le (λ u low high. complete_before n xs t some.0 u some.1 (omega arith)) in omega arith)
]

-- so many rounds are complete where the next one has begun and, unless it is past the last one, has no end
pub rounds_counted : (n rounds : ℕ) (xs : List Arrival) (c s : ℕ) → c ≤ rounds → round_start n xs c ≡ Some s → (c < rounds → round_start n xs (suc c) ≡ None)
    → complete_rounds n rounds xs ≡ c
rounds_counted n rounds xs c s le began unended = count_front (is_complete n xs) c 0 rounds le
    (λ t low high. complete_before n xs c s t began (omega arith))
    (λ t low high. let same : t + 1 ≡ suc c + (t - c) = omega arith in
    ap is_some (ap (round_start n xs) same ∙ none_complete n xs (suc c) (t - c) (unended (omega arith))))

-- without arrivals no word is accepted
pub none_accepted : (n i t : ℕ) → accepted n [] i t ≡ None
none_accepted n i t = elim (none_or_some (round_start n [] t)) [
  | inl none ↦ accepted_none n [] i t none
  | inr from ↦ (elim (none_or_some (first_arrival [] from.0 i t)) [
    | inl none ↦ accepted_from n [] i t from.0 from.1 ∙ ap (word_there []) none
    | inr place ↦ absurd (let at = accepted_at n [] i t from.0 place.0 from.1 place.1 in none_some at.0 _ at.1 refl)
  ])
]

-- the first round begins before any arrival
pub first_round : (n : ℕ) → round_start n [] 0 ≡ Some 0
unfolding round_start
first_round n = refl
