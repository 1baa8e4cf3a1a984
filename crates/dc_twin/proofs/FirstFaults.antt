-- The first fault, where a walk has come so far.
use Rattle.std.proofs.Common.{◌≡◌, ℕ, zero, suc, ◌+◌, ◌<◌, ◌≤◌, ◌≢◌, Bool, true, false, cond, ◌||◌, not, nat_eq, nat_lt, List, [], ◌∷◌, length, map, take, drop, find, get_or, set, slice_index, slice_index_or, replicate, Option, Some, None, option_map, refl, sym, ◌∙◌, ap, inl, inr, arith, eqb-true, eq-eqb, ltb-true, add-one, drop-cons, get_or-set_other, get_or-set_same}
use Rattle.std.specs.Str.{bytes_eq}
use Rattle.std.specs.List.{filter, range_with_len, enumerate_from}
use Rattle.std.proofs.Math.Bool.{or-true, or-false}
use Rattle.std.proofs.lemmas.Bool.{cases_Bool, cases_lt, le-ltb}
use Rattle.std.proofs.lemmas.List.{drop_all, get_or-map}
use Rattle.std.proofs.lemmas.List.Folds.{list_any_more}
use Rattle.std.proofs.lemmas.List.FromFn.{length-range_with_len, get_or-range_with_len}
use Rattle.dc_spec.specs.Lists.{is_among}
use Rattle.dc_spec.specs.Net.{Net}
use Rattle.dc_net_rules.specs.Runs.{Round, word_of_station, honest_stations, all_rounds, run_of}
use Rattle.dc_net_rules.specs.Agreement.{first_of, first_by}
use Rattle.dc_net_rules.proofs.RoundLemmas.{length-rounds_of}
use Rattle.dc_net.proofs.FirstBy.{find_here, find_past}
use Rattle.dc_twin.specs.declared.fault.TwinFault.{TwinFault}
use Rattle.dc_twin.specs.declared.fault.TwinFault.TheVariants.{NotAlike}
use Rattle.dc_twin.specs.Faults.{count_fault, is_bad_place, place_fault, joined_fault, first_unlike, round_fault, alike_fault, twin_fault}
use Rattle.dc_twin.specs.Edges.{row_in}
use Rattle.dc_twin.proofs.Received.{no_words, delivered-row}

-- ---- numbers from 0 on

number-at : (n k : ℕ) → k < n → k ≡ get_or (range_with_len 0 n) k k
number-at n k low = let at = get_or-range_with_len 0 n k k low in omega arith

-- the first number that passes is this one
pub found-here : (T : ℕ → Bool) (n k : ℕ) → k < n → find T (range_with_len 0 n) ≡ find T (drop k (range_with_len 0 n)) → T k ≡ true → find T (range_with_len 0 n) ≡ Some k
found-here T n k low left here =
    let long = length-range_with_len 0 n in
    find_here T (range_with_len 0 n) k k (omega arith) (number-at n k low) here left

-- it comes after this one
pub found-past : (T : ℕ → Bool) (n k : ℕ) → k < n → find T (range_with_len 0 n) ≡ find T (drop k (range_with_len 0 n)) → T k ≡ false
    → find T (range_with_len 0 n) ≡ find T (drop (k + 1) (range_with_len 0 n))
found-past T n k low left fails =
    let long = length-range_with_len 0 n in
    find_past T (range_with_len 0 n) k k (omega arith) (number-at n k low) fails left

-- there is none
pub found-none : (T : ℕ → Bool) (n k : ℕ) → n ≤ k → find T (range_with_len 0 n) ≡ find T (drop k (range_with_len 0 n)) → find T (range_with_len 0 n) ≡ None
found-none T n k all left =
    let long = length-range_with_len 0 n in left ∙ ap (find T) (drop_all k (range_with_len 0 n) (omega arith))

-- ---- places

-- no flag is set at first
pub none-seen : (n x : ℕ) → get_or (replicate n false) x false ≡ false
none-seen zero x = refl
none-seen (suc n) zero = refl
none-seen (suc n) (suc x) = none-seen n x

-- the test of a number by the flags of those before it
pub bad-tested : (n k image : ℕ) (p : List ℕ) (seen : List Bool) → length seen ≡ n → ((x : ℕ) → x < n → slice_index_or seen x false ≡ is_among (take k p) x) → image ≡ slice_index p k
    → (not (nat_lt image (length seen)) || slice_index_or seen image false) ≡ is_bad_place n p k
bad-tested n k image p seen wide flags is =
    ap (λ (x : ℕ). not (nat_lt x (length seen)) || slice_index_or seen x false) is
    ∙ ap (λ (m : ℕ). not (nat_lt (slice_index p k) m) || slice_index_or seen (slice_index p k) false) wide
    ∙ elim (cases_lt (slice_index p k) n) [
      | inl low ↦ ap (λ (b : Bool). not (nat_lt (slice_index p k) n) || b) (flags (slice_index p k) low)
      | inr high ↦ (let past : nat_lt (slice_index p k) n ≡ false = le-ltb (slice_index p k) n high in
          ap (λ (b : Bool). not b || slice_index_or seen (slice_index p k) false) past ∙ sym (ap (λ (b : Bool). not b || is_among (take k p) (slice_index p k)) past))
    ]

-- a number that is not bad is a station
pub good-below : (n k : ℕ) (p : List ℕ) → is_bad_place n p k ≡ false → slice_index p k < n
good-below n k p good = ltb-true (slice_index p k) n (first (nat_lt (slice_index p k) n) (is_among (take k p) (slice_index p k)) good)
  where
    first : (a b : Bool) → (not a || b) ≡ false → a ≡ true
    first true b e = refl
    first false b e = let clash : ⊥ = cc in absurd clash

-- one flag more is set
pub more-seen : (n k image : ℕ) (p : List ℕ) (seen : List Bool) → length seen ≡ n → k < length p → image < n → image ≡ slice_index p k
    → ((x : ℕ) → x < n → slice_index_or seen x false ≡ is_among (take k p) x) → (x : ℕ) → x < n → slice_index_or (set seen image true) x false ≡ is_among (take (k + 1) p) x
more-seen n k image p seen wide low station is flags x below =
    let more : is_among (take (k + 1) p) x ≡ (is_among (take k p) x || nat_eq x (slice_index p k)) = list_any_more (λ y. nat_eq x y) p k 0 low in
    elim (cases_Bool (nat_eq x (slice_index p k))) [
      | inl same ↦ (let at : x ≡ image = eqb-true x (slice_index p k) same ∙ sym is in
          ap (λ (z : ℕ). slice_index_or (set seen image true) z false) at ∙ get_or-set_same seen image true false (omega arith)
          ∙ sym (more ∙ ap (λ (b : Bool). is_among (take k p) x || b) same ∙ or-true (is_among (take k p) x)))
      | inr other ↦ (let apart : x ≢ image = λ e. (let clash : ⊥ = true≢false' (sym (eq-eqb x (slice_index p k) (e ∙ is)) ∙ other) in clash) in
          let there : slice_index_or (set seen image true) x false ≡ slice_index_or seen x false = rw get_or-set_other refl in
          there ∙ flags x below ∙ sym (more ∙ ap (λ (b : Bool). is_among (take k p) x || b) other ∙ or-false (is_among (take k p) x)))
    ]
  where
    true≢false' : true ≡ false → ⊥
    true≢false' e = let clash : ⊥ = cc in clash

-- ---- words

-- the first of some stations, and the first of the rest with another word
pub unlike-is : (word : ℕ → List ℕ) (stations : List ℕ) → 0 < length stations
    → first_unlike word stations ≡ option_map (λ j. (slice_index stations 0, j)) (find (λ k. not (bytes_eq (word (slice_index stations 0)) (word k))) (drop 1 stations))
unlike-is word [] some = absurd (omega arith)
unlike-is word (i ∷ rest) some = refl

-- where none of the rest is left, there is none
pub unlike-none : (word : ℕ → List ℕ) (stations : List ℕ) (j : ℕ) → length stations ≤ j
    → find (λ k. not (bytes_eq (word (slice_index stations 0)) (word k))) (drop 1 stations) ≡ find (λ k. not (bytes_eq (word (slice_index stations 0)) (word k))) (drop j stations)
    → first_unlike word stations ≡ None
unlike-none word [] j all left = refl
unlike-none word (i ∷ rest) j all left =
    ap (option_map (λ k. (i, k))) (left ∙ ap (find (λ k. not (bytes_eq (word i) (word k)))) (drop_all j (i ∷ rest) all))

-- what is left begins with the next station
pub next-left : (T : ℕ → Bool) (xs : List ℕ) (j : ℕ) → j < length xs → find T (drop j xs) ≡ cond (T (slice_index xs j)) (Some (slice_index xs j)) (find T (drop (j + 1) xs))
next-left T xs j low = rw (drop-cons xs j 0 low) (rw add-one refl)

-- a word of a station
word-at : (word : ℕ → List ℕ) (stations : List ℕ) (words : List (List ℕ)) (k : ℕ) (w : List ℕ) → words ≡ map word stations → k < length stations → w ≡ get_or words k w → w ≡ word (slice_index stations k)
word-at word stations words k w is low at = at ∙ ap (λ (ws : List (List ℕ)). get_or ws k w) is ∙ get_or-map word stations k 0 w low

-- this station has the word of the first one
pub unlike-past : (word : ℕ → List ℕ) (stations : List ℕ) (words : List (List ℕ)) (j : ℕ) (v w : List ℕ) → words ≡ map word stations → j < length stations → v ≡ get_or words 0 v → w ≡ get_or words j w
    → bytes_eq v w ≡ true
    → find (λ k. not (bytes_eq (word (slice_index stations 0)) (word k))) (drop 1 stations) ≡ find (λ k. not (bytes_eq (word (slice_index stations 0)) (word k))) (drop j stations)
    → find (λ k. not (bytes_eq (word (slice_index stations 0)) (word k))) (drop 1 stations) ≡ find (λ k. not (bytes_eq (word (slice_index stations 0)) (word k))) (drop (j + 1) stations)
unlike-past word stations words j v w is low first here same left =
    let T : ℕ → Bool = λ k. not (bytes_eq (word (slice_index stations 0)) (word k)) in
    let fails : T (slice_index stations j) ≡ false =
    ap (λ (x : List ℕ). not (bytes_eq x (word (slice_index stations j)))) (sym (word-at word stations words 0 v is (omega arith) first))
    ∙ ap (λ (x : List ℕ). not (bytes_eq v x)) (sym (word-at word stations words j w is low here)) ∙ ap not same in
    left ∙ next-left T stations j low ∙ ap (λ (b : Bool). cond b (Some (slice_index stations j)) (find T (drop (j + 1) stations))) fails

-- this station has another word
pub unlike-here : (word : ℕ → List ℕ) (stations : List ℕ) (words : List (List ℕ)) (j : ℕ) (v w : List ℕ) → words ≡ map word stations → j < length stations → v ≡ get_or words 0 v → w ≡ get_or words j w
    → bytes_eq v w ≡ false
    → find (λ k. not (bytes_eq (word (slice_index stations 0)) (word k))) (drop 1 stations) ≡ find (λ k. not (bytes_eq (word (slice_index stations 0)) (word k))) (drop j stations)
    → first_unlike word stations ≡ Some (slice_index stations 0, slice_index stations j)
unlike-here word stations words j v w is low first here other left =
    let T : ℕ → Bool = λ k. not (bytes_eq (word (slice_index stations 0)) (word k)) in
    let passes : T (slice_index stations j) ≡ true =
    ap (λ (x : List ℕ). not (bytes_eq x (word (slice_index stations j)))) (sym (word-at word stations words 0 v is (omega arith) first))
    ∙ ap (λ (x : List ℕ). not (bytes_eq v x)) (sym (word-at word stations words j w is low here)) ∙ ap not other in
    unlike-is word stations (omega arith)
    ∙ ap (option_map (λ k. (slice_index stations 0, k))) (left ∙ next-left T stations j low ∙ ap (λ (b : Bool). cond b (Some (slice_index stations j)) (find T (drop (j + 1) stations))) passes)

-- ---- rounds

found-first : {A B : Type 0} (f : A → Option B) (x : A) (xs : List A) (y : B) → f x ≡ Some y → first_by f (x ∷ xs) ≡ Some y
found-first f x xs y is = rw is refl

passed-first : {A B : Type 0} (f : A → Option B) (x : A) (xs : List A) → f x ≡ None → first_by f (x ∷ xs) ≡ first_by f xs
passed-first f x xs none = rw none refl

rounds-left : (rounds : List Round) (t : ℕ) (d : Round) → t < length rounds → enumerate_from t (drop t rounds) ≡ (t, get_or rounds t d) ∷ enumerate_from (t + 1) (drop (t + 1) rounds)
rounds-left rounds t d low = rw (drop-cons rounds t d low) (rw add-one refl)

-- the first fault is that of this round
pub round-found : (net : Net) (t : ℕ) (fault : TwinFault) → t < net.words
    → first_by (round_fault net) (enumerate_from 0 (all_rounds net)) ≡ first_by (round_fault net) (enumerate_from t (drop t (all_rounds net)))
    → round_fault net (t, get_or (all_rounds net) t no_words) ≡ Some fault → alike_fault net ≡ Some fault
round-found net t fault low left is =
    let count = length-rounds_of net net.words in
    left ∙ ap (first_by (round_fault net)) (rounds-left (all_rounds net) t no_words (omega arith))
    ∙ found-first (round_fault net) (t, get_or (all_rounds net) t no_words) (enumerate_from (t + 1) (drop (t + 1) (all_rounds net))) fault is

-- it comes after this round
pub round-passed : (net : Net) (t : ℕ) → t < net.words
    → first_by (round_fault net) (enumerate_from 0 (all_rounds net)) ≡ first_by (round_fault net) (enumerate_from t (drop t (all_rounds net)))
    → round_fault net (t, get_or (all_rounds net) t no_words) ≡ None
    → first_by (round_fault net) (enumerate_from 0 (all_rounds net)) ≡ first_by (round_fault net) (enumerate_from (t + 1) (drop (t + 1) (all_rounds net)))
round-passed net t low left none =
    let count = length-rounds_of net net.words in
    left ∙ ap (first_by (round_fault net)) (rounds-left (all_rounds net) t no_words (omega arith))
    ∙ passed-first (round_fault net) (t, get_or (all_rounds net) t no_words) (enumerate_from (t + 1) (drop (t + 1) (all_rounds net))) none

-- no round has one
pub rounds-passed : (net : Net) (t : ℕ) → net.words ≤ t
    → first_by (round_fault net) (enumerate_from 0 (all_rounds net)) ≡ first_by (round_fault net) (enumerate_from t (drop t (all_rounds net))) → alike_fault net ≡ None
rounds-passed net t all left =
    let count = length-rounds_of net net.words in
    left ∙ ap (λ rounds. first_by (round_fault net) (enumerate_from t rounds)) (drop_all t (all_rounds net) (omega arith))

-- the honest stations
pub all-honest : (net : Net) (coalition : List ℕ) (n : ℕ) (xs : List ℕ) → coalition ≡ net.coalition → n ≡ net.stations → xs ≡ filter (λ i. not (is_among coalition i)) (range_with_len 0 n)
    → xs ≡ honest_stations net
all-honest net coalition n xs same many is =
    is ∙ ap (λ (ms : List ℕ). filter (λ i. not (is_among ms i)) (range_with_len 0 n)) same ∙ ap (λ (m : ℕ). filter (λ i. not (is_among net.coalition i)) (range_with_len 0 m)) many

-- the fault of a round, from what its honest stations received
pub round-tested : (net : Net) (t count : ℕ) (stations : List ℕ) (delivered received : List (List ℕ)) (o : Option (ℕ × ℕ)) → t < net.words → stations ≡ honest_stations net → count ≡ length stations
    → delivered ≡ (run_of net).delivered → received ≡ row_in count delivered t → ((word : ℕ → List ℕ) → received ≡ map word stations → o ≡ first_unlike word stations)
    → round_fault net (t, get_or (all_rounds net) t no_words) ≡ option_map (λ e. NotAlike t e.0 e.1) o
round-tested net t count stations delivered received o low all counted same is gives =
    let word = word_of_station (get_or (all_rounds net) t no_words).received in
    let heard : received ≡ map (word_of_station (get_or (all_rounds net) t no_words).received) stations =
    is ∙ ap (λ (ws : List (List ℕ)). row_in count ws t) same ∙ ap (λ (m : ℕ). row_in m (run_of net).delivered t) (counted ∙ ap (λ (xs : List ℕ). length xs) all)
    ∙ delivered-row net t low ∙ ap (map (word_of_station (get_or (all_rounds net) t no_words).received)) (sym all) in
    sym (ap (option_map (λ (e : ℕ × ℕ). NotAlike t e.0 e.1)) (gives word heard ∙ ap (first_unlike word) all))

-- ---- all tests

pub by-count : (net : Net) (p : List ℕ) (fault : TwinFault) → count_fault net.stations p ≡ Some fault → twin_fault net p ≡ Some fault
unfolding twin_fault
by-count net p fault is = rw is refl

pub by-place : (net : Net) (p : List ℕ) (fault : TwinFault) → count_fault net.stations p ≡ None → place_fault net.stations p ≡ Some fault → twin_fault net p ≡ Some fault
unfolding twin_fault
by-place net p fault counted is = rw counted (rw is refl)

pub by-joined : (net : Net) (p : List ℕ) (fault : TwinFault) → count_fault net.stations p ≡ None → place_fault net.stations p ≡ None → joined_fault net p ≡ Some fault
    → twin_fault net p ≡ Some fault
unfolding twin_fault
by-joined net p fault counted placed is = rw counted (rw placed (rw is refl))

pub by-alike : (net : Net) (p : List ℕ) → count_fault net.stations p ≡ None → place_fault net.stations p ≡ None → joined_fault net p ≡ None → twin_fault net p ≡ alike_fault net
unfolding twin_fault
by-alike net p counted placed joined = rw counted (rw placed (rw joined (alone (alike_fault net))))
  where
    alone : (o : Option TwinFault) → first_of (o ∷ []) ≡ o
    alone None = refl
    alone (Some f) = refl
