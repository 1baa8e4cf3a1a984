-- One more word for the core: which words are accepted then, and which sums are sent.
use Rattle.std.proofs.Common.{◌≡◌, ◌≢◌, ℕ, zero, suc, ◌+◌, ◌<◌, ◌≤◌, ◌==◌, ◌&&◌, Bool, true, false, if◌then◌else◌, nat_le, nat_eq, inl, inr, List, [], ◌∷◌, ◌++◌, length, map, filter_map, slice_get, Option, Some, None, refl, sym, ap, ◌∙◌, arith, eqb-true, eq-eqb, append-nil}
use Rattle.std.specs.List.{range_with_len}
use Rattle.std.proofs.lemmas.Bool.{cases_Bool, ne_eqb, le-ltb}
use Rattle.std.proofs.lemmas.List.{map-append}
use Rattle.std.proofs.lemmas.List.Concat.{flat_map-append}
use Rattle.dc_spec.specs.Lists.{is_among}
use Rattle.dc_spec.specs.Words.{word_sum}
use Rattle.dc_spec.specs.Frames.{Frame as frame, all}
use Rattle.dc_spec.proofs.ListLemmas.{below_range}
use Rattle.dc_spec.proofs.Booleans.{or_first, or_second}
use Rattle.dc_formats.specs.Frames.{frame_bytes, frames_bytes}
use Rattle.dc_hub_rules.specs.Hubs.{Arrival, accepted, accepted_sum, round_start, complete_rounds, first_missing, reply, reply_accepted}
use Rattle.dc_hub_rules.proofs.HubLemmas.{none_or_some, none_some, progress_began}
use Rattle.dc_hub_rules.proofs.OneMore.{is_from, accepted_kept, accepted_new, accepted_late, complete_accepted, began_before, none_accepted, first_round, rounds_counted}
use Rattle.dc_live.specs.HubSession.{sums_bytes}
use Rattle.dc_live.proofs.SayLemmas.{range_push}

true_false : true ≡ false → ⊥
true_false e = absurd (cc)

-- by peer the words with one more of one peer
abbrev pub grown_by : (ℕ → List (List ℕ)) → ℕ → List ℕ → ℕ → List (List ℕ)
grown_by words p word q = if q == p then words q ++ word ∷ [] else words q

pub grown_by-same : (words : ℕ → List (List ℕ)) (p : ℕ) (word : List ℕ) → grown_by words p word p ≡ words p ++ word ∷ []
grown_by-same words p word = rw (eq-eqb p p refl) refl

pub grown_by-other : (words : ℕ → List (List ℕ)) (p q : ℕ) (word : List ℕ) → q ≢ p → grown_by words p word q ≡ words q
grown_by-other words p q word ne = rw (ne_eqb q p ne) refl

-- a list with one item more
get_last : {X : Type 0} (xs : List X) (x : X) (k : ℕ) → k ≡ length xs → slice_get (xs ++ x ∷ []) k ≡ Some x
get_last xs x k e = ap (slice_get (xs ++ x ∷ [])) e ∙ last xs x
  where
    last : {X : Type 0} (xs : List X) (x : X) → slice_get (xs ++ x ∷ []) (length xs) ≡ Some x
    last [] x = refl
    last (y ∷ xs) x = last xs x

get_front : {X : Type 0} (xs : List X) (x y : X) (k : ℕ) → slice_get xs k ≡ Some y → slice_get (xs ++ x ∷ []) k ≡ Some y
get_front [] x y k e = absurd (cc)
get_front (z ∷ xs) x y zero e = e
get_front (z ∷ xs) x y (suc k) e = get_front xs x y k e

get_none : {X : Type 0} (xs : List X) (x : X) (k : ℕ) → slice_get xs k ≡ None → k ≢ length xs → slice_get (xs ++ x ∷ []) k ≡ None
get_none [] x zero e ne = absurd (ne refl)
get_none [] x (suc k) e ne = refl
get_none (y ∷ xs) x zero e ne = absurd (cc)
get_none (y ∷ xs) x (suc k) e ne = get_none xs x k e (λ same. ne (omega arith))

-- the accepted words are those of the peers
abbrev pub AcceptedAre : ℕ → ℕ → List Arrival → (ℕ → ℕ) → (ℕ → List (List ℕ)) → Type 0
AcceptedAre n total arrivals told words = (p t : ℕ) → p < n → t < total → accepted n arrivals (told p) t ≡ slice_get (words p) t

and_false : (a b : Bool) → a ≡ false → a && b ≡ false
and_false true b e = absurd (cc)
and_false false b e = refl

and_second : (a b : Bool) → b ≡ false → a && b ≡ false
and_second true b e = e
and_second false b e = refl

and_both : (a b : Bool) → a ≡ true → b ≡ true → a && b ≡ true
and_both true b e f = f
and_both false b e f = absurd (cc)

-- the word of a peer for the round in progress, which was missing
abbrev pub arrival_of : ℕ → ℕ → List ℕ → Arrival
arrival_of station round word = record { station = station; round = round; word = word }

more_accepted : (n total : ℕ) (arrivals : List Arrival) (told : ℕ → ℕ) (words : ℕ → List (List ℕ)) (p c : ℕ) (word : List ℕ) → ((q : ℕ) → q < n → q ≢ p → told q ≢ told p)
    → complete_rounds n total arrivals ≡ c → length (words p) ≡ c → AcceptedAre n total arrivals told words → (q t : ℕ) → q < n → t < total
    → (o : Option (List ℕ)) → slice_get (words q) t ≡ o → (b : Option ℕ) → round_start n arrivals t ≡ b
    → accepted n (arrivals ++ arrival_of (told p) c word ∷ []) (told q) t ≡ slice_get (grown_by words p word q) t
more_accepted n total arrivals told words p c word apart now count are q t low_q low_t (Some w) here b began =
    let kept = accepted_kept n arrivals (arrival_of (told p) c word ∷ []) (told q) t w (are q t low_q low_t ∙ here) in
    kept ∙ sym (elim (cases_Bool (q == p)) [
      | inl same ↦ rw same (get_front (words q) word w t here)
      | inr other ↦ rw other here
    ])
more_accepted n total arrivals told words p c word apart now count are q t low_q low_t None here None began =
    accepted_late n arrivals (arrival_of (told p) c word) (told q) t began ∙ sym (elim (cases_Bool (q == p)) [
      | inl same ↦ (let is = eqb-true q p same in
          let begun = progress_began n total arrivals c now in
          let not_now : t ≢ length (words q) = λ e. none_some begun.0 (round_start n arrivals c) begun.1
          (ap (round_start n arrivals) (sym count ∙ ap (λ (x : ℕ). length (words x)) (sym is) ∙ sym e) ∙ began) in
          rw same (get_none (words q) word t here not_now))
      | inr other ↦ rw other here
    ])
more_accepted n total arrivals told words p c word apart now count are q t low_q low_t None here (Some from) began =
    accepted_new n arrivals (arrival_of (told p) c word) (told q) t from began (are q t low_q low_t ∙ here)
    ∙ (elim (cases_Bool (q == p)) [
      | inl same ↦ (let is = eqb-true q p same in
          elim (cases_Bool (t == c)) [
            | inl now_t ↦ (let t_is = eqb-true t c now_t in
                let from_it : is_from (told q) t (arrival_of (told p) c word) ≡ true =
                and_both (told p == told q) (c == t) (eq-eqb (told p) (told q) (ap told (sym is))) (eq-eqb c t (sym t_is)) in
                let at : t ≡ length (words q) = t_is ∙ sym count ∙ ap (λ (x : ℕ). length (words x)) (sym is) in
                rw (from_it, same) (sym (get_last (words q) word t at)))
            | inr later ↦ (let ne : t ≢ c = λ e. true_false (sym (eq-eqb t c e) ∙ later) in
                let not_it : is_from (told q) t (arrival_of (told p) c word) ≡ false = and_second (told p == told q) (c == t) (ne_eqb c t (λ e. ne (sym e))) in
                let at : t ≢ length (words q) = λ e. ne (e ∙ ap (λ (x : ℕ). length (words x)) is ∙ count) in
                rw (not_it, same) (sym (get_none (words q) word t here at)))
          ])
      | inr other ↦ (let ne : q ≢ p = λ e. true_false (sym (eq-eqb q p e) ∙ other) in
          let not_it : is_from (told q) t (arrival_of (told p) c word) ≡ false = and_false (told p == told q) (c == t) (ne_eqb (told p) (told q) (λ e. apart q low_q ne (sym e))) in
          rw (not_it, other) (sym here))
    ])

pub accepted_next : (n total : ℕ) (arrivals : List Arrival) (told : ℕ → ℕ) (words : ℕ → List (List ℕ)) (p c : ℕ) (word : List ℕ) → ((q : ℕ) → q < n → q ≢ p → told q ≢ told p)
    → complete_rounds n total arrivals ≡ c → length (words p) ≡ c → AcceptedAre n total arrivals told words
    → AcceptedAre n total (arrivals ++ arrival_of (told p) c word ∷ []) told (grown_by words p word)
accepted_next n total arrivals told words p c word apart now count are q t low_q low_t =
    more_accepted n total arrivals told words p c word apart now count are q t low_q low_t (slice_get (words q) t) refl (round_start n arrivals t) refl

-- ---- the reply to a word that is due

pub reply_due : (n total : ℕ) (arrivals : List Arrival) (station c : ℕ) (word : List ℕ) → station < n → complete_rounds n total arrivals ≡ c → c < total → accepted n arrivals station c ≡ None
    → reply n total arrivals (arrival_of station c word) ≡ reply_accepted n (arrivals ++ arrival_of station c word ∷ []) c (first_missing n (arrivals ++ arrival_of station c word ∷ []) c)
reply_due n total arrivals station c word low now going none =
    let ends : c ≢ total = λ e. omega arith in
    rw (now, le_false n station low, ne_eqb c total ends, le-ltb c c (omega arith), none) refl
  where
    le_false : (a b : ℕ) → b < a → nat_le a b ≡ false
    le_false a b lt = grind arith

-- ---- the sums that are sent

filter_map-same : {Y : Type 0} (h g : ℕ → Option Y) (xs : List ℕ) → ((x : ℕ) → is_among xs x ≡ true → h x ≡ g x) → filter_map h xs ≡ filter_map g xs
filter_map-same h g [] same = refl
filter_map-same h g (x ∷ xs) same =
    let here = same x (or_first (nat_eq x x) (is_among xs x) (eq-eqb x x refl)) in
    let rest = filter_map-same h g xs (λ y there. same y (or_second (nat_eq y x) (is_among xs y) there)) in
    rw here (ap (with_first (g x)) rest)
  where
    with_first : {Y : Type 0} → Option Y → List Y → List Y
    with_first None ys = ys
    with_first (Some y) ys = y ∷ ys

-- the sum of a complete round stays
sum_stays : (n total : ℕ) (arrivals more : List Arrival) (t : ℕ) → t < complete_rounds n total arrivals → accepted_sum n (arrivals ++ more) t ≡ accepted_sum n arrivals t
sum_stays n total arrivals more t low =
    let begun = progress_began n total arrivals (complete_rounds n total arrivals) refl in
    let ended = began_before n arrivals (complete_rounds n total arrivals) begun.0 (suc t) begun.1 (omega arith) in
    ap word_sum (filter_map-same (λ i. accepted n (arrivals ++ more) i t) (λ i. accepted n arrivals i t) (range_with_len 0 n) (λ i there.
    let word = complete_accepted n arrivals t ended.0 i ended.1 (let b = below_range 0 n i there in omega arith) in
    accepted_kept n arrivals more i t word.0 word.1 ∙ sym word.1))

same_sums : (f g : ℕ → frame) (count a : ℕ) → ((t : ℕ) → t < a + count → f t ≡ g t) → map f (range_with_len a count) ≡ map g (range_with_len a count)
same_sums f g zero a same = refl
same_sums f g (suc count) a same =
    let first : f a ≡ g a = same a (omega arith) in
    let rest : map f (range_with_len (a + 1) count) ≡ map g (range_with_len (a + 1) count) = same_sums f g count (a + 1) (λ t low. same t (omega arith)) in
    ap (λ (x : frame). x ∷ map f (range_with_len (a + 1) count)) first ∙ ap (λ (xs : List frame). g a ∷ xs) rest

pub sums_stay : (n total : ℕ) (arrivals more : List Arrival) (rounds : ℕ) → rounds ≤ complete_rounds n total arrivals → sums_bytes n (arrivals ++ more) rounds ≡ sums_bytes n arrivals rounds
sums_stay n total arrivals more rounds low =
    ap frames_bytes (same_sums (λ t. all t (accepted_sum n (arrivals ++ more) t)) (λ t. all t (accepted_sum n arrivals t)) rounds 0
    (λ t lt. ap (all t) (sum_stays n total arrivals more t (omega arith))))

pub sums_more : (n : ℕ) (arrivals : List Arrival) (rounds : ℕ) → sums_bytes n arrivals (rounds + 1) ≡ sums_bytes n arrivals rounds ++ frame_bytes (all rounds (accepted_sum n arrivals rounds))
sums_more n arrivals rounds =
    let f : ℕ → frame = λ (t : ℕ). all t (accepted_sum n arrivals t) in
    let next : rounds + 1 ≡ suc rounds = omega arith in
    let place : 0 + rounds ≡ rounds = omega arith in
    ap (λ (k : ℕ). frames_bytes (map f (range_with_len 0 k))) next
    ∙ ap (λ (ts : List ℕ). frames_bytes (map f ts)) (range_push 0 rounds ∙ ap (λ (t : ℕ). range_with_len 0 rounds ++ t ∷ []) place)
    ∙ ap frames_bytes (map-append f (range_with_len 0 rounds) (rounds ∷ []))
    ∙ flat_map-append frame_bytes (map f (range_with_len 0 rounds)) (f rounds ∷ [])
    ∙ ap (λ (bs : List ℕ). sums_bytes n arrivals rounds ++ bs) (append-nil (frame_bytes (f rounds)))

-- ---- the start

pub no_rounds : (n total : ℕ) → 1 ≤ n → complete_rounds n total [] ≡ 0
no_rounds n total some = rounds_counted n total [] 0 0 (omega arith) (first_round n) (λ low. elim (none_or_some (round_start n [] 1)) [
  | inl none ↦ none
  | inr began ↦ absurd (let word = complete_accepted n [] 0 began.0 0 began.1 (omega arith) in none_some word.0 (accepted n [] 0 0) word.1 (none_accepted n 0 0))
])

-- every station has an accepted word in a round behind which another began
pub complete_words : (n total : ℕ) (arrivals : List Arrival) (c i : ℕ) → complete_rounds n total arrivals ≡ c + 1 → i < n → (w : List ℕ) × (accepted n arrivals i c ≡ Some w)
complete_words n total arrivals c i is low =
    let next : c + 1 ≡ suc c = omega arith in
    let begun = progress_began n total arrivals (suc c) (is ∙ next) in
    complete_accepted n arrivals c begun.0 i begun.1 low
