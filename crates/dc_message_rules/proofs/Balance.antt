-- After each round the log holds each message as often as it was sent.
use Rattle.std.proofs.Common.{◌≡◌, ℕ, ◌+◌, ◌<◌, ◌≤◌, ◌==◌, false, List, [], ◌∷◌, ◌++◌, length, map, get_or, slice_index, sum_by, All, Option, Some, None, refl, sym, ◌∙◌, ap, ap₂, subst, arith, length-append, eqb-true}
use Rattle.std.specs.List.{range_with_len}
use Rattle.std.proofs.lemmas.List.{length-map}
use Rattle.std.proofs.lemmas.List.Elements.{All-head, All-tail, All-drop, All-map, All-filter, filter_passes}
use Rattle.std.proofs.lemmas.List.FromFn.{get_or-range_with_len, length-range_with_len}
use Rattle.std.proofs.lemmas.List.Sums.{sum_by-append}
use Rattle.dc_spec.specs.Words.{word_sum}
use Rattle.dc_spec.specs.Entries.{Entry, IsMessage, Stream}
use Rattle.dc_spec.specs.Values.{IsValue}
use Rattle.dc_spec.proofs.Options.{some-inj}
use Rattle.dc_station_rules.specs.Bursts.{fragments}
use Rattle.dc_station_rules.specs.Epochs.{epoch_of, is_over}
use Rattle.dc_station_rules.specs.Cycles.{Cycle, History, granted, fields_left, opened, Place, place_in, place_among, history_of}
use Rattle.dc_station_rules.specs.Stations.{log_of, left_by, left_after, sent_of, word_for, plain_word}
use Rattle.dc_station_rules.proofs.StationSteps.{at_cycle, reserves}
use Rattle.dc_net_rules.specs.Bags.{Message, times_in, count_in}
use Rattle.dc_message_rules.specs.SentEpochs.{epoch_sum, AreSent}
use Rattle.dc_message_rules.specs.Sessions.{session_sum}
use Rattle.dc_message_rules.proofs.Tallies.{total-same, total-plus}
use Rattle.dc_message_rules.proofs.Markers.{HaveMessages, HasMarker, one-marker, mark_sum, mark_sum-symbol}
use Rattle.dc_message_rules.proofs.BurstWords.{burst_sum, some-fragment}
use Rattle.dc_message_rules.proofs.Firsts.{firsts, HaveValues, epoch-words}

-- streams of values and messages
pub record AreFit (streams : List Stream) : Type 0 where
  pub values : HaveValues streams
  pub messages : HaveMessages streams
  pub few : length streams ≤ 256

-- what is pending of streams before the begun cycle
abbrev pub all_pending : List Stream → List (List ℕ) → List Stream
all_pending streams words = map (λ (s : Stream). at_cycle s words) streams

fit-left : (s : Stream) (cycle : Cycle) → All IsValue s.shorts × All IsMessage s.longs → All IsValue (left_by s cycle).shorts × All IsMessage (left_by s cycle).longs
unfolding left_by
fit-left s cycle is = (All-drop IsValue _ s.shorts is.0, All-drop IsMessage _ s.longs is.1)

fit-after : (s : Stream) (cycles : List Cycle) → All IsValue s.shorts × All IsMessage s.longs → All IsValue (left_after s cycles).shorts × All IsMessage (left_after s cycles).longs
fit-after s [] is = is
fit-after s (cycle ∷ cycles) is = fit-after (left_by s cycle) cycles (fit-left s cycle is)

pub fit-before : (streams : List Stream) (before : List Cycle) → AreFit streams → AreFit (map (λ (s : Stream). left_after s before) streams)
fit-before streams before fit =
    let size = length-map streams (λ (s : Stream). left_after s before) in
    let most = fit.few in
    record {
      values = All-map (λ (s : Stream). All IsValue s.shorts) (λ (s : Stream). left_after s before) streams
          (λ k d within. (fit-after (get_or streams k d) before (fit.values k d within, fit.messages k d within)).0);
      messages = All-map (λ (s : Stream). All IsMessage s.longs) (λ (s : Stream). left_after s before) streams
          (λ k d within. (fit-after (get_or streams k d) before (fit.values k d within, fit.messages k d within)).1);
      few = omega arith;
    }

pub fit-pending : (streams : List Stream) (words : List (List ℕ)) → AreFit streams → AreFit (all_pending streams words)
fit-pending streams words fit = fit-before streams (history_of words).whole fit

-- what comes next in a cycle: the rest of the burst of a field that one station marked, or an epoch in progress
abbrev pub IsNext : List Stream → List ℕ → List (List ℕ) → Type 0
IsNext pending [] since = AreSent (firsts pending) since × (is_over (epoch_of since) ≡ false)
IsNext pending (field ∷ fields) since = (m : HasMarker field pending) × (next : List ℕ) × (more : List (List ℕ)) × (since ++ next ∷ more ≡ fragments m.message)

-- a begun cycle of stations with these streams pending
pub record CycleHolds (pending : List Stream) (cycle : Cycle) : Type 0 where
  pub markers : All (λ field. HasMarker field pending) (granted cycle.reservation)
  pub next : IsNext pending (fields_left cycle) cycle.since

-- no word sent yet
pub nothing-front : (front : List (List ℕ)) (word : List ℕ) (rest : List (List ℕ)) → [] ≡ front ++ word ∷ rest → ⊥
nothing-front front word rest is = let size = ap (λ (ws : List (List ℕ)). length ws) is ∙ length-append front (word ∷ rest) in absurd (omega arith)

none-over : is_over (epoch_of []) ≡ false
unfolding epoch_of
none-over = refl

pub next-starts : (pending : List Stream) (fields : List ℕ) → All (λ field. HasMarker field pending) fields → IsNext pending fields []
next-starts pending [] are = (λ front word rest is. absurd (nothing-front front word rest is), none-over)
next-starts pending (field ∷ fields) are =
    let m = All-head (λ f. HasMarker f pending) field fields are in
    let some = some-fragment m.message in
    (m, some.0, some.1, some.2)

-- each granted field has just one marker
range-low : (n : ℕ) → All (λ field. field < n) (range_with_len 0 n)
range-low n k d within = let size = length-range_with_len 0 n in let at = get_or-range_with_len 0 n k d (omega arith) in omega arith

granted-markers : (pending : List Stream) → AreFit pending → All (λ field. HasMarker field pending) (granted (mark_sum pending))
unfolding granted
granted-markers pending fit =
    let one = filter_passes (λ field. slice_index (mark_sum pending) field == 1) (range_with_len 0 16) in
    let low = All-filter (λ field. slice_index (mark_sum pending) field == 1) (λ field. field < 16) (range_with_len 0 16) (range-low 16) in
    λ k d within. one-marker _ pending fit.messages (sym (mark_sum-symbol pending fit.few _ (low k d within)) ∙ eqb-true _ 1 (one k d within))

-- a reservation
opened-holds : (pending : List Stream) → AreFit pending → CycleHolds pending (opened (mark_sum pending))
opened-holds pending fit = let markers = granted-markers pending fit in record { markers = markers; next = next-starts pending (granted (mark_sum pending)) markers }

-- the words at a place
pub place_sum : List Stream → Place → List ℕ
place_sum pending place = word_sum (map (λ (s : Stream). word_for s place) pending)

pub map-twice : {A B C : Type 0} (f : B → C) (g : A → B) (xs : List A) → map f (map g xs) ≡ map (λ x. f (g x)) xs
map-twice f g [] = refl
map-twice f g (x ∷ xs) = ap (λ ys. f (g x) ∷ ys) (map-twice f g xs)

pub session-place : (streams : List Stream) (words : List (List ℕ)) → session_sum streams words ≡ place_sum (all_pending streams words) (place_in (history_of words).begun)
unfolding plain_word place_sum
session-place streams words = ap word_sum (sym (map-twice (λ (s : Stream). word_for s (place_in (history_of words).begun)) (λ (s : Stream). at_cycle s words) streams))

pub reserved-sum : (pending : List Stream) → place_sum pending (place_in None) ≡ mark_sum pending
unfolding word_for place_sum
reserved-sum pending = refl

pub burst-place : (pending : List Stream) (cycle : Cycle) (field : ℕ) (fields : List ℕ) → fields_left cycle ≡ field ∷ fields
    → place_sum pending (place_in (Some cycle)) ≡ burst_sum pending field (length cycle.since)
unfolding word_for place_sum
burst-place pending cycle field fields left = ap (λ (fs : List ℕ). place_sum pending (place_among fs cycle.since)) left

pub epoch-place : (pending : List Stream) (cycle : Cycle) → fields_left cycle ≡ [] → place_sum pending (place_in (Some cycle)) ≡ epoch_sum (firsts pending) cycle.since
unfolding word_for place_sum
epoch-place pending cycle left = ap (λ (fs : List ℕ). place_sum pending (place_among fs cycle.since)) left ∙ epoch-words pending cycle.since

-- what holds after each round
pub record Balanced (streams : List Stream) (words : List (List ℕ)) : Type 0 where
  pub balance : (x : Message) → count_in x (log_of words) ≡ sum_by (λ (s : Stream). count_in x (sent_of s words)) streams
  pub cycle_holds : (cycle : Cycle) → (history_of words).begun ≡ Some cycle → CycleHolds (all_pending streams words) cycle

-- a stream, for what holds of all
pub no_stream : Stream
no_stream = record { shorts = []; longs = []; coins = [] }

-- the state of a history whose whole cycles stay
pub same-state : (streams : List Stream) (words after : List (List ℕ)) (cycle : Cycle) → history_of after ≡ record { whole = (history_of words).whole; begun = Some cycle }
    → CycleHolds (all_pending streams words) cycle
    → (other : Cycle) → (history_of after).begun ≡ Some other → CycleHolds (all_pending streams after) other
same-state streams words after cycle is holds other begun =
    let same : cycle ≡ other = some-inj (sym (ap (λ (h : History). h.begun) is) ∙ begun) in
    subst (λ (c : Cycle). CycleHolds (all_pending streams after) c) same
    (subst (λ (whole : List Cycle). CycleHolds (map (λ (s : Stream). left_after s whole) streams) cycle) (sym (ap (λ (h : History). h.whole) is)) holds)

-- where nothing is logged or sent
pub same-balance : (streams : List Stream) (words after : List (List ℕ)) → log_of after ≡ log_of words → ((s : Stream) → sent_of s after ≡ sent_of s words) → Balanced streams words → (x : Message)
    → count_in x (log_of after) ≡ sum_by (λ (s : Stream). count_in x (sent_of s after)) streams
same-balance streams words after log sent held x =
    ap (count_in x) log ∙ held.balance x ∙ sym (total-same (λ (s : Stream). count_in x (sent_of s after)) (λ (s : Stream). count_in x (sent_of s words)) streams
    (λ k d within. ap (count_in x) (sent (get_or streams k d))))

-- where something is
pub more-balance : (streams : List Stream) (words after : List (List ℕ)) (entries : List Entry) (more : Stream → List Entry) → log_of after ≡ log_of words ++ entries
    → ((s : Stream) → sent_of s after ≡ sent_of s words ++ more s) → Balanced streams words → (x : Message) → count_in x entries ≡ sum_by (λ (s : Stream). count_in x (more s)) streams
    → count_in x (log_of after) ≡ sum_by (λ (s : Stream). count_in x (sent_of s after)) streams
more-balance streams words after entries more log sent held x same =
    ap (count_in x) log ∙ sum_by-append (times_in x) (log_of words) entries ∙ ap₂ (λ a b. a + b) (held.balance x) same
    ∙ sym (total-same (λ (s : Stream). count_in x (sent_of s after)) (λ (s : Stream). count_in x (sent_of s words) + count_in x (more s)) streams
    (λ k d within. ap (count_in x) (sent (get_or streams k d)) ∙ sum_by-append (times_in x) (sent_of (get_or streams k d) words) (more (get_or streams k d)))
    ∙ total-plus (λ (s : Stream). count_in x (sent_of s words)) (λ (s : Stream). count_in x (more s)) streams)

-- a reservation word
pub reserve-step : (streams : List Stream) (words : List (List ℕ)) → AreFit streams → Balanced streams words → (history_of words).begun ≡ None
    → Balanced streams (words ++ session_sum streams words ∷ [])
reserve-step streams words fit held none =
    let word = session_sum streams words in
    let after = words ++ word ∷ [] in
    let pending = all_pending streams words in
    let all = reserves no_stream words word none in
    let is : word ≡ mark_sum pending = session-place streams words ∙ ap (λ (b : Option Cycle). place_sum pending (place_in b)) none ∙ reserved-sum pending in
    record {
      balance = same-balance streams words after all.log (λ s. (reserves s words word none).sent) held;
      cycle_holds = same-state streams words after (opened word) all.history (subst (λ (w : List ℕ). CycleHolds pending (opened w)) (sym is) (opened-holds pending (fit-pending streams words fit)));
    }

-- the markers of the fields after the next one
pub left-markers : (pending : List Stream) (cycle : Cycle) (field : ℕ) (fields : List ℕ) → fields_left cycle ≡ field ∷ fields → CycleHolds pending cycle → All (λ f. HasMarker f pending) fields
left-markers pending cycle field fields left holds = All-tail (λ f. HasMarker f pending) field fields
    (subst (λ (fs : List ℕ). All (λ f. HasMarker f pending) fs) left (All-drop (λ f. HasMarker f pending) (length cycle.bursts) (granted cycle.reservation) holds.markers))
