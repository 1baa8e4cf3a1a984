-- What a word makes of a station that stands for the words before it.
use Rattle.std.proofs.Common.{◌≡◌, ℕ, ◌+◌, ◌<◌, ◌≤◌, Bool, true, false, ◌||◌, ◌&&◌, ◌==◌, if◌then◌else◌, List, [], ◌∷◌, ◌++◌, length, map, drop, Option, Some, None, refl, sym, ap, ap₂, ◌∙◌, subst, inl, inr, arith, length-append, append-nil}
use Rattle.std.specs.List.{list_any}
use Rattle.std.specs.Option.{option_to_list}
use Rattle.std.specs.Str.{bytes_eq}
use Rattle.std.specs.Cmp.Lexicographic.{same_text}
use Rattle.dc_spec.specs.Entries.{Stream, short, long}
use Rattle.dc_station_rules.specs.Bursts.{burst_of, has_ended, message_of}
use Rattle.dc_station_rules.specs.Epochs.{Leaf, epoch_of, leaves_at}
use Rattle.dc_station_rules.specs.Cycles.{Cycle, at_reservation, in_burst, in_epoch, place_in, opened, fields_left, words_for, history_of}
use Rattle.dc_station_rules.specs.Stations.{marked, gave_message, first_long, cycle_leaves, longs_sent, first_short, is_leaf_of, shorts_sent, left_by, left_after, sent_of, pending_of, plain_word, word_for, mark_word, burst_word, epoch_word}
use Rattle.dc_station_rules.proofs.CycleSteps.{no-shorts}
use Rattle.dc_station_rules.proofs.StationSteps.{at_cycle, since_then, with_ended, sent_by, unless_sent, reserves, burst_goes_on, burst_ends, epoch_takes, left_after-push, sents_fit}
use Rattle.dc_reserve.specs.StandsFor.{State as BurstState}
use Rattle.dc_average.specs.StandsFor.{State as EpochState, StandsFor as EpochStandsFor}
use Rattle.dc_station.specs.declared.phase.Phase.TheVariants.{Reserve, Burst, Epoch}
use Rattle.dc_station.specs.declared.reception.Reception.{Reception}
use Rattle.dc_station.specs.declared.reception.Effect.{Effect}
use Rattle.dc_station.specs.declared.reception.Effect.TheVariants.{Nothing, Message, Leaves}
use Rattle.dc_station.specs.declared.progress.Progress.{Progress}
use Rattle.dc_station.specs.Logs.{FitsRoom}
use Rattle.dc_station.specs.Receiving.{InBurst, InEpoch, InPhase, Receives, CompletesNoMessage, CompletesMessage, IsOfEpoch, IsEffectOf}
use Rattle.dc_station.specs.Sending.{left, one_if, if_any, is_any, is_mark, is_first, longs_of, shorts_of, SendsShort, less}
use Rattle.dc_station.specs.Hearing.{HearsMessage, HearsLeaves, Hears}
use Rattle.dc_station.specs.StandsFor.{AreSent, Sends}

-- a progress against a stream and received words
abbrev SendsFor : Progress → Stream → List (List ℕ) → Type 0
SendsFor progress stream words = Sends stream progress (at_cycle stream words) (history_of words).begun (sent_of stream words)

-- what is sent after a word fits in the room of as many words
sent_fits : (stream : Stream) (words : List (List ℕ)) (word : List ℕ) (room : ℕ) → length words < room → FitsRoom (sent_of stream (words ++ word ∷ [])) room
sent_fits stream words word room lt =
    let fit = sents_fit stream (words ++ word ∷ []) in
    let more : length (words ++ word ∷ []) ≡ length words + 1 = length-append words (word ∷ []) in
    record { few = omega (arith, fit.0); short = omega (arith, fit.1) }

-- a burst without a message sends none
none_either : (b : Bool) → ◌≡◌ {A = List (List ℕ)} (if b then [] else []) []
none_either true = refl
none_either false = refl

none_sent : (longs : List (List ℕ)) (mark : Option ℕ) (field : ℕ) → sent_by longs mark field None ≡ []
none_sent [] mark field = refl
none_sent (message ∷ longs) None field = refl
none_sent (message ∷ longs) (Some mark) field = none_either (mark == field)

-- a cycle sends one message at most, and one value at most
one_either : (b : Bool) (payload : List ℕ) → length (if_any b payload) ≤ 1
one_either true payload = omega arith
one_either false payload = omega arith

one_long : (longs : List (List ℕ)) (mark : Option ℕ) (cycle : Cycle) → length (first_long longs mark cycle) ≤ 1
one_long [] mark cycle = omega arith
one_long (message ∷ longs) None cycle = omega arith
one_long (message ∷ longs) (Some field) cycle = one_either (gave_message message (message_of (burst_of (words_for field cycle.bursts)))) message

few_longs : (stream : Stream) (cycle : Cycle) → length (longs_sent stream cycle) ≤ 1
unfolding longs_sent
few_longs stream cycle = one_long stream.longs (marked stream) cycle

one_short : (shorts : List (List ℕ)) (out : List Leaf) → length (first_short shorts out) ≤ 1
one_short [] out = omega arith
one_short (value ∷ shorts) out = one_either (list_any (is_leaf_of value) out) value

few_shorts : (stream : Stream) (cycle : Cycle) → length (shorts_sent stream cycle) ≤ 1
unfolding shorts_sent
few_shorts stream cycle = one_short stream.shorts (cycle_leaves cycle)

-- the message that a burst gave is sent where its field was marked and it is the first pending one
never_both : (b : Bool) (message : List ℕ) → [] ≡ if_any (b && false) message
never_both true message = refl
never_both false message = refl

both_so : (a b : Bool) (first message : List ℕ) → bytes_eq message first ≡ b → (if a then (if b then first ∷ [] else []) else []) ≡ if_any (a && b) message
both_so false b first message is = refl
both_so true false first message is = refl
both_so true true first message is = ap (λ m. m ∷ []) (sym (same_text message first (sym is)))

message_by : (longs : List (List ℕ)) (mark : Option ℕ) (field : ℕ) (message : List ℕ) → sent_by longs mark field (Some message) ≡ if_any (is_mark field mark && is_first message longs) message
message_by [] None field message = refl
message_by [] (Some mark) field message = never_both (mark == field) message
message_by (first ∷ longs) None field message = refl
message_by (first ∷ longs) (Some mark) field message = both_so (mark == field) (bytes_eq message first) first message refl

message_sent : (stream : Stream) (field : ℕ) (message : List ℕ) → sent_by stream.longs (marked stream) field (Some message) ≡ longs_of stream field message
message_sent stream field message = message_by stream.longs (marked stream) field message

-- one more is sent, where at most one is
count_any : (more : List (List ℕ)) → length more ≤ 1 → length more ≡ one_if (is_any more)
count_any [] few = refl
count_any (payload ∷ more) few = omega arith

count_sent : (flag : Bool) (old more all : List (List ℕ)) → length old ≡ one_if flag → all ≡ old ++ more → length all ≤ 1 → length all ≡ one_if (flag || is_any more)
count_sent true old more all counted is few = omega (arith, length-append old more, ap length is)
count_sent false old more all counted is few =
    let same : length all ≡ length more = omega (arith, length-append old more, ap length is) in
    same ∙ count_any more (omega arith)

-- where a value was sent in the cycle no other is
values_sent : (flag : Bool) (sent : List (List ℕ)) (stream : Stream) (out : List Leaf) → length sent ≡ one_if flag → unless_sent sent (first_short stream.shorts out) ≡ shorts_of flag stream out
values_sent true [] stream out counted = absurd (omega arith)
values_sent true (value ∷ sent) stream out counted = refl
values_sent false [] stream out counted = refl
values_sent false (value ∷ sent) stream out counted = absurd (omega arith)

-- no value is sent before the epoch
no_value : (stream : Stream) (cycle : Cycle) (field : ℕ) (fields : List ℕ) → fields_left cycle ≡ field ∷ fields → shorts_sent stream cycle ≡ []
no_value stream cycle field fields left = no-shorts stream cycle (rw left refl)

-- a progress against a history
sends_at : (progress : Progress) (stream : Stream) (words : List (List ℕ)) (whole : List Cycle) (begun : Option Cycle) → history_of words ≡ record { whole = whole; begun = begun }
    → left stream progress ≡ left_after stream whole → AreSent progress.short_sent progress.long_sent (left_after stream whole) begun → progress.log.entries ≡ sent_of stream words
    → SendsFor progress stream words
sends_at progress stream words whole begun history same sent log = rw history (record { remains = same; sent = sent; log = log })

-- what was sent in the begun cycle
sent_in : (progress : Progress) (stream : Stream) (words : List (List ℕ)) (begun : Option Cycle) → (history_of words).begun ≡ begun → SendsFor progress stream words
    → AreSent progress.short_sent progress.long_sent (at_cycle stream words) begun
sent_in progress stream words begun is sends = subst (λ b. AreSent progress.short_sent progress.long_sent (at_cycle stream words) b) is sends.sent

-- a reservation word
sends_reservation : (progress : Progress) (stream : Stream) (words : List (List ℕ)) (word : List ℕ) → (history_of words).begun ≡ None → SendsFor progress stream words
    → SendsFor progress stream (words ++ word ∷ [])
sends_reservation progress stream words word none sends =
    let step = reserves stream words word none in
    let flags = sent_in progress stream words None none sends in
    sends_at progress stream (words ++ word ∷ []) (history_of words).whole (Some (opened word)) step.history sends.remains (ap length step.no_short ∙ rw flags.0 refl, ap length step.no_long ∙ rw flags.1 refl) (sends.log ∙ sym step.sent)

-- a word of a burst that gives no message
sends_nothing_by : (going : Bool) (progress : Progress) (stream : Stream) (words : List (List ℕ)) (word : List ℕ) → (none : CompletesNoMessage words word)
    → has_ended (burst_of (none.cycle.since ++ word ∷ [])) ≡ going → SendsFor progress stream words → SendsFor progress stream (words ++ word ∷ [])
sends_nothing_by false progress stream words word none ended sends =
    let cycle = none.cycle in
    let pending = at_cycle stream words in
    let step = burst_goes_on stream words word cycle none.field none.fields none.is none.left ended in
    let flags = sent_in progress stream words (Some cycle) none.is sends in
    let shorts = ap length step.no_short ∙ (sym (ap length (no_value pending cycle none.field none.fields none.left)) ∙ flags.0) in
    sends_at progress stream (words ++ word ∷ []) (history_of words).whole (Some (since_then cycle (cycle.since ++ word ∷ []))) step.history sends.remains (shorts, ap length step.same_long ∙ flags.1) (sends.log ∙ sym step.sent)
sends_nothing_by true progress stream words word none ended sends =
    let cycle = none.cycle in
    let pending = at_cycle stream words in
    let step = burst_ends stream words word cycle none.field none.fields none.is none.left ended in
    let flags = sent_in progress stream words (Some cycle) none.is sends in
    let quiet : sent_by pending.longs (marked pending) none.field (message_of (burst_of (cycle.since ++ word ∷ []))) ≡ [] = rw none.none (none_sent pending.longs (marked pending) none.field) in
    let shorts = ap length step.no_short ∙ (sym (ap length (no_value pending cycle none.field none.fields none.left)) ∙ flags.0) in
    let longs = ap length (step.longs ∙ (ap (λ more. longs_sent pending cycle ++ more) quiet ∙ append-nil (longs_sent pending cycle))) ∙ flags.1 in
    let log = step.sent ∙ (ap (λ more. sent_of stream words ++ map long more) quiet ∙ append-nil (sent_of stream words)) in
    sends_at progress stream (words ++ word ∷ []) (history_of words).whole (Some (with_ended cycle none.field (cycle.since ++ word ∷ []))) step.history sends.remains (shorts, longs) (sends.log ∙ sym log)

-- a word after which the burst has a message
sends_message : (old new : Progress) (stream : Stream) (words : List (List ℕ)) (word : List ℕ) (field : ℕ) (reception : Reception) → length words < old.log.room
    → CompletesMessage field reception.burst words word → HearsMessage stream old field reception.burst new → SendsFor old stream words → SendsFor new stream (words ++ word ∷ [])
sends_message old new stream words word field reception left_room effect hears sends =
    let cycle = effect.cycle in
    let pending = at_cycle stream words in
    let step = burst_ends stream words word cycle field effect.fields effect.is effect.left (ap has_ended effect.gives) in
    let flags = sent_in old stream words (Some cycle) effect.is sends in
    let given = hears.given_is (cycle.since ++ word ∷ []) effect.message effect.stands effect.gives in
    let what : sent_by pending.longs (marked pending) field (message_of (burst_of (cycle.since ++ word ∷ []))) ≡ longs_of (left stream old) field hears.given =
    ap (λ got. sent_by pending.longs (marked pending) field got) (ap message_of effect.gives) ∙ (message_sent pending field effect.message ∙ ap₂ (λ s m. longs_of s field m) (sym sends.remains) (sym given)) in
    let all : old.log.entries ++ map long (longs_of (left stream old) field hears.given) ≡ sent_of stream (words ++ word ∷ []) = ap₂ (λ es more. es ++ map long more) sends.log (sym what) ∙ sym step.sent in
    let shorts = ap length step.no_short ∙ (sym (ap length (no_value pending cycle field effect.fields effect.left)) ∙ (flags.0 ∙ ap one_if (sym hears.sends.shorts))) in
    let longs = count_sent old.long_sent (longs_sent pending cycle) (longs_of (left stream old) field hears.given) (longs_sent pending (with_ended cycle field (cycle.since ++ word ∷ []))) flags.1 (step.longs ∙ ap (λ more. longs_sent pending cycle ++ more) what) (few_longs pending (with_ended cycle field (cycle.since ++ word ∷ []))) ∙ ap one_if (sym hears.sends.longs) in
    sends_at new stream (words ++ word ∷ []) (history_of words).whole (Some (with_ended cycle field (cycle.since ++ word ∷ []))) step.history (hears.sends.same ∙ sends.remains) (shorts, longs) (hears.sends.log (rw all (sent_fits stream words word old.log.room left_room)) ∙ all)

-- a cycle with one more word of its epoch
abbrev further : (words : List (List ℕ)) (word : List ℕ) (over : Bool) (out : List Leaf) → IsOfEpoch over out words word → Cycle
further words word over out effect = since_then effect.cycle (effect.cycle.since ++ word ∷ [])

-- leaves, before a cycle's end is looked at
sends_leaves : (old new : Progress) (stream : Stream) (words : List (List ℕ)) (word : List ℕ) (over : Bool) (out : List Leaf) → length words < old.log.room → (effect : IsOfEpoch over out words word)
    → SendsShort stream old (shorts_of old.short_sent (left stream old) out) new → SendsFor old stream words
    → Sends stream new (at_cycle stream words) (Some (further words word over out effect)) (sent_of stream (words ++ word ∷ []))
sends_leaves old new stream words word over out left_room effect sent sends =
    let cycle = effect.cycle in
    let pending = at_cycle stream words in
    let step = epoch_takes stream words word cycle effect.is effect.left in
    let flags = sent_in old stream words (Some cycle) effect.is sends in
    let what : unless_sent (shorts_sent pending cycle) (first_short pending.shorts (leaves_at cycle.since word)) ≡ shorts_of old.short_sent (left stream old) out =
    values_sent old.short_sent (shorts_sent pending cycle) pending (leaves_at cycle.since word) flags.0 ∙ ap₂ (λ s leaves. shorts_of old.short_sent s leaves) (sym sends.remains) (sym effect.leaves) in
    let all : old.log.entries ++ map (λ value. short value 1) (shorts_of old.short_sent (left stream old) out) ≡ sent_of stream (words ++ word ∷ []) = ap₂ (λ es more. es ++ map (λ value. short value 1) more) sends.log (sym what) ∙ sym step.sent in
    let shorts = count_sent old.short_sent (shorts_sent pending cycle) (shorts_of old.short_sent (left stream old) out) (shorts_sent pending (since_then cycle (cycle.since ++ word ∷ []))) flags.0 (step.shorts ∙ ap (λ more. shorts_sent pending cycle ++ more) what) (few_shorts pending (since_then cycle (cycle.since ++ word ∷ []))) ∙ ap one_if (sym sent.shorts) in
    record {
      remains = sent.same ∙ sends.remains;
      sent = (shorts, ap length step.same_long ∙ (flags.1 ∙ ap one_if (sym sent.longs)));
      log = sent.log (rw all (sent_fits stream words word old.log.room left_room)) ∙ all;
    }

-- what a cycle leaves, by what it sent
left_less : (short_sent long_sent : Bool) (stream : Stream) (cycle : Cycle) → AreSent short_sent long_sent stream (Some cycle) → left_by stream cycle ≡ less short_sent long_sent stream
unfolding left_by
left_less short_sent long_sent stream cycle sent = rw (sent.0, sent.1) refl

-- a word of an epoch
sends_epoch : (over : Bool) (old new : Progress) (stream : Stream) (words : List (List ℕ)) (word : List ℕ) (out : List Leaf) → length words < old.log.room → IsOfEpoch over out words word
    → HearsLeaves over stream old out new → SendsFor old stream words → SendsFor new stream (words ++ word ∷ [])
sends_epoch false old new stream words word out left_room effect hears sends =
    let step = epoch_takes stream words word effect.cycle effect.is effect.left in
    let goes = sends_leaves old new stream words word false out left_room effect hears sends in
    sends_at new stream (words ++ word ∷ []) (history_of words).whole (Some (further words word false out effect)) (step.history ∙ rw (← effect.ended) refl) goes.remains goes.sent goes.log
sends_epoch true old new stream words word out left_room effect hears sends =
    let cycle = further words word true out effect in
    let step = epoch_takes stream words word effect.cycle effect.is effect.left in
    let goes = sends_leaves old hears.before stream words word true out left_room effect hears.sends sends in
    let ends = hears.ends in
    let remains = ends.remains ∙ (ap (λ s. less hears.before.short_sent hears.before.long_sent s) goes.remains ∙ (sym (left_less hears.before.short_sent hears.before.long_sent (at_cycle stream words) cycle goes.sent) ∙ sym (left_after-push stream (history_of words).whole cycle))) in
    sends_at new stream (words ++ word ∷ []) ((history_of words).whole ++ cycle ∷ []) None (step.history ∙ rw (← effect.ended) refl) remains (ends.shorts, ends.longs) (ap (λ l. l.entries) ends.log ∙ goes.log)

-- a word, whatever its effect is
pub sends_more : (effect : Effect) (old new : Progress) (reception : Reception) (stream : Stream) (words : List (List ℕ)) (word : List ℕ) → length words < old.log.room
    → IsEffectOf effect reception words word → Hears effect stream old reception new → SendsFor old stream words → SendsFor new stream (words ++ word ∷ [])
sends_more Nothing old new reception stream words word left_room (inl none) hears sends = rw hears (sends_reservation old stream words word none sends)
sends_more Nothing old new reception stream words word left_room (inr none) hears sends = rw hears (sends_nothing_by (has_ended (burst_of (none.cycle.since ++ word ∷ []))) old stream words word none refl sends)
sends_more (Message field) old new reception stream words word left_room effect hears sends = sends_message old new stream words word field reception left_room effect hears sends
sends_more (Leaves over) old new reception stream words word left_room effect hears sends = sends_epoch over old new stream words word reception.leaves left_room effect hears sends

-- a progress of which nothing was sent
pub sends_none : (progress : Progress) (stream : Stream) → left stream progress ≡ stream → progress.short_sent ≡ false → progress.long_sent ≡ false → progress.log.entries ≡ []
    → SendsFor progress stream []
unfolding history_of sent_of
sends_none progress stream same no_short no_long none = record { remains = same; sent = (no_short, no_long); log = none }

-- how much is pending
pending_by : (stream : Stream) (whole : List Cycle) (begun : Option Cycle) (short_sent long_sent : Bool) → AreSent short_sent long_sent (left_after stream whole) begun
    → left_after stream (whole ++ option_to_list begun) ≡ record { shorts = drop (one_if short_sent) (left_after stream whole).shorts; longs = drop (one_if long_sent) (left_after stream whole).longs; coins = (left_after stream (whole ++ option_to_list begun)).coins }
pending_by stream whole None short_sent long_sent sent = rw (append-nil whole, sent.0, sent.1) refl
pending_by stream whole (Some cycle) short_sent long_sent sent = rw (left_after-push stream whole cycle, left_less short_sent long_sent (left_after stream whole) cycle sent) refl

pub pending_left : (progress : Progress) (stream : Stream) (words : List (List ℕ)) → SendsFor progress stream words
    → (drop (one_if progress.short_sent) (left stream progress).shorts ≡ (pending_of stream words).shorts) × (drop (one_if progress.long_sent) (left stream progress).longs ≡ (pending_of stream words).longs)
unfolding pending_of
pending_left progress stream words sends =
    let is = pending_by stream (history_of words).whole (history_of words).begun progress.short_sent progress.long_sent sends.sent in
    (ap (λ s. drop (one_if progress.short_sent) s.shorts) sends.remains ∙ sym (ap (λ s. s.shorts) is), ap (λ s. drop (one_if progress.long_sent) s.longs) sends.remains ∙ sym (ap (λ s. s.longs) is))

-- the word at a place is the plain word
plain_at : (progress : Progress) (stream : Stream) (words : List (List ℕ)) → SendsFor progress stream words
    → word_for (left stream progress) (place_in (history_of words).begun) ≡ plain_word stream words
unfolding plain_word
plain_at progress stream words sends = ap (λ s. word_for s (place_in (history_of words).begun)) sends.remains

-- the places of a burst and of an epoch under way
burst_place : (field index : ℕ) (flags : List Bool) (burst : BurstState) (begun : Option Cycle) → (at : InBurst field index flags burst begun) → place_in begun ≡ in_burst field at.cycle.since
burst_place field index flags burst begun at =
    let now : place_in (Some at.cycle) ≡ in_burst field at.cycle.since = rw at.left refl in
    ap place_in at.is ∙ now

epoch_place : (epoch : EpochState) (begun : Option Cycle) → (at : InEpoch epoch begun) → place_in begun ≡ in_epoch at.cycle.since
epoch_place epoch begun at =
    let now : place_in (Some at.cycle) ≡ in_epoch at.cycle.since = rw at.left refl in
    ap place_in at.is ∙ now

pub plain_reservation : (reception : Reception) (progress : Progress) (stream : Stream) (words : List (List ℕ)) → reception.phase ≡ Reserve → Receives reception words → SendsFor progress stream words
    → mark_word (marked (left stream progress)) ≡ plain_word stream words
unfolding word_for
plain_reservation reception progress stream words phase stands sends =
    let none = subst (λ p. InPhase p reception.granted reception.burst reception.epoch (history_of words).begun) phase stands.place in
    let place : place_in (history_of words).begun ≡ at_reservation = rw none refl in
    sym (ap (λ p. word_for (left stream progress) p) place) ∙ plain_at progress stream words sends

pub plain_burst : (reception : Reception) (progress : Progress) (stream : Stream) (words : List (List ℕ)) (field index : ℕ) → reception.phase ≡ Burst field index → Receives reception words
    → SendsFor progress stream words → burst_word (marked (left stream progress)) field (left stream progress).longs index ≡ plain_word stream words
unfolding word_for
plain_burst reception progress stream words field index phase stands sends =
    let burst = subst (λ p. InPhase p reception.granted reception.burst reception.epoch (history_of words).begun) phase stands.place in
    let place = burst_place field index reception.granted reception.burst (history_of words).begun burst in
    ap (λ i. burst_word (marked (left stream progress)) field (left stream progress).longs i) burst.counted ∙ (sym (ap (λ p. word_for (left stream progress) p) place) ∙ plain_at progress stream words sends)

pub plain_epoch : (reception : Reception) (progress : Progress) (stream : Stream) (words : List (List ℕ)) (word : List ℕ) → reception.phase ≡ Epoch
    → ((since : List (List ℕ)) → EpochStandsFor reception.epoch since → word ≡ epoch_word (left stream progress).shorts (epoch_of since)) → Receives reception words → SendsFor progress stream words
    → word ≡ plain_word stream words
unfolding word_for
plain_epoch reception progress stream words word phase is stands sends =
    let epoch = subst (λ p. InPhase p reception.granted reception.burst reception.epoch (history_of words).begun) phase stands.place in
    let place = epoch_place reception.epoch (history_of words).begun epoch in
    is epoch.cycle.since epoch.stands ∙ (sym (ap (λ p. word_for (left stream progress) p) place) ∙ plain_at progress stream words sends)
