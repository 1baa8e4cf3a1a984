-- What a cycle logs and sends, and what one more burst or one more word of its epoch adds.
use Rattle.std.proofs.Common.{◌≡◌, ℕ, cond, List, [], ◌∷◌, ◌++◌, map, Option, Some, None, refl, sym, ap, ap₂, ◌∙◌, append-nil, append_assoc}
use Rattle.std.specs.List.{flat_map}
use Rattle.std.proofs.lemmas.Grind.{flat_map-append}
use Rattle.std.proofs.lemmas.List.{map-append}
use Rattle.dc_spec.specs.Entries.{Entry, short, long, Stream}
use Rattle.dc_station_rules.specs.Bursts.{burst_of, burst_faults, message_of}
use Rattle.dc_station_rules.specs.Epochs.{epoch_of, leaves}
use Rattle.dc_station_rules.specs.Cycles.{Cycle, fields_left, cycles, history_of, place_among, words_of_epoch, epoch_words, words_for}
use Rattle.dc_station_rules.specs.Stations.{burst_entries, leaf_entry, cycle_leaves, cycle_log, log_of, marked, gave_message, first_long, longs_sent, first_short, shorts_sent, left_by, left_after, sent_in, sent_over, sent_of}

-- a cycle has no epoch words before its bursts have ended
pub no-epoch_words : (cycle : Cycle) (field : ℕ) (fields : List ℕ) → fields_left cycle ≡ field ∷ fields → epoch_words cycle ≡ []
no-epoch_words cycle field fields left = ap (λ fs. words_of_epoch (place_among fs cycle.since)) left

-- nor where no word came since its last burst
pub no-words : (fields : List ℕ) → words_of_epoch (place_among fields []) ≡ []
no-words [] = refl
no-words (field ∷ fields) = refl

-- then no leaf came out, no value is sent, and its log has the messages alone
pub no-leaves : (cycle : Cycle) → epoch_words cycle ≡ [] → cycle_leaves cycle ≡ []
unfolding epoch_of
no-leaves cycle none = ap (λ ws. leaves (epoch_of ws)) none

first_short-none : (shorts : List (List ℕ)) → first_short shorts [] ≡ []
first_short-none [] = refl
first_short-none (value ∷ shorts) = refl

pub no-shorts : (stream : Stream) (cycle : Cycle) → epoch_words cycle ≡ [] → shorts_sent stream cycle ≡ []
unfolding shorts_sent
no-shorts stream cycle none = ap (first_short stream.shorts) (no-leaves cycle none) ∙ first_short-none stream.shorts

pub messages-log : (cycle : Cycle) → epoch_words cycle ≡ [] → cycle_log cycle ≡ flat_map burst_entries cycle.bursts
unfolding cycle_log
messages-log cycle none = ap (λ ls. flat_map burst_entries cycle.bursts ++ map leaf_entry ls) (no-leaves cycle none) ∙ append-nil _

-- the leaves of a cycle whose bursts have ended
pub epoch-leaves : (cycle : Cycle) → fields_left cycle ≡ [] → cycle_leaves cycle ≡ leaves (epoch_of cycle.since)
epoch-leaves cycle left = ap (λ fs. leaves (epoch_of (words_of_epoch (place_among fs cycle.since)))) left

-- the log of cycles, the last one apart
pub log-last : (words : List (List ℕ)) (whole : List Cycle) (cycle : Cycle) → cycles (history_of words) ≡ whole ++ cycle ∷ [] → log_of words ≡ flat_map cycle_log whole ++ cycle_log cycle
unfolding log_of
log-last words whole cycle is = ap (flat_map cycle_log) is ∙ flat_map-append cycle_log whole (cycle ∷ []) ∙ ap (λ es. flat_map cycle_log whole ++ es) (append-nil (cycle_log cycle))

-- what cycles send, the last one apart
sent_over-push : (stream : Stream) (whole : List Cycle) (cycle : Cycle) → sent_over stream (whole ++ cycle ∷ []) ≡ sent_over stream whole ++ sent_in (left_after stream whole) cycle
sent_over-push stream [] cycle = append-nil (sent_in stream cycle)
sent_over-push stream (c ∷ whole) cycle = ap (λ es. sent_in stream c ++ es) (sent_over-push (left_by stream c) whole cycle) ∙ sym (append_assoc (sent_in stream c) _ _)

pub sent-last : (stream : Stream) (words : List (List ℕ)) (whole : List Cycle) (cycle : Cycle) → cycles (history_of words) ≡ whole ++ cycle ∷ [] → sent_of stream words ≡ sent_over stream whole
    ++ sent_in (left_after stream whole) cycle
unfolding sent_of
sent-last stream words whole cycle is = ap (sent_over stream) is ∙ sent_over-push stream whole cycle

-- a last cycle with more entries
pub log-more : (words others : List (List ℕ)) (whole : List Cycle) (cycle next : Cycle) (more : List Entry) → cycles (history_of words) ≡ whole ++ cycle ∷ [] → cycles (history_of others) ≡ whole
    ++ next ∷ [] → cycle_log next ≡ cycle_log cycle ++ more → log_of others ≡ log_of words ++ more
log-more words others whole cycle next more is then_is e =
    log-last others whole next then_is
    ∙ ap (λ es. flat_map cycle_log whole ++ es) e
    ∙ sym (append_assoc (flat_map cycle_log whole) (cycle_log cycle) more)
    ∙ ap (λ es. es ++ more) (sym (log-last words whole cycle is))

pub sent-more : (stream : Stream) (words others : List (List ℕ)) (whole : List Cycle) (cycle next : Cycle) (more : List Entry) → cycles (history_of words) ≡ whole ++ cycle ∷ []
    → cycles (history_of others) ≡ whole ++ next ∷ []
    → sent_in (left_after stream whole) next ≡ sent_in (left_after stream whole) cycle ++ more → sent_of stream others ≡ sent_of stream words ++ more
sent-more stream words others whole cycle next more is then_is e =
    sent-last stream others whole next then_is
    ∙ ap (λ es. sent_over stream whole ++ es) e
    ∙ sym (append_assoc (sent_over stream whole) (sent_in (left_after stream whole) cycle) more)
    ∙ ap (λ es. es ++ more) (sym (sent-last stream words whole cycle is))

-- one more message sent, where no value is; one more value sent
pub sent-long : (stream : Stream) (cycle next : Cycle) (more : List (List ℕ)) → shorts_sent stream cycle ≡ [] → shorts_sent stream next ≡ [] → longs_sent stream next ≡ longs_sent stream cycle ++ more
    → sent_in stream next ≡ sent_in stream cycle ++ map long more
sent-long stream cycle next more none then_none e =
    ap₂ (λ longs shorts. map long longs ++ map (λ value. short value 1) shorts) e then_none
    ∙ append-nil _
    ∙ map-append long (longs_sent stream cycle) more
    ∙ ap (λ es. es ++ map long more) (sym (ap (λ shorts. map long (longs_sent stream cycle) ++ map (λ value. short value 1) shorts) none ∙ append-nil _))

pub sent-short : (stream : Stream) (cycle next : Cycle) (more : List (List ℕ)) → longs_sent stream next ≡ longs_sent stream cycle → shorts_sent stream next ≡ shorts_sent stream cycle ++ more
    → sent_in stream next ≡ sent_in stream cycle ++ map (λ value. short value 1) more
sent-short stream cycle next more same e =
    ap₂ (λ longs shorts. map long longs ++ map (λ value. short value 1) shorts) same e
    ∙ ap (λ es. map long (longs_sent stream cycle) ++ es) (map-append (λ value. short value 1) (shorts_sent stream cycle) more)
    ∙ sym (append_assoc (map long (longs_sent stream cycle)) (map (λ value. short value 1) (shorts_sent stream cycle)) _)

-- what a cycle sends of messages depends on its bursts alone
first_long-same : (longs : List (List ℕ)) (mark : Option ℕ) (cycle next : Cycle) → cycle.bursts ≡ next.bursts → first_long longs mark cycle ≡ first_long longs mark next
first_long-same [] mark cycle next same = refl
first_long-same (message ∷ longs) None cycle next same = refl
first_long-same (message ∷ longs) (Some field) cycle next same = ap (λ bursts. cond (gave_message message (message_of (burst_of (words_for field bursts)))) (message ∷ []) []) same

pub same-longs : (stream : Stream) (cycle next : Cycle) → cycle.bursts ≡ next.bursts → longs_sent stream cycle ≡ longs_sent stream next
unfolding longs_sent
same-longs stream cycle next same = first_long-same stream.longs (marked stream) cycle next same

-- a cycle with no burst sends no message
no_bursts : (longs : List (List ℕ)) (mark : Option ℕ) (cycle : Cycle) → cycle.bursts ≡ [] → first_long longs mark cycle ≡ []
unfolding burst_of burst_faults
no_bursts [] mark cycle none = refl
no_bursts (message ∷ longs) None cycle none = refl
no_bursts (message ∷ longs) (Some field) cycle none = ap (λ bursts. cond (gave_message message (message_of (burst_of (words_for field bursts)))) (message ∷ []) []) none

pub no-longs : (stream : Stream) (cycle : Cycle) → cycle.bursts ≡ [] → longs_sent stream cycle ≡ []
unfolding longs_sent
no-longs stream cycle none = no_bursts stream.longs (marked stream) cycle none
