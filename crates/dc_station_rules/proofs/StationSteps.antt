-- One more word: what it adds to a history, to a station's log, to what it sent, and to what is pending, by what the word is for.
use Rattle.std.proofs.Common.{◌≡◌, ℕ, ◌*◌, ◌≤◌, Bool, true, false, cond, ◌||◌, ◌==◌, List, [], ◌∷◌, ◌++◌, length, map, Option, Some, None, IfSome, option_map, option_to_list, if◌then◌else◌, refl, sym, ap, ap₂, ◌∙◌, subst, append-nil, append_assoc, eqb-true, eq-eqb, ne_eqb, true≢false}
use Rattle.std.specs.List.{flat_map, list_any}
use Rattle.std.proofs.lemmas.Grind.{flat_map-append}
use Rattle.std.proofs.lemmas.List.{map-append}
use Rattle.std.proofs.lemmas.List.Folds.{list_any-append}
use Rattle.dc_spec.specs.Entries.{short, long, Stream}
pub use Rattle.dc_spec.specs.Entries.{entry_bytes, bytes_in}
use Rattle.dc_station_rules.specs.Bursts.{burst_of, burst_faults, has_ended, message_of}
use Rattle.dc_station_rules.specs.Epochs.{Leaf, epoch_of, leaves_at, is_over}
use Rattle.dc_station_rules.specs.Cycles.{Cycle, granted, opened, fields_left, cycles, with_epoch, continued, next_history, with_next, history_of, epoch_words, words_for}
use Rattle.dc_station_rules.specs.Stations.{burst_entries, cycle_leaves, leaf_entry, cycle_log, log_of, marked, gave_message, first_long, longs_sent, is_leaf_of, first_short, shorts_sent, left_by, left_after, sent_over, sent_of}
use Rattle.dc_station_rules.specs.Grammar.{burst_fields, IsBegunCycle}
use Rattle.dc_station_rules.proofs.OneWay.{left_over, fewer_left, cycles_in_one_way}
use Rattle.dc_station_rules.proofs.Pushes.{history_of-push}
use Rattle.dc_station_rules.proofs.MoreLeaves.{leaves-push}
use Rattle.dc_station_rules.proofs.RisingFields.{Rises, granted-rise, words_for-none, words_for-push, words_for-other}
use Rattle.dc_station_rules.proofs.FewEntries.{log-fit, sent-fit}
use Rattle.dc_station_rules.proofs.CycleSteps.{no-epoch_words, no-words, no-shorts, no-longs, messages-log, epoch-leaves, log-last, sent-last, log-more, sent-more, sent-long, sent-short, same-longs}

-- what of a stream was pending when the begun cycle of a history began
abbrev pub at_cycle : Stream → List (List ℕ) → Stream
at_cycle stream words = left_after stream (history_of words).whole

-- a cycle with these words since its last burst
abbrev pub since_then : Cycle → List (List ℕ) → Cycle
since_then cycle words = record { reservation = cycle.reservation; bursts = cycle.bursts; since = words }

-- a cycle with one more ended burst
abbrev pub with_ended : Cycle → ℕ → List (List ℕ) → Cycle
with_ended cycle field words = record { reservation = cycle.reservation; bursts = cycle.bursts ++ (field, words) ∷ []; since = [] }

-- of these messages the first, where the burst of the field that was marked gave it; none or one
abbrev pub sent_by : List (List ℕ) → Option ℕ → ℕ → Option (List ℕ) → List (List ℕ)
sent_by [] mark field got = []
sent_by (message ∷ longs) None field got = []
sent_by (message ∷ longs) (Some mark) field got = if mark == field then (if gave_message message got then message ∷ [] else []) else []

-- none where there is one already
abbrev pub unless_sent : List (List ℕ) → List (List ℕ) → List (List ℕ)
unless_sent [] more = more
unless_sent (value ∷ sent) more = []

-- a begun cycle has these parts
begun-parts : (words : List (List ℕ)) (cycle : Cycle) → (history_of words).begun ≡ Some cycle → IsBegunCycle cycle
begun-parts words cycle begun = subst (λ (b : Option Cycle). IfSome b IsBegunCycle) begun (cycles_in_one_way words).is_history.begun

-- what a begun cycle has left are the granted fields after those of its bursts
granted-parts : (words : List (List ℕ)) (cycle : Cycle) → (history_of words).begun ≡ Some cycle → burst_fields cycle.bursts ++ fields_left cycle ≡ granted cycle.reservation
granted-parts words cycle begun =
    let parts = begun-parts words cycle begun in
    ap (λ left. burst_fields cycle.bursts ++ left) (left_over cycle.bursts (granted cycle.reservation) parts.left parts.fields) ∙ parts.fields

-- so the field of its next burst is none of theirs
next-rises : (words : List (List ℕ)) (cycle : Cycle) (field : ℕ) (fields : List ℕ) → (history_of words).begun ≡ Some cycle → fields_left cycle ≡ field ∷ fields → Rises 0 (burst_fields cycle.bursts
    ++ field ∷ fields)
next-rises words cycle field fields begun left =
    subst (Rises 0) (sym (granted-parts words cycle begun) ∙ ap (λ fs. burst_fields cycle.bursts ++ fs) left) (granted-rise cycle.reservation)

-- the history after one more word of a begun cycle
next-history : (words : List (List ℕ)) (word : List ℕ) (cycle : Cycle) (fields : List ℕ) → (history_of words).begun ≡ Some cycle → fields_left cycle ≡ fields → history_of (words ++ word ∷ [])
    ≡ continued (history_of words).whole cycle fields word
unfolding with_next
next-history words word cycle fields begun left =
    history_of-push words word
    ∙ ap (λ b. next_history (history_of words).whole b word) begun
    ∙ ap (λ fs. continued (history_of words).whole cycle fs word) left

-- the cycles of a history with a begun one
begun-cycles : (words : List (List ℕ)) (whole : List Cycle) (cycle : Cycle) → history_of words ≡ record { whole = whole; begun = Some cycle } → cycles (history_of words) ≡ whole ++ cycle ∷ []
begun-cycles words whole cycle is = ap cycles is

its-cycles : (words : List (List ℕ)) (cycle : Cycle) → (history_of words).begun ≡ Some cycle → cycles (history_of words) ≡ (history_of words).whole ++ cycle ∷ []
its-cycles words cycle begun = ap (λ b. (history_of words).whole ++ option_to_list b) begun

-- the log and what is sent where no cycle is begun
log-whole : (words : List (List ℕ)) → cycles (history_of words) ≡ (history_of words).whole → log_of words ≡ flat_map cycle_log (history_of words).whole
unfolding log_of
log-whole words same = ap (flat_map cycle_log) same

sent-whole : (stream : Stream) (words : List (List ℕ)) → cycles (history_of words) ≡ (history_of words).whole → sent_of stream words ≡ sent_over stream (history_of words).whole
unfolding sent_of
sent-whole stream words same = ap (sent_over stream) same

-- a reservation word begins a cycle, and nothing is logged or sent
pub record Reserves (stream : Stream) (words : List (List ℕ)) (word : List ℕ) : Type 0 where
  pub history : history_of (words ++ word ∷ []) ≡ record { whole = (history_of words).whole; begun = Some (opened word) }
  pub log : log_of (words ++ word ∷ []) ≡ log_of words
  pub sent : sent_of stream (words ++ word ∷ []) ≡ sent_of stream words
  pub no_long : longs_sent (at_cycle stream words) (opened word) ≡ []
  pub no_short : shorts_sent (at_cycle stream words) (opened word) ≡ []

pub reserves : (stream : Stream) (words : List (List ℕ)) (word : List ℕ) → (history_of words).begun ≡ None → Reserves stream words word
unfolding with_next
reserves stream words word none =
    let next : history_of (words ++ word ∷ []) ≡ record { whole = (history_of words).whole; begun = Some (opened word) } = history_of-push words word
    ∙ ap (λ b. next_history (history_of words).whole b word) none in
    let same : cycles (history_of words) ≡ (history_of words).whole = ap (λ b. (history_of words).whole ++ option_to_list b) none ∙ append-nil _ in
    let is = begun-cycles (words ++ word ∷ []) (history_of words).whole (opened word) next in
    let no_words : epoch_words (opened word) ≡ [] = no-words (fields_left (opened word)) in
    record {
      history = next;
      log = log-last (words ++ word ∷ []) (history_of words).whole (opened word) is ∙ ap (λ es. flat_map cycle_log (history_of words).whole ++ es) (messages-log (opened word) no_words) ∙ append-nil _
          ∙ sym (log-whole words same);
      sent = sent-last stream (words ++ word ∷ []) (history_of words).whole (opened word) is
          ∙ ap₂ (λ longs shorts. sent_over stream (history_of words).whole ++ (map long longs ++ map (λ value. short value 1) shorts)) (no-longs (at_cycle stream words) (opened word) refl)
          (no-shorts (at_cycle stream words) (opened word) no_words)
          ∙ append-nil _
          ∙ sym (sent-whole stream words same);
      no_long = no-longs (at_cycle stream words) (opened word) refl;
      no_short = no-shorts (at_cycle stream words) (opened word) no_words;
    }

-- a burst goes on, and nothing is logged or sent
pub record BurstGoesOn (stream : Stream) (words : List (List ℕ)) (word : List ℕ) (cycle : Cycle) : Type 0 where
  pub history : history_of (words ++ word ∷ []) ≡ record { whole = (history_of words).whole; begun = Some (since_then cycle (cycle.since ++ word ∷ [])) }
  pub log : log_of (words ++ word ∷ []) ≡ log_of words
  pub sent : sent_of stream (words ++ word ∷ []) ≡ sent_of stream words
  pub same_long : longs_sent (at_cycle stream words) (since_then cycle (cycle.since ++ word ∷ [])) ≡ longs_sent (at_cycle stream words) cycle
  pub no_short : shorts_sent (at_cycle stream words) (since_then cycle (cycle.since ++ word ∷ [])) ≡ []

pub burst_goes_on : (stream : Stream) (words : List (List ℕ)) (word : List ℕ) (cycle : Cycle) (field : ℕ) (fields : List ℕ) → (history_of words).begun ≡ Some cycle → fields_left cycle ≡ field
    ∷ fields → has_ended (burst_of (cycle.since ++ word ∷ [])) ≡ false → BurstGoesOn stream words word cycle
burst_goes_on stream words word cycle field fields begun left going =
    let whole : List Cycle = (history_of words).whole in
    let after : List (List ℕ) = cycle.since ++ word ∷ [] in
    let next : history_of (words ++ word ∷ []) ≡ record { whole = whole; begun = Some (since_then cycle after) } =
    next-history words word cycle (field ∷ fields) begun left ∙ ap (λ b. record { whole = whole; begun = Some (cond b (with_ended cycle field after) (since_then cycle after)) }) going in
    let was = its-cycles words cycle begun in
    let is = begun-cycles (words ++ word ∷ []) whole (since_then cycle after) next in
    let none : epoch_words cycle ≡ [] = no-epoch_words cycle field fields left in
    let still : epoch_words (since_then cycle after) ≡ [] = no-epoch_words (since_then cycle after) field fields left in
    let longs = sym (same-longs (at_cycle stream words) cycle (since_then cycle after) refl) in
    record {
      history = next;
      log = log-more words (words ++ word ∷ []) whole cycle (since_then cycle after) [] was is (messages-log (since_then cycle after) still ∙ sym (messages-log cycle none) ∙ sym (append-nil _))
          ∙ append-nil _;
      sent = sent-more stream words (words ++ word ∷ []) whole cycle (since_then cycle after) [] was is
          (sent-long (at_cycle stream words) cycle (since_then cycle after) [] (no-shorts (at_cycle stream words) cycle none) (no-shorts (at_cycle stream words) (since_then cycle after) still) (longs
          ∙ sym (append-nil _))) ∙ append-nil _;
      same_long = longs;
      no_short = no-shorts (at_cycle stream words) (since_then cycle after) still;
    }

-- the message of a burst, as entries and as messages
message-entries : (o : Option (List ℕ)) → option_to_list (option_map long o) ≡ map long (option_to_list o)
message-entries None = refl
message-entries (Some message) = refl

-- a message, where the burst of these words gave it
abbrev given : List ℕ → List (List ℕ) → List (List ℕ)
given message words = if gave_message message (message_of (burst_of words)) then message ∷ [] else []

-- what a cycle sends of messages once a burst has ended
ended-long : (longs : List (List ℕ)) (mark : Option ℕ) (cycle : Cycle) (field : ℕ) (words : List (List ℕ)) (fields : List ℕ) → Rises 0 (burst_fields cycle.bursts ++ field ∷ fields)
    → first_long longs mark (with_ended cycle field words) ≡ first_long longs mark cycle ++ sent_by longs mark field (message_of (burst_of words))
unfolding burst_of burst_faults
ended-long [] mark cycle field words fields rises = refl
ended-long (message ∷ longs) None cycle field words fields rises = refl
ended-long (message ∷ longs) (Some mark) cycle field words fields rises = by_field (mark == field) refl
  where
    by_field : (b : Bool) → (mark == field) ≡ b → given message (words_for mark (cycle.bursts ++ (field, words) ∷ [])) ≡ given message (words_for mark cycle.bursts) ++ cond b (given message words) []
    by_field true same = let is : field ≡ mark = sym (eqb-true _ _ same) in
        ap (given message) (ap (λ f. words_for f (cycle.bursts ++ (field, words) ∷ [])) (sym is) ∙ words_for-push cycle.bursts field words fields 0 rises)
        ∙ ap (λ ms. ms ++ given message words) (sym (ap (given message) (ap (λ f. words_for f cycle.bursts) (sym is) ∙ words_for-none cycle.bursts field fields 0 rises)))
    by_field false other = ap (given message) (words_for-other cycle.bursts mark field words (ne_eqb field mark (λ e. true≢false (sym (eq-eqb mark field (sym e)) ∙ other)))) ∙ sym (append-nil _)

-- a burst ends: its message is logged, and sent where it is the station's
pub record BurstEnds (stream : Stream) (words : List (List ℕ)) (word : List ℕ) (cycle : Cycle) (field : ℕ) (fields : List ℕ) : Type 0 where
  pub history : history_of (words ++ word ∷ []) ≡ record { whole = (history_of words).whole; begun = Some (with_ended cycle field (cycle.since ++ word ∷ [])) }
  pub left : fields_left (with_ended cycle field (cycle.since ++ word ∷ [])) ≡ fields
  pub log : log_of (words ++ word ∷ []) ≡ log_of words ++ map long (option_to_list (message_of (burst_of (cycle.since ++ word ∷ []))))
  pub sent : sent_of stream (words ++ word ∷ []) ≡ sent_of stream words ++ map long (sent_by (at_cycle stream words).longs (marked (at_cycle stream words)) field
      (message_of (burst_of (cycle.since ++ word ∷ []))))
  pub longs : longs_sent (at_cycle stream words) (with_ended cycle field (cycle.since ++ word ∷ [])) ≡ longs_sent (at_cycle stream words) cycle ++ sent_by (at_cycle stream words).longs
      (marked (at_cycle stream words)) field (message_of (burst_of (cycle.since ++ word ∷ [])))
  pub no_short : shorts_sent (at_cycle stream words) (with_ended cycle field (cycle.since ++ word ∷ [])) ≡ []

pub burst_ends : (stream : Stream) (words : List (List ℕ)) (word : List ℕ) (cycle : Cycle) (field : ℕ) (fields : List ℕ) → (history_of words).begun ≡ Some cycle → fields_left cycle ≡ field ∷ fields
    → has_ended (burst_of (cycle.since ++ word ∷ [])) ≡ true → BurstEnds stream words word cycle field fields
unfolding longs_sent
burst_ends stream words word cycle field fields begun left ended =
    let whole : List Cycle = (history_of words).whole in
    let after : List (List ℕ) = cycle.since ++ word ∷ [] in
    let next : history_of (words ++ word ∷ []) ≡ record { whole = whole; begun = Some (with_ended cycle field after) } =
    next-history words word cycle (field ∷ fields) begun left ∙ ap (λ b. record { whole = whole; begun = Some (cond b (with_ended cycle field after) (since_then cycle after)) }) ended in
    let was = its-cycles words cycle begun in
    let is = begun-cycles (words ++ word ∷ []) whole (with_ended cycle field after) next in
    let none : epoch_words cycle ≡ [] = no-epoch_words cycle field fields left in
    let still : epoch_words (with_ended cycle field after) ≡ [] = no-words (fields_left (with_ended cycle field after)) in
    let got = message_of (burst_of after) in
    let longs = ended-long (at_cycle stream words).longs (marked (at_cycle stream words)) cycle field after fields (next-rises words cycle field fields begun left) in
    record {
      history = next;
      left = fewer_left cycle.bursts (field, after) (granted cycle.reservation) fields left;
      log = log-more words (words ++ word ∷ []) whole cycle (with_ended cycle field after) (map long (option_to_list got)) was is
          (messages-log (with_ended cycle field after) still ∙ flat_map-append burst_entries cycle.bursts ((field, after) ∷ []) ∙ ap₂ (λ es more. es ++ more) (sym (messages-log cycle none))
          (append-nil _ ∙ message-entries got));
      sent = sent-more stream words (words ++ word ∷ []) whole cycle (with_ended cycle field after) _ was is
          (sent-long (at_cycle stream words) cycle (with_ended cycle field after) _ (no-shorts (at_cycle stream words) cycle none) (no-shorts (at_cycle stream words)
          (with_ended cycle field after) still) longs);
      longs = longs;
      no_short = no-shorts (at_cycle stream words) (with_ended cycle field after) still;
    }

-- the first value, among leaves and more of them
first_short-append : (shorts : List (List ℕ)) (out more : List Leaf) → first_short shorts (out ++ more) ≡ first_short shorts out ++ unless_sent (first_short shorts out) (first_short shorts more)
first_short-append [] out more = refl
first_short-append (value ∷ shorts) out more =
    ap (λ b. cond b (value ∷ []) []) (list_any-append (is_leaf_of value) out more) ∙ by_tests (list_any (is_leaf_of value) out) (list_any (is_leaf_of value) more)
  where
    by_tests : (a b : Bool) → cond (a || b) (value ∷ []) [] ≡ cond a (value ∷ []) [] ++ unless_sent (cond a (value ∷ []) []) (cond b (value ∷ []) [])
    by_tests true b = refl
    by_tests false b = refl

-- the cycles after a word of an epoch, which may be its last
epoch-cycles : (whole : List Cycle) (cycle : Cycle) (words : List (List ℕ)) → cycles (with_epoch whole cycle words) ≡ whole ++ since_then cycle words ∷ []
epoch-cycles whole cycle words = by_end (is_over (epoch_of words))
  where
    by_end : (b : Bool) → cycles (cond b (record { whole = whole ++ since_then cycle words ∷ []; begun = None }) (record { whole = whole; begun = Some (since_then cycle words) })) ≡ whole
        ++ since_then cycle words ∷ []
    by_end true = append-nil _
    by_end false = refl

-- a word of an epoch: the leaves that come out are logged, and the station's value is sent where a leaf of it is among them
pub record EpochTakes (stream : Stream) (words : List (List ℕ)) (word : List ℕ) (cycle : Cycle) : Type 0 where
  pub history : history_of (words ++ word ∷ []) ≡ with_epoch (history_of words).whole cycle (cycle.since ++ word ∷ [])
  pub log : log_of (words ++ word ∷ []) ≡ log_of words ++ map leaf_entry (leaves_at cycle.since word)
  pub sent : sent_of stream (words ++ word ∷ []) ≡ sent_of stream words ++ map (λ value. short value 1) (unless_sent (shorts_sent (at_cycle stream words) cycle)
      (first_short (at_cycle stream words).shorts (leaves_at cycle.since word)))
  pub same_long : longs_sent (at_cycle stream words) (since_then cycle (cycle.since ++ word ∷ [])) ≡ longs_sent (at_cycle stream words) cycle
  pub shorts : shorts_sent (at_cycle stream words) (since_then cycle (cycle.since ++ word ∷ [])) ≡ shorts_sent (at_cycle stream words) cycle ++ unless_sent (shorts_sent (at_cycle stream words) cycle)
      (first_short (at_cycle stream words).shorts (leaves_at cycle.since word))

pub epoch_takes : (stream : Stream) (words : List (List ℕ)) (word : List ℕ) (cycle : Cycle) → (history_of words).begun ≡ Some cycle → fields_left cycle ≡ [] → EpochTakes stream words word cycle
unfolding cycle_log shorts_sent
epoch_takes stream words word cycle begun left =
    let whole : List Cycle = (history_of words).whole in
    let after : List (List ℕ) = cycle.since ++ word ∷ [] in
    let pending : Stream = at_cycle stream words in
    let next = next-history words word cycle [] begun left in
    let was = its-cycles words cycle begun in
    let is : cycles (history_of (words ++ word ∷ [])) ≡ whole ++ since_then cycle after ∷ [] = ap cycles next ∙ epoch-cycles whole cycle after in
    let longs = sym (same-longs pending cycle (since_then cycle after) refl) in
    let out : cycle_leaves (since_then cycle after) ≡ cycle_leaves cycle ++ leaves_at cycle.since word =
    epoch-leaves (since_then cycle after) left ∙ leaves-push cycle.since word ∙ ap (λ ls. ls ++ leaves_at cycle.since word) (sym (epoch-leaves cycle left)) in
    let shorts = ap (first_short pending.shorts) out ∙ first_short-append pending.shorts (cycle_leaves cycle) (leaves_at cycle.since word) in
    record {
      history = next;
      log = log-more words (words ++ word ∷ []) whole cycle (since_then cycle after) (map leaf_entry (leaves_at cycle.since word)) was is
          (ap (λ ls. flat_map burst_entries cycle.bursts ++ map leaf_entry ls) out
          ∙ ap (λ es. flat_map burst_entries cycle.bursts ++ es) (map-append leaf_entry (cycle_leaves cycle) (leaves_at cycle.since word))
          ∙ sym (append_assoc (flat_map burst_entries cycle.bursts) (map leaf_entry (cycle_leaves cycle)) _));
      sent = sent-more stream words (words ++ word ∷ []) whole cycle (since_then cycle after) _ was is (sent-short pending cycle (since_then cycle after) _ longs shorts);
      same_long = longs;
      shorts = shorts;
    }

-- one more whole cycle leaves less pending
pub left_after-push : (stream : Stream) (cycles : List Cycle) (cycle : Cycle) → left_after stream (cycles ++ cycle ∷ []) ≡ left_by (left_after stream cycles) cycle
left_after-push stream [] cycle = refl
left_after-push stream (c ∷ cycles) cycle = left_after-push (left_by stream c) cycles cycle

-- after so many words a log has at most as many entries, and at most fifteen bytes a word
pub logs_fit : (words : List (List ℕ)) → (length (log_of words) ≤ length words) × (bytes_in (log_of words) ≤ 15 * length words)
logs_fit words = log-fit words

-- and so has the list of sent entries
pub sents_fit : (stream : Stream) (words : List (List ℕ)) → (length (sent_of stream words) ≤ length words) × (bytes_in (sent_of stream words) ≤ 15 * length words)
sents_fit stream words = sent-fit stream words
