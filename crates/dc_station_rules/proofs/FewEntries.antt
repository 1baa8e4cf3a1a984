-- A station's log and what it sent have at most one entry and fifteen bytes for each received word.
use Rattle.std.proofs.Common.{◌≡◌, ℕ, ◌+◌, ◌*◌, ◌≤◌, Bool, true, false, cond, ◌||◌, ◌==◌, List, [], ◌∷◌, ◌++◌, length, map, Option, Some, None, option_map, option_to_list, refl, sym, ap, ◌∙◌, subst, arith, length-append, true≢false}
use Rattle.std.specs.List.{flat_map, list_any}
use Rattle.std.proofs.lemmas.Slice.Eq.{bytes_eq-Decides}
use Rattle.std.proofs.lemmas.Bool.{and_parts}
use Rattle.dc_spec.specs.Entries.{Entry, short, long, Stream, bytes_in}
use Rattle.dc_station_rules.specs.Bursts.{Burst, goes_on, gave, void_burst, burst_of, message_of}
use Rattle.dc_station_rules.specs.Epochs.{Leaf}
use Rattle.dc_station_rules.specs.Cycles.{Cycle, fields_left, burst_words, cycle_words, cycles, history_of, place_among, words_of_epoch, epoch_words, words_for}
use Rattle.dc_station_rules.specs.Stations.{burst_entries, leaf_entry, cycle_leaves, cycle_log, log_of, marked, gave_message, first_long, longs_sent, is_leaf_of, first_short, shorts_sent, left_by, sent_in, sent_over, sent_of}
use Rattle.dc_station_rules.specs.Laws.{HaveRoom}
use Rattle.dc_station_rules.proofs.FewLeaves.{leaves_are_few}
use Rattle.dc_station_rules.proofs.LeafValues.{HaveFifteen, leaves-fifteen}
use Rattle.dc_station_rules.proofs.MessageBursts.{short_message}
use Rattle.dc_station_rules.proofs.OneWay.{cycles_in_one_way}

pub bytes_in-append : (xs ys : List Entry) → bytes_in (xs ++ ys) ≡ bytes_in xs + bytes_in ys
bytes_in-append [] ys = omega arith
bytes_in-append (x ∷ xs) ys = omega (arith, bytes_in-append xs ys)

fit-append : (xs ys : List Entry) (a b : ℕ) → HaveRoom xs a → HaveRoom ys b → HaveRoom (xs ++ ys) (a + b)
fit-append xs ys a b first second =
    let few : length xs ≤ a = first.0 in let less : bytes_in xs ≤ 15 * a = first.1 in
    let others : length ys ≤ b = second.0 in let more : bytes_in ys ≤ 15 * b = second.1 in
    (omega (arith, length-append xs ys), omega (arith, bytes_in-append xs ys))

fit-more : (xs : List Entry) (a b : ℕ) → HaveRoom xs a → a ≤ b → HaveRoom xs b
fit-more xs a b fit le = let few : length xs ≤ a = fit.0 in let less : bytes_in xs ≤ 15 * a = fit.1 in (omega arith, omega arith)

fit-none : (count : ℕ) → HaveRoom [] count
fit-none count = (omega arith, omega arith)

-- one message, and one value
fit-long : (message : List ℕ) (words : List (List ℕ)) → burst_of words ≡ gave message → HaveRoom (long message ∷ []) (length words)
fit-long message words is = let short : length message + 2 ≤ 15 * length words = short_message words message is in (omega arith, omega arith)

fit-short : (value : List ℕ) (count : ℕ) → length value ≡ 15 → 1 ≤ count → HaveRoom (short value 1 ∷ []) count
fit-short value count fifteen some = (omega arith, omega arith)

-- the messages of bursts
burst-fit : (b : ℕ × List (List ℕ)) → HaveRoom (burst_entries b) (length b.1)
burst-fit b = by_burst (burst_of b.1) refl
  where
    by_burst : (o : Burst) → burst_of b.1 ≡ o → HaveRoom (option_to_list (option_map long (message_of o))) (length b.1)
    by_burst goes_on is = fit-none (length b.1)
    by_burst (gave message) is = fit-long message b.1 is
    by_burst (void_burst fault) is = fit-none (length b.1)

bursts-fit : (bursts : List (ℕ × List (List ℕ))) → HaveRoom (flat_map burst_entries bursts) (length (burst_words bursts))
bursts-fit [] = fit-none 0
bursts-fit (b ∷ bursts) =
    subst (HaveRoom (flat_map burst_entries (b ∷ bursts))) (sym (length-append b.1 (burst_words bursts))) (fit-append (burst_entries b) (flat_map burst_entries bursts) (length b.1)
    (length (burst_words bursts)) (burst-fit b) (bursts-fit bursts))

-- leaves
leaves-fit : (out : List Leaf) → HaveFifteen out → HaveRoom (map leaf_entry out) (length out)
leaves-fit [] are = fit-none 0
leaves-fit (leaf ∷ out) are =
    let fit = leaves-fit out are.1 in let few : length (map leaf_entry out) ≤ length out = fit.0 in let less : bytes_in (map leaf_entry out) ≤ 15 * length out = fit.1 in
    let fifteen : length leaf.value ≡ 15 = are.0 in
    (omega arith, omega arith)

-- a cycle's leaves are at most as many as its last words
few-words : (fields : List ℕ) (words : List (List ℕ)) → length (words_of_epoch (place_among fields words)) ≤ length words
few-words [] words = omega arith
few-words (field ∷ fields) words = omega arith

few-leaves : (cycle : Cycle) → length (cycle_leaves cycle) ≤ length cycle.since
few-leaves cycle =
    let few : length (cycle_leaves cycle) ≤ length (epoch_words cycle) = leaves_are_few (epoch_words cycle) in
    let less : length (epoch_words cycle) ≤ length cycle.since = few-words (fields_left cycle) cycle.since in
    omega arith

-- a cycle's words are those of its bursts, those since, and one
cycle-size : (cycle : Cycle) → length (burst_words cycle.bursts) + length cycle.since ≤ length (cycle_words cycle)
cycle-size cycle = omega (arith, length-append (burst_words cycle.bursts) cycle.since)

-- its messages, or one of them, and its leaves, or one of them, have room
both-fit : (cycle : Cycle) (messages values : List Entry) → HaveRoom messages (length (burst_words cycle.bursts)) → HaveRoom values (length cycle.since) → HaveRoom (messages ++ values)
    (length (cycle_words cycle))
both-fit cycle messages values first second = fit-more (messages ++ values) _ _ (fit-append messages values _ _ first second) (cycle-size cycle)

cycle-fit : (cycle : Cycle) → HaveRoom (cycle_log cycle) (length (cycle_words cycle))
unfolding cycle_log
cycle-fit cycle = both-fit cycle _ _ (bursts-fit cycle.bursts) (fit-more (map leaf_entry (cycle_leaves cycle)) _ _ (leaves-fit (cycle_leaves cycle) (leaves-fifteen (epoch_words cycle)))
    (few-leaves cycle))

cycles-fit : (cs : List Cycle) → HaveRoom (flat_map cycle_log cs) (length (flat_map cycle_words cs))
cycles-fit [] = fit-none 0
cycles-fit (c ∷ cs) =
    subst (HaveRoom (flat_map cycle_log (c ∷ cs))) (sym (length-append (cycle_words c) (flat_map cycle_words cs))) (fit-append (cycle_log c) (flat_map cycle_log cs) (length (cycle_words c))
    (length (flat_map cycle_words cs)) (cycle-fit c) (cycles-fit cs))

-- the log
pub log-fit : (words : List (List ℕ)) → HaveRoom (log_of words) (length words)
unfolding log_of
log-fit words = subst (λ ws. HaveRoom (log_of words) (length ws)) (cycles_in_one_way words).spells (cycles-fit (cycles (history_of words)))

-- the message that a burst gave
given-burst : (message : List ℕ) (words : List (List ℕ)) → gave_message message (message_of (burst_of words)) ≡ true → burst_of words ≡ gave message
given-burst message words given = by_burst (burst_of words) refl given
  where
    by_burst : (o : Burst) → burst_of words ≡ o → gave_message message (message_of o) ≡ true → burst_of words ≡ gave message
    by_burst goes_on is e = absurd (true≢false (sym e))
    by_burst (void_burst fault) is e = absurd (true≢false (sym e))
    by_burst (gave got) is e = is ∙ ap gave ((bytes_eq-Decides got message).0 e)

-- the words of one burst are among those of all
few-words_for : (field : ℕ) (bursts : List (ℕ × List (List ℕ))) → length (words_for field bursts) ≤ length (burst_words bursts)
few-words_for field [] = omega arith
few-words_for field (b ∷ bursts) = by_test (b.0 == field) (few-words_for field bursts) (length-append b.1 (burst_words bursts))
  where
    by_test : (test : Bool) → length (words_for field bursts) ≤ length (burst_words bursts) → length (b.1 ++ burst_words bursts) ≡ length b.1 + length (burst_words bursts)
        → length (cond test b.1 (words_for field bursts)) ≤ length (b.1 ++ burst_words bursts)
    by_test true le size = omega arith
    by_test false le size = omega arith

-- the message that a cycle sends
long-fit : (longs : List (List ℕ)) (mark : Option ℕ) (cycle : Cycle) → HaveRoom (map long (first_long longs mark cycle)) (length (burst_words cycle.bursts))
long-fit [] mark cycle = fit-none _
long-fit (message ∷ longs) None cycle = fit-none _
long-fit (message ∷ longs) (Some field) cycle = by_test (gave_message message (message_of (burst_of (words_for field cycle.bursts)))) refl
  where
    by_test : (b : Bool) → gave_message message (message_of (burst_of (words_for field cycle.bursts))) ≡ b → HaveRoom (map long (cond b (message ∷ []) [])) (length (burst_words cycle.bursts))
    by_test true given = fit-more (long message ∷ []) _ _ (fit-long message (words_for field cycle.bursts) (given-burst message (words_for field cycle.bursts) given))
        (few-words_for field cycle.bursts)
    by_test false given = fit-none _

-- a value that a leaf is has fifteen bytes, and there is a leaf
found-fifteen : (value : List ℕ) (out : List Leaf) → HaveFifteen out → list_any (is_leaf_of value) out ≡ true → (length value ≡ 15) × (1 ≤ length out)
found-fifteen value [] are found = absurd (true≢false (sym found))
found-fifteen value (leaf ∷ out) are found = by_test (is_leaf_of value leaf) refl (λ e. (found-fifteen value out are.1 e).0) found
  where
    by_test : (b : Bool) → is_leaf_of value leaf ≡ b → (list_any (is_leaf_of value) out ≡ true → length value ≡ 15) → (b || list_any (is_leaf_of value) out) ≡ true → (length value ≡ 15)
        × (1 ≤ length (leaf ∷ out))
    by_test true is later e = (ap length (sym ((bytes_eq-Decides leaf.value value).0 (and_parts _ _ (and_parts _ _ is).0).0)) ∙ are.0, omega arith)
    by_test false is later e = (later e, omega arith)

-- the value that a cycle sends
short-fit : (shorts : List (List ℕ)) (cycle : Cycle) → HaveRoom (map (λ value. short value 1) (first_short shorts (cycle_leaves cycle))) (length cycle.since)
short-fit [] cycle = fit-none _
short-fit (value ∷ shorts) cycle = by_test (list_any (is_leaf_of value) (cycle_leaves cycle)) refl
  where
    by_test : (b : Bool) → list_any (is_leaf_of value) (cycle_leaves cycle) ≡ b → HaveRoom (map (λ value. short value 1) (cond b (value ∷ []) [])) (length cycle.since)
    by_test true found =
        let is = found-fifteen value (cycle_leaves cycle) (leaves-fifteen (epoch_words cycle)) found in
        let some : 1 ≤ length (cycle_leaves cycle) = is.1 in
        fit-short value (length cycle.since) is.0 (omega (arith, few-leaves cycle))
    by_test false found = fit-none _

sent_in-fit : (stream : Stream) (cycle : Cycle) → HaveRoom (sent_in stream cycle) (length (cycle_words cycle))
unfolding longs_sent shorts_sent
sent_in-fit stream cycle = both-fit cycle _ _ (long-fit stream.longs (marked stream) cycle) (short-fit stream.shorts cycle)

sent_over-fit : (stream : Stream) (cs : List Cycle) → HaveRoom (sent_over stream cs) (length (flat_map cycle_words cs))
sent_over-fit stream [] = fit-none 0
sent_over-fit stream (c ∷ cs) =
    subst (HaveRoom (sent_over stream (c ∷ cs))) (sym (length-append (cycle_words c) (flat_map cycle_words cs)))
    (fit-append (sent_in stream c) (sent_over (left_by stream c) cs) (length (cycle_words c)) (length (flat_map cycle_words cs)) (sent_in-fit stream c) (sent_over-fit (left_by stream c) cs))

-- what is sent
pub sent-fit : (stream : Stream) (words : List (List ℕ)) → HaveRoom (sent_of stream words) (length words)
unfolding sent_of
sent-fit stream words = subst (λ ws. HaveRoom (sent_of stream words) (length ws)) (cycles_in_one_way words).spells (sent_over-fit stream (cycles (history_of words)))
