-- A station: what it sends, which of its entries count as sent, and which are pending, each as a
-- function of its stream and of the words that it received.
use Rattle.std.specs.Prelude.{ℕ, Bool, false, List, [], ◌∷◌, ◌++◌, length, map, drop, Option, Some, None, option_map, nat_lt, nat_le, ◌==◌, ◌&&◌, if◌then◌else◌}
use Rattle.std.specs.List.{flat_map, list_any}
use Rattle.std.specs.Option.{option_to_list}
use Rattle.std.specs.Str.{bytes_eq}
use Rattle.dc_spec.specs.Words.{word_of, zero_word}
use Rattle.dc_spec.specs.Entries.{Entry, short, long, Stream}
use Rattle.dc_spec.specs.Values.{number_of, contended_word}
use Rattle.dc_station_rules.specs.Bursts.{burst_of, message_of, fragment, fragment_count}
use Rattle.dc_station_rules.specs.Epochs.{Leaf, Epoch, epoch_of, leaves, calls}
use Rattle.dc_station_rules.specs.Cycles.{Cycle, History, Place, at_reservation, in_burst, in_epoch, history_of, cycles, place_in, epoch_words, words_for}

-- the message of an ended burst, as an entry
abbrev pub burst_entries : ℕ × List (List ℕ) → List Entry
burst_entries b = option_to_list (option_map long (message_of (burst_of b.1)))

-- a leaf as an entry
abbrev pub leaf_entry : Leaf → Entry
leaf_entry leaf = short leaf.value leaf.times

-- the leaves of a cycle's epoch
abbrev pub cycle_leaves : Cycle → List Leaf
cycle_leaves cycle = leaves (epoch_of (epoch_words cycle))

-- the messages and then the leaves of a cycle
unfoldable pub cycle_log : Cycle → List Entry
cycle_log cycle = flat_map burst_entries cycle.bursts ++ map leaf_entry (cycle_leaves cycle)

-- the log of a history: the entries of its cycles
unfoldable pub log_of : List (List ℕ) → List Entry
log_of words = flat_map cycle_log (cycles (history_of words))

-- the field that a station marks to reserve: with a message and a coin left, its next coin
abbrev pub next_mark : List (List ℕ) → List ℕ → Option ℕ
next_mark [] coins = None
next_mark (message ∷ longs) [] = None
next_mark (message ∷ longs) (coin ∷ coins) = Some coin

-- the field that a station with this pending stream marks in a cycle
abbrev pub marked : Stream → Option ℕ
marked stream = next_mark stream.longs stream.coins

-- whether a burst gave this message
abbrev pub gave_message : List ℕ → Option (List ℕ) → Bool
gave_message message None = false
gave_message message (Some got) = bytes_eq got message

-- the first pending message, where the burst of the marked field gave it
abbrev pub first_long : List (List ℕ) → Option ℕ → Cycle → List (List ℕ)
first_long [] mark cycle = []
first_long (message ∷ longs) None cycle = []
first_long (message ∷ longs) (Some field) cycle =
    if gave_message message (message_of (burst_of (words_for field cycle.bursts))) then message ∷ []
    else []

-- the messages of a pending stream that a cycle sends: one or none
unfoldable pub longs_sent : Stream → Cycle → List (List ℕ)
longs_sent stream cycle = first_long stream.longs (marked stream) cycle

-- whether a leaf is this value, and its range holds the value's number
abbrev pub is_leaf_of : List ℕ → Leaf → Bool
is_leaf_of value leaf =
    bytes_eq leaf.value value && nat_le leaf.low (number_of value)
    && nat_le (number_of value) leaf.high

-- the first pending value, where a leaf of the epoch is one of it
abbrev pub first_short : List (List ℕ) → List Leaf → List (List ℕ)
first_short [] out = []
first_short (value ∷ shorts) out = if list_any (is_leaf_of value) out then value ∷ [] else []

-- the values of a pending stream that a cycle sends: one or none
unfoldable pub shorts_sent : Stream → Cycle → List (List ℕ)
shorts_sent stream cycle = first_short stream.shorts (cycle_leaves cycle)

-- how many coins a cycle uses: one where a field is marked
abbrev pub coins_used : Option ℕ → ℕ
coins_used None = 0
coins_used (Some field) = 1

-- what is pending after a cycle
unfoldable pub left_by : Stream → Cycle → Stream
left_by stream cycle =
    record {
      shorts = drop (length (shorts_sent stream cycle)) stream.shorts;
      longs = drop (length (longs_sent stream cycle)) stream.longs;
      coins = drop (coins_used (marked stream)) stream.coins;
    }

-- what is pending after cycles
abbrev pub left_after : Stream → List Cycle → Stream
left_after stream [] = stream
left_after stream (cycle ∷ cycles) = left_after (left_by stream cycle) cycles

-- the entries of a pending stream that a cycle sends, the message first
abbrev pub sent_in : Stream → Cycle → List Entry
sent_in stream cycle =
    map long (longs_sent stream cycle) ++ map (λ value. short value 1) (shorts_sent stream cycle)

-- the entries that cycles send
abbrev pub sent_over : Stream → List Cycle → List Entry
sent_over stream [] = []
sent_over stream (cycle ∷ cycles) = sent_in stream cycle ++ sent_over (left_by stream cycle) cycles

-- the entries of a stream that count as sent after a list of received words
unfoldable pub sent_of : Stream → List (List ℕ) → List Entry
sent_of stream words = sent_over stream (cycles (history_of words))

-- what of a stream is pending after a list of received words: values, messages and coins
unfoldable pub pending_of : Stream → List (List ℕ) → Stream
pending_of stream words = left_after stream (cycles (history_of words))

-- how many values and messages are pending
abbrev pub pending_counts : Stream → List (List ℕ) → ℕ × ℕ
pending_counts stream words =
    (length (pending_of stream words).shorts, length (pending_of stream words).longs)

-- the word that marks a field
abbrev pub mark_word : Option ℕ → List ℕ
mark_word None = zero_word
mark_word (Some field) = word_of (λ l. if l == field then 1 else 0)

-- fragment i of the first message, and zeros after its last fragment
abbrev pub long_word : List (List ℕ) → ℕ → List ℕ
long_word [] i = zero_word
long_word (message ∷ longs) i =
    if nat_lt i (fragment_count (length message)) then fragment message i else zero_word

-- word i of the burst of a field, of a station that marked this field or another or none
abbrev pub burst_word : Option ℕ → ℕ → List (List ℕ) → ℕ → List ℕ
burst_word None field longs i = zero_word
burst_word (Some mark) field longs i = if mark == field then long_word longs i else zero_word

-- the word of an epoch: the first pending value, where the epoch calls for it
abbrev pub epoch_word : List (List ℕ) → Epoch → List ℕ
epoch_word [] epoch = zero_word
epoch_word (value ∷ shorts) epoch = if calls value epoch then contended_word value 1 else zero_word

-- the word at a place of a station that had this stream pending when the cycle began
unfoldable pub word_for : Stream → Place → List ℕ
word_for stream at_reservation = mark_word (marked stream)
word_for stream (in_burst field words) =
    burst_word (marked stream) field stream.longs (length words)
word_for stream (in_epoch words) = epoch_word stream.shorts (epoch_of words)

-- a station's word in a history, where the stream is what was pending before the begun cycle
abbrev pub word_in : Stream → History → List ℕ
word_in stream history = word_for (left_after stream history.whole) (place_in history.begun)

-- the plain word: what a station with this stream sends after these received words, before keys are
-- added
unfoldable pub plain_word : Stream → List (List ℕ) → List ℕ
plain_word stream words = word_in stream (history_of words)
