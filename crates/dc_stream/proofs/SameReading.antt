-- Reading by lists and reading by items are the same.
use Rattle.std.proofs.Common.{◌≡◌, ℕ, Bool, true, false, cond, not, ◌&&◌, ◌==◌, List, [], ◌∷◌, ◌++◌, length, drop, Option, Some, None, Result, Ok, Err, refl, sym, ◌∙◌, ap, arith, codes, append-nil}
use Rattle.std.specs.Prelude.{nat_eq, nat_le, nat_lt}
use Rattle.std.specs.List.{filter_map, starts_with}
use Rattle.std.proofs.lemmas.Bool.{ne_eqb}
use Rattle.std.proofs.lemmas.List.Elements.{filter_map-append}
use Rattle.dc_spec.specs.Entries.{Stream}
use Rattle.dc_spec.specs.Limits.{most_shorts, most_longs, most_coins, most_message}
use Rattle.dc_formats.specs.TextFile.{file_lines}
use Rattle.dc_field.specs.NumberInText.{number_in}
use Rattle.dc_text.specs.Lines.{and_then}
use Rattle.dc_text.specs.Payload.{payload_in}
use Rattle.dc_text.proofs.LineByLine.{made_into, same_lines}
use Rattle.dc_stream.specs.declared.fault.StreamFault.{StreamFault}
use Rattle.dc_stream.specs.declared.fault.StreamKind.{StreamKind}
use Rattle.dc_stream.specs.declared.fault.StreamKind.TheVariants.{NotText, Word, Order, TooMany, Number, Length}
use Rattle.dc_stream.specs.Items.{StreamItem, short, long, coin, ItemKind, short_kind, long_kind, coin_kind, count_of_kind, has_later_kind, kind_and_rest, reported_length, short_item, long_item, coin_item, item_after, item_added, items_with_line, value_in, message_in, field_in, stream_of_items}
use Rattle.dc_stream.specs.Reading.{stream_fault, items_from_bytes, stream_from_bytes}
use Rattle.dc_stream.specs.ReadingByLists.{short_into_lists, lists_with_short, long_into_lists, lists_with_long, coin_into_lists, lists_with_coin, lists_with_line, stream_by_lists}

-- ---- the lists of the items so far, by their lengths

shorts_counted : (items : List StreamItem) → count_of_kind short_kind items ≡ length (filter_map value_in items)
shorts_counted [] = refl
shorts_counted (short bytes ∷ items) = omega (arith, shorts_counted items)
shorts_counted (long bytes ∷ items) = omega (arith, shorts_counted items)
shorts_counted (coin field ∷ items) = omega (arith, shorts_counted items)

longs_counted : (items : List StreamItem) → count_of_kind long_kind items ≡ length (filter_map message_in items)
longs_counted [] = refl
longs_counted (short bytes ∷ items) = omega (arith, longs_counted items)
longs_counted (long bytes ∷ items) = omega (arith, longs_counted items)
longs_counted (coin field ∷ items) = omega (arith, longs_counted items)

coins_counted : (items : List StreamItem) → count_of_kind coin_kind items ≡ length (filter_map field_in items)
coins_counted [] = refl
coins_counted (short bytes ∷ items) = omega (arith, coins_counted items)
coins_counted (long bytes ∷ items) = omega (arith, coins_counted items)
coins_counted (coin field ∷ items) = omega (arith, coins_counted items)

some : {X : Type 0} (x : X) (xs : List X) → (length (x ∷ xs) == 0) ≡ false
some x xs = ne_eqb (length (x ∷ xs)) 0 (λ e. absurd (omega arith))

not_both : (b : Bool) → true ≡ not (b && false)
not_both true = refl
not_both false = refl

later_than_shorts : (items : List StreamItem) → has_later_kind short_kind items ≡ not (length (filter_map message_in items) == 0 && length (filter_map field_in items) == 0)
later_than_shorts [] = refl
later_than_shorts (short bytes ∷ items) = later_than_shorts items
later_than_shorts (long bytes ∷ items) = rw (some bytes (filter_map message_in items)) refl
later_than_shorts (coin field ∷ items) = rw (some field (filter_map field_in items)) (not_both (length (filter_map message_in items) == 0))

later_than_longs : (items : List StreamItem) → has_later_kind long_kind items ≡ not (length (filter_map field_in items) == 0)
later_than_longs [] = refl
later_than_longs (short bytes ∷ items) = later_than_longs items
later_than_longs (long bytes ∷ items) = later_than_longs items
later_than_longs (coin field ∷ items) = rw (some field (filter_map field_in items)) refl

later_than_coins : (items : List StreamItem) → has_later_kind coin_kind items ≡ false
later_than_coins [] = refl
later_than_coins (short bytes ∷ items) = later_than_coins items
later_than_coins (long bytes ∷ items) = later_than_coins items
later_than_coins (coin field ∷ items) = later_than_coins items

-- ---- one item more

listed : {X : Type 0} (f : StreamItem → Option X) (items : List StreamItem) (item : StreamItem) → filter_map f (items ++ item ∷ []) ≡ filter_map f items ++ filter_map f (item ∷ [])
listed f items item = filter_map-append f items (item ∷ [])

short_listed : (items : List StreamItem) (bytes : List ℕ) → stream_of_items (items ++ short bytes ∷ []) ≡ record (stream_of_items items) { shorts = filter_map value_in items ++ bytes ∷ [] }
short_listed items bytes = rw (listed value_in items (short bytes), listed message_in items (short bytes), listed field_in items (short bytes)) (simp append-nil)

long_listed : (items : List StreamItem) (bytes : List ℕ) → stream_of_items (items ++ long bytes ∷ []) ≡ record (stream_of_items items) { longs = filter_map message_in items ++ bytes ∷ [] }
long_listed items bytes = rw (listed value_in items (long bytes), listed message_in items (long bytes), listed field_in items (long bytes)) (simp append-nil)

coin_listed : (items : List StreamItem) (field : ℕ) → stream_of_items (items ++ coin field ∷ []) ≡ record (stream_of_items items) { coins = filter_map field_in items ++ field ∷ [] }
coin_listed items field = rw (listed value_in items (coin field), listed message_in items (coin field), listed field_in items (coin field)) (simp append-nil)

-- ---- one line more

-- the lists of the items and one more, or its fault
abbrev lists_after : List StreamItem → Result StreamItem StreamKind → Result Stream StreamKind
lists_after items item = made_into stream_of_items (item_added items item)

tested : (b : Bool) (items : List StreamItem) (item : StreamItem) (kind : StreamKind) (s : Stream) → stream_of_items (items ++ item ∷ []) ≡ s
    → cond b (Ok s) (Err kind) ≡ lists_after items (cond b (Ok item) (Err kind))
tested true items item kind s e = ap Ok (sym e)
tested false items item kind s e = refl

short_same : (items : List StreamItem) (o : Option (List ℕ)) → short_into_lists (stream_of_items items) o ≡ lists_after items (short_item o)
short_same items None = refl
short_same items (Some bytes) = tested (length bytes == 15) items (short bytes) (Length (reported_length (length bytes))) _ (short_listed items bytes)

long_same : (items : List StreamItem) (o : Option (List ℕ)) → long_into_lists (stream_of_items items) o ≡ lists_after items (long_item o)
long_same items None = refl
long_same items (Some bytes) = tested (nat_le (length bytes) most_message) items (long bytes) (Length (reported_length (length bytes))) _ (long_listed items bytes)

coin_same : (items : List StreamItem) (o : Option ℕ) → coin_into_lists (stream_of_items items) o ≡ lists_after items (coin_item o)
coin_same items None = refl
coin_same items (Some field) = tested (nat_lt field 16) items (coin field) Number _ (coin_listed items field)

chosen : (a b : Bool) (items : List StreamItem) (first second : StreamKind) (r : Result Stream StreamKind) (q : Result StreamItem StreamKind) → r ≡ lists_after items q
    → cond a (Err first) (cond b (Err second) r) ≡ lists_after items (cond a (Err first) (cond b (Err second) q))
chosen true b items first second r q e = refl
chosen false true items first second r q e = refl
chosen false false items first second r q e = e

-- both tests before a text's own
kind_same : (a c b d : Bool) (items : List StreamItem) (r : Result Stream StreamKind) (q : Result StreamItem StreamKind) → c ≡ a → d ≡ b → r ≡ lists_after items q
    → cond a (Err Order) (cond b (Err TooMany) r) ≡ lists_after items (cond c (Err Order) (cond d (Err TooMany) q))
kind_same a c b d items r q first second e = rw (first, second) (chosen a b items Order TooMany r q e)

with_short_same : (items : List StreamItem) (rest : List ℕ) → lists_with_short (stream_of_items items) rest ≡ lists_after items (item_after items (Some (short_kind, rest)))
unfolding lists_with_short
with_short_same items rest =
    kind_same _ (has_later_kind short_kind items) _ (nat_le most_shorts (count_of_kind short_kind items)) items _ (short_item (payload_in rest))
    (later_than_shorts items) (ap (λ (n : ℕ). nat_le most_shorts n) (shorts_counted items)) (short_same items (payload_in rest))

with_long_same : (items : List StreamItem) (rest : List ℕ) → lists_with_long (stream_of_items items) rest ≡ lists_after items (item_after items (Some (long_kind, rest)))
unfolding lists_with_long
with_long_same items rest =
    kind_same _ (has_later_kind long_kind items) _ (nat_le most_longs (count_of_kind long_kind items)) items _ (long_item (payload_in rest))
    (later_than_longs items) (ap (λ (n : ℕ). nat_le most_longs n) (longs_counted items)) (long_same items (payload_in rest))

with_coin_same : (items : List StreamItem) (rest : List ℕ) → lists_with_coin (stream_of_items items) rest ≡ lists_after items (item_after items (Some (coin_kind, rest)))
unfolding lists_with_coin
with_coin_same items rest =
    kind_same false (has_later_kind coin_kind items) _ (nat_le most_coins (count_of_kind coin_kind items)) items _ (coin_item (number_in rest))
    (later_than_coins items) (ap (λ (n : ℕ). nat_le most_coins n) (coins_counted items)) (coin_same items (number_in rest))

-- whichever word a line begins with
three_ways : (a b c : Bool) (items : List StreamItem) (p q r : ItemKind × List ℕ) (s t u : Result Stream StreamKind)
    → s ≡ lists_after items (item_after items (Some p)) → t ≡ lists_after items (item_after items (Some q)) → u ≡ lists_after items (item_after items (Some r))
    → cond a s (cond b t (cond c u (Err Word))) ≡ lists_after items (item_after items (cond a (Some p) (cond b (Some q) (cond c (Some r) None))))
three_ways true b c items p q r s t u first second third = first
three_ways false true c items p q r s t u first second third = second
three_ways false false true items p q r s t u first second third = third
three_ways false false false items p q r s t u first second third = refl

line_same : (items : List StreamItem) (text : List ℕ) → lists_with_line (stream_of_items items) text ≡ made_into stream_of_items (items_with_line items text)
unfolding lists_with_line
line_same items text =
    three_ways (starts_with nat_eq text (codes "short ")) (starts_with nat_eq text (codes "long ")) (starts_with nat_eq text (codes "coin ")) items
    (short_kind, drop 6 text) (long_kind, drop 5 text) (coin_kind, drop 5 text) _ _ _
    (with_short_same items (drop 6 text)) (with_long_same items (drop 5 text)) (with_coin_same items (drop 5 text))

-- ---- whole files

at_end : (r : Result (List StreamItem) StreamFault) → made_into stream_of_items r ≡ and_then (λ (fault : StreamFault). fault) (λ items. Ok (stream_of_items items)) r
at_end (Ok items) = refl
at_end (Err fault) = refl

pub same_reading : (bytes : List ℕ) → stream_by_lists bytes ≡ stream_from_bytes bytes
unfolding stream_from_bytes
same_reading bytes = same_lines stream_fault NotText stream_of_items items_with_line lists_with_line line_same 1 [] (file_lines bytes) ∙ at_end (items_from_bytes bytes)
