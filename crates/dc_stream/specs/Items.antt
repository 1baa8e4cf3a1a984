-- What a line of a stream file holds, and the fault of a line by the items before it.
use Rattle.std.specs.Prelude.{ℕ, ◌-◌, ◌^◌, ◌==◌, min, Bool, List, [], ◌∷◌, ◌++◌, length, filter, drop, Option, Some, None, Result, Ok, Err, nat_eq, nat_le, nat_lt, if◌then◌else◌, codes}
use Rattle.std.specs.List.{starts_with, filter_map, list_any}
use Rattle.dc_spec.specs.Entries.{Stream}
use Rattle.dc_spec.specs.Limits.{most_shorts, most_longs, most_coins, most_message}
use Rattle.dc_field.specs.NumberInText.{number_in}
use Rattle.dc_text.specs.Payload.{payload_in}
use Rattle.dc_stream.specs.declared.fault.StreamKind.{StreamKind}
use Rattle.dc_stream.specs.declared.fault.StreamKind.TheVariants.{Word, Order, TooMany, Number, Hex, Length}

-- what a line holds: a value, a message, or a field to reserve
pub data StreamItem : Type 0 where
  short : List ℕ → StreamItem
  long : List ℕ → StreamItem
  coin : ℕ → StreamItem

-- the kinds of items
pub data ItemKind : Type 0 where
  short_kind : ItemKind
  long_kind : ItemKind
  coin_kind : ItemKind

abbrev pub kind_of_item : StreamItem → ItemKind
kind_of_item (short bytes) = short_kind
kind_of_item (long bytes) = long_kind
kind_of_item (coin field) = coin_kind

-- the order of the kinds in a file
abbrev pub rank_of_kind : ItemKind → ℕ
rank_of_kind short_kind = 0
rank_of_kind long_kind = 1
rank_of_kind coin_kind = 2

-- how many items of a kind a file has at most
abbrev pub most_of_kind : ItemKind → ℕ
most_of_kind short_kind = most_shorts
most_of_kind long_kind = most_longs
most_of_kind coin_kind = most_coins

-- how many items are of a kind
abbrev pub count_of_kind : ItemKind → List StreamItem → ℕ
count_of_kind kind items = length (filter (λ item. rank_of_kind (kind_of_item item) == rank_of_kind kind) items)

-- whether an item of a later kind is among them
abbrev pub has_later_kind : ItemKind → List StreamItem → Bool
has_later_kind kind items = list_any (λ item. nat_lt (rank_of_kind kind) (rank_of_kind (kind_of_item item))) items

-- the kind that a line's first word names, and what follows that word
abbrev pub kind_and_rest : List ℕ → Option (ItemKind × List ℕ)
kind_and_rest text =
    if starts_with nat_eq text (codes "short ") then Some (short_kind, drop 6 text)
    else if starts_with nat_eq text (codes "long ") then Some (long_kind, drop 5 text)
    else if starts_with nat_eq text (codes "coin ") then Some (coin_kind, drop 5 text)
    else None

-- a number of bytes as a fault reports it: the greatest u32 where it is above that
abbrev pub reported_length : ℕ → ℕ
reported_length bytes = min bytes (2 ^ 32 - 1)

-- a short has fifteen bytes
abbrev pub short_item : Option (List ℕ) → Result StreamItem StreamKind
short_item None = Err Hex
short_item (Some bytes) = if length bytes == 15 then Ok (short bytes) else Err (Length (reported_length (length bytes)))

-- a long has as many bytes as a message may have
abbrev pub long_item : Option (List ℕ) → Result StreamItem StreamKind
long_item None = Err Hex
long_item (Some bytes) = if nat_le (length bytes) most_message then Ok (long bytes) else Err (Length (reported_length (length bytes)))

-- a coin is a number below 16
abbrev pub coin_item : Option ℕ → Result StreamItem StreamKind
coin_item None = Err Number
coin_item (Some field) = if nat_lt field 16 then Ok (coin field) else Err Number

-- the item of a kind that a text spells, or what is wrong with the text
abbrev pub item_of_kind : ItemKind → List ℕ → Result StreamItem StreamKind
item_of_kind short_kind rest = short_item (payload_in rest)
item_of_kind long_kind rest = long_item (payload_in rest)
item_of_kind coin_kind rest = coin_item (number_in rest)

-- the item of a line after others, or the fault of the line by the order of the tests
abbrev pub item_after : List StreamItem → Option (ItemKind × List ℕ) → Result StreamItem StreamKind
item_after before None = Err Word
item_after before (Some p) =
    if has_later_kind p.0 before then Err Order
    else if nat_le (most_of_kind p.0) (count_of_kind p.0 before) then Err TooMany
    else item_of_kind p.0 p.1

-- the items with this one after them
abbrev pub item_added : List StreamItem → Result StreamItem StreamKind → Result (List StreamItem) StreamKind
item_added before (Ok item) = Ok (before ++ item ∷ [])
item_added before (Err kind) = Err kind

-- the items with one more line
abbrev pub items_with_line : List StreamItem → List ℕ → Result (List StreamItem) StreamKind
items_with_line before text = item_added before (item_after before (kind_and_rest text))

abbrev pub value_in : StreamItem → Option (List ℕ)
value_in (short bytes) = Some bytes
value_in _ = None

abbrev pub message_in : StreamItem → Option (List ℕ)
message_in (long bytes) = Some bytes
message_in _ = None

abbrev pub field_in : StreamItem → Option ℕ
field_in (coin field) = Some field
field_in _ = None

-- the stream of all items: the shorts, the longs and the coins among them, each in order
abbrev pub stream_of_items : List StreamItem → Stream
stream_of_items items = record { shorts = filter_map value_in items; longs = filter_map message_in items; coins = filter_map field_in items }
