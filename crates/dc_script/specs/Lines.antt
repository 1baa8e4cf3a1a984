-- The fault of a line by the lines before it, and the turns that lines make.
use Rattle.std.specs.Prelude.{ℕ, ◌-◌, ◌==◌, Bool, true, false, not, ◌&&◌, ◌||◌, List, [], ◌∷◌, length, map, sum_by, slice_index_or, nat_le, nat_lt, Option, Some, None, if◌then◌else◌}
use Rattle.std.specs.List.{list_any}
use Rattle.dc_spec.specs.Limits.{most_words, most_terms}
use Rattle.dc_spec.specs.Scripts.{Term, Said, all_sum, each, Turn}
use Rattle.dc_formats.specs.ScriptFile.{is_before, term_order}
use Rattle.dc_script.specs.declared.fault.ScriptKind.{ScriptKind}
use Rattle.dc_script.specs.declared.fault.ScriptKind.TheVariants.{Round, TooMany, Misplaced, Order, Missing, Late, Unordered, Terms}
use Rattle.dc_script.specs.declared.item.Item.{Item}
use Rattle.dc_script.specs.declared.item.Item.TheVariants.{RoundLine, SayLine, AllLine, ToLine, AddLine}
use Rattle.dc_script.specs.Turns.{reported_count, reported_round, is_above_last}

-- whether a line begins a round
abbrev pub is_round : Item → Bool
is_round (RoundLine r) = true
is_round _ = false

-- the items before the first round line
abbrev pub until_round : List Item → List Item
until_round [] = []
until_round (item ∷ items) = if is_round item then [] else item ∷ until_round items

-- for each round line the items after it, up to the next
abbrev pub rounds_in : List Item → List (List Item)
rounds_in [] = []
rounds_in (item ∷ items) = if is_round item then until_round items ∷ rounds_in items else rounds_in items

-- how many round lines there are
abbrev pub round_count : List Item → ℕ
round_count items = length (rounds_in items)

-- the items after the last round line
abbrev pub since_round : List Item → List Item
since_round items = slice_index_or (rounds_in items) (round_count items - 1) []

-- the terms of the lines right after a word
abbrev pub terms_at_front : List Item → List Term
terms_at_front (AddLine term ∷ items) = term ∷ terms_at_front items
terms_at_front _ = []

-- a word with the terms of the lines right after it
abbrev pub said_by : ℕ × List ℕ → List Item → Said
said_by e items = record { station = e.0; word = e.1; terms = terms_at_front items }

-- the words said, with their stations and terms
abbrev pub said : List Item → List Said
said [] = []
said (SayLine e ∷ items) = said_by e items ∷ said items
said (item ∷ items) = said items

-- the words dealt, with their stations and terms
abbrev pub dealt : List Item → List Said
dealt [] = []
dealt (ToLine e ∷ items) = said_by e items ∷ dealt items
dealt (item ∷ items) = dealt items

-- whether `all` is among the lines
abbrev pub is_all : Item → Bool
is_all AllLine = true
is_all _ = false

abbrev pub has_all : List Item → Bool
has_all items = list_any is_all items

-- whether a delivery is among the lines
abbrev pub has_delivery : List Item → Bool
has_delivery items = has_all items || nat_le 1 (length (dealt items))

-- whether there is a round, and the last one has no delivery yet
abbrev pub lacks_delivery : List Item → Bool
lacks_delivery items = nat_le 1 (round_count items) && not (has_delivery (since_round items))

-- a station has to be greater than that of the line before of its kind
abbrev pub order_fault : ℕ → List Said → Option ScriptKind
order_fault i listed = if is_above_last i listed then None else Some (Order i)

-- the line right before
abbrev pub last_item : List Item → Option Item
last_item [] = None
last_item (item ∷ []) = Some item
last_item (first ∷ second ∷ items) = last_item (second ∷ items)

-- a term may follow a word or a term
abbrev pub may_be_added_to : Option Item → Bool
may_be_added_to (Some (SayLine e)) = true
may_be_added_to (Some (ToLine e)) = true
may_be_added_to (Some (AddLine term)) = true
may_be_added_to _ = false

-- a term has to be greater than that of the line right before
abbrev pub is_above_before : Term → Option Item → Bool
is_above_before term (Some (AddLine before)) = is_before (term_order before) (term_order term)
is_above_before term _ = true

-- how many terms there are
abbrev pub terms_of : Item → ℕ
terms_of (AddLine term) = 1
terms_of _ = 0

abbrev pub term_count : List Item → ℕ
term_count items = sum_by terms_of items

-- the fault of a line after others: at a round line the round before, the number, the limit; at a
-- word its place, then its station; at a term its place, its round, its order, the limit
abbrev pub item_fault : List Item → Item → Option ScriptKind
item_fault before (RoundLine r) =
    if lacks_delivery before then Some Missing
    else if not (r == round_count before) then Some (Round r (reported_count (round_count before)))
    else if nat_le most_words (round_count before) then Some TooMany
    else None
item_fault before (SayLine e) =
    if not (lacks_delivery before) then Some Misplaced else order_fault e.0 (said (since_round before))
item_fault before AllLine = if not (lacks_delivery before) then Some Misplaced else None
item_fault before (ToLine e) =
    if round_count before == 0 || has_all (since_round before) then Some Misplaced
    else order_fault e.0 (dealt (since_round before))
item_fault before (AddLine term) =
    if not (may_be_added_to (last_item before)) then Some Misplaced
    else if nat_lt (round_count before - 1) term.round then
    Some (Late term.round (reported_round (round_count before - 1)))
    else if not (is_above_before term (last_item before)) then Some Unordered
    else if nat_le most_terms (term_count before) then Some Terms
    else None

-- the turn of a round's lines
abbrev pub turn_of_items : List Item → Turn
turn_of_items items =
    record { says = said items; delivery = if has_all items then all_sum else each (dealt items) }

-- the turns of all rounds
abbrev pub turns_of_items : List Item → List Turn
turns_of_items items = map turn_of_items (rounds_in items)
