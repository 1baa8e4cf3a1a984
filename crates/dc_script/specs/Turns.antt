-- The turns that the lines so far make, and one line more. A turn has dealt no word until its
-- delivery is known.
use Rattle.std.specs.Prelude.{ℕ, ◌+◌, ◌-◌, ◌^◌, ◌==◌, min, Bool, false, not, ◌&&◌, ◌||◌, List, [], ◌∷◌, ◌++◌, length, take, slice_index_or, nat_le, nat_lt, if◌then◌else◌, Option, Some, None, Result, Ok, Err}
use Rattle.dc_spec.specs.Limits.{most_words, most_terms}
use Rattle.dc_spec.specs.Scripts.{Term, Said, Delivery, all_sum, each, Turn}
use Rattle.dc_formats.specs.ScriptFile.{is_before, term_order}
use Rattle.dc_script.specs.declared.fault.ScriptKind.{ScriptKind}
use Rattle.dc_script.specs.declared.fault.ScriptKind.TheVariants.{Round, TooMany, Misplaced, Order, Missing, Late, Unordered, Terms}
use Rattle.dc_script.specs.declared.item.Item.{Item}
use Rattle.dc_script.specs.declared.item.Item.TheVariants.{RoundLine, SayLine, AllLine, ToLine, AddLine}

-- a turn of which the round's number alone is known
abbrev pub begun_turn : Turn
begun_turn = record { says = []; delivery = each [] }

-- the last turn, where there is one
abbrev pub last_turn : List Turn → Turn
last_turn turns = slice_index_or turns (length turns - 1) begun_turn

-- the turns with another last one
abbrev pub with_last : List Turn → Turn → List Turn
with_last turns turn = take (length turns - 1) turns ++ turn ∷ []

-- whether nothing is delivered yet
abbrev pub is_undelivered : Delivery → Bool
is_undelivered all_sum = false
is_undelivered (each dealt) = length dealt == 0

-- whether the last turn has no delivery yet
abbrev pub is_waiting : List Turn → Bool
is_waiting turns = nat_le 1 (length turns) && is_undelivered (last_turn turns).delivery

-- a count and a round as a fault reports it
abbrev pub reported_count : ℕ → ℕ
reported_count n = min n (2 ^ 32 - 1)

abbrev pub reported_round : ℕ → ℕ
reported_round n = min n (2 ^ 16 - 1)

-- one more round
abbrev pub with_round : List Turn → ℕ → Result (List Turn) ScriptKind
with_round turns r =
    if is_waiting turns then Err Missing
    else if not (r == length turns) then Err (Round r (reported_count (length turns)))
    else if nat_le most_words (length turns) then Err TooMany
    else Ok (turns ++ begun_turn ∷ [])

-- a word without terms
abbrev pub plain_said : ℕ × List ℕ → Said
plain_said e = record { station = e.0; word = e.1; terms = [] }

-- the last word of a list, where there is one
abbrev pub last_said : List Said → Said
last_said listed = slice_index_or listed (length listed - 1) (record { station = 0; word = []; terms = [] })

-- whether a station is greater than the last of a list
abbrev pub is_above_last : ℕ → List Said → Bool
is_above_last i listed = length listed == 0 || nat_lt (last_said listed).station i

-- one more word said
abbrev pub with_said : List Turn → Turn → ℕ × List ℕ → Result (List Turn) ScriptKind
with_said turns turn e =
    if not (is_above_last e.0 turn.says) then Err (Order e.0)
    else Ok (with_last turns (record turn { says = turn.says ++ plain_said e ∷ [] }))

-- one more line of a word said
abbrev pub with_say : List Turn → ℕ × List ℕ → Result (List Turn) ScriptKind
with_say turns e =
    if is_waiting turns then with_said turns (last_turn turns) e else Err Misplaced

-- all receive the sum
abbrev pub with_all : List Turn → Result (List Turn) ScriptKind
with_all turns =
    if is_waiting turns then Ok (with_last turns (record (last_turn turns) { delivery = all_sum }))
    else Err Misplaced

-- one more word dealt
abbrev pub with_dealt : List Turn → Turn → Delivery → ℕ × List ℕ → Result (List Turn) ScriptKind
with_dealt turns turn all_sum e = Err Misplaced
with_dealt turns turn (each dealt) e =
    if not (is_above_last e.0 dealt) then Err (Order e.0)
    else Ok (with_last turns (record turn { delivery = each (dealt ++ plain_said e ∷ []) }))

-- one more line of a word dealt
abbrev pub with_to : List Turn → ℕ × List ℕ → Result (List Turn) ScriptKind
with_to turns e =
    if length turns == 0 then Err Misplaced
    else with_dealt turns (last_turn turns) (last_turn turns).delivery e

-- whether a term is greater than the last of a list
abbrev pub is_above_last_term : Term → List Term → Bool
is_above_last_term term terms =
    length terms == 0 || is_before (term_order (slice_index_or terms (length terms - 1) term)) (term_order term)

-- the fault of a term in a round of this number, after so many terms, of which these are of its word
abbrev pub term_fault : ℕ → ℕ → List Term → Term → Option ScriptKind
term_fault round count terms term =
    if nat_lt round term.round then Some (Late term.round (reported_round round))
    else if not (is_above_last_term term terms) then Some Unordered
    else if nat_le most_terms count then Some Terms
    else None

-- a word with one more term
abbrev pub said_with : Said → Term → Said
said_with said term = record said { terms = said.terms ++ term ∷ [] }

-- a list of which the last word has one more term, where that has no fault
abbrev pub term_put : List Said → Term → Option ScriptKind → Result (List Said) ScriptKind
term_put listed term (Some kind) = Err kind
term_put listed term None = Ok (take (length listed - 1) listed ++ said_with (last_said listed) term ∷ [])

abbrev pub with_term : ℕ → ℕ → List Said → Term → Result (List Said) ScriptKind
with_term round count listed term =
    if length listed == 0 then Err Misplaced
    else term_put listed term (term_fault round count (last_said listed).terms term)

-- the turns of which the last one has other words said, or other words dealt, where there is no fault
abbrev pub with_says : List Turn → Turn → Result (List Said) ScriptKind → Result (List Turn) ScriptKind
with_says turns turn (Err kind) = Err kind
with_says turns turn (Ok listed) = Ok (with_last turns (record turn { says = listed }))

abbrev pub with_words : List Turn → Turn → Result (List Said) ScriptKind → Result (List Turn) ScriptKind
with_words turns turn (Err kind) = Err kind
with_words turns turn (Ok listed) = Ok (with_last turns (record turn { delivery = each listed }))

-- one more term of the last word: of the last one that is dealt, where there is one
abbrev pub with_added : ℕ → List Turn → Turn → Delivery → Term → Result (List Turn) ScriptKind
with_added count turns turn all_sum term = Err Misplaced
with_added count turns turn (each dealt) term =
    if length dealt == 0 then with_says turns turn (with_term (length turns - 1) count turn.says term)
    else with_words turns turn (with_term (length turns - 1) count dealt term)

-- one more line of a term
abbrev pub with_add : ℕ → List Turn → Term → Result (List Turn) ScriptKind
with_add count turns term =
    if length turns == 0 then Err Misplaced
    else with_added count turns (last_turn turns) (last_turn turns).delivery term

-- one more line, after so many terms
abbrev pub with_item : ℕ → List Turn → Item → Result (List Turn) ScriptKind
with_item count turns (RoundLine r) = with_round turns r
with_item count turns (SayLine e) = with_say turns e
with_item count turns AllLine = with_all turns
with_item count turns (ToLine e) = with_to turns e
with_item count turns (AddLine term) = with_add count turns term

-- how many terms there are after a line, up to the limit
abbrev pub terms_after : ℕ → Item → ℕ
terms_after terms (AddLine term) = if nat_lt terms most_terms then terms + 1 else terms
terms_after terms _ = terms
