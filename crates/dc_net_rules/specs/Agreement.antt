-- Whether the parts of a net agree: the keys are for its stations, words and edges, each honest
-- station has a stream, and the script has the words that a run needs.
use Rattle.std.specs.Prelude.{ℕ, Bool, true, false, not, ◌&&◌, ◌||◌, ◌==◌, nat_lt, if◌then◌else◌, List, [], ◌∷◌, ◌++◌, length, map, filter, find, slice_index_or, Option, Some, None, option_map, ◌≡◌}
use Rattle.std.specs.List.{range_with_len, list_any, enumerate_from, reduce}
use Rattle.std.specs.Option.{is_some}
use Rattle.dc_spec.specs.Lists.{is_among}
use Rattle.dc_spec.specs.Scripts.{Term, Said, Delivery, all_sum, each, stations_of, Turn}
use Rattle.dc_spec.specs.Net.{Net}
use Rattle.dc_net_rules.specs.Runs.{honest_stations}

-- in what the parts of a net differ
pub data Disagreement : Type 0 where
  key_stations : ℕ → ℕ → Disagreement
  key_words : ℕ → ℕ → Disagreement
  key_missing : ℕ → ℕ → Disagreement
  key_stray : ℕ → ℕ → Disagreement
  stream_missing : ℕ → Disagreement
  stream_stray : ℕ → Disagreement
  script_rounds : ℕ → ℕ → Disagreement
  script_station : ℕ → ℕ → Disagreement
  script_delivery : ℕ → Disagreement
  script_rule : ℕ → ℕ → Disagreement

-- the first answer that there is
abbrev pub first_of : {A : Type 0} → List (Option A) → Option A
first_of [] = None
first_of (Some x ∷ rest) = Some x
first_of (None ∷ rest) = first_of rest

-- the first answer that a function gives along a list
abbrev pub first_by : {A B : Type 0} → (A → Option B) → List A → Option B
first_by f xs = first_of (map f xs)

-- the first edge without a pair
abbrev pub missing_key : Net → Option Disagreement
missing_key net = option_map (λ e. key_missing e.0 e.1)
    (find (λ e. not (list_any (λ pair. pair.u == e.0 && pair.v == e.1) net.keys.pairs)) net.edges)

-- the first pair that is no edge
abbrev pub stray_key : Net → Option Disagreement
stray_key net = option_map (λ pair. key_stray pair.u pair.v)
    (find (λ pair. not (list_any (λ e. e.0 == pair.u && e.1 == pair.v) net.edges)) net.keys.pairs)

-- an honest station has a stream, a member has none
abbrev pub stream_fault : Net → ℕ → Option Disagreement
stream_fault net i =
    let there = is_some (slice_index_or net.streams i None) in
    if is_among net.coalition i then (if there then Some (stream_stray i) else None)
    else (if there then None else Some (stream_missing i))

-- the least number that is in one of two lists only
abbrev pub least_in_one : List ℕ → List ℕ → Option ℕ
least_in_one xs ys = reduce (λ x y. if nat_lt y x then y else x)
    (filter (λ x. not (is_among ys x)) xs ++ filter (λ y. not (is_among xs y)) ys)

-- where words are delivered, they have to be those of the honest stations
abbrev pub station_dealt : Net → Delivery → Option ℕ
station_dealt net all_sum = None
station_dealt net (each dealt) = least_in_one (stations_of dealt) (honest_stations net)

-- the words said have to be those of the members, and then the words delivered those of the honest
-- stations
abbrev pub station_fault : Net → ℕ × Turn → Option Disagreement
station_fault net t = option_map (script_station t.0)
    (first_of (least_in_one (stations_of t.1.says) net.coalition ∷ station_dealt net t.1.delivery ∷ []))

-- whether a delivery is the sum
abbrev pub is_sum : Delivery → Bool
is_sum all_sum = true
is_sum (each dealt) = false

-- without a coalition everybody receives the sum
abbrev pub delivery_fault : Net → ℕ × Turn → Option Disagreement
delivery_fault net t =
    if length net.coalition == 0 && not (is_sum t.1.delivery) then Some (script_delivery t.0) else None

-- a term may not name a station that there is not
abbrev pub names_no_station : Net → Term → Bool
names_no_station net term = not (nat_lt term.station net.stations)

-- nor, in a word said, a member's word of the same round
abbrev pub names_member_now : Net → ℕ → Term → Bool
names_member_now net round term = term.round == round && is_among net.coalition term.station

-- the station of the first word said that has a faulty term
abbrev pub say_by_faulty_rule : Net → ℕ → List Said → Option ℕ
say_by_faulty_rule net round says = option_map (λ said. said.station)
    (find (λ said. list_any (λ term. names_no_station net term || names_member_now net round term) said.terms) says)

-- the station of the first word delivered that has a faulty term
abbrev pub dealt_by_faulty_rule : Net → Delivery → Option ℕ
dealt_by_faulty_rule net all_sum = None
dealt_by_faulty_rule net (each dealt) = option_map (λ said. said.station)
    (find (λ said. list_any (names_no_station net) said.terms) dealt)

-- the first faulty term of a round, words said before words delivered
abbrev pub rule_fault : Net → ℕ × Turn → Option Disagreement
rule_fault net t = option_map (script_rule t.0)
    (first_of (say_by_faulty_rule net t.0 t.1.says ∷ dealt_by_faulty_rule net t.1.delivery ∷ []))

-- the first of the tests that fails
abbrev pub disagreement : Net → Option Disagreement
disagreement net =
    let turns = enumerate_from 0 net.script.rounds in
    first_of (
    (if net.keys.stations == net.stations then None else Some (key_stations net.keys.stations net.stations))
    ∷ (if net.keys.words == net.words then None else Some (key_words net.keys.words net.words))
    ∷ missing_key net
    ∷ stray_key net
    ∷ first_by (stream_fault net) (range_with_len 0 net.stations)
    ∷ (if length net.script.rounds == net.words then None else Some (script_rounds (length net.script.rounds) net.words))
    ∷ first_by (station_fault net) turns
    ∷ first_by (delivery_fault net) turns
    ∷ first_by (rule_fault net) turns
    ∷ [])

-- the parts of a net agree
abbrev pub Agrees : Net → Type 0
Agrees net = disagreement net ≡ None
