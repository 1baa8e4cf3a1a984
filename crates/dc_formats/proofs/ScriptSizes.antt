-- How long the file of a script can be whose rounds fit a net.
use Rattle.std.proofs.Common.{◌≡◌, ℕ, ◌+◌, ◌*◌, ◌<◌, ◌≤◌, lit≤, List, [], ◌∷◌, ◌++◌, length, All, codes, arith}
use Rattle.std.specs.List.{sum_by, flat_map, enumerate_from}
use Rattle.std.specs.Fmt.{decimal}
use Rattle.std.proofs.lemmas.List.{length-append}
use Rattle.std.proofs.lemmas.List.Elements.{All-head, All-tail}
use Rattle.std.proofs.lemmas.List.Sums.{sum_by-cons}
use Rattle.std.proofs.lemmas.Fmt.{length-decimal-le}
use Rattle.dc_spec.specs.Limits as limit
use Rattle.dc_spec.specs.Words.{IsWord}
use Rattle.dc_spec.specs.Text.{symbol_text, word_text, line}
use Rattle.dc_spec.specs.Scripts.{Term, Said, Delivery, all_sum, each, delivered_words, stations_of, Turn, Script}
use Rattle.dc_formats.specs.WordLines.{station_word_line}
use Rattle.dc_formats.specs.ScriptFile.{term_line, said_lines, delivery_lines, turn_lines, script_text, IsTerm, IsSaid, IsTurn, turn_terms, script_terms, IsScript}
use Rattle.dc_formats.specs.Laws.{FitsNets}
use Rattle.dc_formats.proofs.ScriptTurns.{AreTurnsFrom, first_turn, later_turns, all_turns, delivered_are}
use Rattle.dc_formats.proofs.ScriptWords.{few_words}
use Rattle.dc_formats.proofs.Sizes.{length_within, line_size, word_text_size}

-- a number of a station, and one of a round
station_digits : (i : ℕ) → i < 256 → length (decimal i) ≤ 3
station_digits i lt = length-decimal-le 3 i (omega arith) (omega arith) (omega arith)

round_digits : (r : ℕ) → r < 10000 → length (decimal r) ≤ 4
round_digits r lt = length-decimal-le 4 r (omega arith) (omega arith) (omega arith)

-- the line of a station's word, of at most four characters before the number
station_line_size : (beginning : List ℕ) (i : ℕ) (w : List ℕ) → length beginning ≤ 4 → i < 256 → IsWord w → length (station_word_line beginning i w) ≤ 89
station_line_size beginning i w short lt is =
    let digits = station_digits i lt in
    let text = word_text_size w is in
    let first : length (beginning ++ decimal i) ≡ length beginning + length (decimal i) = length-append beginning (decimal i) in
    let blank : length (beginning ++ decimal i ++ codes " ") ≡ length (beginning ++ decimal i) + 1 = length-append (beginning ++ decimal i) (codes " ") in
    let all : length (beginning ++ decimal i ++ codes " " ++ word_text w) ≡ length (beginning ++ decimal i ++ codes " ") + length (word_text w) =
    length-append (beginning ++ decimal i ++ codes " ") (word_text w) in
    let whole : length (station_word_line beginning i w) ≡ length (beginning ++ decimal i ++ codes " " ++ word_text w) + 1 = line_size (beginning ++ decimal i ++ codes " " ++ word_text w) in
    omega arith

-- a text, a blank and a number of a term: the number and one more character
number_adds : (t : List ℕ) (n : ℕ) → length (t ++ codes " " ++ decimal n) ≡ length t + 1 + length (decimal n)
number_adds t n =
    let blank : length (t ++ codes " ") ≡ length t + 1 = length-append t (codes " ") in
    let whole : length (t ++ codes " " ++ decimal n) ≡ length (t ++ codes " ") + length (decimal n) = length-append (t ++ codes " ") (decimal n) in
    omega arith

-- the beginning of a term's line, up to the factor
term_beginning : Term → List ℕ
term_beginning term = codes "add " ++ decimal term.to ++ codes " " ++ symbol_text term.factor

-- it has at most twelve characters
beginning_size : (term : Term) → term.to < 16 → length (term_beginning term) ≤ 12
unfolding term_beginning
beginning_size term to =
    let digits : length (decimal term.to) ≤ 2 = length-decimal-le 2 term.to (omega arith) (omega arith) (omega arith) in
    let first : length (codes "add " ++ decimal term.to) ≡ 4 + length (decimal term.to) = length-append (codes "add ") (decimal term.to) in
    let blank : length (codes "add " ++ decimal term.to ++ codes " ") ≡ length (codes "add " ++ decimal term.to) + 1 = length-append (codes "add " ++ decimal term.to) (codes " ") in
    let whole : length (codes "add " ++ decimal term.to ++ codes " " ++ symbol_text term.factor) ≡ length (codes "add " ++ decimal term.to ++ codes " ") + 5 =
    length-append (codes "add " ++ decimal term.to ++ codes " ") (symbol_text term.factor) in
    omega arith

-- the line of a term
term_line_size : (r : ℕ) (term : Term) → r < 10000 → IsTerm r term → length (term_line term) ≤ 27
unfolding term_beginning
term_line_size r term low is =
    let beginning : length (term_beginning term) ≤ 12 = beginning_size term is.to in
    let station : length (decimal term.station) ≤ 5 = length-decimal-le 5 term.station (omega arith) (omega arith) (omega (arith, is.station)) in
    let round : length (decimal term.round) ≤ 4 = round_digits term.round (omega (arith, is.no_later)) in
    let symbol : length (decimal term.symbol) ≤ 2 = length-decimal-le 2 term.symbol (omega arith) (omega arith) (omega (arith, is.symbol)) in
    let first = number_adds (term_beginning term) term.station in
    let second = number_adds (term_beginning term ++ codes " " ++ decimal term.station) term.round in
    let third = number_adds (term_beginning term ++ codes " " ++ decimal term.station ++ codes " " ++ decimal term.round) term.symbol in
    let whole : length (term_line term) ≡ length (term_beginning term ++ codes " " ++ decimal term.station ++ codes " " ++ decimal term.round ++ codes " " ++ decimal term.symbol) + 1 =
    line_size (term_beginning term ++ codes " " ++ decimal term.station ++ codes " " ++ decimal term.round ++ codes " " ++ decimal term.symbol) in
    omega arith

-- how many terms these words have
abbrev terms_of : List Said → ℕ
terms_of listed = sum_by (λ said. length said.terms) listed

-- a word and its terms
said_size : (beginning : List ℕ) (r : ℕ) (said : Said) → length beginning ≤ 4 → r < 10000 → said.station < 256 → IsSaid r said → length (said_lines beginning said) ≤ 89 + 27 * length said.terms
said_size beginning r said short low lt is =
    let first = station_line_size beginning said.station said.word short lt is.is_word in
    let terms : length (flat_map term_line said.terms) ≤ length said.terms * 27 = length_within (IsTerm r) term_line 27 (λ term fits. term_line_size r term low fits) said.terms is.are_terms in
    let whole : length (said_lines beginning said) ≡ length (station_word_line beginning said.station said.word) + length (flat_map term_line said.terms) =
    length-append (station_word_line beginning said.station said.word) (flat_map term_line said.terms) in
    omega arith

-- words of stations below the limit, with their terms
saids_size : (beginning : List ℕ) (r : ℕ) (listed : List Said) → length beginning ≤ 4 → r < 10000 → All (λ i. i < 256) (stations_of listed) → All (IsSaid r) listed
    → length (flat_map (said_lines beginning) listed) ≤ 89 * length listed + 27 * terms_of listed
saids_size beginning r [] short low below are = omega arith
saids_size beginning r (said ∷ listed) short low below are =
    let first = said_size beginning r said short low (All-head (λ i. i < 256) said.station (stations_of listed) below) (All-head (IsSaid r) said listed are) in
    let rest = saids_size beginning r listed short low (All-tail (λ i. i < 256) said.station (stations_of listed) below) (All-tail (IsSaid r) said listed are) in
    let whole : length (flat_map (said_lines beginning) (said ∷ listed)) ≡ length (said_lines beginning said) + length (flat_map (said_lines beginning) listed) =
    length-append (said_lines beginning said) (flat_map (said_lines beginning) listed) in
    let terms : terms_of (said ∷ listed) ≡ length said.terms + terms_of listed = sum_by-cons (λ said. length said.terms) said listed in
    omega arith

-- what is delivered
delivery_size : (r : ℕ) (delivery : Delivery) → r < 10000 → All (λ i. i < 256) (stations_of (delivered_words delivery)) → All (IsSaid r) (delivered_words delivery)
    → length (delivery_lines delivery) ≤ 4 + 89 * length (delivered_words delivery) + 27 * terms_of (delivered_words delivery)
delivery_size r all_sum low below are = lit≤ tt
delivery_size r (each dealt) low below are = let lines = saids_size (codes "to ") r dealt (lit≤ tt) low below are in omega arith

-- the lines of the words that are said
abbrev say_lines : Turn → List ℕ
say_lines turn = flat_map (said_lines (codes "say ")) turn.says

-- a round: its number, at most 256 words, at most the line `all`, and the terms
turn_size : (r : ℕ) (turn : Turn) → r < 10000 → IsTurn r turn → FitsNets turn → length (turn_lines r turn) ≤ 22800 + 27 * turn_terms turn
turn_size r turn low is fits =
    let dealt = delivered_are r turn is in
    let few = few_words turn is.said.stations_rise dealt.stations_rise fits in
    let number = round_digits r low in
    let head : List ℕ = line (codes "round " ++ decimal r) in
    let first : length head ≤ 11 = (let whole = line_size (codes "round " ++ decimal r) in omega arith) in
    let says = saids_size (codes "say ") r turn.says (lit≤ tt) low fits.saying is.said.are_said in
    let delivers = delivery_size r turn.delivery low fits.receiving dealt.are_said in
    let lines : length (head ++ say_lines turn) ≡ length head + length (say_lines turn) = length-append head (say_lines turn) in
    let whole : length (turn_lines r turn) ≡ length (head ++ say_lines turn) + length (delivery_lines turn.delivery) = length-append (head ++ say_lines turn) (delivery_lines turn.delivery) in
    omega arith

-- rounds from one on
turns_size : (r : ℕ) (turns : List Turn) → r + length turns < 10000 → AreTurnsFrom r turns → All FitsNets turns
    → length (flat_map (λ t. turn_lines t.0 t.1) (enumerate_from r turns)) ≤ 22800 * length turns + 27 * script_terms turns
turns_size r [] low are fit = omega arith
turns_size r (turn ∷ turns) low are fit =
    let here = turn_size r turn (omega arith) (first_turn r turn turns are) (All-head FitsNets turn turns fit) in
    let rest = turns_size (r + 1) turns (omega arith) (later_turns r turn turns are) (All-tail FitsNets turn turns fit) in
    let whole : length (flat_map (λ (t : ℕ × Turn). turn_lines t.0 t.1) (enumerate_from r (turn ∷ turns))) ≡ length (turn_lines r turn) + length (flat_map (λ (t : ℕ × Turn). turn_lines t.0 t.1)
    (enumerate_from (r + 1) turns)) = length-append (turn_lines r turn) (flat_map (λ t. turn_lines t.0 t.1) (enumerate_from (r + 1) turns)) in
    let terms : script_terms (turn ∷ turns) ≡ turn_terms turn + script_terms turns = sum_by-cons turn_terms turn turns in
    omega arith

-- a script whose rounds fit a net is within the read limit
pub script_size : (s : Script) → IsScript s → All FitsNets s.rounds → length (script_text s) ≤ limit.script_limit
script_size s is fit =
    let most : length s.rounds ≤ 4096 = is.most_rounds in
    let terms : script_terms s.rounds ≤ 524288 = is.most_terms in
    let digits : length (decimal s.version) ≤ 1 = length-decimal-le 1 s.version (omega arith) (omega arith) (omega (arith, is.most_version)) in
    let rounds = turns_size 0 s.rounds (omega arith) (all_turns s.rounds is.are_turns) fit in
    let head : List ℕ = line (codes "dcscript " ++ decimal s.version) in
    let first : length head ≡ length (codes "dcscript " ++ decimal s.version) + 1 = line_size (codes "dcscript " ++ decimal s.version) in
    let whole : length (script_text s) ≡ length head + length (flat_map (λ (t : ℕ × Turn). turn_lines t.0 t.1) (enumerate_from 0 s.rounds)) =
    length-append head (flat_map (λ t. turn_lines t.0 t.1) (enumerate_from 0 s.rounds)) in
    omega arith
