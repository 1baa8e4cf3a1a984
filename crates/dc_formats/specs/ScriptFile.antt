-- Script files, versions 1 and 2: a head line, then for each round its number, what the members say
-- and what is delivered. In version 2 a word may have terms.
use Rattle.std.specs.Prelude.{ℕ, ◌+◌, ◌<◌, ◌≤◌, ◌≡◌, ◌==◌, Bool, false, nat_lt, ◌||◌, ◌&&◌, IsTrue, List, [], ◌∷◌, ◌++◌, length, sum_by, slice_index_or, All, codes}
use Rattle.std.specs.List.{flat_map, enumerate_from}
use Rattle.std.specs.List.Sorted.{IsStrictlyIncreasing}
use Rattle.std.specs.Fmt.{decimal}
use Rattle.dc_spec.specs.Limits as limit
use Rattle.dc_spec.specs.Words.{IsSymbol, IsWord}
use Rattle.dc_spec.specs.Text.{line, symbol_text}
use Rattle.dc_spec.specs.Scripts.{Term, Said, Delivery, all_sum, each, delivered_words, stations_of, Turn, Script}
use Rattle.dc_formats.specs.WordLines.{station_word_line}

-- a term: the symbol that gains, the factor, then the station, the round and the symbol that are named
abbrev pub term_line : Term → List ℕ
term_line term = line
    (codes "add " ++ decimal term.to ++ codes " " ++ symbol_text term.factor ++ codes " "
    ++ decimal term.station ++ codes " " ++ decimal term.round ++ codes " " ++ decimal term.symbol)

-- a line for the constant word of a station, then a line for each of its terms
abbrev pub said_lines : List ℕ → Said → List ℕ
said_lines beginning said =
    station_word_line beginning said.station said.word ++ flat_map term_line said.terms

-- one line where all stations receive the sum, else the lines of each word that is delivered to a
-- station
abbrev pub delivery_lines : Delivery → List ℕ
delivery_lines all_sum = line (codes "all")
delivery_lines (each dealt) = flat_map (said_lines (codes "to ")) dealt

-- the round's number, the lines of each member, the delivery
abbrev pub turn_lines : ℕ → Turn → List ℕ
turn_lines r turn = line (codes "round " ++ decimal r)
    ++ flat_map (said_lines (codes "say ")) turn.says
    ++ delivery_lines turn.delivery

-- the head line with the version, and the rounds, numbered from 0
abbrev pub script_text : Script → List ℕ
script_text script =
    line (codes "dcscript " ++ decimal script.version)
    ++ flat_map (λ t. turn_lines t.0 t.1) (enumerate_from 0 script.rounds)

-- a term that may be in this round: it names no later round
pub record IsTerm (round : ℕ) (term : Term) : Type 0 where
  pub to : term.to < 16
  pub some_factor : 1 ≤ term.factor
  pub factor : IsSymbol term.factor
  pub station : term.station < 65536
  pub no_later : term.round ≤ round
  pub symbol : term.symbol < 16

-- whether a list of numbers is before another one: the first number that differs is less
abbrev pub is_before : List ℕ → List ℕ → Bool
is_before (x ∷ xs) (y ∷ ys) = nat_lt x y || (x == y && is_before xs ys)
is_before _ _ = false

-- by what terms are ordered: the symbol that gains, then the station, the round and the symbol that
-- are named
abbrev pub term_order : Term → List ℕ
term_order term = term.to ∷ term.station ∷ term.round ∷ term.symbol ∷ []

-- terms in order, each place once
abbrev pub AreTermsRising : List Term → Type 0
AreTermsRising terms =
    (k : ℕ) (d : Term) → k + 1 < length terms
    → IsTrue (is_before (term_order (slice_index_or terms k d)) (term_order (slice_index_or terms (k + 1) d)))

-- a station with a word and terms that may be in this round, in order
pub record IsSaid (round : ℕ) (said : Said) : Type 0 where
  pub station : said.station < 65536
  pub is_word : IsWord said.word
  pub are_terms : All (IsTerm round) said.terms
  pub rising : AreTermsRising said.terms

-- stations in rising order, each with a word and its terms
pub record AreSaid (round : ℕ) (listed : List Said) : Type 0 where
  pub stations_rise : IsStrictlyIncreasing (stations_of listed)
  pub are_said : All (IsSaid round) listed

-- words of stations, and where words are delivered, at least one
pub record IsTurn (round : ℕ) (turn : Turn) : Type 0 where
  pub said : AreSaid round turn.says
  pub some_dealt : (dealt : List Said) → turn.delivery ≡ each dealt → 1 ≤ length dealt
  pub dealt_words : (dealt : List Said) → turn.delivery ≡ each dealt → AreSaid round dealt

-- how many terms a round has
abbrev pub turn_terms : Turn → ℕ
turn_terms turn =
    sum_by (λ said. length said.terms) turn.says
    + sum_by (λ said. length said.terms) (delivered_words turn.delivery)

-- how many terms a script has
abbrev pub script_terms : List Turn → ℕ
script_terms turns = sum_by turn_terms turns

-- version 1, which has no terms, or version 2; no more rounds than a session can have words, and no
-- more terms than the limit
pub record IsScript (script : Script) : Type 0 where
  pub some_version : 1 ≤ script.version
  pub most_version : script.version ≤ 2
  pub first_version : script.version ≡ 1 → script_terms script.rounds ≡ 0
  pub most_rounds : length script.rounds ≤ limit.most_words
  pub most_terms : script_terms script.rounds ≤ limit.most_terms
  pub are_turns : (r : ℕ) (d : Turn) → r < length script.rounds → IsTurn r (slice_index_or script.rounds r d)
