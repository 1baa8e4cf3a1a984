-- Scripts: for each round the words that the coalition's members say, and what is delivered to the
-- other stations. A word may depend on words of the session, by a rule.
use Rattle.std.specs.Prelude.{ℕ, ◌+◌, ◌*◌, ◌%◌, ◌==◌, List, [], if◌then◌else◌, map, sum_by, find, slice_index, slice_index_or}
use Rattle.std.specs.Option.{option_map_or}
use Rattle.dc_spec.specs.Words.{word_of, zero_word}

-- one term of a rule: symbol `to` of the word gains `factor` times this symbol of the word that this
-- station published in this round
pub record Term : Type 0 where
  pub to : ℕ
  pub factor : ℕ
  pub station : ℕ
  pub round : ℕ
  pub symbol : ℕ

-- what a script gives for a station: a constant word, and the terms that are added to it
pub record Said : Type 0 where
  pub station : ℕ
  pub word : List ℕ
  pub terms : List Term

-- what the honest stations receive in a round: the sum, or a word for each of them
pub data Delivery : Type 0 where
  all_sum : Delivery
  each : List Said → Delivery

-- the words that are delivered to stations, none where all receive the sum
abbrev pub delivered_words : Delivery → List Said
delivered_words all_sum = []
delivered_words (each dealt) = dealt

-- the stations of words
abbrev pub stations_of : List Said → List ℕ
stations_of listed = map (λ said. said.station) listed

-- one round of a script: what the coalition's members say, and the delivery
pub record Turn : Type 0 where
  pub says : List Said
  pub delivery : Delivery

-- a script: the version of its file, and its rounds
pub record Script : Type 0 where
  pub version : ℕ
  pub rounds : List Turn

-- what a term adds, over the words of a session of n stations: those of a round by station, and
-- round after round
abbrev pub term_value : ℕ → List (List ℕ) → Term → ℕ
term_value n words term =
    term.factor * slice_index (slice_index_or words (term.round * n + term.station) zero_word) term.symbol

-- the word of a rule: to each symbol of the constant word the terms for that symbol are added
abbrev pub rule_word : Said → List (List ℕ) → ℕ → List ℕ
rule_word said words n = word_of (λ l.
    (slice_index said.word l
    + sum_by (λ term. if term.to == l then term_value n words term else 0) said.terms) % 65537)

-- the word of a station by a list of rules; the zero word where the list has none for it
abbrev pub word_by_rule : List Said → List (List ℕ) → ℕ → ℕ → List ℕ
word_by_rule listed words n i =
    option_map_or (λ said. rule_word said words n) (find (λ said. said.station == i) listed) zero_word
