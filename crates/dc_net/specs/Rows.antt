-- The words of a round, put one after the other.
use Rattle.std.specs.Prelude.{ℕ, ◌+◌, ◌*◌, ◌<◌, ◌≡◌, not, List, length, map, filter, replicate, slice_index, slice_index_or, All}
use Rattle.std.specs.List.{range_with_len}
use Rattle.dc_spec.specs.Words.{zero_word}
use Rattle.dc_spec.specs.Lists.{is_among}
use Rattle.dc_spec.specs.Scripts.{Said, Delivery, all_sum, each, rule_word}

-- the members of a coalition among so many stations, and the other stations, in rising order
abbrev pub members_of : List ℕ → ℕ → List ℕ
members_of coalition n = filter (is_among coalition) (range_with_len 0 n)

abbrev pub others_of : List ℕ → ℕ → List ℕ
others_of coalition n = filter (λ i. not (is_among coalition i)) (range_with_len 0 n)

-- the words that a function gives to these stations, in their order; words after the last are zero
abbrev pub AreWordsOf : (ℕ → List ℕ) → List ℕ → List (List ℕ) → Type 0
AreWordsOf f stations words =
    (k : ℕ) → k < length stations → slice_index_or words k zero_word ≡ f (slice_index stations k)

-- a rule whose terms name only the first so many words of a session of n stations
pub record IsWithin (count n : ℕ) (said : Said) : Type 0 where
  pub named : All (λ term. term.round * n + term.station < count) said.terms
  pub places : All (λ term. (term.to < 16) × (term.symbol < 16)) said.terms

-- the words of rules
abbrev pub rule_words : List Said → List (List ℕ) → ℕ → List (List ℕ)
rule_words rules words n = map (λ said. rule_word said words n) rules

-- the words that so many honest stations receive: the sum, or the words of rules
abbrev pub row_heard : Delivery → List (List ℕ) → ℕ → List ℕ → ℕ → List (List ℕ)
row_heard all_sum words n sum count = replicate count sum
row_heard (each dealt) words n sum count = rule_words dealt words n
