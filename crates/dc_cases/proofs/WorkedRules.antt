-- Scripts by rules: a member answers a word of the same round, and neither the words nor the view
-- show that two streams were exchanged.
use Rattle.std.specs.Prelude.{◌≡◌, refl, ℕ, List, [], ◌∷◌, replicate, slice_set, Some, None}
use Rattle.dc_spec.specs.Words.{word_of, zero_word}
use Rattle.dc_spec.specs.Scripts.{Term, all_sum, Turn, rule_word}
use Rattle.dc_spec.specs.Net.{Net}
use Rattle.dc_net_rules.specs.Runs.{run_of}
use Rattle.dc_twin_rules.specs.Twins.{shifts, twin}
use Rattle.dc_net_rules.specs.Agreement.{disagreement, script_rule}
use Rattle.dc_run_texts.specs.View.{view_text}
use Rattle.dc_cases.proofs.SharedValues.{two_ends, of_values, zero_pair, said, constant}
use Rattle.dc_cases.proofs.WorkedRuns.{computing}

-- the last symbol loses the last symbol of a station's word of round 0
abbrev loses_last_of : ℕ → Term
loses_last_of i = record { to = 15; factor = 65536; station = i; round = 0; symbol = 15 }

-- the member 2 says the zero word; in the first round it takes away the last symbol of a station's word
abbrev answering : ℕ → List Turn
answering i = record { says = record (constant 2 zero_word) { terms = loses_last_of i ∷ [] } ∷ []; delivery = all_sum } ∷ said 2 zero_word ∷ []

-- two honest stations, of which the first has the value 5, and the member 2 without neighbours; only first pad 15 is not 0
abbrev answered : ℕ → Net
answered i = record {
  stations = 3;
  edges = (0, 1) ∷ [];
  coalition = 2 ∷ [];
  keys = record { stations = 3; words = 2; pairs = record (zero_pair 2 0 1) { a = slice_set (replicate 32 0) 15 7 } ∷ [] };
  streams = of_values (5 ∷ []) ∷ of_values [] ∷ None ∷ [];
  script = record { version = 2; rounds = answering i };
  words = 2;
}

-- the member answers station 0 in the same round, so the sum is no longer zero
words_of_answered : (run_of (answered 0)).words ≡ two_ends 0 7 ∷ two_ends 0 65530 ∷ two_ends 0 65530 ∷ two_ends 1 5 ∷ zero_word ∷ zero_word ∷ []
unfolding computing
words_of_answered = refl

sums_of_answered : (run_of (answered 0)).sums ≡ two_ends 0 65530 ∷ two_ends 1 5 ∷ []
unfolding computing
sums_of_answered = refl

-- exchanging the two streams shifts their edge in the round where the plain words differ, and the views are equal
shifts_of_answered : shifts (answered 0) (1 ∷ 0 ∷ 2 ∷ []) ≡ record { u = 0; v = 1; words = zero_word ∷ two_ends 1 5 ∷ [] } ∷ []
unfolding computing
shifts_of_answered = refl

views_of_answered : view_text (answered 0) (run_of (answered 0)) ≡ view_text (twin (answered 0) (1 ∷ 0 ∷ 2 ∷ [])) (run_of (twin (answered 0) (1 ∷ 0 ∷ 2 ∷ [])))
unfolding computing
views_of_answered = refl

-- a member may not answer itself, nor a station that there is not
faulty_rules : disagreement (answered 2) ∷ disagreement (answered 3) ∷ disagreement (answered 1) ∷ [] ≡ Some (script_rule 0 2) ∷ Some (script_rule 0 2) ∷ None ∷ []
unfolding computing
faulty_rules = refl

-- two terms for one symbol, one of a symbol of the last word of round 1, and a third for another symbol
rule_of_three_terms : rule_word (record {
  station = 0;
  word = two_ends 1 65536;
  terms = record { to = 0; factor = 2; station = 0; round = 0; symbol = 0 }
      ∷ record { to = 0; factor = 3; station = 1; round = 1; symbol = 15 } ∷ record { to = 15; factor = 65536; station = 1; round = 0; symbol = 0 } ∷ [];
})
    (two_ends 10 11 ∷ two_ends 20 21 ∷ two_ends 30 31 ∷ two_ends 40 41 ∷ []) 2 ≡ two_ends 144 65516
unfolding word_of
rule_of_three_terms = refl
