-- A steering of two neighbours who received symbols other than 0 before their first difference.
use Rattle.std.proofs.Common.{◌≡◌, ℕ, List, [], ◌∷◌, replicate, slice_set, None, refl, if◌then◌else◌, ◌==◌}
use Rattle.dc_spec.specs.Words.{word_of, zero_word}
use Rattle.dc_spec.specs.Scripts.{each}
use Rattle.dc_spec.specs.Pads.{Pair}
use Rattle.dc_spec.specs.Net.{Net}
use Rattle.dc_key_rules.specs.PairKeys.{symbols}
use Rattle.dc_net_rules.specs.Runs.{rounds_of, run_of}
use Rattle.dc_spec.specs.Symbols.{power_below}
use Rattle.dc_steering_rules.specs.Steerings.{changes_up_to, steered, steering_of, with_pair, steered_net}
use Rattle.dc_station_rules.proofs.Computing.{computing}
use Rattle.dc_cases.proofs.SharedValues.{two_ends, of_values, zero_pair, first_version, constant, dealing}

-- a word with 7 as symbol 3
abbrev seven : List ℕ
seven = word_of (λ l. if l == 3 then 7 else 0)

-- two honest stations that both received 7 as symbol 3, then 2 and 3 as symbol 31; in the last round the coalition says another word than zero
abbrev late_difference : Net
late_difference = record {
  stations = 3;
  edges = (0, 1) ∷ [];
  coalition = 2 ∷ [];
  keys = record { stations = 3; words = 3; pairs = zero_pair 3 0 1 ∷ [] };
  streams = of_values [] ∷ of_values [] ∷ None ∷ [];
  script = first_version (dealing seven seven ∷ dealing (two_ends 0 2) (two_ends 0 3)
      ∷ record { says = constant 2 (two_ends 3 4) ∷ []; delivery = each (constant 0 zero_word ∷ constant 1 zero_word ∷ []) } ∷ []);
  words = 3;
}

-- the last sum gains 4 and 5; first pad 19, in the round of the difference, makes up for second pad 16 at symbol 3
steering_of_late_difference : steering_of late_difference 0 1 (two_ends 7 9 ∷ []) ≡ record {
  round = 1;
  symbol = 15;
  first = slice_set (slice_set (slice_set (replicate 48 0) 19 35) 32 8) 47 10;
  second = slice_set (slice_set (replicate 48 0) 1 65533) 16 65532;
}
unfolding computing rounds_of power_below changes_up_to
steering_of_late_difference = refl

-- so the words up to the difference stay, later station 1 alone sends other words, and the last sum is the wanted one
words_of_late_difference : (run_of (steered_net late_difference 0 1 (two_ends 7 9 ∷ []))).words ≡ zero_word ∷ zero_word ∷ zero_word ∷ zero_word ∷ zero_word ∷ zero_word ∷ zero_word ∷ two_ends 4 5
    ∷ two_ends 3 4 ∷ []
unfolding computing rounds_of power_below changes_up_to
words_of_late_difference = refl

sums_of_late_difference : (run_of (steered_net late_difference 0 1 (two_ends 7 9 ∷ []))).sums ≡ zero_word ∷ zero_word ∷ two_ends 7 9 ∷ []
unfolding computing rounds_of power_below changes_up_to
sums_of_late_difference = refl

-- the pads of the pair with these changes, from what its ends received and the changes of the sums
abbrev steered_pair : Pair
steered_pair = steered (zero_pair 3 0 1) (symbols (seven ∷ two_ends 0 2 ∷ zero_word ∷ [])) (symbols (seven ∷ two_ends 0 3 ∷ zero_word ∷ [])) (symbols (zero_word ∷ zero_word ∷ two_ends 4 5 ∷ [])) 48

pads_of_steered_pair : steered_pair ≡ record { u = 0; v = 1; a = slice_set (slice_set (slice_set (replicate 48 0) 19 35) 32 8) 47 10; b = slice_set (slice_set (replicate 48 0) 1 65533) 16 65532 }
unfolding computing power_below changes_up_to
pads_of_steered_pair = refl

-- the net with this pair is the steered net
net_of_steered_pair : with_pair late_difference steered_pair ≡ steered_net late_difference 0 1 (two_ends 7 9 ∷ [])
unfolding computing rounds_of power_below changes_up_to
net_of_steered_pair = refl
