-- The contents of the worked files are within the limits of their formats: no record of limits is empty.
use Rattle.std.proofs.Common.{◌≡◌, ℕ, zero, suc, ◌<◌, ◌≤◌, true, nat_lt, List, [], ◌∷◌, length, get_or, All, replicate, inl, inr, lit≤, lit<, subst, refl, arith}
use Rattle.std.specs.List.{list_all, range_with_len}
use Rattle.std.proofs.lemmas.List.{get_or_past}
use Rattle.std.proofs.lemmas.List.Elements.{All-nil, All-cons, All-weaker}
use Rattle.std.proofs.lemmas.List.Sums.{AllPass-from_list_all}
use Rattle.std.proofs.lemmas.Bool.{cases_lt}
use Rattle.std.proofs.lemmas.Bool.Decides.{nat_tests}
use Rattle.dc_spec.specs.Words.{IsWord, word_of, zero_word}
use Rattle.dc_spec.specs.Recorded.{IsRecorded}
use Rattle.dc_spec.specs.Scripts.{Said, all_sum, each, Turn}
use Rattle.dc_spec.specs.Pads.{Pair}
use Rattle.dc_formats.specs.KeyFile.{IsKeys, IsPair}
use Rattle.dc_spec.specs.Values.{IsValue}
use Rattle.dc_formats.specs.StreamFile.{IsStream, IsMessage}
use Rattle.dc_formats.specs.ScriptFile.{IsTerm, IsSaid, AreSaid, IsTurn, IsScript}
use Rattle.dc_formats.specs.ListFiles.{AreImages, AreWanted}
use Rattle.dc_spec.specs.Frames.{hello, send}
use Rattle.dc_formats.specs.Frames.{IsFrame}
use Rattle.dc_cases.proofs.SharedValues.{two_ends, small_value, constant, term_of, dealing, exchange}
use Rattle.dc_cases.proofs.WorkedFiles.{opposite_words, dealing_script, ruled_script, small_keys}

-- a bound that a test finds for every number of a list
pub below_by_test : (bound : ℕ) (xs : List ℕ) → list_all (λ x. nat_lt x bound) xs ≡ true → All (λ x. x < bound) xs
below_by_test bound xs e = All-weaker (λ x. nat_lt x bound ≡ true) (λ x. x < bound) (λ x passed. grind (arith, nat_tests)) xs (AllPass-from_list_all (λ x. nat_lt x bound) xs e)

-- a number of a list, or 0 past its end
pub number_at : (bound : ℕ) (w : List ℕ) (l : ℕ) → 0 < bound → All (λ x. x < bound) w → get_or w l 0 < bound
number_at bound w l some below = elim (cases_lt l (length w)) [ inl lt ↦ below l 0 lt | inr past ↦ rw (get_or_past w l 0 past) some ]

-- a word, by its length and a test of its symbols
word_by_test : (w : List ℕ) → length w ≡ 16 → list_all (λ x. nat_lt x 65537) w ≡ true → IsWord w
word_by_test w long e = record { sixteen = long; symbols = λ l. number_at 65537 w l (omega arith) (below_by_test 65537 w e) }

-- a transcript
transcript_fits : IsRecorded opposite_words
transcript_fits = record {
  some_stations = omega arith;
  most_stations = omega arith;
  some_rounds = omega arith;
  most_rounds = omega arith;
  count = refl;
  are_words = All-cons IsWord (replicate 16 65536) (replicate 16 1 ∷ []) (word_by_test (replicate 16 65536) refl refl) (All-cons IsWord (replicate 16 1) [] (word_by_test (replicate 16 1) refl refl)
      (All-nil IsWord));
}

-- the one pair of the small key file
abbrev small_pair : Pair
small_pair = record { u = 0; v = 2; a = range_with_len 1 16; b = 0 ∷ 65536 ∷ replicate 14 0 }

-- two of three stations
pair_fits : IsPair 3 1 small_pair
pair_fits = record {
  ends = omega arith;
  within = omega arith;
  first_pads = refl;
  second_pads = refl;
  first_symbols = below_by_test 65537 (range_with_len 1 16) refl;
  second_symbols = below_by_test 65537 (0 ∷ 65536 ∷ replicate 14 0) refl;
  no_first = refl;
}

-- a key file
key_file_fits : IsKeys small_keys
key_file_fits = record {
  some_stations = omega arith;
  most_stations = omega arith;
  some_words = omega arith;
  most_words = omega arith;
  most_symbols = lit≤ tt;
  are_pairs = All-cons (IsPair 3 1) small_pair [] pair_fits (All-nil (IsPair 3 1));
  rising = λ i d lt. absurd (omega arith);
}

-- a value
value_fits : IsValue (small_value 171)
value_fits = record { fifteen = refl; bytes = λ i. number_at 256 (small_value 171) i (omega arith) (below_by_test 256 (small_value 171) refl) }

-- a message
message_fits : IsMessage (170 ∷ [])
message_fits = record { most = lit≤ tt; are_bytes = below_by_test 256 (170 ∷ []) refl }

-- a stream of all three kinds
stream_fits : IsStream (record { shorts = small_value 171 ∷ []; longs = (170 ∷ []) ∷ []; coins = 5 ∷ 15 ∷ [] })
stream_fits = record {
  most_shorts = lit≤ tt;
  are_values = All-cons IsValue (small_value 171) [] value_fits (All-nil IsValue);
  most_longs = lit≤ tt;
  are_messages = All-cons IsMessage (170 ∷ []) [] message_fits (All-nil IsMessage);
  most_coins = lit≤ tt;
  are_fields = below_by_test 16 (5 ∷ 15 ∷ []) refl;
}

-- a file of images
images_fit : AreImages exchange
images_fit = record { most = lit≤ tt; numbers = below_by_test 256 exchange refl }

-- a file of wanted words
wanted_fits : AreWanted (two_ends 7 9 ∷ [])
wanted_fits = record { most = lit≤ tt; are_words = All-cons IsWord (two_ends 7 9) [] (word_by_test (two_ends 7 9) refl refl) (All-nil IsWord) }

-- two frames
frames_fit : All IsFrame (hello 0 2 2 ∷ send 1 (two_ends 1 2) ∷ [])
frames_fit = All-cons IsFrame (hello 0 2 2) (send 1 (two_ends 1 2) ∷ []) (omega arith, omega arith, omega arith)
    (All-cons IsFrame (send 1 (two_ends 1 2)) [] (omega arith, word_by_test (two_ends 1 2) refl refl) (All-nil IsFrame))

-- sixteen zeros
pub zero_is_word : IsWord zero_word
unfolding word_of
zero_is_word = word_by_test (replicate 16 0) refl refl

-- a station's word without terms
pub constant_fits : (r i : ℕ) (w : List ℕ) → i < 65536 → IsWord w → IsSaid r (constant i w)
constant_fits r i w small is = record { station = small; is_word = is; are_terms = All-nil (IsTerm r); rising = λ k d lt. absurd (omega arith) }

-- one station's word
pub one_said : (r : ℕ) (s : Said) → IsSaid r s → AreSaid r (s ∷ [])
one_said r s is = record { stations_rise = λ k lt. absurd (omega arith); are_said = All-cons (IsSaid r) s [] is (All-nil (IsSaid r)) }

-- the words of two stations
two_said : (r : ℕ) (s t : Said) → s.station < t.station → IsSaid r s → IsSaid r t → AreSaid r (s ∷ t ∷ [])
two_said r s t lt is is' = record {
  stations_rise = λ k within. let first : k ≡ 0 = omega arith in rw first lt;
  are_said = All-cons (IsSaid r) s (t ∷ []) is (All-cons (IsSaid r) t [] is' (All-nil (IsSaid r)));
}

-- a round whose sum all receive
pub summing_turn : (r : ℕ) (says : List Said) → AreSaid r says → IsTurn r (record { says = says; delivery = all_sum })
summing_turn r says said = record { said = said; some_dealt = λ other e. cc; dealt_words = λ other e. cc }

-- a round that deals these words
dealing_turn : (r : ℕ) (says dealt : List Said) → AreSaid r says → 1 ≤ length dealt → AreSaid r dealt → IsTurn r (record { says = says; delivery = each dealt })
dealing_turn r says dealt said some words = record {
  said = said;
  some_dealt = λ other e. let same : dealt ≡ other = cc in subst (λ (d : List Said). 1 ≤ length d) same some;
  dealt_words = λ other e. let same : dealt ≡ other = cc in subst (λ (d : List Said). AreSaid r d) same words;
}

-- two rounds
two_turns : (t u : Turn) → IsTurn 0 t → IsTurn 1 u → (r : ℕ) (d : Turn) → r < 2 → IsTurn r (get_or (t ∷ u ∷ []) r d)
two_turns t u first second zero d lt = first
two_turns t u first second (suc zero) d lt = second
two_turns t u first second (suc (suc r)) d lt = absurd (omega arith)

-- the word that the member 2 says in each round
zero_said : (r : ℕ) → AreSaid r (constant 2 zero_word ∷ [])
zero_said r = one_said r (constant 2 zero_word) (constant_fits r 2 zero_word (lit< tt) zero_is_word)

-- a round of the dealing script
dealing_fits : (r : ℕ) (v w : List ℕ) → IsWord v → IsWord w → IsTurn r (dealing v w)
dealing_fits r v w is is' = dealing_turn r (constant 2 zero_word ∷ []) (constant 0 v ∷ constant 1 w ∷ []) (zero_said r) (lit≤ tt)
    (two_said r (constant 0 v) (constant 1 w) (lit< tt) (constant_fits r 0 v (lit< tt) is) (constant_fits r 1 w (lit< tt) is'))

-- two words that are dealt
second_word : IsWord (two_ends 0 2)
second_word = word_by_test (two_ends 0 2) refl refl

third_word : IsWord (two_ends 0 3)
third_word = word_by_test (two_ends 0 3) refl refl

-- a script of version 1 with two rounds
script_fits : IsScript dealing_script
unfolding word_of
script_fits = record {
  some_version = lit≤ tt;
  most_version = lit≤ tt;
  first_version = λ e. refl;
  most_rounds = lit≤ tt;
  most_terms = lit≤ tt;
  are_turns = two_turns (dealing (two_ends 0 2) (two_ends 0 3)) (dealing zero_word zero_word) (dealing_fits 0 (two_ends 0 2) (two_ends 0 3) second_word third_word)
      (dealing_fits 1 zero_word zero_word zero_is_word zero_is_word);
}

-- a term
term_fits : (r to factor i round symbol : ℕ) → to < 16 → 1 ≤ factor → factor < 65537 → i < 65536 → round ≤ r → symbol < 16 → IsTerm r (term_of to factor i round symbol)
term_fits r to factor i round symbol gains some few small past named =
    record { to = gains; some_factor = some; factor = few; station = small; no_later = past; symbol = named }

-- a word with two terms, in order
first_rule_fits : IsSaid 0 (record (constant 2 zero_word) { terms = term_of 0 2 0 0 15 ∷ term_of 15 65536 1 0 0 ∷ [] })
first_rule_fits = record {
  station = lit< tt;
  is_word = zero_is_word;
  are_terms = All-cons (IsTerm 0) (term_of 0 2 0 0 15) (term_of 15 65536 1 0 0 ∷ []) (term_fits 0 0 2 0 0 15 (lit< tt) (lit≤ tt) (lit< tt) (lit< tt) (lit≤ tt) (lit< tt))
      (All-cons (IsTerm 0) (term_of 15 65536 1 0 0) [] (term_fits 0 15 65536 1 0 0 (lit< tt) (lit≤ tt) (lit< tt) (lit< tt) (lit≤ tt) (lit< tt)) (All-nil (IsTerm 0)));
  rising = λ k d within. let first : k ≡ 0 = omega arith in rw first refl;
}

-- a word with one term, of a word of its own round
second_rule_fits : IsSaid 1 (record (constant 0 (two_ends 0 2)) { terms = term_of 3 255 2 1 7 ∷ [] })
second_rule_fits = record {
  station = lit< tt;
  is_word = second_word;
  are_terms = All-cons (IsTerm 1) (term_of 3 255 2 1 7) [] (term_fits 1 3 255 2 1 7 (lit< tt) (lit≤ tt) (lit< tt) (lit< tt) (lit≤ tt) (lit< tt)) (All-nil (IsTerm 1));
  rising = λ k d within. absurd (omega arith);
}

-- a script of version 2 with three terms
ruled_script_fits : IsScript ruled_script
unfolding word_of
ruled_script_fits = record {
  some_version = lit≤ tt;
  most_version = lit≤ tt;
  first_version = λ e. absurd (omega arith);
  most_rounds = lit≤ tt;
  most_terms = lit≤ tt;
  are_turns = two_turns _ _ (summing_turn 0 _ (one_said 0 _ first_rule_fits))
      (dealing_turn 1 _ _ (zero_said 1) (lit≤ tt) (two_said 1 _ (constant 1 (two_ends 0 3)) (lit< tt) second_rule_fits (constant_fits 1 1 (two_ends 0 3) (lit< tt) third_word)));
}
