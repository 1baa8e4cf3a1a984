-- An epoch in which stations send their values where it calls for them, and nobody disturbs it.
use Rattle.std.specs.Prelude.{ℕ, ◌≡◌, ◌<◌, ◌≤◌, false, List, ◌∷◌, ◌++◌, map, sum_by, max, nat_lt, length, ◌+◌, All, AllPairs, if◌then◌else◌}
use Rattle.std.specs.Str.{bytes_eq}
use Rattle.dc_spec.specs.Words.{zero_word, word_sum}
use Rattle.dc_spec.specs.Values.{number_of, contended_word}
use Rattle.dc_station_rules.specs.Epochs.{Leaf, calls, epoch_of, is_over}
use Rattle.dc_message_rules.specs.Tallies.{tally}

-- what stations with these values send together after these words of an epoch
abbrev pub epoch_sum : List (List ℕ) → List (List ℕ) → List ℕ
epoch_sum values words =
    word_sum (map (λ value. if calls value (epoch_of words) then contended_word value 1
    else zero_word) values)

-- each of these words is what the stations send after those before it, and the epoch was not over
-- then
abbrev pub AreSent : List (List ℕ) → List (List ℕ) → Type 0
AreSent values words =
    (front : List (List ℕ)) (word : List ℕ) (rest : List (List ℕ))
    → words ≡ front ++ word ∷ rest
    → (is_over (epoch_of front) ≡ false) × (word ≡ epoch_sum values front)

-- how often leaves deliver a value
abbrev pub times_of_value : List ℕ → List Leaf → ℕ
times_of_value value out =
    sum_by (λ (leaf : Leaf). if bytes_eq value leaf.value then leaf.times else 0) out

-- leaves deliver these values: they rise, none is empty, and each value is there as often as it is
-- among the values
pub record Delivers (values : List (List ℕ)) (out : List Leaf) : Type 0 where
  pub rising : AllPairs (λ one other. number_of one.value < number_of other.value) out
  pub some : All (λ (leaf : Leaf). 1 ≤ leaf.times) out
  pub times : (value : List ℕ) → times_of_value value out
      ≡ tally (bytes_eq value) (λ sent. 1) values

-- how many leaves are of two stations or more
abbrev pub repeated : List Leaf → ℕ
repeated out = sum_by (λ (leaf : Leaf). if nat_lt 1 leaf.times then 1 else 0) out

-- how many words an epoch with these leaves takes: one for each leaf, and one more for each that is
-- repeated; one where there is no leaf
abbrev pub epoch_length : List Leaf → ℕ
epoch_length out = max 1 (length out + repeated out)
