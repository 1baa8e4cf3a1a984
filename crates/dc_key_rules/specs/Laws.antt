-- The law of keys.
use Rattle.std.specs.Prelude.{ℕ, ◌<◌, ◌≡◌, List, map, All}
use Rattle.std.specs.List.{range_with_len}
use Rattle.dc_spec.specs.Words.{zero_word, word_sum}
use Rattle.dc_spec.specs.Pads.{Pair}
use Rattle.dc_key_rules.specs.PairKeys.{key_part}

-- where all stations have one history, the keys in their words cancel
abbrev pub KeysCancel : Type 0
KeysCancel =
    (n : ℕ) (pairs : List Pair) (history : List (List ℕ)) → All (λ p. p.u < n) pairs
    → All (λ p. p.v < n) pairs →
    word_sum (map (λ i. key_part pairs i history) (range_with_len 0 n)) ≡ zero_word
