-- History-bound keys: the key of a round depends on every symbol that was received before that
-- round.
use Rattle.std.specs.Prelude.{ℕ, ◌+◌, ◌-◌, ◌*◌, ◌%◌, List, length, map, filter, flat_map, sum_by, slice_index, ◌==◌, zip}
use Rattle.std.specs.List.{range_with_len}
use Rattle.dc_spec.specs.Words.{word_of, word_sub, word_sum}
use Rattle.dc_spec.specs.Pads.{Pair}

-- the symbols of a list of words: symbol l of word t has the number 16 * t + l
abbrev pub symbols : List (List ℕ) → List ℕ
symbols words = flat_map (λ w. w) words

-- symbol n of the key of a pair with pads a and b, where c is the received symbols, of which those
-- before this number count
abbrev pub key_symbol : List ℕ → List ℕ → List ℕ → ℕ → ℕ → ℕ
key_symbol a b c before n =
    (slice_index a n + sum_by (λ k. slice_index b (n - k) * slice_index c k)
    (range_with_len 0 before)) % 65537

-- the key of a pair for word t, after the received symbols c
abbrev pub key_word : Pair → List ℕ → ℕ → List ℕ
key_word p c t = word_of (λ l. key_symbol p.a p.b c (16 * t) (16 * t + l))

-- the sum of the keys of these pairs for the word that follows a history
abbrev pub key_sum : List Pair → List (List ℕ) → List ℕ
key_sum pairs history = word_sum (map (λ p. key_word p (symbols history) (length history)) pairs)

-- the keys in a station's next word: those of its pairs as the smaller end, minus those as the
-- larger end
abbrev pub key_part : List Pair → ℕ → List (List ℕ) → List ℕ
key_part pairs i history =
    word_sub (key_sum (filter (λ p. p.u == i) pairs) history)
    (key_sum (filter (λ p. p.v == i) pairs) history)

-- the sum of two lists of pads
abbrev pub pads_add : List ℕ → List ℕ → List ℕ
pads_add xs ys = map (λ xy. (xy.0 + xy.1) % 65537) (zip xs ys)

-- a pair with these changes added to its first and second pads
abbrev pub changed_pair : Pair → List ℕ → List ℕ → Pair
changed_pair pair first second =
    record { u = pair.u; v = pair.v; a = pads_add pair.a first; b = pads_add pair.b second }
