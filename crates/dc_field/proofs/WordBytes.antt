-- A word and its sixty-four bytes: each is got back from the other.
use Rattle.std.proofs.Common.{◌≡◌, ℕ, ◌+◌, ◌*◌, ◌^◌, ◌<◌, ltb, List, length, get_or, take, Ok, Err, Result, Option, Some, None, refl, sym, ap, ◌∙◌, arith}
use Rattle.std.specs.List.{flat_map, range_with_len}
use Rattle.std.specs.Prelude.{position, IfOk}
use Rattle.std.proofs.lemmas.Nat.{from_be_bytes-to_be_bytes_4}
use Rattle.std.proofs.lemmas.List.{take_all, length-take}
use Rattle.std.proofs.lemmas.List.Concat.{get_or-flat_map}
use Rattle.dc_spec.specs.Words.{IsWord, word_of}
use Rattle.dc_spec.specs.Bytes.{symbol_bytes, word_bytes, number_at, word_at}
use Rattle.dc_spec.proofs.WordLemmas.{word_from_symbols}
use Rattle.dc_spec.proofs.ByteLemmas.{number_spelled, length_of_pieces, pieces}
use Rattle.std.proofs.lemmas.List.Folds.{flat_map-map}
use Rattle.dc_field.proofs.FirstAbove.{none_where_small}
use Rattle.dc_field.specs.declared.word_from_bytes.SymFault.{SymFault}
use Rattle.dc_field.specs.WordInBytes.{judged, word_of_bytes}

-- the number that a symbol's four bytes spell is the symbol
number_back : (x : ℕ) → x < 2 ^ 32 → number_at (symbol_bytes x) 0 ≡ x
number_back x small = omega (arith, from_be_bytes-to_be_bytes_4 x small)

-- byte j of symbol l
byte_of : (w : List ℕ) (l j at : ℕ) → l < length w → j < 4 → at ≡ 4 * l + j → get_or (flat_map symbol_bytes w) at 0 ≡ get_or (symbol_bytes (get_or w l 0)) j 0
byte_of w l j at lt small is =
    let before : length (flat_map symbol_bytes (take l w)) + j ≡ at = omega (arith, length_of_pieces symbol_bytes 4 (take l w) (λ _ _ _. refl), length-take l w) in
    rw (← before) (get_or-flat_map symbol_bytes w l j 0 0 lt small)

-- the number at a symbol's place
number_there : (w : List ℕ) (l : ℕ) → l < length w → get_or w l 0 < 2 ^ 32 → number_at (flat_map symbol_bytes w) (0 + 4 * l) ≡ get_or w l 0
number_there w l lt small =
    rw (byte_of w l 0 (0 + 4 * l) lt (omega arith) (omega arith), byte_of w l 1 (0 + 4 * l + 1) lt (omega arith) (omega arith), byte_of w l 2 (0 + 4 * l + 2) lt (omega arith) (omega arith), byte_of w l 3 (0 + 4 * l + 3) lt (omega arith) (omega arith))
    (number_back (get_or w l 0) small)

-- no number of a word is above 65536
pub none_above : (w : List ℕ) → IsWord w → position (λ x. ltb 65536 x) w ≡ None
none_above w is = none_where_small w (λ k lt. let small = is.symbols k in omega arith)

-- reading what was written gives the word
pub word_of_bytes-word_bytes : (w : List ℕ) → IsWord w → word_of_bytes (word_bytes w) ≡ Ok w
word_of_bytes-word_bytes w is =
    let same : w ≡ word_at (word_bytes w) 0 = word_from_symbols (λ l. number_at (word_bytes w) (0 + 4 * l)) w is.sixteen (λ l lt. sym (number_there w l (let n = is.sixteen in omega arith) (let small = is.symbols l in omega arith))) in
    rw (← same, none_above w is) refl

-- writing what was read gives the bytes
pub word_bytes-word_at : (b : List ℕ) → length b ≡ 64 → ((i : ℕ) → get_or b i 0 < 256) → word_bytes (word_at b 0) ≡ b
unfolding word_of
word_bytes-word_at b len small =
    flat_map-map symbol_bytes (λ l. number_at b (0 + 4 * l)) (range_with_len 0 16) ∙ pieces b (λ l. symbol_bytes (number_at b (0 + 4 * l))) 4 0 16 0 (λ i lt. number_spelled b (0 + 4 * i) small (omega arith)) ∙ ap (λ (n : ℕ). take n b) (sym len) ∙ take_all (length b) b (omega arith)

-- an answer without a fault is the numbers themselves
ok_is : (numbers : List ℕ) (o : Option ℕ) (w : List ℕ) → judged numbers o ≡ Ok w → numbers ≡ w
ok_is numbers None w e = cc
ok_is numbers (Some l) w e = absurd cc

-- a word that was read from sixty-four bytes, written, gives the bytes
pub written_back : (r : Result (List ℕ) SymFault) (b : List ℕ) → length b ≡ 64 → ((i : ℕ) → get_or b i 0 < 256) → r ≡ word_of_bytes b → IfOk r (λ w. word_bytes w ≡ b)
written_back (Ok w) b len small e =
    rw (← ok_is (word_at b 0) (position (λ x. ltb 65536 x) (word_at b 0)) w (sym e)) (word_bytes-word_at b len small)
written_back (Err fault) b len small e = tt

-- the bytes of all sixteen symbols
pub all_written : (bytes w v : List ℕ) (l : ℕ) → length bytes ≡ 64 → take (4 * l) bytes ≡ flat_map symbol_bytes (take l w) → l ≡ 16 → w ≡ v → IsWord v → bytes ≡ word_bytes v
all_written bytes w v l long so_far end same is =
    let whole : bytes ≡ take (4 * l) bytes = sym (take_all (4 * l) bytes (omega arith)) in
    let each : take l v ≡ v = take_all l v (let n = is.sixteen in omega arith) in
    whole ∙ so_far ∙ ap (λ (xs : List ℕ). flat_map symbol_bytes (take l xs)) same ∙ ap (λ (xs : List ℕ). flat_map symbol_bytes xs) each
