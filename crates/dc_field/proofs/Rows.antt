-- Words on numbers, by computation.
use Rattle.std.proofs.Common.{◌≡◌, ℕ, List, [], ◌∷◌, ◌++◌, Ok, Err, Some, None, refl}
use Rattle.std.specs.Prelude.{codes, replicate}
use Rattle.std.specs.Fmt.{digits}
use Rattle.std.specs.List.{flat_map}
use Rattle.dc_spec.specs.Words.{word_of, zero_word, word_add, word_sum}
use Rattle.dc_spec.specs.Text.{word_text}
use Rattle.dc_field.specs.WordInBytes.{word_of_bytes}
use Rattle.dc_field.specs.WordInText.{word_of_text}
use Rattle.dc_field.specs.declared.word_from_text.WordFault.TheVariants.{Length, Digit, Symbol}
use Rattle.dc_field.specs.NumberInText.{number_in}

-- a piece, so many times
abbrev times : ℕ → List ℕ → List ℕ
times n piece = flat_map {X = ℕ} (λ _. piece) (replicate n 0)

zeros_in_text : word_text zero_word ≡ replicate 80 48
unfolding word_of
zeros_in_text = refl

-- five digits a symbol, the letters in lower case
symbols_in_text : word_text (65536 ∷ 43981 ∷ replicate 14 1) ≡ codes "10000" ++ codes "0abcd" ++ times 14 (codes "00001")
symbols_in_text = refl

-- sums are modulo 65537
greatest_and_one : word_add (replicate 16 65536) (replicate 16 1) ≡ zero_word
unfolding word_of
greatest_and_one = refl

three_greatest : word_sum (replicate 3 (replicate 16 65536)) ≡ replicate 16 65534
unfolding word_of
three_greatest = refl

-- the most significant byte first
word_in_bytes : word_of_bytes (times 15 (0 ∷ 1 ∷ 0 ∷ 0 ∷ []) ++ (0 ∷ 0 ∷ 1 ∷ 2 ∷ [])) ≡ Ok (replicate 15 65536 ++ 258 ∷ [])
unfolding word_of
word_in_bytes = refl

-- the first of two bad symbols
first_bad_symbol : word_of_bytes (times 9 (0 ∷ 1 ∷ 0 ∷ 0 ∷ []) ++ (0 ∷ 1 ∷ 0 ∷ 1 ∷ []) ++ times 6 (255 ∷ 255 ∷ 255 ∷ 255 ∷ [])) ≡ Err (record { symbol = 9; seen = 65537 })
unfolding word_of
first_bad_symbol = refl

-- reading words in text
symbols_from_text : word_of_text (codes "10000" ++ codes "0abcd" ++ times 14 (codes "00001")) ≡ Ok (65536 ∷ 43981 ∷ replicate 14 1)
unfolding word_of
symbols_from_text = refl

short_text : word_of_text (codes "1000x") ≡ Err (Length 5)
short_text = refl

capital_in_text : word_of_text (codes "10001" ++ codes "0aBcd" ++ times 14 (codes "00001")) ≡ Err (Digit 7)
unfolding word_of
capital_in_text = refl

above_in_text : word_of_text (times 3 (codes "10000") ++ codes "10001" ++ times 12 (codes "fffff")) ≡ Err (Symbol 3 65537)
unfolding word_of
above_in_text = refl

-- reading numbers in text
greatest_number : number_in (codes "4294967295") ≡ Some 4294967295
unfolding digits
greatest_number = refl

number_above : number_in (codes "4294967296") ≡ None
unfolding digits
number_above = refl

zero_alone : number_in (codes "0") ≡ Some 0
unfolding digits
zero_alone = refl

leading_zero : number_in (codes "07") ≡ None
unfolding digits
leading_zero = refl

no_digits : number_in [] ≡ None
unfolding digits
no_digits = refl

blank_in_number : number_in (codes "1 ") ≡ None
unfolding digits
blank_in_number = refl
