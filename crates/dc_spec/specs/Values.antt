-- Values: fifteen bytes, read as one number with the most significant byte first. A word may carry
-- a value: symbol 0 is a count, symbols 1 to 15 are limbs.
use Rattle.std.specs.Prelude.{◌≡◌, ℕ, ◌+◌, ◌-◌, ◌*◌, ◌/◌, ◌%◌, ◌^◌, ◌<◌, List, [], ◌∷◌, length, map, slice_index}
use Rattle.std.specs.List.{range_with_len}

-- fifteen bytes
pub record IsValue (value : List ℕ) : Type 0 where
  pub fifteen : length value ≡ 15
  pub bytes : (i : ℕ) → slice_index value i < 256

-- the number that digits in base 256 spell, the most significant first; a digit may be 256 or more
abbrev pub number_of : List ℕ → ℕ
number_of [] = 0
number_of (digit ∷ digits) = digit * 256 ^ length digits + number_of digits

-- the list of fifteen numbers whose number i, from 0, is f i
unfoldable pub fifteen : (ℕ → ℕ) → List ℕ
fifteen f = map f (range_with_len 0 15)

-- the value with this number
abbrev pub value_of : ℕ → List ℕ
value_of number = fifteen (λ i. number / 256 ^ (14 - i) % 256)

-- the greatest number of a value
abbrev pub last_number : ℕ
last_number = 256 ^ 15 - 1

-- the word of so many stations that all send this value
abbrev pub contended_word : List ℕ → ℕ → List ℕ
contended_word value count = count ∷ map (λ byte. count * byte) value

-- the count in a word
abbrev pub word_count : List ℕ → ℕ
word_count word = slice_index word 0

-- the fifteen limbs of a word: its symbols 1 to 15
abbrev pub word_limbs : List ℕ → List ℕ
word_limbs word = fifteen (λ i. slice_index word (i + 1))
