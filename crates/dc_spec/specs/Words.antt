-- Symbols are the numbers below 65537; a word is sixteen of them, and words are added symbol by
-- symbol.
use Rattle.std.specs.Prelude.{ℕ, ◌+◌, ◌-◌, ◌%◌, ◌<◌, ◌≡◌, List, length, map, sum_by, slice_index, All}
use Rattle.std.specs.List.{range_with_len}

-- a number below 65537
abbrev pub IsSymbol : ℕ → Type 0
IsSymbol x = x < 65537

-- sixteen symbols
pub record IsWord (w : List ℕ) : Type 0 where
  pub sixteen : length w ≡ 16
  pub symbols : (l : ℕ) → IsSymbol (slice_index w l)

-- each item of a list is a word
abbrev pub AreWords : List (List ℕ) → Type 0
AreWords ws = All IsWord ws

-- the word whose symbol l is f l
unfoldable pub word_of : (ℕ → ℕ) → List ℕ
word_of f = map f (range_with_len 0 16)

-- the word of sixteen zeros
abbrev pub zero_word : List ℕ
zero_word = word_of (λ _. 0)

-- the sum of two words
abbrev pub word_add : List ℕ → List ℕ → List ℕ
word_add v w = word_of (λ l. (slice_index v l + slice_index w l) % 65537)

-- the difference of two words
abbrev pub word_sub : List ℕ → List ℕ → List ℕ
word_sub v w = word_of (λ l. (slice_index v l + (65537 - slice_index w l)) % 65537)

-- the sum of all words of a list
abbrev pub word_sum : List (List ℕ) → List ℕ
word_sum ws = word_of (λ l. sum_by (λ w. slice_index w l) ws % 65537)
