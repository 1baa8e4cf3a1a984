-- Laws of symbols, and of words in bytes.
use Rattle.std.specs.Prelude.{ℕ, ◌<◌, ◌≡◌, ◌*◌, ◌%◌, ◌^◌, List}
use Rattle.std.specs.Int.{w16, to_be_bytes}
use Rattle.dc_spec.specs.Words.{IsSymbol, IsWord}
use Rattle.dc_spec.specs.Symbols.{symbol_inverse}
use Rattle.dc_spec.specs.Bytes.{word_bytes, word_at, short_at}

-- a symbol other than 0 times its inverse is 1
abbrev pub InverseInverts : Type 0
InverseInverts = (x : ℕ) → 0 < x → IsSymbol x → x * symbol_inverse x % 65537 ≡ 1

-- the bytes of a word spell that word
abbrev pub BytesSpellWords : Type 0
BytesSpellWords = (w : List ℕ) → IsWord w → word_at (word_bytes w) 0 ≡ w

-- the two bytes of a number below 2^16 spell that number
abbrev pub BytesSpellNumbers : Type 0
BytesSpellNumbers = (n : ℕ) → n < 2 ^ 16 → short_at (to_be_bytes w16 n) 0 ≡ n
