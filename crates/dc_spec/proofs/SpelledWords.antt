-- Words and numbers are read from their bytes.
use Rattle.std.proofs.Common.{◌≡◌, ℕ, ◌+◌, ◌*◌, ◌^◌, ◌<◌, List, length, get_or, take, drop, refl, sym, ap, ◌∙◌, arith}
use Rattle.std.specs.Int.{w16, to_be_bytes}
use Rattle.dc_spec.specs.Words.{IsWord}
use Rattle.dc_spec.specs.Bytes.{symbol_bytes, word_bytes, number_at, short_at, word_at}
use Rattle.dc_spec.proofs.WordLemmas.{word_from_symbols}
use Rattle.dc_spec.proofs.ByteLemmas.{number_again, short_again, piece_of}

-- symbol k of a word is the number of the four bytes at 4 * k
symbol_read : (w : List ℕ) → IsWord w → (k : ℕ) → k < 16 → get_or w k 0 ≡ number_at (word_bytes w) (0 + 4 * k)
symbol_read w is k lt =
    let place : 4 * k ≡ 0 + 4 * k = omega arith in
    let small : get_or w k 0 < 2 ^ 32 = (let symbol : get_or w k 0 < 65537 = is.symbols k in omega arith) in
    let inside : k < length w = (let long = is.sixteen in omega arith) in
    let piece : take 4 (drop (0 + 4 * k) (word_bytes w)) ≡ symbol_bytes (get_or w k 0) =
    ap (λ (at : ℕ). take 4 (drop at (word_bytes w))) (sym place) ∙ piece_of symbol_bytes 4 w (λ j d below. refl) k 0 inside in
    sym (number_again (word_bytes w) (0 + 4 * k) (get_or w k 0) small piece)

-- so the word is that of its bytes
pub word-again : (w : List ℕ) → IsWord w → word_at (word_bytes w) 0 ≡ w
word-again w is = sym (word_from_symbols (λ l. number_at (word_bytes w) (0 + 4 * l)) w is.sixteen (symbol_read w is))

pub short-alone : (n : ℕ) → n < 2 ^ 16 → short_at (to_be_bytes w16 n) 0 ≡ n
short-alone n small = short_again (to_be_bytes w16 n) 0 n small refl
