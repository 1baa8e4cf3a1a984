-- Numbers, symbols, words, payload and lines can be read back.
use Rattle.std.proofs.Common.{◌≡◌, ℕ, ◌+◌, ◌*◌, ◌/◌, ◌%◌, ◌^◌, ◌<◌, ◌≤◌, ◌≢◌, zero, suc, List, [], ◌∷◌, ◌++◌, length, map, All, refl, sym, ◌∙◌, ap, arith}
use Rattle.std.specs.List.{AllByRecursion}
use Rattle.std.specs.Int.Digits.{digits_of}
use Rattle.std.specs.Int.{w16, w32, to_be_bytes, from_be_bytes}
use Rattle.std.specs.Fmt.{digits, decimal}
use Rattle.std.proofs.Math.Nat.{mod-lt}
use Rattle.std.proofs.lemmas.List.{append_assoc}
use Rattle.std.proofs.lemmas.List.Elements.{All-nil, All-cons, All-append, All-map, All-same, All-weaker, All-from_get_or, All-from_recursion, All-head, All-tail}
use Rattle.std.proofs.lemmas.Nat.{from_be_bytes-to_be_bytes_2, from_be_bytes-to_be_bytes_4}
use Rattle.std.proofs.lemmas.Int.Digits.{all_below_base_digits_of}
use Rattle.std.proofs.lemmas.Fmt.{decimal-digits_of}
use Rattle.std.proofs.lemmas.Bool.Decides.{nat_tests}
use Rattle.dc_spec.proofs.TextLemmas.{symbol_from_digits}
use Rattle.dc_spec.specs.Words.{IsSymbol, IsWord}
use Rattle.dc_spec.specs.Bytes.{symbol_bytes, word_bytes}
use Rattle.dc_spec.specs.Text.{hex_digit, symbol_text, word_text, line}
use Rattle.dc_spec.specs.Values.{IsValue}
use Rattle.dc_formats.specs.TextFile.{AreBytes, byte_text, hex_text}
use Rattle.dc_formats.proofs.Readable.{IsReadable, Ends, read_counted, read_until, read_to_byte}

-- a front of known length
pub read_front : (a b r s : List ℕ) → length a ≡ length b → a ++ r ≡ b ++ s → (a ≡ b) × (r ≡ s)
read_front [] [] r s n e = (refl, e)
read_front [] (y ∷ b) r s n e = absurd (omega arith)
read_front (x ∷ a) [] r s n e = absurd (omega arith)
read_front (x ∷ a) (y ∷ b) r s n e =
    let first : x ≡ y = cc in
    let after : a ++ r ≡ b ++ s = cc in
    let same : length a ≡ length b = omega arith in
    let rest : (a ≡ b) × (r ≡ s) = read_front a b r s same after in
    (cc (first, rest.0), rest.1)

-- spellings of one length that tell their contents
pub read_fixed : {X : Type 0} (P : X → Type 0) (f : X → List ℕ) (k : ℕ) → ((x : X) → length (f x) ≡ k) → ((x y : X) → P x → P y → f x ≡ f y → x ≡ y) → IsReadable P f
read_fixed P f k long tells x y r s p q e =
    let apart : (f x ≡ f y) × (r ≡ s) = read_front (f x) (f y) r s (long x ∙ sym (long y)) e in
    (tells x y p q apart.0, apart.1)

-- two bytes
pub read_short : IsReadable (λ n. n < 2 ^ 16) (to_be_bytes w16)
read_short = read_fixed (λ n. n < 2 ^ 16) (to_be_bytes w16) 2 (λ x. refl)
    (λ x y p q e. sym (from_be_bytes-to_be_bytes_2 x p) ∙ ap (from_be_bytes w16) e ∙ from_be_bytes-to_be_bytes_2 y q)

-- four bytes
pub read_number : IsReadable (λ n. n < 2 ^ 32) (to_be_bytes w32)
read_number = read_fixed (λ n. n < 2 ^ 32) (to_be_bytes w32) 4 (λ x. refl)
    (λ x y p q e. sym (from_be_bytes-to_be_bytes_4 x p) ∙ ap (from_be_bytes w32) e ∙ from_be_bytes-to_be_bytes_4 y q)

-- a symbol in bytes
pub read_symbol : IsReadable IsSymbol symbol_bytes
read_symbol x y r s p q e = read_number x y r s (omega arith) (omega arith) e

-- the symbols of a word
pub symbols_of : (w : List ℕ) → IsWord w → All IsSymbol w
symbols_of w is = All-from_get_or IsSymbol w 0 (λ l lt. is.symbols l)

-- the bytes of a value
pub bytes_of : (v : List ℕ) → IsValue v → AreBytes v
bytes_of v is = All-from_get_or (λ b. b < 256) v 0 (λ i lt. is.bytes i)

-- a word in bytes
pub read_word : IsReadable IsWord word_bytes
read_word v w r s p q e = read_counted IsSymbol symbol_bytes read_symbol v w r s (symbols_of v p) (symbols_of w q) (p.sixteen ∙ sym q.sixteen) e

-- hexadecimal digits differ
pub hex_digit_injective : (d e : ℕ) → d < 16 → e < 16 → hex_digit d ≡ hex_digit e → d ≡ e
hex_digit_injective d e p q same = grind (arith, nat_tests)

-- a digit of a number is below 16
digit_below : (x k : ℕ) → x / k % 16 < 16
digit_below x k = mod-lt (x / k) (omega arith)

-- equal digits in text are equal digits
same_digit : (x y k : ℕ) → hex_digit (x / k % 16) ≡ hex_digit (y / k % 16) → x / k % 16 ≡ y / k % 16
same_digit x y k e = hex_digit_injective (x / k % 16) (y / k % 16) (digit_below x k) (digit_below y k) e

-- the text of a symbol tells it
symbol_text_injective : (x y : ℕ) → IsSymbol x → IsSymbol y → symbol_text x ≡ symbol_text y → x ≡ y
symbol_text_injective x y p q e =
    let first : x / 65536 % 16 ≡ y / 65536 % 16 = same_digit x y 65536 cc in
    let second : x / 4096 % 16 ≡ y / 4096 % 16 = same_digit x y 4096 cc in
    let third : x / 256 % 16 ≡ y / 256 % 16 = same_digit x y 256 cc in
    let fourth : x / 16 % 16 ≡ y / 16 % 16 = same_digit x y 16 cc in
    let low : x % 16 ≡ y % 16 = hex_digit_injective (x % 16) (y % 16) (omega arith) (omega arith) cc in
    let mine : x ≡ 65536 * (x / 65536 % 16) + 4096 * (x / 4096 % 16) + 256 * (x / 256 % 16) + 16 * (x / 16 % 16) + x % 16 = symbol_from_digits x p in
    let theirs : y ≡ 65536 * (y / 65536 % 16) + 4096 * (y / 4096 % 16) + 256 * (y / 256 % 16) + 16 * (y / 16 % 16) + y % 16 = symbol_from_digits y q in
    omega arith

-- a symbol in text
pub read_symbol_text : IsReadable IsSymbol symbol_text
read_symbol_text = read_fixed IsSymbol symbol_text 5 (λ x. refl) symbol_text_injective

-- a word in text
pub read_word_text : IsReadable IsWord word_text
read_word_text v w r s p q e = read_counted IsSymbol symbol_text read_symbol_text v w r s (symbols_of v p) (symbols_of w q) (p.sixteen ∙ sym q.sixteen) e

-- the two digits of a byte tell it
byte_text_injective : (b c : ℕ) → b < 256 → c < 256 → byte_text b ≡ byte_text c → b ≡ c
byte_text_injective b c p q e =
    let high : b / 16 ≡ c / 16 = hex_digit_injective (b / 16) (c / 16) (omega arith) (omega arith) cc in
    let low : b % 16 ≡ c % 16 = hex_digit_injective (b % 16) (c % 16) (omega arith) (omega arith) cc in
    omega arith

-- a byte in text
read_byte_text : IsReadable (λ b. b < 256) byte_text
read_byte_text = read_fixed (λ b. b < 256) byte_text 2 (λ b. refl) byte_text_injective

-- payload in text tells its bytes
pub hex_text_injective : (a b : List ℕ) → AreBytes a → AreBytes b → hex_text a ≡ hex_text b → a ≡ b
hex_text_injective a b p q e =
    let ends : Ends (λ c. c < 256) byte_text [] = λ x t lt none. cc in
    (read_until (λ c. c < 256) byte_text read_byte_text a b [] [] p q ends ends (ap (λ t. t ++ []) e)).0

-- a character from the digit 0 to the letter f
abbrev pub IsFigure : ℕ → Type 0
IsFigure c = (48 ≤ c) × (c ≤ 102)

-- no blank, no line feed
abbrev pub AreFigures : List ℕ → Type 0
AreFigures t = All IsFigure t

-- hexadecimal digits are such characters
hex_digit_figure : (d : ℕ) → d < 16 → IsFigure (hex_digit d)
hex_digit_figure d lt = (grind (arith, nat_tests), grind (arith, nat_tests))

-- a text of such digits
digits_are_figures : (ds : List ℕ) → AllByRecursion (λ d. d < 16) ds → AreFigures (map hex_digit ds)
digits_are_figures ds below =
    All-map IsFigure hex_digit ds (All-weaker (λ d. d < 16) (λ d. IsFigure (hex_digit d)) hex_digit_figure ds (All-from_recursion (λ d. d < 16) ds below))

-- payload
pub hex_text_figures : (bytes : List ℕ) → AreBytes bytes → AreFigures (hex_text bytes)
hex_text_figures [] are = All-nil IsFigure
hex_text_figures (b ∷ bytes) are =
    let byte : b < 256 = All-head (λ b. b < 256) b bytes are in
    All-append IsFigure (byte_text b) (hex_text bytes) (digits_are_figures (b / 16 ∷ b % 16 ∷ []) (omega arith, (omega arith, tt)))
    (hex_text_figures bytes (All-tail (λ b. b < 256) b bytes are))

-- a symbol
pub symbol_text_figures : (x : ℕ) → AreFigures (symbol_text x)
symbol_text_figures x =
    digits_are_figures (x / 65536 % 16 ∷ x / 4096 % 16 ∷ x / 256 % 16 ∷ x / 16 % 16 ∷ x % 16 ∷ [])
    (digit_below x 65536, (digit_below x 4096, (digit_below x 256, (digit_below x 16, (omega arith, tt)))))

-- a word
pub word_text_figures : (w : List ℕ) → AreFigures (word_text w)
word_text_figures [] = All-nil IsFigure
word_text_figures (x ∷ w) = All-append IsFigure (symbol_text x) (word_text w) (symbol_text_figures x) (word_text_figures w)

-- a decimal number
pub decimal_figures : (n : ℕ) → n < 2 ^ 64 → AreFigures (decimal n)
unfolding digits
decimal_figures zero p = All-cons IsFigure 48 [] (omega arith, omega arith) (All-nil IsFigure)
decimal_figures (suc n) p =
    let below : All (λ d. d < 10) (digits_of 10 (suc n)) = All-from_recursion (λ d. d < 10) (digits_of 10 (suc n)) (all_below_base_digits_of 10 (suc n) (omega arith)) in
    All-same IsFigure _ _ (decimal-digits_of (suc n) (omega arith) p)
    (All-map IsFigure (λ d. 48 + d) (digits_of 10 (suc n)) (All-weaker (λ d. d < 10) (λ d. IsFigure (48 + d)) (λ d lt. (omega arith, omega arith)) (digits_of 10 (suc n)) below))

-- a line of a text without a line feed
pub read_line : {X : Type 0} (P : X → Type 0) (f : X → List ℕ) → ((x : X) → P x → All (λ c. c ≢ 10) (f x)) → ((x y : X) → P x → P y → f x ≡ f y → x ≡ y) → IsReadable P (λ x. line (f x))
read_line P f plain tells x y r s p q e =
    let apart : f x ++ 10 ∷ r ≡ f y ++ 10 ∷ s = sym (append_assoc (f x) (10 ∷ []) r) ∙ e ∙ append_assoc (f y) (10 ∷ []) s in
    let parts : (f x ≡ f y) × (r ≡ s) = read_to_byte 10 (f x) (f y) r s (plain x p) (plain y q) apart in
    (tells x y p q parts.0, parts.1)
