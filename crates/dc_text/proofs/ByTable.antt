-- Payload read by a table of what each character counts.
use Rattle.std.proofs.Common.{◌≡◌, ℕ, zero, suc, ◌+◌, ◌*◌, ◌<◌, true, List, [], ◌∷◌, length, get_or, Some, is_some, refl, sym, ◌∙◌, ap, arith}
use Rattle.std.proofs.lemmas.List.{same_lists, get_or_default}
use Rattle.dc_field.specs.WordInText.{digit_in, count_of}
use Rattle.dc_text.specs.Payload.{payload_in}
use Rattle.dc_text.proofs.PayloadDigits.{parts_of, there, some_there, length-payload_in}

-- the digit after a zero is the byte
pub one_digit : (c : ℕ) (now : List ℕ) → payload_in (48 ∷ c ∷ []) ≡ Some now → digit_in c ≡ Some (get_or now 0 0)
one_digit c now e =
    let parts = parts_of (Some 0) (digit_in c) (Some []) now e in
    let none : 0 ≡ parts.first = cc parts.is_high in
    let byte : 16 * parts.first + parts.second ≡ get_or now 0 0 = ap (λ (xs : List ℕ). get_or xs 0 0) parts.joined in
    parts.is_low ∙ ap Some (omega (arith, byte, none))

-- a digit after a zero is payload
pub zero_before : (c : ℕ) → is_some (digit_in c) ≡ true → is_some (payload_in (48 ∷ c ∷ [])) ≡ true
zero_before c is = let d = there (digit_in c) is in rw d.1 refl

-- a digit's count
pub counts : (c d : ℕ) → digit_in c ≡ Some d → count_of c ≡ d
counts c d e = rw e refl

-- each character of payload is a digit
pub digit_there : (text bytes : List ℕ) (k : ℕ) → payload_in text ≡ Some bytes → k < length text → is_some (digit_in (get_or text k 0)) ≡ true
digit_there [] bytes k e lt = absurd (omega arith)
digit_there (digit ∷ []) bytes k e lt = absurd cc
digit_there (high ∷ low ∷ rest) bytes zero e lt = let parts = parts_of (digit_in high) (digit_in low) (payload_in rest) bytes e in ap is_some parts.is_high
digit_there (high ∷ low ∷ rest) bytes (suc zero) e lt = let parts = parts_of (digit_in high) (digit_in low) (payload_in rest) bytes e in ap is_some parts.is_low
digit_there (high ∷ low ∷ rest) bytes (suc (suc k)) e lt = let parts = parts_of (digit_in high) (digit_in low) (payload_in rest) bytes e in digit_there rest parts.others k parts.is_rest (omega arith)

-- two characters further on
shifted : (high low : ℕ) (rest : List ℕ) (m n : ℕ) → m ≡ suc (suc n) → get_or (high ∷ low ∷ rest) m 0 ≡ get_or rest n 0
shifted high low rest m n e = ap (λ (k : ℕ). get_or (high ∷ low ∷ rest) k 0) e

-- equal characters are one byte
same_pair : (xs ys : List ℕ) (a b c d : ℕ) → get_or xs a 0 ≡ get_or ys c 0 → get_or xs b 0 ≡ get_or ys d 0
    → 16 * count_of (get_or xs a 0) + count_of (get_or xs b 0) ≡ 16 * count_of (get_or ys c 0) + count_of (get_or ys d 0)
same_pair xs ys a b c d e f = ap (λ (x : ℕ). 16 * count_of x + count_of (get_or xs b 0)) e ∙ ap (λ (x : ℕ). 16 * count_of (get_or ys c 0) + count_of x) f

-- each byte of payload is that of its two digits
pub byte_there : (text bytes : List ℕ) (i : ℕ) → payload_in text ≡ Some bytes → i < length bytes → get_or bytes i 0 ≡ 16 * count_of (get_or text (2 * i) 0) + count_of (get_or text (2 * i + 1) 0)
byte_there [] bytes i e lt = let none : [] ≡ bytes = cc in absurd (omega (arith, ap (λ (xs : List ℕ). length xs) none))
byte_there (digit ∷ []) bytes i e lt = absurd cc
byte_there (high ∷ low ∷ rest) bytes zero e lt =
    let parts = parts_of (digit_in high) (digit_in low) (payload_in rest) bytes e in
    ap (λ (xs : List ℕ). get_or xs 0 0) (sym parts.joined) ∙ rw (counts high parts.first parts.is_high, counts low parts.second parts.is_low) refl
byte_there (high ∷ low ∷ rest) bytes (suc i) e lt =
    let parts = parts_of (digit_in high) (digit_in low) (payload_in rest) bytes e in
    let long = ap (λ (xs : List ℕ). length xs) parts.joined in
    let even = shifted high low rest (2 * suc i) (2 * i) (omega arith) in
    let odd = shifted high low rest (2 * suc i + 1) (2 * i + 1) (omega arith) in
    ap (λ (xs : List ℕ). get_or xs (suc i) 0) (sym parts.joined) ∙ byte_there rest parts.others i parts.is_rest (omega (arith, long))
    ∙ same_pair rest (high ∷ low ∷ rest) (2 * i) (2 * i + 1) (2 * suc i) (2 * suc i + 1) (sym even) (sym odd)

-- bytes that are those of their digits are the payload
pub all_there : (text now : List ℕ) → is_some (payload_in text) ≡ true → length text ≡ 2 * length now
    → ((k : ℕ) → k < length now → get_or now k 0 ≡ 16 * count_of (get_or text (2 * k) 0) + count_of (get_or text (2 * k + 1) 0)) → payload_in text ≡ Some now
all_there text now is long each =
    let read = some_there (payload_in text) is in
    let size = length-payload_in text read.0 read.1 in
    let same : read.0 ≡ now = same_lists read.0 now (omega (arith, size, long)) (λ k d lt.
    let here : k < length now = omega (arith, size, long) in
    get_or_default read.0 k d 0 lt ∙ byte_there text read.0 k read.1 lt ∙ sym (each k here) ∙ sym (get_or_default now k d 0 here)) in
    read.1 ∙ ap Some same

pub digit_at : (text : List ℕ) (k : ℕ) → is_some (payload_in text) ≡ true → k < length text → is_some (digit_in (get_or text k 0)) ≡ true
digit_at text k is lt = let read = some_there (payload_in text) is in digit_there text read.0 k read.1 lt
