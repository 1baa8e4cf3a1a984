-- Payload in digits, read and written.
use Rattle.std.proofs.Common.{◌≡◌, ℕ, suc, ◌+◌, ◌*◌, ◌/◌, ◌%◌, ◌<◌, ◌==◌, true, false, ◌&&◌, List, [], ◌∷◌, length, get_or, slice_index, Option, Some, None, Result, Ok, Err, is_some, refl, sym, ◌∙◌, ap, subst, arith, eqb-true, eq-eqb, true≢false, inl, inr, ◌≢◌}
use Rattle.std.specs.Prelude.{option_map, MatchResult}
use Rattle.std.specs.List.{list_all, range_with_len}
use Rattle.std.proofs.lemmas.Bool.{and_parts, cases_lt, ne_eqb}
use Rattle.std.proofs.lemmas.List.{get_or_past}
use Rattle.std.proofs.lemmas.List.Elements.{All-nil, All-cons, All-head, All-tail, All-get_or}
use Rattle.std.proofs.lemmas.List.Sums.{AllPass-from_list_all}
use Rattle.std.proofs.lemmas.List.FromFn.{get_or-range_with_len}
use Rattle.hex.specs.Hex.{encode_with, encode_lower, lower_digits, decode_of, decode_sized}
use Rattle.hex.specs.declared.error.FromHexError.{FromHexError}
use Rattle.hex.proofs.HexLemmas.{decode_of-encode_lower}
use Rattle.dc_spec.specs.Text.{hex_digit}
use Rattle.dc_formats.specs.TextFile.{AreBytes, hex_text}
use Rattle.dc_field.specs.WordInText.{digit_in}
use Rattle.dc_text.proofs.HexDigits.{digit_in-hex_digit, hex_digit-digit_in}
use Rattle.dc_text.specs.Payload.{byte_before, payload_in}

-- ---- the bytes and their digits

-- what is written of bytes is read as them
pub payload_in-hex_text : (bytes : List ℕ) → AreBytes bytes → payload_in (hex_text bytes) ≡ Some bytes
payload_in-hex_text [] are = refl
payload_in-hex_text (b ∷ bytes) are =
    let small : b < 256 = All-head (λ b. b < 256) b bytes are in
    let whole : 16 * (b / 16) + b % 16 ≡ b = omega arith in
    rw (digit_in-hex_digit (b / 16) (omega arith), digit_in-hex_digit (b % 16) (omega arith), payload_in-hex_text bytes (All-tail (λ b. b < 256) b bytes are), whole) refl

-- the parts of a byte before others
pub record AreParts (high low : Option ℕ) (rest : Option (List ℕ)) (bytes : List ℕ) : Type 0 where
  pub first : ℕ
  pub second : ℕ
  pub others : List ℕ
  pub is_high : high ≡ Some first
  pub is_low : low ≡ Some second
  pub is_rest : rest ≡ Some others
  pub joined : (16 * first + second) ∷ others ≡ bytes

pub parts_of : (high low : Option ℕ) (rest : Option (List ℕ)) (bytes : List ℕ) → byte_before high low rest ≡ Some bytes → AreParts high low rest bytes
parts_of (Some h) (Some l) (Some others) bytes e = record { first = h; second = l; others = others; is_high = refl; is_low = refl; is_rest = refl; joined = cc }
parts_of (Some h) (Some l) None bytes e = absurd cc
parts_of (Some h) None rest bytes e = absurd cc
parts_of None low rest bytes e = absurd cc

-- what is read of digits is written so
pub hex_text-payload_in : (text bytes : List ℕ) → payload_in text ≡ Some bytes → AreBytes bytes × (text ≡ hex_text bytes)
hex_text-payload_in [] bytes e = let none : [] ≡ bytes = cc in (subst AreBytes none (All-nil (λ b. b < 256)), ap hex_text none)
hex_text-payload_in (digit ∷ []) bytes e = absurd cc
hex_text-payload_in (high ∷ low ∷ rest) bytes e =
    let parts = parts_of (digit_in high) (digit_in low) (payload_in rest) bytes e in
    let first = hex_digit-digit_in high parts.first parts.is_high in
    let second = hex_digit-digit_in low parts.second parts.is_low in
    let after = hex_text-payload_in rest parts.others parts.is_rest in
    let byte : 16 * parts.first + parts.second < 256 = omega arith in
    let top : (16 * parts.first + parts.second) / 16 ≡ parts.first = omega arith in
    let bottom : (16 * parts.first + parts.second) % 16 ≡ parts.second = omega arith in
    let spelled : high ∷ low ∷ rest ≡ hex_text ((16 * parts.first + parts.second) ∷ parts.others) = rw (top, bottom) (cc (first.1, second.1, after.1)) in
    (subst AreBytes parts.joined (All-cons (λ b. b < 256) (16 * parts.first + parts.second) parts.others byte after.0), spelled ∙ ap hex_text parts.joined)

-- two digits a byte
pub length-hex_text : (bytes : List ℕ) → length (hex_text bytes) ≡ 2 * length bytes
length-hex_text [] = refl
length-hex_text (b ∷ bytes) = omega (arith, length-hex_text bytes)

pub length-payload_in : (text bytes : List ℕ) → payload_in text ≡ Some bytes → length text ≡ 2 * length bytes
length-payload_in text bytes e = ap length (hex_text-payload_in text bytes e).1 ∙ length-hex_text bytes

-- ---- a text of digits

pub there : (o : Option ℕ) → is_some o ≡ true → (d : ℕ) × (o ≡ Some d)
there (Some d) e = (d, refl)
there None e = absurd cc

joined : (h l : ℕ) (others : List ℕ) (high low : Option ℕ) (rest : Option (List ℕ)) → high ≡ Some h → low ≡ Some l → rest ≡ Some others → byte_before high low rest ≡ Some ((16 * h + l) ∷ others)
joined h l others high low rest is_high is_low is_rest = rw (is_high, is_low, is_rest) refl

-- an even number of digits is payload
payload_there : (text : List ℕ) → length text % 2 ≡ 0 → list_all (λ c. is_some (digit_in c)) text ≡ true → (bytes : List ℕ) × (payload_in text ≡ Some bytes)
payload_there [] even all = ([], refl)
payload_there (digit ∷ []) even all = absurd (omega arith)
payload_there (high ∷ low ∷ rest) even all =
    let first = and_parts (is_some (digit_in high)) (is_some (digit_in low) && list_all (λ c. is_some (digit_in c)) rest) all in
    let second = and_parts (is_some (digit_in low)) (list_all (λ c. is_some (digit_in c)) rest) first.1 in
    let h = there (digit_in high) first.0 in
    let l = there (digit_in low) second.0 in
    let after = payload_there rest (omega arith) second.1 in
    ((16 * h.0 + l.0) ∷ after.0, joined h.0 l.0 after.0 (digit_in high) (digit_in low) (payload_in rest) h.1 l.1 after.1)

-- payload is digits alone
digits_there : (text bytes : List ℕ) → payload_in text ≡ Some bytes → list_all (λ c. is_some (digit_in c)) text ≡ true
digits_there [] bytes e = refl
digits_there (digit ∷ []) bytes e = absurd cc
digits_there (high ∷ low ∷ rest) bytes e =
    let parts = parts_of (digit_in high) (digit_in low) (payload_in rest) bytes e in
    rw (parts.is_high, parts.is_low, digits_there rest parts.others parts.is_rest) refl

-- the length of payload is told
pub length_told : (text : List ℕ) → length text % 2 ≡ 0 → list_all (λ c. is_some (digit_in c)) text ≡ true → Some (length text / 2) ≡ option_map length (payload_in text)
length_told text even all =
    let read = payload_there text even all in
    let half : length text / 2 ≡ length read.0 = omega (arith, length-payload_in text read.0 read.1) in
    ap Some half ∙ sym (ap (option_map length) read.1)

-- such a text is payload
pub is_payload : (text : List ℕ) → length text % 2 ≡ 0 → list_all (λ c. is_some (digit_in c)) text ≡ true → is_some (payload_in text) ≡ true
is_payload text even all = ap is_some (payload_there text even all).1

none_told : (text : List ℕ) (o : Option (List ℕ)) → ((bytes : List ℕ) → payload_in text ≡ Some bytes → ⊥) → payload_in text ≡ o → None ≡ option_map length o
none_told text None never e = refl
none_told text (Some bytes) never e = absurd (never bytes e)

-- and none where the number of characters is odd
pub odd_refused : (text : List ℕ) → length text % 2 ≢ 0 → None ≡ option_map length (payload_in text)
odd_refused text odd = none_told text (payload_in text) (λ bytes e. odd (omega (arith, length-payload_in text bytes e))) refl

-- or one of them is no digit
pub character_refused : (text : List ℕ) → list_all (λ c. is_some (digit_in c)) text ≡ false → None ≡ option_map length (payload_in text)
character_refused text bad = none_told text (payload_in text) (λ bytes e. true≢false (sym (digits_there text bytes e) ∙ bad)) refl

-- ---- the digits that are written and read by tables

-- the character of a digit
digit_same : (d : ℕ) → d < 16 → slice_index lower_digits d ≡ hex_digit d
digit_same d lt =
    let place : get_or (range_with_len 0 16) d 0 ≡ d = get_or-range_with_len 0 16 d 0 lt ∙ omega arith in
    eqb-true _ _ (subst (λ (k : ℕ). (slice_index lower_digits k == hex_digit k) ≡ true) place (AllPass-from_list_all (λ k. slice_index lower_digits k == hex_digit k) (range_with_len 0 16) refl d 0 lt))

-- payload in digits
pub encoded : (bytes : List ℕ) → ((i : ℕ) → get_or bytes i 0 < 256) → encode_lower bytes ≡ hex_text bytes
unfolding encode_with
encoded [] each = refl
encoded (b ∷ bytes) each =
    let small : b < 256 = each 0 in
    let high = digit_same (b / 16) (omega arith) in
    let low = digit_same (b % 16) (omega arith) in
    rw (high, low, encoded bytes (λ i. each (suc i))) refl

-- digits in bytes: payload is decoded as it is read
pub decoded : (text bytes : List ℕ) → payload_in text ≡ Some bytes → decode_of text ≡ Ok bytes
decoded text bytes e =
    let read = hex_text-payload_in text bytes e in
    let small : (i : ℕ) → get_or bytes i 0 < 256 = λ i. elim (cases_lt i (length bytes)) [
      | inl lt ↦ All-get_or (λ b. b < 256) bytes i 0 lt read.0
      | inr le ↦ rw (get_or_past bytes i 0 le) (omega arith)
    ] in
    ap decode_of (read.1 ∙ sym (encoded bytes small)) ∙ decode_of-encode_lower bytes small

pub some_there : (o : Option (List ℕ)) → is_some o ≡ true → (bytes : List ℕ) × (o ≡ Some bytes)
some_there (Some bytes) e = (bytes, refl)
some_there None e = absurd cc

-- payload is decoded into room of its length
sized : (text bytes : List ℕ) (n : ℕ) → payload_in text ≡ Some bytes → length text ≡ 2 * n → decode_sized text n ≡ Ok bytes
sized text bytes n e long =
    let even : (length text % 2 == 1) ≡ false = ne_eqb (length text % 2) 1 (λ odd. omega arith) in
    let half : (length text / 2 == n) ≡ true = eq-eqb (length text / 2) n (omega arith) in
    let pairs : decode_of text ≡ Ok bytes = decoded text bytes e in
    rw (even, half) (rw even at pairs)

-- so the room holds it
pub put_is : (text was now : List ℕ) (r : Result (Unit {0}) FromHexError) → is_some (payload_in text) ≡ true → length text ≡ 2 * length was
    → MatchResult (decode_sized text (length was)) (λ bytes. (r ≡ Ok tt) × (now ≡ bytes)) (λ e. r ≡ Err e) → payload_in text ≡ Some now
put_is text was now r is long given =
    let read = some_there (payload_in text) is in
    let done = rw (sized text read.0 (length was) read.1 long) at given in
    read.1 ∙ ap Some (sym done.1)
