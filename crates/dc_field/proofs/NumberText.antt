-- The number in a text is the one that is written so.
use Rattle.std.proofs.Common.{◌≡◌, ℕ, ◌^◌, ◌<◌, Bool, true, false, ◌&&◌, cond, ltb, List, Option, Some, None, refl, sym, ◌∙◌, ap, arith}
use Rattle.std.specs.Prelude.{bytes_eq}
use Rattle.std.specs.Fmt.{decimal}
use Rattle.std.specs.Str.{all_ascii_digits}
use Rattle.std.specs.Str.Parse.{digits_value}
use Rattle.std.proofs.lemmas.Bool.{and_parts, ltb-true, lt-ltb}
use Rattle.std.proofs.lemmas.Str.Parse.{IsNumeralModel, numerals_by_value, tells_all_ascii_digits}
use Rattle.std.proofs.lemmas.Fmt.{digits_value-decimal}
use Rattle.std.proofs.lemmas.Slice.Eq.{bytes_eq-Decides}
use Rattle.dc_field.specs.NumberInText.{number_in}

-- texts of digits and their value
digits_own : IsNumeralModel (λ ds. all_ascii_digits ds ≡ true) (digits_value 10)
digits_own = numerals_by_value (λ ds. all_ascii_digits ds ≡ true) tells_all_ascii_digits

-- a number that is written is read
pub number_in-decimal : (n : ℕ) → n < 2 ^ 32 → number_in (decimal n) ≡ Some n
number_in-decimal n lt =
    let same : digits_value 10 (decimal n) ≡ n = digits_value-decimal digits_own n (omega arith) in
    let written : bytes_eq (decimal n) (decimal n) ≡ true = (bytes_eq-Decides (decimal n) (decimal n)).1 refl in
    rw (same, lt-ltb n (2 ^ 32) lt, written) refl

-- a choice that gave a number: its condition, and the number
chosen : (b : Bool) (m n : ℕ) → cond b (Some m) None ≡ Some n → (b ≡ true) × (m ≡ n)
chosen true m n e = (refl, cc)
chosen false m n e = absurd cc

-- a number that is read is written so
pub written_so : (text : List ℕ) (n : ℕ) → number_in text ≡ Some n → (n < 2 ^ 32) × (text ≡ decimal n)
written_so text n e =
    let value : ℕ = digits_value 10 text in
    let told = chosen (ltb (digits_value 10 text) (2 ^ 32) && bytes_eq (decimal (digits_value 10 text)) text) (digits_value 10 text) n e in
    let parts = and_parts (ltb (digits_value 10 text) (2 ^ 32)) (bytes_eq (decimal (digits_value 10 text)) text) told.0 in
    let small : digits_value 10 text < 2 ^ 32 = ltb-true _ _ parts.0 in
    (omega (arith, told.1), sym ((bytes_eq-Decides (decimal (digits_value 10 text)) text).0 parts.1) ∙ ap decimal told.1)

-- an answer with the number that is written is the one that is due
pub some_is_due : (text : List ℕ) (n : ℕ) → n < 2 ^ 32 → text ≡ decimal n → Some n ≡ number_in text
some_is_due text n lt is = sym (number_in-decimal n lt) ∙ ap number_in (sym is)

due_none : (text : List ℕ) (due : Option ℕ) → ((n : ℕ) → n < 2 ^ 32 → text ≡ decimal n → None ≡ Some n) → number_in text ≡ due → None ≡ due
due_none text None only is = refl
due_none text (Some n) only is = let w = written_so text n is in only n w.0 w.1

-- so is none, where no number is written so
pub none_is_due : (text : List ℕ) → ((n : ℕ) → n < 2 ^ 32 → text ≡ decimal n → None ≡ Some n) → None ≡ number_in text
none_is_due text only = due_none text (number_in text) only refl
