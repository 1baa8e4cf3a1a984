-- A symbol in text, read and written.
use Rattle.std.proofs.Common.{◌≡◌, ℕ, ◌/◌, ◌%◌, ◌<◌, ◌==◌, Bool, true, false, cond, List, length, map, Option, Some, None, IfSome, refl, sym, subst, ap, ◌∙◌, arith, is_none}
use Rattle.std.specs.Prelude.{position, nat_lt}
use Rattle.std.proofs.lemmas.Bool.{eqb-true, lt-ltb, ltb-true}
use Rattle.std.proofs.lemmas.List.{take_all}
use Rattle.std.proofs.lemmas.List.Elements.{All-get_or}
use Rattle.dc_spec.proofs.TextLemmas.{symbol_from_digits}
use Rattle.dc_spec.specs.Text.{symbol_text}
use Rattle.dc_field.specs.WordInText.{digit_in, count_of, symbol_at}
use Rattle.dc_field.specs.SymbolInText.{symbol_of_digits, symbol_of_text}
use Rattle.dc_field.proofs.Positions.{none_where_fails}
use Rattle.dc_field.proofs.WordText.{each_counts, five_digits, symbol_digits, count_of-hex_digit}

-- a symbol that was found
symbol_there : (b : Bool) (x y : ℕ) → cond b (Some x) None ≡ Some y → (b ≡ true) × (x ≡ y)
symbol_there true x y e = (refl, cc)
symbol_there false x y e = absurd cc

digits_there : (text : List ℕ) (o : Option ℕ) (x : ℕ) → symbol_of_digits text o ≡ Some x → (o ≡ None) × (symbol_at (map count_of text) 0 ≡ x) × (x < 65537)
digits_there text None x e =
    let there = symbol_there (nat_lt (symbol_at (map count_of text) 0) 65537) (symbol_at (map count_of text) 0) x e in
    (refl, there.1, subst (λ (n : ℕ). n < 65537) there.1 (ltb-true _ _ there.0))
digits_there text (Some place) x e = absurd cc

length_there : (b : Bool) (o : Option ℕ) (x : ℕ) → cond b o None ≡ Some x → (b ≡ true) × (o ≡ Some x)
length_there true o x e = (refl, e)
length_there false o x e = absurd cc

-- what is read is spelled so, and is a symbol
pub symbol_text-symbol_of_text : (text : List ℕ) (x : ℕ) → symbol_of_text text ≡ Some x → text ≡ symbol_text x
symbol_text-symbol_of_text text x e =
    let long = length_there (length text == 5) (symbol_of_digits text (position (λ c. is_none (digit_in c)) text)) x e in
    let parts = digits_there text (position (λ c. is_none (digit_in c)) text) x long.1 in
    let five : length text ≡ 5 = eqb-true _ _ long.0 in
    sym (five_digits text 0 (omega (arith, five)) (each_counts text parts.0) ∙ take_all 5 text (omega (arith, five))) ∙ ap symbol_text parts.1

pub symbol_below : (text : List ℕ) (x : ℕ) → symbol_of_text text ≡ Some x → x < 65537
symbol_below text x e =
    let long = length_there (length text == 5) (symbol_of_digits text (position (λ c. is_none (digit_in c)) text)) x e in
    (digits_there text (position (λ c. is_none (digit_in c)) text) x long.1).2

pub symbol_found : (text : List ℕ) (o : Option ℕ) → o ≡ symbol_of_text text → IfSome o (λ x. text ≡ symbol_text x)
symbol_found text (Some x) e = symbol_text-symbol_of_text text x (sym e)
symbol_found text None e = tt

-- what is spelled so is read
pub symbol_of_text-symbol_text : (x : ℕ) → x < 65537 → symbol_of_text (symbol_text x) ≡ Some x
symbol_of_text-symbol_text x small =
    let none : position (λ c. is_none (digit_in c)) (symbol_text x) ≡ None = none_where_fails (λ c. is_none (digit_in c)) (symbol_text x) 0 (λ k lt. All-get_or (λ c. is_none (digit_in c) ≡ false) (symbol_text x) k 0 lt (symbol_digits x)) in
    let number : symbol_at (map count_of (symbol_text x)) 0 ≡ x = rw (
      count_of-hex_digit (x / 65536 % 16) (omega arith),
      count_of-hex_digit (x / 4096 % 16) (omega arith),
      count_of-hex_digit (x / 256 % 16) (omega arith),
      count_of-hex_digit (x / 16 % 16) (omega arith),
      count_of-hex_digit (x % 16) (omega arith),
    )
    (sym (symbol_from_digits x small)) in
    rw (none, number, lt-ltb x 65537 small) refl
