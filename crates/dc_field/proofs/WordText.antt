-- A word in text, read and written.
use Rattle.std.proofs.Common.{◌≡◌, ℕ, zero, suc, ◌+◌, ◌*◌, ◌/◌, ◌%◌, ◌<◌, ◌≤◌, Bool, true, false, cond, ltb, eqb, List, [], ◌∷◌, ◌++◌, length, take, drop, get_or, map, Option, Some, None, Result, Ok, Err, IfOk, All, refl, sym, ap, subst, ◌∙◌, arith, append-nil, add-one, take-add, unwrap_or, is_none}
use Rattle.std.specs.Prelude.{position}
use Rattle.std.specs.List.{AllByRecursion, range_with_len, flat_map}
use Rattle.std.proofs.lemmas.Bool.{eqb-true, eq-eqb}
use Rattle.std.proofs.lemmas.List.{get_or-map, length-map, length-take, length-drop, get_or-take, get_or-drop, take_all}
use Rattle.std.proofs.lemmas.List.Concat.{flat_map-append, get_or-flat_map}
use Rattle.std.proofs.lemmas.List.FromFn.{map-range_with_len_more}
use Rattle.std.proofs.lemmas.List.Elements.{All-nil, All-append, All-map, All-weaker, All-from_recursion, All-get_or}
use Rattle.dc_spec.proofs.TextLemmas.{symbol_from_digits}
use Rattle.dc_spec.specs.Words.{IsWord, word_of}
use Rattle.dc_spec.specs.Text.{hex_digit, symbol_text, word_text}
use Rattle.dc_spec.proofs.WordLemmas.{word_from_symbols, length-word_of}
use Rattle.dc_spec.proofs.ByteLemmas.{length_of_pieces}
use Rattle.dc_field.specs.declared.word_from_text.WordFault.{WordFault}
use Rattle.dc_field.specs.declared.word_from_text.WordFault.TheVariants.{Length}
use Rattle.dc_field.specs.WordInBytes.{judged}
use Rattle.dc_field.proofs.HexDigits.{digit_in-hex_digit, hex_digit-digit_in}
use Rattle.dc_field.proofs.WordBytes.{none_above}
use Rattle.dc_field.proofs.FirstAbove.{IsWord-from_position}
use Rattle.dc_field.proofs.Positions.{fails_where_none, none_where_fails}
use Rattle.dc_field.specs.WordInText.{digit_in, count_of, symbol_at, numbers_of, told_in_text, word_of_digits, word_of_text}

-- ---- counts of characters

-- a count below 16 is a digit's
digit_there : (o : Option ℕ) → unwrap_or o 16 < 16 → o ≡ Some (unwrap_or o 16)
digit_there (Some d) lt = refl
digit_there None lt = absurd (omega arith)

-- a character that is no digit counts 16
counted : (o : Option ℕ) → is_none o ≡ false → o ≡ Some (unwrap_or o 16)
counted (Some d) e = refl
counted None e = absurd cc

-- counts that are all below 16 are those of digits
pub none_there : (text : List ℕ) (most : ℕ) → All (λ d. d ≤ most) (map count_of text) → most < 16 → None ≡ position (λ c. is_none (digit_in c)) text
none_there text most all small =
    let each : (k : ℕ) → k < length text → is_none (digit_in (get_or text k 0)) ≡ false = λ k lt.
    let here : count_of (get_or text k 0) ≤ most = rw (← get_or-map count_of text k 0 0 lt) (All-get_or (λ d. d ≤ most) (map count_of text) k 0 (omega (arith, length-map text count_of)) all) in
    rw (digit_there (digit_in (get_or text k 0)) (omega arith)) refl in
    sym (none_where_fails (λ c. is_none (digit_in c)) text 0 each)

-- where no character is found that is no digit, each is one
pub each_counts : (text : List ℕ) → position (λ c. is_none (digit_in c)) text ≡ None → (k : ℕ) → k < length text → digit_in (get_or text k 0) ≡ Some (count_of (get_or text k 0))
each_counts text none k lt = counted (digit_in (get_or text k 0)) (fails_where_none (λ c. is_none (digit_in c)) text k 0 none lt)

-- ---- from digits to symbols and back

-- the digits of a number that five of them make up
digits_of_number : (a b c d e x : ℕ) → a < 16 → b < 16 → c < 16 → d < 16 → e < 16 → x ≡ 65536 * a + 4096 * b + 256 * c + 16 * d + e
    → (x / 65536 % 16 ≡ a) × (x / 4096 % 16 ≡ b) × (x / 256 % 16 ≡ c) × (x / 16 % 16 ≡ d) × (x % 16 ≡ e)
digits_of_number a b c d e x pa pb pc pd pe is = (omega arith, omega arith, omega arith, omega arith, omega arith)

-- a list of five
five : (xs : List ℕ) → length xs ≡ 5 → xs ≡ get_or xs 0 0 ∷ get_or xs 1 0 ∷ get_or xs 2 0 ∷ get_or xs 3 0 ∷ get_or xs 4 0 ∷ []
five [] e = absurd (omega arith)
five (a ∷ []) e = absurd (omega arith)
five (a ∷ b ∷ []) e = absurd (omega arith)
five (a ∷ b ∷ c ∷ []) e = absurd (omega arith)
five (a ∷ b ∷ c ∷ d ∷ []) e = absurd (omega arith)
five (a ∷ b ∷ c ∷ d ∷ f ∷ []) e = refl
five (a ∷ b ∷ c ∷ d ∷ f ∷ g ∷ xs) e = absurd (omega arith)

-- ---- the text that is read is the word's

-- each character of a text is a digit
abbrev AreDigits : List ℕ → Type 0
AreDigits text = (k : ℕ) → k < length text → digit_in (get_or text k 0) ≡ Some (count_of (get_or text k 0))

-- an item of a piece
piece_at : (text : List ℕ) (at j : ℕ) → j < 5 → get_or (take 5 (drop at text)) j 0 ≡ get_or text (at + j) 0
piece_at text at j lt = get_or-take 5 (drop at text) j 0 lt ∙ get_or-drop at text j 0

-- the count there
count_there : (text : List ℕ) (at : ℕ) → at < length text → AreDigits text → (get_or (map count_of text) at 0 < 16) × (get_or text at 0 ≡ hex_digit (get_or (map count_of text) at 0))
count_there text at lt are =
    let same : get_or (map count_of text) at 0 ≡ count_of (get_or text at 0) = get_or-map count_of text at 0 0 lt in
    rw same (hex_digit-digit_in (get_or text at 0) (count_of (get_or text at 0)) (are at lt))

-- five digits are those of the symbol that they spell
pub five_digits : (text : List ℕ) (at : ℕ) → at + 5 ≤ length text → AreDigits text → symbol_text (symbol_at (map count_of text) at) ≡ take 5 (drop at text)
five_digits text at room are =
    let first = count_there text at (omega arith) are in
    let second = count_there text (at + 1) (omega arith) are in
    let third = count_there text (at + 2) (omega arith) are in
    let fourth = count_there text (at + 3) (omega arith) are in
    let fifth = count_there text (at + 4) (omega arith) are in
    let x : ℕ = symbol_at (map count_of text) at in
    let parts = digits_of_number _ _ _ _ _ (symbol_at (map count_of text) at) first.0 second.0 third.0 fourth.0 fifth.0 refl in
    let here : at + 0 ≡ at = omega arith in
    let long : length (take 5 (drop at text)) ≡ 5 = omega (arith, length-take 5 (drop at text), length-drop at text) in
    sym (five (take 5 (drop at text)) long
    ∙ rw (piece_at text at 0 (omega arith), piece_at text at 1 (omega arith), piece_at text at 2 (omega arith), piece_at text at 3 (omega arith), piece_at text at 4 (omega arith), here, first.1, second.1, third.1, fourth.1, fifth.1, parts.0, parts.1, parts.2, parts.3, parts.4) refl)

-- the text of so many symbols that stand at the front
front_text : List ℕ → ℕ → List ℕ
front_text text n = flat_map symbol_text (map (λ l. symbol_at (map count_of text) (5 * l)) (range_with_len 0 n))

-- one symbol more
front_more : (text : List ℕ) (n : ℕ) → 5 * (n + 1) ≤ length text → AreDigits text → front_text text n ≡ take (5 * n) text → front_text text (n + 1) ≡ take (5 * (n + 1)) text
unfolding front_text
front_more text n room are so_far =
    let more = map-range_with_len_more (λ l. symbol_at (map count_of text) (5 * l)) 0 n n (omega arith) in
    let next : 5 * (n + 1) ≡ 5 * n + 5 = omega arith in
    let one : flat_map symbol_text (symbol_at (map count_of text) (5 * n) ∷ []) ≡ take 5 (drop (5 * n) text) = append-nil (symbol_text (symbol_at (map count_of text) (5 * n))) ∙ five_digits text (5 * n) (omega arith) are in
    rw (next, take-add (5 * n) 5 text, more, flat_map-append, so_far) (ap (λ (ys : List ℕ). take (5 * n) text ++ ys) one)

-- the text of the symbols at the front is that front
front_back : (text : List ℕ) (n : ℕ) → 5 * n ≤ length text → AreDigits text → front_text text n ≡ take (5 * n) text
unfolding front_text
front_back text zero room are = refl
front_back text (suc n) room are =
    let P : ℕ → Type 0 = λ k. front_text text k ≡ take (5 * k) text in
    subst P (add-one n) (front_more text n (omega arith) are (front_back text n (omega arith) are))

-- the text of the numbers in a text is that text
word_text-numbers_of : (text : List ℕ) → length text ≡ 80 → AreDigits text → word_text (numbers_of (map count_of text)) ≡ text
unfolding word_of front_text
word_text-numbers_of text long are = front_back text 16 (omega arith) are ∙ ap (λ (n : ℕ). take n text) (sym long) ∙ take_all (length text) text (omega arith)

-- a word without a fault is the numbers
told_ok : (numbers : List ℕ) (o : Option ℕ) (w : List ℕ) → told_in_text (judged numbers o) ≡ Ok w → numbers ≡ w
told_ok numbers None w e = cc
told_ok numbers (Some l) w e = absurd cc

-- a word is read where all characters are digits
digits_ok : (text : List ℕ) (o : Option ℕ) (w : List ℕ) → word_of_digits text o ≡ Ok w → (o ≡ None) × (numbers_of (map count_of text) ≡ w)
digits_ok text None w e = (refl, told_ok (numbers_of (map count_of text)) (position (λ x. ltb 65536 x) (numbers_of (map count_of text))) w e)
digits_ok text (Some place) w e = absurd cc

-- a word is read of eighty characters
length_ok : (b : Bool) (text : List ℕ) (o : Option ℕ) (w : List ℕ) → cond b (word_of_digits text o) (Err (Length (length text))) ≡ Ok w → (b ≡ true) × (word_of_digits text o ≡ Ok w)
length_ok true text o w e = (refl, e)
length_ok false text o w e = absurd cc

-- what is read is spelled so
pub word_text-word_of_text : (text w : List ℕ) → word_of_text text ≡ Ok w → text ≡ word_text w
word_text-word_of_text text w e =
    let o = position (λ c. is_none (digit_in c)) text in
    let long = length_ok (eqb (length text) 80) text (position (λ c. is_none (digit_in c)) text) w e in
    let parts = digits_ok text (position (λ c. is_none (digit_in c)) text) w long.1 in
    sym (word_text-numbers_of text (eqb-true _ _ long.0) (each_counts text parts.0)) ∙ ap word_text parts.1

-- no number was too great
none_told : (numbers : List ℕ) (o : Option ℕ) (w : List ℕ) → told_in_text (judged numbers o) ≡ Ok w → o ≡ None
none_told numbers None w e = refl
none_told numbers (Some l) w e = absurd cc

none_in_digits : (text : List ℕ) (o : Option ℕ) (w : List ℕ) → word_of_digits text o ≡ Ok w → position (λ x. ltb 65536 x) (numbers_of (map count_of text)) ≡ None
none_in_digits text None w e = none_told (numbers_of (map count_of text)) (position (λ x. ltb 65536 x) (numbers_of (map count_of text))) w e
none_in_digits text (Some place) w e = absurd cc

-- what is read is a word
pub IsWord-word_of_text : (text w : List ℕ) → word_of_text text ≡ Ok w → IsWord w
IsWord-word_of_text text w e =
    let o = position (λ c. is_none (digit_in c)) text in
    let long = length_ok (eqb (length text) 80) text o w e in
    let same = (digits_ok text o w long.1).1 in
    IsWord-from_position w (ap length (sym same) ∙ length-word_of (λ l. symbol_at (map count_of text) (5 * l)))
    (sym (ap (position (λ x. ltb 65536 x)) (sym same) ∙ none_in_digits text o w long.1))

-- so it is for an answer
pub is_found : (text : List ℕ) (r : Result (List ℕ) WordFault) → r ≡ word_of_text text → IfOk r (λ w. text ≡ word_text w)
is_found text (Ok w) e = word_text-word_of_text text w (sym e)
is_found text (Err fault) e = tt

-- ---- the word whose text is read

-- a digit below 16 is one
hex_there : (d : ℕ) → d < 16 → is_none (digit_in (hex_digit d)) ≡ false
hex_there d lt = rw (digit_in-hex_digit d lt) refl

-- each character of digits below 16 is one
hex_digits : (ds : List ℕ) → AllByRecursion (λ d. d < 16) ds → All (λ c. is_none (digit_in c) ≡ false) (map hex_digit ds)
hex_digits ds below = All-map (λ c. is_none (digit_in c) ≡ false) hex_digit ds (All-weaker (λ d. d < 16) (λ d. is_none (digit_in (hex_digit d)) ≡ false) hex_there ds (All-from_recursion (λ d. d < 16) ds below))

-- each character of a symbol's text is a digit
pub symbol_digits : (x : ℕ) → All (λ c. is_none (digit_in c) ≡ false) (symbol_text x)
symbol_digits x = hex_digits (x / 65536 % 16 ∷ x / 4096 % 16 ∷ x / 256 % 16 ∷ x / 16 % 16 ∷ x % 16 ∷ []) (omega arith, (omega arith, (omega arith, (omega arith, (omega arith, tt)))))

-- and of a word's
word_digits : (w : List ℕ) → All (λ c. is_none (digit_in c) ≡ false) (word_text w)
word_digits [] = All-nil (λ c. is_none (digit_in c) ≡ false)
word_digits (x ∷ w) = All-append (λ c. is_none (digit_in c) ≡ false) (symbol_text x) (word_text w) (symbol_digits x) (word_digits w)

-- what the digit of a count counts
pub count_of-hex_digit : (d : ℕ) → d < 16 → count_of (hex_digit d) ≡ d
count_of-hex_digit d lt = rw (digit_in-hex_digit d lt) refl

-- character j of symbol l
char_of : (w : List ℕ) (l j at : ℕ) → l < length w → j < 5 → at ≡ 5 * l + j → get_or (map count_of (word_text w)) at 0 ≡ count_of (get_or (symbol_text (get_or w l 0)) j 0)
char_of w l j at lt small is =
    let before : length (flat_map symbol_text (take l w)) + j ≡ at = omega (arith, length_of_pieces symbol_text 5 (take l w) (λ _ _ _. refl), length-take l w) in
    let char : get_or (word_text w) at 0 ≡ get_or (symbol_text (get_or w l 0)) j 0 = rw (← before) (get_or-flat_map symbol_text w l j 0 0 lt small) in
    get_or-map count_of (word_text w) at 0 0 (omega (arith, length_of_pieces symbol_text 5 w (λ _ _ _. refl))) ∙ ap count_of char

-- the number at a symbol's place
number_there : (w : List ℕ) (l : ℕ) → l < length w → get_or w l 0 < 65537 → symbol_at (map count_of (word_text w)) (5 * l) ≡ get_or w l 0
number_there w l lt small =
    let x = get_or w l 0 in
    rw (
      char_of w l 0 (5 * l) lt (omega arith) (omega arith),
      char_of w l 1 (5 * l + 1) lt (omega arith) (omega arith),
      char_of w l 2 (5 * l + 2) lt (omega arith) (omega arith),
      char_of w l 3 (5 * l + 3) lt (omega arith) (omega arith),
      char_of w l 4 (5 * l + 4) lt (omega arith) (omega arith),
      count_of-hex_digit (get_or w l 0 / 65536 % 16) (omega arith),
      count_of-hex_digit (get_or w l 0 / 4096 % 16) (omega arith),
      count_of-hex_digit (get_or w l 0 / 256 % 16) (omega arith),
      count_of-hex_digit (get_or w l 0 / 16 % 16) (omega arith),
      count_of-hex_digit (get_or w l 0 % 16) (omega arith),
    )
    (sym (symbol_from_digits (get_or w l 0) small))

-- the text of a word is read as that word
pub word_of_text-word_text : (w : List ℕ) → IsWord w → word_of_text (word_text w) ≡ Ok w
word_of_text-word_text w is =
    let long : length (word_text w) ≡ 80 = omega (arith, length_of_pieces symbol_text 5 w (λ _ _ _. refl), is.sixteen) in
    let none : position (λ c. is_none (digit_in c)) (word_text w) ≡ None = none_where_fails (λ c. is_none (digit_in c)) (word_text w) 0 (λ k lt. All-get_or (λ c. is_none (digit_in c) ≡ false) (word_text w) k 0 lt (word_digits w)) in
    let same : w ≡ numbers_of (map count_of (word_text w)) = word_from_symbols (λ l. symbol_at (map count_of (word_text w)) (5 * l)) w is.sixteen (λ l lt. sym (number_there w l (let n = is.sixteen in omega arith) (let small = is.symbols l in omega arith))) in
    rw (eq-eqb (length (word_text w)) 80 long, none, ← same, none_above w is) refl
