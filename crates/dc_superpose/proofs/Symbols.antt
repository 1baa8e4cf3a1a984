-- The words of a file, one piece of sixty-four bytes after another, and the first number that is no symbol.
use Rattle.std.proofs.Common.{◌≡◌, ℕ, ◌+◌, ◌-◌, ◌*◌, ◌<◌, ◌≤◌, ltb, List, length, get_or, take, drop, Option, Some, None, Ok, Err, refl, sym, ap, subst, ◌∙◌, arith, inl, inr}
use Rattle.std.specs.Prelude.{position}
use Rattle.std.proofs.lemmas.Bool.{cases_lt, ltb-false, ltb-true}
use Rattle.std.proofs.lemmas.List.{get_or-take, get_or-drop}
use Rattle.std.proofs.lemmas.List.FromFn.{get_or-map-range_with_len, length-map-range_with_len}
use Rattle.std.proofs.lemmas.List.Quantifiers.{position-Some}
use Rattle.dc_spec.specs.Words.{AreWords}
use Rattle.dc_spec.specs.Bytes.{number_at, word_at}
use Rattle.dc_spec.proofs.WordLemmas.{word_of-same, length-word_of, symbol-word_of, IsWord-word_of}
use Rattle.dc_field.specs.declared.word_from_bytes.SymFault.{SymFault}
use Rattle.dc_field.specs.WordInBytes.{judged as word_judged, word_of_bytes}
use Rattle.dc_field.proofs.FirstAbove.{small_where_none, none_where_small, first_is}
use Rattle.dc_superpose.specs.declared.fault.TranscriptFault.TheVariants.{Symbol}
use Rattle.dc_superpose.specs.Reading.{symbol_offset, symbols_at, words_at, tested_words, words_of}
use Rattle.dc_superpose.specs.Pieces.{FirstAreSymbols}

-- ---- a piece of sixty-four bytes

place_in_piece : (b : List ℕ) (at i j : ℕ) → i < 64 → at + i ≡ j → get_or (take 64 (drop at b)) i 0 ≡ get_or b j 0
place_in_piece b at i j lt is = get_or-take 64 (drop at b) i 0 lt ∙ get_or-drop at b i 0 ∙ ap (λ (k : ℕ). get_or b k 0) is

number_in_piece : (b : List ℕ) (at l : ℕ) → l < 16 → number_at (take 64 (drop at b)) (0 + 4 * l) ≡ number_at b (at + 4 * l)
number_in_piece b at l lt =
    let first = place_in_piece b at (0 + 4 * l) (at + 4 * l) (omega arith) (omega arith) in
    let second = place_in_piece b at (0 + 4 * l + 1) (at + 4 * l + 1) (omega arith) (omega arith) in
    let third = place_in_piece b at (0 + 4 * l + 2) (at + 4 * l + 2) (omega arith) (omega arith) in
    let fourth = place_in_piece b at (0 + 4 * l + 3) (at + 4 * l + 3) (omega arith) (omega arith) in
    rw (first, second, third, fourth) refl

pub word_in_piece : (b : List ℕ) (at : ℕ) → word_at (take 64 (drop at b)) 0 ≡ word_at b at
word_in_piece b at = word_of-same _ _ (λ l lt. number_in_piece b at l lt)

-- symbol l of the word at a place
pub symbol-word_at : (b : List ℕ) (at l : ℕ) → l < 16 → get_or (word_at b at) l 0 ≡ number_at b (at + 4 * l)
symbol-word_at b at l lt = symbol-word_of (λ l. number_at b (at + 4 * l)) l lt

ok_where_none : (numbers : List ℕ) (o : Option ℕ) (w : List ℕ) → word_judged numbers o ≡ Ok w → (numbers ≡ w) × (o ≡ None)
ok_where_none numbers None w e = (cc, refl)
ok_where_none numbers (Some l) w e = absurd cc

err_where_some : (numbers : List ℕ) (o : Option ℕ) (fault : SymFault) → word_judged numbers o ≡ Err fault → (o ≡ Some fault.symbol) × (get_or numbers fault.symbol 0 ≡ fault.seen)
err_where_some numbers None fault e = absurd cc
err_where_some numbers (Some l) fault e =
    let made : SymFault = record { symbol = l; seen = get_or numbers l 0 } in
    let is : made ≡ fault = cc in
    (ap (λ (f : SymFault). Some f.symbol) is, subst (λ (f : SymFault). get_or numbers f.symbol 0 ≡ f.seen) is refl)

-- a piece that is a word: the word at its place, and good symbols
pub word_read : (b : List ℕ) (at n : ℕ) (w : List ℕ) → n ≡ 64 → Ok w ≡ word_of_bytes (take n (drop at b)) → (w ≡ word_at b at) × ((l : ℕ) → l < 16 → number_at b (at + 4 * l) ≤ 65536)
word_read b at n w wide e =
    let e' : Ok w ≡ word_of_bytes (take 64 (drop at b)) = rw wide at e in
    let parts = ok_where_none (word_at (take 64 (drop at b)) 0) _ w (sym e') in
    let same = word_in_piece b at in
    let none : position (λ x. ltb 65536 x) (word_at b at) ≡ None = rw same at parts.1 in
    (sym parts.0 ∙ same, λ l lt. rw (← symbol-word_at b at l lt) (small_where_none (word_at b at) none l (omega (arith, length-word_of (λ l. number_at b (at + 4 * l))))))

-- a piece that is no word: its first bad number
pub word_refused : (b : List ℕ) (at n : ℕ) (fault : SymFault) → n ≡ 64 → Err fault ≡ word_of_bytes (take n (drop at b))
    → (fault.symbol < 16) × (number_at b (at + 4 * fault.symbol) ≡ fault.seen) × (65536 < fault.seen) × ((l : ℕ) → l < fault.symbol → number_at b (at + 4 * l) ≤ 65536)
word_refused b at n fault wide e =
    let e' : Err fault ≡ word_of_bytes (take 64 (drop at b)) = rw wide at e in
    let parts = err_where_some (word_at (take 64 (drop at b)) 0) _ fault (sym e') in
    let same = word_in_piece b at in
    let some : position (λ x. ltb 65536 x) (word_at b at) ≡ Some fault.symbol = rw same at parts.0 in
    let seen : get_or (word_at b at) fault.symbol 0 ≡ fault.seen = rw same at parts.1 in
    let first = position-Some (λ x. ltb 65536 x) (word_at b at) fault.symbol 0 some in
    let lt : fault.symbol < 16 = omega (arith, first.0, length-word_of (λ l. number_at b (at + 4 * l))) in
    (lt, sym (symbol-word_at b at fault.symbol lt) ∙ seen, rw (← seen) (ltb-true _ _ first.1), λ l below. rw (← symbol-word_at b at l (omega arith)) (ltb-false _ _ (first.2 l below)))

-- ---- all the words

pub FirstAreSymbols-more : (b : List ℕ) (i : ℕ) → FirstAreSymbols b (16 * i) → ((l : ℕ) → l < 16 → number_at b (8 + 64 * i + 4 * l) ≤ 65536) → FirstAreSymbols b (16 * (i + 1))
FirstAreSymbols-more b i good here = record {
  small = λ s lt. elim (cases_lt s (16 * i)) [
    | inl below ↦ good.small s below
    | inr above ↦ let at : 8 + 64 * i + 4 * (s - 16 * i) ≡ 8 + 4 * s = omega arith in subst (λ (k : ℕ). number_at b k ≤ 65536) at (here (s - 16 * i) (omega arith))
  ];
}

symbol-symbols_at : (b : List ℕ) (count s : ℕ) → s < count → get_or (symbols_at b count) s 0 ≡ number_at b (symbol_offset s)
symbol-symbols_at b count s lt = get_or-map-range_with_len (λ s. number_at b (symbol_offset s)) 0 count s s 0 lt (omega arith)

length-symbols_at : (b : List ℕ) (count : ℕ) → length (symbols_at b count) ≡ count
length-symbols_at b count = length-map-range_with_len (λ s. number_at b (symbol_offset s)) 0 count

pub words_are_read : (b : List ℕ) (count : ℕ) → FirstAreSymbols b (16 * count) → words_of b count ≡ Ok (words_at b count)
unfolding words_of
words_are_read b count good =
    rw (none_where_small (symbols_at b (16 * count)) (λ k lt. let lt' : k < 16 * count = omega (arith, length-symbols_at b (16 * count)) in rw (symbol-symbols_at b (16 * count) k lt')
    (good.small k lt'))) refl

pub first_is_told : (b : List ℕ) (count i l seen : ℕ) → i < count → l < 16 → number_at b (8 + 64 * i + 4 * l) ≡ seen → 65536 < seen → FirstAreSymbols b (16 * i)
    → ((k : ℕ) → k < l → number_at b (8 + 64 * i + 4 * k) ≤ 65536)
    → words_of b count ≡ Err (Symbol (8 + 64 * i + 4 * l) seen)
unfolding words_of
first_is_told b count i l seen lt small is large good here =
    let s : ℕ = 16 * i + l in
    let at : 8 + 4 * (16 * i + l) ≡ 8 + 64 * i + 4 * l = omega arith in
    let seen_is : number_at b (8 + 4 * (16 * i + l)) ≡ seen = ap (λ (k : ℕ). number_at b k) at ∙ is in
    let before : (k : ℕ) → k < 16 * i + l → number_at b (8 + 4 * k) ≤ 65536 = λ k below. elim (cases_lt k (16 * i)) [
      | inl lt ↦ good.small k lt
      | inr le ↦ let there : 8 + 64 * i + 4 * (k - 16 * i) ≡ 8 + 4 * k = omega arith in subst (λ (j : ℕ). number_at b j ≤ 65536) there (here (k - 16 * i) (omega arith))
    ] in
    let within : 16 * i + l < 16 * count = omega arith in
    let found = first_is (symbols_at b (16 * count)) (16 * i + l) (omega (arith, length-symbols_at b (16 * count))) (rw (symbol-symbols_at b (16 * count) (16 * i + l) within, seen_is) large)
    (λ k below. rw (symbol-symbols_at b (16 * count) k (omega arith)) (before k below)) in
    rw (found, seen_is, at) refl

tested_where_none : (b : List ℕ) (count : ℕ) (o : Option ℕ) (ws : List (List ℕ)) → tested_words b count o ≡ Ok ws → (words_at b count ≡ ws) × (o ≡ None)
tested_where_none b count None ws e = (cc, refl)
tested_where_none b count (Some s) ws e = absurd cc

-- words that were read: those that stand there, of good symbols
pub words_read : (b : List ℕ) (count : ℕ) (ws : List (List ℕ)) → words_of b count ≡ Ok ws → (ws ≡ words_at b count) × FirstAreSymbols b (16 * count)
unfolding words_of
words_read b count ws e =
    let parts = tested_where_none b count (position (λ x. ltb 65536 x) (symbols_at b (16 * count))) ws e in
    (sym parts.0, record { small = λ s lt. rw (← symbol-symbols_at b (16 * count) s lt) (small_where_none (symbols_at b (16 * count)) parts.1 s (omega (arith, length-symbols_at b (16 * count)))) })

pub length-words_at : (b : List ℕ) (count : ℕ) → length (words_at b count) ≡ count
length-words_at b count = length-map-range_with_len (λ i. word_at b (8 + 64 * i)) 0 count

pub AreWords-words_at : (b : List ℕ) (count : ℕ) → FirstAreSymbols b (16 * count) → AreWords (words_at b count)
AreWords-words_at b count good i d lt =
    let within : i < count = omega (arith, length-words_at b count) in
    rw (get_or-map-range_with_len (λ i. word_at b (8 + 64 * i)) 0 count i i d within (omega arith))
    (IsWord-word_of (λ l. number_at b (8 + 64 * i + 4 * l)) (λ l small.
    let at : 8 + 4 * (16 * i + l) ≡ 8 + 64 * i + 4 * l = omega arith in
    let le : number_at b (8 + 64 * i + 4 * l) ≤ 65536 = subst (λ (k : ℕ). number_at b k ≤ 65536) at (good.small (16 * i + l) (omega arith)) in omega arith))
