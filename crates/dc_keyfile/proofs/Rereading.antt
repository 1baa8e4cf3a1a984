-- What is spelled as a key file of version 1 is read.
use Rattle.std.proofs.Common.{◌≡◌, ℕ, ◌+◌, ◌*◌, ◌<◌, ◌≤◌, Bool, true, false, ◌&&◌, ltb, eqb, List, ◌++◌, length, get_or, None, Ok, All, refl, sym, ap, ◌∙◌, arith, append_assoc}
use Rattle.std.specs.List.{flat_map}
use Rattle.std.specs.Int.{w16, to_be_bytes}
use Rattle.std.proofs.lemmas.Bool.{eq-eqb, lt-ltb}
use Rattle.std.proofs.lemmas.List.{drop_at, drop-drop, length-append, get_or_append_left, get_or-append-add}
use Rattle.std.proofs.lemmas.List.Concat.{flat_map-append}
use Rattle.std.proofs.lemmas.List.FromFn.{fill_by_all}
use Rattle.std.proofs.lemmas.List.Elements.{All-same, All-append}
use Rattle.dc_spec.specs.Words.{IsSymbol}
use Rattle.dc_spec.specs.Bytes.{symbol_bytes, number_at, short_at}
use Rattle.dc_spec.specs.Pads.{Pair, Keys, Seeds}
use Rattle.dc_spec.proofs.ByteLemmas.{number_again, short_again, piece_of, length_of_pieces}
use Rattle.dc_formats.specs.KeyFile.{IsPair, IsKeys, pair_bytes, keys_bytes}
use Rattle.dc_formats.specs.SeedFile.{IsSeeds, seeds_bytes}
use Rattle.dc_keyfile.specs.Generator.{expanded_keys}
use Rattle.dc_keyfile.proofs.SeedSpelling.{seeds_again}
use Rattle.dc_formats.proofs.BinaryLaws.{few_pairs}
use Rattle.dc_keyfile.specs.declared.head.Head.{Head}
use Rattle.dc_keyfile.specs.Head.{IsHead, head_bytes, after_head, piece_at, ends_of, ends_fault, pairs_of}
use Rattle.dc_keyfile.specs.Reading.{pair_size, numbers_at, pads_of, padded, pair_of, keys_after_head, pads_from_bytes, expanded, is_of_seeds, keys_from_bytes}
use Rattle.dc_keyfile.proofs.AllRead.{each_again}
use Rattle.dc_keyfile.proofs.HeadAgain.{head_again, whole_again, piece_again, body_again, ends_again}
use Rattle.dc_keyfile.proofs.Pads.{pads_are_read}

-- ---- a pair

-- the four bytes of its ends
abbrev ends_bytes : Pair → List ℕ
ends_bytes p = to_be_bytes w16 p.u ++ to_be_bytes w16 p.v

pads_joined : (p : Pair) → pair_bytes p ≡ ends_bytes p ++ flat_map symbol_bytes (p.a ++ p.b)
pads_joined p = append_assoc (ends_bytes p) (flat_map symbol_bytes p.a) (flat_map symbol_bytes p.b) ∙ ap (λ (xs : List ℕ). ends_bytes p ++ xs) (sym (flat_map-append symbol_bytes p.a p.b))

-- a number of a pair, counted over first and second pads
number_there : (p : Pair) (i : ℕ) → All IsSymbol p.a → All IsSymbol p.b → i < length (p.a ++ p.b) → number_at (pair_bytes p) (4 + 4 * i) ≡ get_or (p.a ++ p.b) i 0
number_there p i first second lt =
    let small : get_or (p.a ++ p.b) i 0 < 65537 = All-append IsSymbol p.a p.b first second i 0 lt in
    number_again (pair_bytes p) (4 + 4 * i) (get_or (p.a ++ p.b) i 0) (omega arith)
    (rw (← drop-drop (4 * i) 4 (pair_bytes p), pads_joined p, drop_at (ends_bytes p) (flat_map symbol_bytes (p.a ++ p.b)) 4 refl) (piece_of symbol_bytes 4 (p.a ++ p.b) (λ _ _ _. refl) i 0 lt))

first_again : (p : Pair) (count : ℕ) → length p.a ≡ count → length p.b ≡ count → All IsSymbol p.a → All IsSymbol p.b → numbers_at (pair_bytes p) 0 count ≡ p.a
first_again p count long long' first second =
    sym (fill_by_all (λ n. number_at (pair_bytes p) (4 + 4 * (0 + n))) p.a count 0 long (λ k lt.
    let at : 4 + 4 * (0 + k) ≡ 4 + 4 * k = omega arith in
    sym (ap (λ (j : ℕ). number_at (pair_bytes p) j) at ∙ number_there p k first second (omega (arith, length-append p.a p.b)) ∙ get_or_append_left p.a p.b 0 k (omega arith))))

second_again : (p : Pair) (count : ℕ) → length p.a ≡ count → length p.b ≡ count → All IsSymbol p.a → All IsSymbol p.b → numbers_at (pair_bytes p) count count ≡ p.b
second_again p count long long' first second =
    sym (fill_by_all (λ n. number_at (pair_bytes p) (4 + 4 * (count + n))) p.b count 0 long' (λ k lt.
    let at : count + k ≡ length p.a + k = omega arith in
    sym (ap (λ (j : ℕ). number_at (pair_bytes p) (4 + 4 * j)) at ∙ number_there p (length p.a + k) first second (omega (arith, length-append p.a p.b)) ∙ get_or-append-add p.a p.b k 0)))

lesser_again : (stations words : ℕ) (p : Pair) → stations ≤ 256 → IsPair stations words p → short_at (pair_bytes p) 0 ≡ p.u
lesser_again stations words p most is = let ends = is.ends in let within = is.within in short_again (pair_bytes p) 0 p.u (omega arith) refl

greater_again : (stations words : ℕ) (p : Pair) → stations ≤ 256 → IsPair stations words p → short_at (pair_bytes p) 2 ≡ p.v
greater_again stations words p most is = let ends = is.ends in let within = is.within in short_again (pair_bytes p) 2 p.v (omega arith) refl

padded_again : (stations words place : ℕ) (p : Pair) → stations ≤ 256 → IsPair stations words p → padded (pair_bytes p) words place ≡ Ok p
unfolding padded
padded_again stations words place p most is =
    let first = first_again p (16 * words) is.first_pads is.second_pads is.first_symbols is.second_symbols in
    let second = second_again p (16 * words) is.first_pads is.second_pads is.first_symbols is.second_symbols in
    let read : pads_of (pair_bytes p) place 0 (16 * words) ≡ Ok p.a = pads_are_read (pair_bytes p) place 0 (16 * words) (All-same IsSymbol _ _ first is.first_symbols) ∙ ap Ok first in
    let read' : pads_of (pair_bytes p) place (16 * words) (16 * words) ≡ Ok p.b = pads_are_read (pair_bytes p) place (16 * words) (16 * words) (All-same IsSymbol _ _ second is.second_symbols)
    ∙ ap Ok second in
    let none : eqb (get_or p.b 0 0) 0 ≡ true = eq-eqb _ _ is.no_first in
    let lesser = lesser_again stations words p most is in
    let greater = greater_again stations words p most is in
    rw (read, read', none) (λ i. Ok (record { u = lesser i; v = greater i; a = p.a; b = p.b }))

pair_again : (bytes : List ℕ) (stations words place : ℕ) (p : Pair) → stations ≤ 256 → IsPair stations words p → piece_at bytes (pair_size words) place ≡ pair_bytes p
    → ends_fault bytes stations (pair_size words) place ≡ None → pair_of bytes stations words place ≡ Ok p
unfolding pair_of
pair_again bytes stations words place p most is there none = rw (none, there) (padded_again stations words place p most is)

-- ---- the file

length-pair_bytes : (words : ℕ) (p : Pair) → length p.a ≡ 16 * words → length p.b ≡ 16 * words → length (pair_bytes p) ≡ pair_size words
length-pair_bytes words p long long' =
    let pads : length (flat_map symbol_bytes (p.a ++ p.b)) ≡ 4 * length (p.a ++ p.b) = length_of_pieces symbol_bytes 4 (p.a ++ p.b) (λ _ _ _. refl) in
    ap length (pads_joined p) ∙ omega (arith, pads, length-append (ends_bytes p) (flat_map symbol_bytes (p.a ++ p.b)), length-append p.a p.b)

wide : (k : Keys) → IsKeys k → (i : ℕ) (d : Pair) → i < length k.pairs → length (pair_bytes (get_or k.pairs i d)) ≡ pair_size k.words
wide k is i d lt = let pair = is.are_pairs i d lt in length-pair_bytes k.words (get_or k.pairs i d) pair.first_pads pair.second_pads

abbrev ends : Pair → ℕ × ℕ
ends p = (p.u, p.v)

ends_there : (k : Keys) → IsKeys k → (i : ℕ) (d : Pair) → i < length k.pairs → ends_of (piece_at (keys_bytes k) (pair_size k.words) i) ≡ ends (get_or k.pairs i d)
ends_there k is i d lt =
    let pair = is.are_pairs i d lt in
    let lesser = lesser_again k.stations k.words (get_or k.pairs i d) is.most_stations pair in
    let greater = greater_again k.stations k.words (get_or k.pairs i d) is.most_stations pair in
    rw (piece_again pair_bytes (head_bytes 1 k.stations k.words (length k.pairs)) (pair_size k.words) k.pairs refl (wide k is) i d lt) (λ j. (lesser j, greater j))

pairs_again : (k : Keys) → IsKeys k → pairs_of (pair_of (keys_bytes k) k.stations k.words) (length k.pairs) ≡ Ok k.pairs
pairs_again k is =
    each_again (pair_of (keys_bytes k) k.stations k.words) k.pairs (λ i d lt.
    let pair = is.are_pairs i d lt in
    pair_again (keys_bytes k) k.stations k.words i (get_or k.pairs i d) is.most_stations pair (piece_again pair_bytes (head_bytes 1 k.stations k.words (length k.pairs))
    (pair_size k.words) k.pairs refl (wide k is) i d lt)
    (ends_again ends (keys_bytes k) k.stations (pair_size k.words) k.pairs is.rising (ends_there k is) i d lt pair.ends pair.within))

after_again : (k : Keys) → IsKeys k → keys_after_head (keys_bytes k) (record { stations = k.stations; words = k.words; count = length k.pairs }) ≡ Ok k
unfolding keys_after_head
after_again k is =
    rw (body_again (keys_bytes k) (pair_size k.words) (pair_of (keys_bytes k) k.stations k.words) k.pairs (whole_again pair_bytes (head_bytes 1 k.stations k.words (length k.pairs))
    (pair_size k.words) k.pairs refl (wide k is)) (pairs_again k is)) refl

-- what is spelled so is read
pub pads_again : (k : Keys) → IsKeys k → pads_from_bytes (keys_bytes k) ≡ Ok k
unfolding pads_from_bytes
pads_again k is =
    let h : Head = record { stations = k.stations; words = k.words; count = length k.pairs } in
    let is_head : IsHead (record { stations = k.stations; words = k.words; count = length k.pairs })
    = record { some_stations = is.some_stations; most_stations = is.most_stations; some_words = is.some_words; most_words = is.most_words; most_symbols = is.most_symbols } in
    ap (after_head (keys_after_head (keys_bytes k))) (head_again 1 (record { stations = k.stations; words = k.words; count = length k.pairs }) (flat_map pair_bytes k.pairs) is_head
    (few_pairs k is)) ∙ after_again k is

and_no : (b : Bool) → (b && false) ≡ false
and_no true = refl
and_no false = refl

-- also by the reader of both versions
pub keys_again : (k : Keys) → IsKeys k → keys_from_bytes (keys_bytes k) ≡ Ok k
unfolding keys_from_bytes
keys_again k is =
    let not_seeds : is_of_seeds (keys_bytes k) ≡ false = and_no (ltb 3 (length (keys_bytes k))) in
    rw not_seeds (pads_again k is)

-- and seeds are read as their expansion
pub expanded_again : (s : Seeds) → IsSeeds s → keys_from_bytes (seeds_bytes s) ≡ Ok (expanded_keys s)
unfolding keys_from_bytes
expanded_again s is =
    let there : ltb 3 (length (seeds_bytes s)) ≡ true = lt-ltb _ _ (omega arith) in
    let seeds : is_of_seeds (seeds_bytes s) ≡ true = rw there refl in
    rw seeds (ap expanded (seeds_again s is))
