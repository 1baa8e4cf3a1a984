-- What is read of a head and of pairs is spelled so.
use Rattle.std.proofs.Common.{◌≡◌, ℕ, ◌+◌, ◌-◌, ◌*◌, ◌^◌, ◌<◌, ◌≤◌, Bool, true, false, cond, not, ◌&&◌, ◌||◌, ltb, eqb, List, [], ◌∷◌, ◌++◌, length, get_or, take, drop, map, Option, Some, None, Result, Ok, Err, refl, sym, ap, ◌∙◌, arith, append_assoc}
use Rattle.std.specs.Prelude.{codes}
use Rattle.std.specs.List.{range_with_len, flat_map, starts_with}
use Rattle.std.specs.Int.{w16, w32, to_be_bytes}
use Rattle.std.proofs.Math.Seq.{take-add}
use Rattle.std.proofs.Math.Nat.{mul-le-mul_left}
use Rattle.std.proofs.lemmas.Bool.{ltb-true, ltb-false, eqb-true, ne_eqb, not-false, and_parts}
use Rattle.std.proofs.lemmas.Bool.Decides.{nat_tests}
use Rattle.std.proofs.lemmas.List.{drop_all, take_all, take_more, take-append-drop, drop-drop, length-take, length-drop}
use Rattle.std.proofs.lemmas.List.FromFn.{fill_by_all}
use Rattle.std.proofs.lemmas.List.Folds.{flat_map-map}
use Rattle.std.proofs.lemmas.Slice.Eq.{bytes_eq-Decides}
use Rattle.dc_spec.specs.Bytes.{number_at, short_at}
use Rattle.dc_spec.proofs.ByteLemmas.{IsBytes, number_spelled, short_spelled, pieces}
use Rattle.dc_formats.specs.KeyFile.{AreEndsBefore, AreEndsRising}
use Rattle.dc_formats.proofs.Ends.{ends_rise}
use Rattle.dc_keyfile.specs.declared.head.Head.{Head}
use Rattle.dc_keyfile.specs.declared.fault.KeyFault.{KeyFault}
use Rattle.dc_keyfile.specs.Head.{IsHead, head_of, head_from_bytes, head_bytes, after_head, due_length, piece_at, ends_of, are_ends, is_before, is_rising, ends_fault, unless, pairs_of, ended, body_of}
use Rattle.dc_keyfile.proofs.ReaderTests.{passed, limits}

-- ---- the head

pub four : (a b c d w x y z : List ℕ) → a ≡ w → b ≡ x → c ≡ y → d ≡ z → a ++ b ++ c ++ d ≡ w ++ (x ++ (y ++ z))
four a b c d w x y z p q r s = rw (p, q, r, s) (append_assoc (w ++ x) y z ∙ append_assoc w x (y ++ z))

head_spelled : (version : ℕ) (b : List ℕ) → IsBytes b → 12 ≤ length b → codes "DCK" ≡ take 3 b → get_or b 3 0 ≡ version
    → head_bytes version (short_at b 4) (short_at b 6) (number_at b 8) ≡ take 12 b
head_spelled version b fits long magic is =
    let front : codes "DCK" ++ version ∷ [] ≡ take 4 b = sym (take_more b 3 0 (omega arith) ∙ ap (λ (xs : List ℕ). xs ++ get_or b 3 0 ∷ []) (sym magic)
    ∙ ap (λ (n : ℕ). codes "DCK" ++ n ∷ []) is) in
    let parts : take 12 b ≡ take 4 b ++ (take 2 (drop 4 b) ++ (take 2 (drop 6 b) ++ take 4 (drop 8 b)))
    = take-add 4 8 b ∙ ap (λ (xs : List ℕ). take 4 b ++ xs) (take-add 2 6 (drop 4 b)
    ∙ ap (λ (xs : List ℕ). take 2 (drop 4 b) ++ xs) (ap (take 6) (drop-drop 2 4 b) ∙ take-add 2 4 (drop 6 b) ∙ ap (λ (xs : List ℕ). take 2 (drop 6 b) ++ take 4 xs) (drop-drop 2 6 b))) in
    four (codes "DCK" ++ version ∷ []) (to_be_bytes w16 (short_at b 4)) (to_be_bytes w16 (short_at b 6)) (to_be_bytes w32 (number_at b 8)) (take 4 b) (take 2 (drop 4 b)) (take 2 (drop 6 b))
    (take 4 (drop 8 b))
    front (short_spelled b 4 fits (omega arith)) (short_spelled b 6 fits (omega arith)) (number_spelled b 8 fits (omega arith)) ∙ sym parts

abbrev the_head : ℕ → ℕ → ℕ → Head
the_head stations words count = record { stations = stations; words = words; count = count }

numbers_found : (stations words count : ℕ) (h : Head) → head_of stations words count ≡ Ok h → IsHead h × (the_head stations words count ≡ h)
unfolding head_of
numbers_found stations words count h e =
    let first = passed (eqb stations 0 || ltb 256 stations) _ _ h e in
    let second = passed (eqb words 0 || ltb 4096 words) _ _ h first.1 in
    let third = passed (ltb (2 ^ 26) (count * (32 * words))) _ _ h second.1 in
    let some = limits stations 256 first.0 in
    let some' = limits words 4096 second.0 in
    let same : the_head stations words count ≡ h = cc third.1 in
    let is : IsHead (the_head stations words count) = record { some_stations = some.0; most_stations = some.1; some_words = some'.0; most_words = some'.1; most_symbols = ltb-false _ _ third.0 } in
    (rw (← same) is, same)

-- a head that was read
pub head_found : (version : ℕ) (b : List ℕ) (h : Head) → IsBytes b → head_from_bytes version b ≡ Ok h → IsHead h × (head_bytes version h.stations h.words h.count ≡ take 12 b)
unfolding head_from_bytes
head_found version b h fits e =
    let long = passed (ltb (length b) 12) _ _ h e in
    let magic = passed (not (starts_with eqb b (codes "DCK"))) _ _ h long.1 in
    let here = passed (not (eqb (get_or b 3 0) version)) _ _ h magic.1 in
    let found = numbers_found (short_at b 4) (short_at b 6) (number_at b 8) h here.1 in
    let begins : codes "DCK" ≡ take 3 b = (bytes_eq-Decides (codes "DCK") (take 3 b)).0 (not-false _ magic.0) in
    (found.0, ap (λ (k : Head). head_bytes version k.stations k.words k.count) (sym found.1) ∙ head_spelled version b fits (ltb-false _ _ long.0) begins (eqb-true _ _ (not-false _ here.0)))

-- what comes after a head
pub after_well : {X : Type 0} (read : Head → Result X KeyFault) (r : Result Head KeyFault) (x : X) → after_head read r ≡ Ok x → (h : Head) × (r ≡ Ok h) × (read h ≡ Ok x)
after_well read (Err fault) x e = absurd cc
after_well read (Ok h) x e = (h, refl, e)

-- ---- the pairs

ended_well : {X : Type 0} (b : List ℕ) (size count : ℕ) (read : Result (List X) KeyFault) (ps : List X) → ended b size count read ≡ Ok ps → (length b ≤ due_length size count) × (read ≡ Ok ps)
ended_well b size count (Err fault) ps e = absurd cc
ended_well b size count (Ok pairs) ps e = let end = passed (ltb (due_length size count) (length b)) _ _ ps e in (ltb-false _ _ end.0, end.1)

-- pairs that were read, and no more bytes
pub body_found : {X : Type 0} (b : List ℕ) (size count : ℕ) (f : ℕ → Result X KeyFault) (ps : List X) → body_of b size count f ≡ Ok ps
    → (length b ≡ due_length size count) × (pairs_of f count ≡ Ok ps)
unfolding body_of
body_found b size count f ps e =
    let whole = passed (ltb (length b) (due_length size count)) _ _ ps e in
    let end = ended_well b size count (pairs_of f count) ps whole.1 in
    let enough = ltb-false _ _ whole.0 in
    (omega (arith, end.0, enough), end.1)

-- each piece is whole
pub length_of_piece : (b : List ℕ) (size count i : ℕ) → length b ≡ due_length size count → i < count → length (piece_at b size i) ≡ size
length_of_piece b size count i whole lt =
    let more : size * (i + 1) ≤ size * count = mul-le-mul_left size (omega arith) in
    let next : size * (i + 1) ≡ size * i + size = omega arith in
    omega (arith, length-take size (drop (due_length size i) b), length-drop (due_length size i) b)

-- pairs that are spelled by their pieces
pub pairs_spelled : {X : Type 0} (spelling : X → List ℕ) (b : List ℕ) (size count : ℕ) (ps : List X) → length b ≡ due_length size count → length ps ≡ count
    → ((k : ℕ) (d : X) → k < count → spelling (get_or ps k d) ≡ piece_at b size k) → flat_map spelling ps ≡ drop 12 b
pairs_spelled spelling b size count [] whole long each =
    let none : size * count ≡ 0 = rw (← long) (omega arith) in
    let end : drop 12 b ≡ [] = drop_all 12 b (omega arith) in
    sym end
pairs_spelled spelling b size count (p ∷ ps) whole long each =
    let here : 12 + size * 0 ≡ 12 = omega arith in
    let items : p ∷ ps ≡ map (λ i. get_or (p ∷ ps) i p) (range_with_len 0 count) = fill_by_all (λ i. get_or (p ∷ ps) i p) (p ∷ ps) count p long (λ k lt. refl) in
    ap (flat_map spelling) items
    ∙ flat_map-map spelling (λ i. get_or (p ∷ ps) i p) (range_with_len 0 count)
    ∙ pieces b (λ i. spelling (get_or (p ∷ ps) i p)) size 12 count 0 (λ i lt. each i p (omega arith))
    ∙ ap (λ (k : ℕ). take (size * count) (drop k b)) here
    ∙ take_all (size * count) (drop 12 b) (omega (arith, length-drop 12 b))

-- the head and the pairs are the file
pub file_spelled : {X : Type 0} (spelling : X → List ℕ) (b head : List ℕ) (ps : List X) → head ≡ take 12 b → flat_map spelling ps ≡ drop 12 b → b ≡ head ++ flat_map spelling ps
file_spelled spelling b head ps front body = sym (take-append-drop 12 b) ∙ sym (ap (λ (xs : List ℕ). xs ++ flat_map spelling ps) front ∙ ap (λ (xs : List ℕ). take 12 b ++ xs) body)

-- ---- the ends

-- what was read without a fault
pub unless_found : {X : Type 0} (o : Option KeyFault) (r : Result X KeyFault) (x : X) → unless o r ≡ Ok x → (o ≡ None) × (r ≡ Ok x)
unless_found (Some fault) r x e = absurd cc
unless_found None r x e = (refl, e)

no_fault : (c : Bool) (fault : KeyFault) (o : Option KeyFault) → cond c (Some fault) o ≡ None → (c ≡ false) × (o ≡ None)
no_fault true fault o e = absurd cc
no_fault false fault o e = (refl, e)

-- ends without a fault
pub record AreRead (b : List ℕ) (stations size p : ℕ) : Type 0 where
  pub ends : short_at (piece_at b size p) 0 < short_at (piece_at b size p) 2
  pub within : short_at (piece_at b size p) 2 < stations
  pub rising : is_rising b size p ≡ true

pub ends_found : (b : List ℕ) (stations size p : ℕ) → ends_fault b stations size p ≡ None → AreRead b stations size p
unfolding ends_fault
ends_found b stations size p e =
    let ends = no_fault (not (are_ends stations (ends_of (piece_at b size p)))) _ _ e in
    let rising = no_fault (not (is_rising b size p)) _ _ ends.1 in
    let parts = and_parts (ltb (short_at (piece_at b size p) 0) (short_at (piece_at b size p) 2)) _ (not-false _ ends.0) in
    record { ends = ltb-true _ _ parts.0; within = ltb-true _ _ parts.1; rising = not-false _ rising.0 }

-- less by the smaller end, and where these are equal by the greater end
is_before_well : (a b c d : ℕ) → (ltb a c || (eqb a c && ltb b d)) ≡ true → (a ≤ c) × (a ≡ c → b < d)
is_before_well a b c d given = grind (arith, nat_tests)

before_found : (b : List ℕ) (size p : ℕ) → is_rising b size (p + 1) ≡ true → AreEndsBefore (ends_of (piece_at b size p)) (ends_of (piece_at b size (p + 1)))
before_found b size p rising =
    let not_first : eqb (p + 1) 0 ≡ false = ne_eqb (p + 1) 0 (λ e. omega arith) in
    let before : p + 1 - 1 ≡ p = omega arith in
    let rises : is_before (ends_of (piece_at b size p)) (ends_of (piece_at b size (p + 1))) ≡ true = rw (not_first, before) at rising in
    let well = is_before_well _ _ _ _ rises in
    record { lesser = well.0; greater = well.1 }

-- the ends of pairs that were read rise
pub rising_found : {X : Type 0} (ends : X → ℕ × ℕ) (b : List ℕ) (size count : ℕ) (ps : List X) → length ps ≡ count
    → ((k : ℕ) (d : X) → k < count → ends (get_or ps k d) ≡ ends_of (piece_at b size k)) → ((k : ℕ) → k < count → is_rising b size k ≡ true) → AreEndsRising (map ends ps)
rising_found ends b size count ps long here rising =
    ends_rise ends ps (λ i d lt. rw (here i d (omega arith), here (i + 1) d (omega arith)) (before_found b size i (rising (i + 1) (omega arith))))
