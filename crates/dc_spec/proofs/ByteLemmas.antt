-- Numbers in bytes, and pieces of one size that stand end to end.
use Rattle.std.proofs.Common.{◌≡◌, ℕ, zero, suc, ◌+◌, ◌*◌, ◌^◌, ◌<◌, ◌≤◌, List, [], ◌∷◌, ◌++◌, length, get_or, take, drop, refl, sym, ap, ◌∙◌, arith, inl, inr}
use Rattle.std.specs.List.{range_with_len, flat_map}
use Rattle.std.specs.Int.{w16, w32, to_be_bytes, from_be_bytes}
use Rattle.std.proofs.Math.Seq.{take-add}
use Rattle.std.proofs.lemmas.Bool.{cases_lt}
use Rattle.std.proofs.lemmas.List.{get_or-take, get_or-drop, get_or_past, take_at, drop_at, drop-drop, length-append, length-take, length-drop}
use Rattle.std.proofs.lemmas.Nat.{be_bytes_2, be_bytes_4, from_be_bytes-to_be_bytes_2, from_be_bytes-to_be_bytes_4}
use Rattle.dc_spec.specs.Bytes.{symbol_bytes, number_at, short_at}

-- ---- numbers

-- each number of a list is a byte
abbrev pub IsBytes : List ℕ → Type 0
IsBytes bytes = (i : ℕ) → get_or bytes i 0 < 256

pub IsBytes-piece : (n at : ℕ) (b : List ℕ) → IsBytes b → IsBytes (take n (drop at b))
IsBytes-piece n at b fits i =
    elim (cases_lt i n) [
      | inl lt ↦ rw (get_or-take n (drop at b) i 0 lt, get_or-drop at b i 0) (fits (at + i))
      | inr le ↦ rw (get_or_past (take n (drop at b)) i 0 (omega (arith, length-take n (drop at b)))) (omega arith)
    ]

-- a number is spelled by the four bytes that stand there
number_is : (b : List ℕ) (at : ℕ) → number_at b at ≡ from_be_bytes w32 (take 4 (drop at b))
number_is b at =
    let place : (k j : ℕ) → k < 4 → at + k ≡ j → get_or (take 4 (drop at b)) k 0 ≡ get_or b j 0 = λ k j lt is. get_or-take 4 (drop at b) k 0 lt ∙ get_or-drop at b k 0
    ∙ ap (λ (i : ℕ). get_or b i 0) is in
    omega (arith, place 0 at (omega arith) (omega arith), place 1 (at + 1) (omega arith) (omega arith), place 2 (at + 2) (omega arith) (omega arith), place 3 (at + 3) (omega arith) (omega arith))

short_is : (b : List ℕ) (at : ℕ) → short_at b at ≡ from_be_bytes w16 (take 2 (drop at b))
short_is b at =
    let place : (k j : ℕ) → k < 2 → at + k ≡ j → get_or (take 2 (drop at b)) k 0 ≡ get_or b j 0 = λ k j lt is. get_or-take 2 (drop at b) k 0 lt ∙ get_or-drop at b k 0
    ∙ ap (λ (i : ℕ). get_or b i 0) is in
    omega (arith, place 0 at (omega arith) (omega arith), place 1 (at + 1) (omega arith) (omega arith))

pub number_spelled : (b : List ℕ) (at : ℕ) → IsBytes b → at + 4 ≤ length b → symbol_bytes (number_at b at) ≡ take 4 (drop at b)
number_spelled b at fits le = be_bytes_4 (take 4 (drop at b)) (number_at b at) (omega (arith, length-take 4 (drop at b), length-drop at b)) (IsBytes-piece 4 at b fits) (number_is b at)

pub short_spelled : (b : List ℕ) (at : ℕ) → IsBytes b → at + 2 ≤ length b → to_be_bytes w16 (short_at b at) ≡ take 2 (drop at b)
short_spelled b at fits le = be_bytes_2 (take 2 (drop at b)) (short_at b at) (omega (arith, length-take 2 (drop at b), length-drop at b)) (IsBytes-piece 2 at b fits) (short_is b at)

-- a number that stands there is read
pub number_again : (b : List ℕ) (at x : ℕ) → x < 2 ^ 32 → take 4 (drop at b) ≡ symbol_bytes x → number_at b at ≡ x
number_again b at x small there = number_is b at ∙ ap (from_be_bytes w32) there ∙ from_be_bytes-to_be_bytes_4 x small

pub short_again : (b : List ℕ) (at x : ℕ) → x < 2 ^ 16 → take 2 (drop at b) ≡ to_be_bytes w16 x → short_at b at ≡ x
short_again b at x small there = short_is b at ∙ ap (from_be_bytes w16) there ∙ from_be_bytes-to_be_bytes_2 x small

-- ---- pieces of one size, end to end

-- pieces that stand one after another, from piece a on
pub pieces : (b : List ℕ) (g : ℕ → List ℕ) (size start n a : ℕ) → ((i : ℕ) → i < a + n → g i ≡ take size (drop (start + size * i) b)) → flat_map g (range_with_len a n)
    ≡ take (size * n) (drop (start + size * a) b)
pieces b g size start zero a each = let none : size * 0 ≡ 0 = omega arith in rw none refl
pieces b g size start (suc n) a each =
    let rest = pieces b g size start n (a + 1) (λ i lt. each i (omega arith)) in
    let count : size * suc n ≡ size + size * n = omega arith in
    let next : start + size * a + size ≡ start + size * (a + 1) = omega arith in
    rw (count, take-add size (size * n) (drop (start + size * a) b), drop-drop size (start + size * a) b, next, rest, each a (omega arith)) refl

-- a piece of what stands end to end
pub piece_of : {X : Type 0} (g : X → List ℕ) (size : ℕ) (xs : List X) → ((k : ℕ) (d : X) → k < length xs → length (g (get_or xs k d)) ≡ size) → (i : ℕ) (d : X) → i < length xs
    → take size (drop (size * i) (flat_map g xs)) ≡ g (get_or xs i d)
piece_of g size [] wide i d lt = absurd (omega arith)
piece_of g size (x ∷ xs) wide zero d lt = let none : size * 0 ≡ 0 = omega arith in rw none (take_at (g x) (flat_map g xs) size (wide 0 x (omega arith)))
piece_of g size (x ∷ xs) wide (suc i) d lt =
    let at : size * suc i ≡ size + size * i = omega arith in
    rw (at, ← drop-drop (size * i) size (g x ++ flat_map g xs), drop_at (g x) (flat_map g xs) size (wide 0 x (omega arith))) (piece_of g size xs (λ k d' below. wide (suc k) d' (omega arith)) i d
    (omega arith))

pub length_of_pieces : {X : Type 0} (g : X → List ℕ) (size : ℕ) (xs : List X) → ((k : ℕ) (d : X) → k < length xs → length (g (get_or xs k d)) ≡ size) → length (flat_map g xs) ≡ size * length xs
length_of_pieces g size [] wide = omega arith
length_of_pieces g size (x ∷ xs) wide =
    let rest = length_of_pieces g size xs (λ k d below. wide (suc k) d (omega arith)) in
    let more : size * suc (length xs) ≡ size + size * length xs = omega arith in
    rw (length-append (g x) (flat_map g xs), wide 0 x (omega arith), rest) (sym more)
