-- Pads that change, symbol by symbol.
use Rattle.std.proofs.Common.{◌≡◌, ℕ, zero, suc, ◌+◌, ◌-◌, ◌*◌, ◌%◌, ◌<◌, List, [], ◌∷◌, length, get_or, slice_index, sum_by, refl, ap, ◌∙◌, arith, length-append}
use Rattle.std.specs.List.{All, range_with_len}
use Rattle.std.proofs.lemmas.List.{get_or-append-add, get_or_append_left}
use Rattle.std.proofs.lemmas.List.Elements.{All-head, All-tail}
use Rattle.dc_key_rules.specs.PairKeys.{symbols, key_symbol, pads_add}

-- a pad of a sum
pub pads_add-at : (xs ys : List ℕ) (k d : ℕ) → k < length xs → length xs ≡ length ys → get_or (pads_add xs ys) k d ≡ (slice_index xs k + slice_index ys k) % 65537
pads_add-at [] ys k d within same = absurd (omega arith)
pads_add-at (x ∷ xs) [] k d within same = absurd (omega arith)
pads_add-at (x ∷ xs) (y ∷ ys) zero d within same = refl
pads_add-at (x ∷ xs) (y ∷ ys) (suc k) d within same = pads_add-at xs ys k d (omega arith) (omega arith)

pub length-pads_add : (xs ys : List ℕ) → length xs ≡ length ys → length (pads_add xs ys) ≡ length xs
length-pads_add [] ys same = refl
length-pads_add (x ∷ xs) [] same = absurd (omega arith)
length-pads_add (x ∷ xs) (y ∷ ys) same = ap suc (length-pads_add xs ys (omega arith))

-- sixteen numbers for each word
pub length-symbols : (ws : List (List ℕ)) → All (λ w. length w ≡ 16) ws → length (symbols ws) ≡ 16 * length ws
length-symbols [] are = refl
length-symbols (w ∷ ws) are =
    let here = All-head (λ (v : List ℕ). length v ≡ 16) w ws are in
    let rest = length-symbols ws (All-tail (λ (v : List ℕ). length v ≡ 16) w ws are) in
    omega (arith, length-append w (symbols ws))

-- number l of word t
pub symbols-at : (ws : List (List ℕ)) → All (λ w. length w ≡ 16) ws → (t l n : ℕ) → n ≡ 16 * t + l → l < 16 → t < length ws → slice_index (symbols ws) n ≡ slice_index (get_or ws t []) l
symbols-at [] are t l n is few within = absurd (omega arith)
symbols-at (w ∷ ws) are zero l n is few within =
    let here = All-head (λ (v : List ℕ). length v ≡ 16) w ws are in
    let place : n ≡ l = omega arith in
    ap (λ (k : ℕ). slice_index (symbols (w ∷ ws)) k) place ∙ get_or_append_left w (symbols ws) 0 l (omega arith)
symbols-at (w ∷ ws) are (suc t) l n is few within =
    let here = All-head (λ (v : List ℕ). length v ≡ 16) w ws are in
    let place : n ≡ length w + (16 * t + l) = omega arith in
    ap (λ (k : ℕ). slice_index (symbols (w ∷ ws)) k) place ∙ get_or-append-add w (symbols ws) (16 * t + l) 0
    ∙ symbols-at ws (All-tail (λ (v : List ℕ). length v ≡ 16) w ws are) t l (16 * t + l) refl few (omega arith)

-- what is added to a first pad is added to the symbol of the key
pub key_symbol-shifted : (a b c : List ℕ) (a' : List ℕ) (before n x : ℕ) → slice_index a' n % 65537 ≡ (slice_index a n + x) % 65537 → key_symbol a' b c before n % 65537
    ≡ (key_symbol a b c before n + x) % 65537
key_symbol-shifted a b c a' before n x is = by_numbers (slice_index a' n) (slice_index a n) x (sum_by (λ k. slice_index b (n - k) * slice_index c k) (range_with_len 0 before)) is
  where
    by_numbers : (p q x r : ℕ) → p % 65537 ≡ (q + x) % 65537 → (p + r) % 65537 % 65537 ≡ ((q + r) % 65537 + x) % 65537
    by_numbers p q x r is = omega arith
