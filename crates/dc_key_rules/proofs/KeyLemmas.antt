-- Keys cancel: where all stations have one history, the sum of all their keys is zero.
use Rattle.std.proofs.Common.{◌≡◌, ℕ, suc, ◌+◌, ◌-◌, ◌*◌, ◌%◌, ◌<◌, ◌≤◌, Bool, true, false, cond, ◌==◌, List, [], ◌∷◌, map, filter, length, sum_by, slice_index, nat_eq, All, refl, ◌∙◌, ap, arith, zero-le}
use Rattle.std.proofs.lemmas.List.Sums.{sum_by-cons}
use Rattle.std.specs.List.{range_with_len}
use Rattle.dc_spec.specs.Words.{zero_word, word_sum}
use Rattle.dc_spec.proofs.WordLemmas.{symbol-word_of, word_of-same}
use Rattle.dc_spec.specs.Pads.{Pair}
use Rattle.dc_key_rules.specs.PairKeys.{symbols, key_word, key_sum, key_part}
use Rattle.dc_spec.proofs.SumLemmas.{sum_by-map, sum_by-same, sum_by-plus, sum_by-single, sum_by-zero, sum_by-mod}
use Rattle.dc_spec.proofs.Booleans.{nat_eq-comm}

-- one more pair counts at its end alone
one_more : (end f : Pair → ℕ) (p : Pair) (ps : List Pair) (i : ℕ) → sum_by f (filter (λ q. end q == i) (p ∷ ps)) ≡ cond (nat_eq i (end p)) (f p) 0 + sum_by f (filter (λ q. end q == i) ps)
one_more end f p ps i = ap (λ b. sum_by f (cond b (p ∷ filter (λ q. end q == i) ps) (filter (λ q. end q == i) ps))) (nat_eq-comm (end p) i) ∙ by_cases (nat_eq i (end p))
  where
    by_cases : (b : Bool) → sum_by f (cond b (p ∷ filter (λ q. end q == i) ps) (filter (λ q. end q == i) ps)) ≡ cond b (f p) 0 + sum_by f (filter (λ q. end q == i) ps)
    by_cases true = sum_by-cons f p (filter (λ q. end q == i) ps)
    by_cases false = omega arith

-- each pair counts at one station
counted_once : (end f : Pair → ℕ) (n : ℕ) (pairs : List Pair) → All (λ p. end p < n) pairs → sum_by (λ i. sum_by f (filter (λ p. end p == i) pairs)) (range_with_len 0 n) ≡ sum_by f pairs
counted_once end f n [] low = sum_by-zero (range_with_len 0 n)
counted_once end f n (p ∷ ps) low =
    let ih = counted_once end f n ps (λ k d less. low (suc k) d (omega arith)) in
    let here : end p < n = low 0 p (omega arith) in
    let apart = sum_by-same (λ i. sum_by f (filter (λ q. end q == i) (p ∷ ps))) (λ i. cond (nat_eq i (end p)) (f p) 0 + sum_by f (filter (λ q. end q == i) ps)) (range_with_len 0 n)
    (λ i there. one_more end f p ps i) in
    let both = sum_by-plus (λ i. cond (nat_eq i (end p)) (f p) 0) (λ i. sum_by f (filter (λ q. end q == i) ps)) (range_with_len 0 n) in
    let single = sum_by-single (λ i. f p) 0 n (end p) zero-le (omega arith) in
    let whole = sum_by-cons f p ps in
    omega arith

-- a sum of what is added to what is missing of 65537, together with what is missing of it
filled_up : (a b : ℕ → ℕ) (xs : List ℕ) → ((i : ℕ) → b i ≤ 65537) → sum_by (λ i. a i + (65537 - b i)) xs + sum_by b xs ≡ sum_by a xs + 65537 * length xs
filled_up a b [] low = refl
filled_up a b (x ∷ xs) low =
    let ih = filled_up a b xs low in
    let here = low x in
    let left = sum_by-cons (λ i. a i + (65537 - b i)) x xs in
    let right = sum_by-cons b x xs in
    let other = sum_by-cons a x xs in
    omega arith

-- sums that agree modulo 65537 cancel
cancelled : (x y z n t : ℕ) → x + y ≡ z + 65537 * n → y % 65537 ≡ t % 65537 → z % 65537 ≡ t % 65537 → x % 65537 ≡ 0
cancelled x y z n t e is_y is_z = omega arith

-- a symbol of a station's keys
pub key_part-symbol : (pairs : List Pair) (i : ℕ) (history : List (List ℕ)) (l : ℕ) → l < 16 →
    slice_index (key_part pairs i history) l ≡ (sum_by (λ p. slice_index (key_word p (symbols history) (length history)) l) (filter (λ p. p.u == i) pairs) % 65537
    + (65537 - sum_by (λ p. slice_index (key_word p (symbols history) (length history)) l) (filter (λ p. p.v == i) pairs) % 65537)) % 65537
key_part-symbol pairs i history l few =
    let f = λ (p : Pair). slice_index (key_word p (symbols history) (length history)) l in
    let sum_at : (ps : List Pair) → slice_index (key_sum ps history) l ≡ sum_by f ps % 65537 = λ ps.
    symbol-word_of (λ k. sum_by (λ w. slice_index w k) (map (λ p. key_word p (symbols history) (length history)) ps) % 65537) l few
    ∙ ap (λ s. s % 65537) (sum_by-map (λ w. slice_index w l) (λ p. key_word p (symbols history) (length history)) ps) in
    symbol-word_of (λ k. (slice_index (key_sum (filter (λ p. p.u == i) pairs) history) k + (65537 - slice_index (key_sum (filter (λ p. p.v == i) pairs) history) k)) % 65537) l few
    ∙ ap (λ s. (s + (65537 - slice_index (key_sum (filter (λ p. p.v == i) pairs) history) l)) % 65537) (sum_at (filter (λ p. p.u == i) pairs))
    ∙ ap (λ s. (sum_by f (filter (λ p. p.u == i) pairs) % 65537 + (65537 - s)) % 65537) (sum_at (filter (λ p. p.v == i) pairs))

-- where all stations have one history, their keys cancel
pub keys-cancel : (n : ℕ) (pairs : List Pair) (history : List (List ℕ)) → All (λ p. p.u < n) pairs → All (λ p. p.v < n) pairs → word_sum (map (λ i. key_part pairs i history) (range_with_len 0 n))
    ≡ zero_word
keys-cancel n pairs history low_u low_v = word_of-same _ (λ l. 0) (λ l inside.
    let stations = range_with_len 0 n in
    let f = λ (p : Pair). slice_index (key_word p (symbols history) (length history)) l in
    let a = λ (i : ℕ). sum_by f (filter (λ p. p.u == i) pairs) % 65537 in
    let b = λ (i : ℕ). sum_by f (filter (λ p. p.v == i) pairs) % 65537 in
    let part_at : (i : ℕ) → slice_index (key_part pairs i history) l ≡ (a i + (65537 - b i)) % 65537 = λ i. key_part-symbol pairs i history l inside in
    let parts = sum_by-map (λ w. slice_index w l) (λ i. key_part pairs i history) stations ∙ sum_by-same (λ i. slice_index (key_part pairs i history) l) (λ i. (a i + (65537 - b i)) % 65537) stations
    (λ i there. part_at i) in
    let reduced = sum_by-mod (λ i. a i + (65537 - b i)) stations in
    let full = filled_up a b stations (λ i. at_most (sum_by f (filter (λ p. p.v == i) pairs))) in
    let in_a : sum_by a stations % 65537 ≡ sum_by f pairs % 65537 = sum_by-mod (λ i. sum_by f (filter (λ p. p.u == i) pairs)) stations
    ∙ ap (λ s. s % 65537) (counted_once (λ p. p.u) f n pairs low_u) in
    let in_b : sum_by b stations % 65537 ≡ sum_by f pairs % 65537 = sum_by-mod (λ i. sum_by f (filter (λ p. p.v == i) pairs)) stations
    ∙ ap (λ s. s % 65537) (counted_once (λ p. p.v) f n pairs low_v) in
    ap (λ s. s % 65537) parts ∙ reduced ∙ cancelled _ _ _ (length stations) (sum_by f pairs) full in_b in_a)
  where
    at_most : (x : ℕ) → x % 65537 ≤ 65537
    at_most x = omega arith
