-- The words of a round among all words of a file.
use Rattle.std.proofs.Common.{◌≡◌, ℕ, zero, suc, ◌+◌, ◌*◌, ◌<◌, ◌≤◌, List, [], ◌∷◌, ◌++◌, length, map, take, drop, sym, ap, ◌∙◌, arith}
use Rattle.std.specs.List.{range_with_len}
use Rattle.std.proofs.Math.Nat.{mul-le-mul_right, add-mul, one-mul}
use Rattle.std.proofs.lemmas.List.FromFn.{take-map-range_with_len, map-range_with_len_more, get_or-map-range_with_len, length-map-range_with_len, fill_by_all}
use Rattle.dc_spec.specs.Words.{word_sum}
use Rattle.dc_spec.specs.Bytes.{word_at}
use Rattle.dc_spec.specs.Recorded.{superposed}
use Rattle.dc_superpose.specs.Reading.{words_at}
use Rattle.dc_superpose.specs.Pieces.{words_from}

-- one round more
pub next_round : (r n : ℕ) → (r + 1) * n ≡ r * n + n
next_round r n = add-mul r 1 n ∙ ap (λ (k : ℕ). r * n + k) (one-mul n)

-- a round ends where the rounds end, or before
pub round_within : (r t n : ℕ) → r < t → r * n + n ≤ t * n
round_within r t n lt = let le : (r + 1) * n ≤ t * n = mul-le-mul_right n (omega arith) in omega (arith, next_round r n, le)

-- some places from the middle of a list made from a function
middle : (f : ℕ → List ℕ) (a n k m : ℕ) → k + m ≤ n → take m (drop k (map f (range_with_len a n))) ≡ map f (range_with_len (a + k) m)
middle f a n zero m le = let same : a ≡ a + 0 = omega arith in take-map-range_with_len f a n m (omega arith) ∙ ap (λ (s : ℕ). map f (range_with_len s m)) same
middle f a zero (suc k) m le = absurd (omega arith)
middle f a (suc n) (suc k) m le = let same : a + 1 + k ≡ a + suc k = omega arith in middle f (a + 1) n k m (omega arith) ∙ ap (λ (s : ℕ). map f (range_with_len s m)) same

pub round_of : (b : List ℕ) (n t r : ℕ) → r < t → take n (drop (r * n) (words_at b (t * n))) ≡ words_from b (r * n) n
round_of b n t r lt =
    let from : 0 + r * n ≡ r * n = omega arith in
    middle (λ i. word_at b (8 + 64 * i)) 0 (t * n) (r * n) n (round_within r t n lt) ∙ ap (λ (s : ℕ). words_from b s n) from

-- the sums of all rounds are the superposed words
pub all_rounds : (b : List ℕ) (n t : ℕ) → map (λ r. word_sum (words_from b (r * n) n)) (range_with_len 0 t) ≡ superposed (record { stations = n; rounds = t; words = words_at b (t * n) })
all_rounds b n t = fill_by_all (λ r. word_sum (take n (drop (r * n) (words_at b (t * n))))) (map (λ r. word_sum (words_from b (r * n) n)) (range_with_len 0 t)) t []
    (length-map-range_with_len (λ r. word_sum (words_from b (r * n) n)) 0 t)
    (λ k lt. get_or-map-range_with_len (λ r. word_sum (words_from b (r * n) n)) 0 t k k [] lt (omega arith) ∙ ap word_sum (sym (round_of b n t k lt)))

-- the sums of one round more
pub one_round_more : (b : List ℕ) (n r : ℕ) (sums new round : List (List ℕ)) (sum : List ℕ) → sums ≡ map (λ r. word_sum (words_from b (r * n) n)) (range_with_len 0 r)
    → round ≡ words_from b (r * n) n → sum ≡ word_sum round → new ≡ sums ++ sum ∷ []
    → new ≡ map (λ r. word_sum (words_from b (r * n) n)) (range_with_len 0 (r + 1))
one_round_more b n r sums new round sum so_far here is pushed =
    pushed ∙ rw (so_far, is, here) (sym (map-range_with_len_more (λ r. word_sum (words_from b (r * n) n)) 0 r r (omega arith)))

pub length-words_from : (b : List ℕ) (first count : ℕ) → length (words_from b first count) ≡ count
length-words_from b first count = length-map-range_with_len (λ i. word_at b (8 + 64 * i)) first count
