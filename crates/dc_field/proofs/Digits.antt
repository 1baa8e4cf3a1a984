-- Numbers spelled by digits in base 256, where a digit may be 256 or more.
use Rattle.std.proofs.Common.{◌≡◌, ℕ, zero, suc, ◌+◌, ◌*◌, ◌/◌, ◌^◌, ◌<◌, ◌≤◌, List, [], ◌∷◌, ◌++◌, length, get_or, take, refl, ◌∙◌, ap, sym, arith, length-append}
use Rattle.std.proofs.Math.Nat.{pow-suc, mul-le-mul_right, mul-le-mul_left, pow-le-pow_right, div-lt_iff_lt-mul}
use Rattle.std.proofs.lemmas.List.{take_more, length-take}
use Rattle.std.proofs.lemmas.Nat.{pow-add}
use Rattle.dc_spec.specs.Values.{number_of}

-- one more digit
pub number_of-push : (xs : List ℕ) (d : ℕ) → number_of (xs ++ d ∷ []) ≡ number_of xs * 256 + d
number_of-push [] d = omega arith
number_of-push (x ∷ xs) d =
    let len : length (xs ++ d ∷ []) ≡ suc (length xs) = omega (arith, length-append {A = ℕ} xs (d ∷ [])) in
    let power : 256 ^ length (xs ++ d ∷ []) ≡ 256 ^ length xs * 256 = ap (λ n. 256 ^ n) len ∙ pow-suc 256 (length xs) in
    let rest = number_of-push xs d in
    let front : x * 256 ^ length (xs ++ d ∷ []) ≡ x * (256 ^ length xs * 256) = ap (λ n. x * n) power in
    omega (arith, front, rest)

-- the number of a front that is one digit longer
pub number_of-more : (xs : List ℕ) (i : ℕ) → i < length xs → number_of (take (i + 1) xs) ≡ number_of (take i xs) * 256 + get_or xs i 0
number_of-more xs i lt = ap number_of (take_more xs i 0 lt) ∙ number_of-push (take i xs) (get_or xs i 0)

-- where each digit is at most 255 times c, the number is below c times the power, but for c 0
pub number_of-below : (c : ℕ) (xs : List ℕ) → ((i : ℕ) → get_or xs i 0 ≤ 255 * c) → number_of xs + c ≤ c * 256 ^ length xs
number_of-below c [] each = omega arith
number_of-below c (x ∷ xs) each =
    let rest = number_of-below c xs (λ i. each (suc i)) in
    let power = pow-suc 256 (length xs) in
    let first : x * 256 ^ length xs ≤ 255 * c * 256 ^ length xs = mul-le-mul_right (256 ^ length xs) (each 0) in
    let whole : c * 256 ^ suc (length xs) ≡ c * (256 ^ length xs * 256) = ap (λ n. c * n) power in
    omega (arith, first, rest, whole)

-- a front has no greater digit
front_below : (b n : ℕ) (xs : List ℕ) → ((i : ℕ) → get_or xs i 0 ≤ b) → (i : ℕ) → get_or (take n xs) i 0 ≤ b
front_below b zero xs each i = omega arith
front_below b (suc n) [] each i = omega arith
front_below b (suc n) (x ∷ xs) each zero = each 0
front_below b (suc n) (x ∷ xs) each (suc i) = front_below b n xs (λ k. each (suc k)) i

-- fifteen digits, each at most 255 times a count up to 256, spell a number below 2 to the 128, and so does each front
pub number_of-fits : (c : ℕ) (xs : List ℕ) (i : ℕ) → c ≤ 256 → length xs ≡ 15 → ((k : ℕ) → get_or xs k 0 ≤ 255 * c) → i < 15 → number_of (take i xs) * 256 + get_or xs i 0 < 2 ^ 128
number_of-fits c xs i most fifteen each lt =
    let within : i < length xs = omega arith in
    let step = number_of-more xs i within in
    let len : length (take (i + 1) xs) ≤ 15 = omega (arith, length-take (i + 1) xs) in
    let below = number_of-below c (take (i + 1) xs) (front_below (255 * c) (i + 1) xs each) in
    let power : 256 ^ length (take (i + 1) xs) ≤ 256 ^ 15 = pow-le-pow_right (omega arith) len in
    let scaled : c * 256 ^ length (take (i + 1) xs) ≤ c * 256 ^ 15 = mul-le-mul_left c power in
    omega (arith, step, below, scaled)

-- numbers add up where their digits do
pub number_of-sum : (xs ys zs : List ℕ) → length ys ≡ length xs → length zs ≡ length xs → ((i : ℕ) → i < length xs → get_or ys i 0 + get_or zs i 0 ≡ get_or xs i 0)
    → number_of ys + number_of zs ≡ number_of xs
number_of-sum [] [] [] ly lz each = refl
number_of-sum (x ∷ xs) (y ∷ ys) (z ∷ zs) ly lz each =
    let ly' : length ys ≡ length xs = omega arith in
    let lz' : length zs ≡ length xs = omega arith in
    let rest = number_of-sum xs ys zs ly' lz' (λ i lt. each (suc i) (omega arith)) in
    let first : y + z ≡ x = each 0 (omega arith) in
    let scaled : (y + z) * 256 ^ length xs ≡ x * 256 ^ length xs = ap (λ n. n * 256 ^ length xs) first in
    let py : y * 256 ^ length ys ≡ y * 256 ^ length xs = ap (λ n. y * 256 ^ n) ly' in
    let pz : z * 256 ^ length zs ≡ z * 256 ^ length xs = ap (λ n. z * 256 ^ n) lz' in
    omega (arith, rest, scaled, py, pz)
number_of-sum [] (y ∷ ys) zs ly lz each = absurd (omega arith)
number_of-sum [] [] (z ∷ zs) ly lz each = absurd (omega arith)
number_of-sum (x ∷ xs) [] zs ly lz each = absurd (omega arith)
number_of-sum (x ∷ xs) (y ∷ ys) [] ly lz each = absurd (omega arith)

-- a power of 256 as one of 2
pub bytes_shift : (k : ℕ) → 2 ^ (8 * k) ≡ 256 ^ k
bytes_shift zero = refl
bytes_shift (suc k) =
    let more : 8 * suc k ≡ 8 * k + 8 = omega arith in
    ap (λ n. 2 ^ n) more ∙ (pow-add 2 (8 * k) 8 ∙ (ap (λ n. n * 256) (bytes_shift k) ∙ sym (pow-suc 256 k)))

-- where each of fifteen digits is at most 255 times c, the number divided by c is below the power
pub number_of-mean : (c : ℕ) (xs : List ℕ) → 1 ≤ c → length xs ≡ 15 → ((i : ℕ) → get_or xs i 0 ≤ 255 * c) → number_of xs / c < 256 ^ 15
number_of-mean c xs some fifteen each =
    let below = number_of-below c xs each in
    let power : c * 256 ^ length xs ≡ c * 256 ^ 15 = ap (λ n. c * 256 ^ n) fifteen in
    let product : number_of xs < 256 ^ 15 * c = omega arith in
    (div-lt_iff_lt-mul {x = number_of xs} {y = 256 ^ 15} some).1 product

-- a number is so many times another where its digits are
pub number_of-scaled : (c : ℕ) (xs ys : List ℕ) → length ys ≡ length xs → ((i : ℕ) → i < length xs → get_or xs i 0 ≡ c * get_or ys i 0) → number_of xs ≡ c * number_of ys
number_of-scaled c [] [] len each = omega arith
number_of-scaled c (x ∷ xs) (y ∷ ys) len each =
    let len' : length ys ≡ length xs = omega arith in
    let rest = number_of-scaled c xs ys len' (λ i lt. each (suc i) (omega arith)) in
    let first : x ≡ c * y = each 0 (omega arith) in
    let px : x * 256 ^ length xs ≡ c * y * 256 ^ length xs = ap (λ n. n * 256 ^ length xs) first in
    let py : c * y * 256 ^ length ys ≡ c * y * 256 ^ length xs = ap (λ n. c * y * 256 ^ n) len' in
    omega (arith, rest, px, py)
number_of-scaled c [] (y ∷ ys) len each = absurd (omega arith)
number_of-scaled c (x ∷ xs) [] len each = absurd (omega arith)
