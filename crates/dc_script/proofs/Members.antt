-- The members of a coalition among the stations.
use Rattle.std.proofs.Common.{◌≡◌, ℕ, zero, suc, ◌+◌, ◌<◌, ◌≤◌, ◌≢◌, Bool, true, false, cond, List, [], ◌∷◌, ◌++◌, length, get_or, map, All, refl, ◌∙◌, ap, inl, inr, arith}
use Rattle.std.specs.List.{filter, range_with_len}
use Rattle.std.specs.List.Sorted.{IsStrictlyIncreasing}
use Rattle.std.proofs.lemmas.Bool.{ne_eqb}
use Rattle.std.proofs.lemmas.Bool.Decides.{eqb_tells}
use Rattle.std.proofs.lemmas.List.{map-append}
use Rattle.std.proofs.lemmas.List.Elements.{All-head, All-tail}
use Rattle.dc_spec.specs.Lists.{is_among}

-- one number more
pub kept_more : (p : ℕ → Bool) (a n : ℕ) → filter p (range_with_len a (n + 1)) ≡ filter p (range_with_len a n) ++ cond (p (a + n)) ((a + n) ∷ []) []
kept_more p a zero = ap (λ (k : ℕ). cond (p k) (k ∷ []) []) (let same : a ≡ a + 0 = omega arith in same)
kept_more p a (suc n) =
    let rest = kept_more p (a + 1) n in
    let place : a + 1 + n ≡ a + suc n = omega arith in
    let one : suc n + 1 ≡ suc (n + 1) = omega arith in
    rw one (elim (p a) as (λ b. cond b (a ∷ filter p (range_with_len (a + 1) (n + 1))) (filter p (range_with_len (a + 1) (n + 1))) ≡ cond b (a ∷ filter p (range_with_len (a + 1) n))
    (filter p (range_with_len (a + 1) n)) ++ cond (p (a + suc n)) ((a + suc n) ∷ []) []) [
      | true ↦ rw (rest, place) refl
      | false ↦ rw (rest, place) refl
    ])

-- numbers from one on, each above the one before it
abbrev Rises : ℕ → List ℕ → Type 0
Rises a [] = Unit {0}
Rises a (m ∷ ms) = (a ≤ m) × Rises (m + 1) ms

-- each number is below the next
rises : (a : ℕ) (ms : List ℕ) → (0 < length ms → a ≤ get_or ms 0 0) → IsStrictlyIncreasing ms → Rises a ms
rises a [] first up = tt
rises a (m ∷ ms) first up =
    let head : a ≤ m = first (omega arith) in
    let after : (k : ℕ) → k + 1 < length ms → get_or ms k 0 < get_or ms (k + 1) 0 = λ k lt.
    let next : suc k + 1 ≡ suc (k + 1) = omega arith in
    rw next at (up (suc k) (omega arith)) in
    let second : 0 < length ms → m + 1 ≤ get_or ms 0 0 = λ lt.
    let here : m < get_or ms 0 0 = up 0 (omega arith) in
    omega arith in
    (head, rises (m + 1) ms second after)

-- a number below all of them is not among them
absent : (b : ℕ) (ms : List ℕ) (a : ℕ) → Rises b ms → a < b → is_among ms a ≡ false
absent b [] a r lt = refl
absent b (m ∷ ms) a r lt =
    let other : a ≢ m = λ e. absurd (omega arith) in
    rw (ne_eqb a m other) (absent (m + 1) ms a r.1 (omega arith))

-- those numbers of a range that are among rising ones are these, where the range reaches past them
kept : (p : ℕ → Bool) (ms : List ℕ) (a n : ℕ) → ((i : ℕ) → a ≤ i → p i ≡ is_among ms i) → Rises a ms → All (λ m. m < a + n) ms → filter p (range_with_len a n) ≡ ms
kept p [] a zero same r below = refl
kept p (m ∷ ms) a zero same r below = let here : m < a + 0 = All-head (λ m. m < a + 0) m ms below in absurd (omega arith)
kept p [] a (suc n) same r below =
    let rest = kept p [] (a + 1) n (λ i le. same i (omega arith)) tt (rw (let e : a + suc n ≡ a + 1 + n = omega arith in e) at below) in
    rw (same a (omega arith)) rest
kept p (m ∷ ms) a (suc n) same r below =
    let further : All (λ k. k < a + 1 + n) (m ∷ ms) = rw (let e : a + suc n ≡ a + 1 + n = omega arith in e) at below in
    elim (eqb_tells a m) [
      | inl here ↦ (
          let there : p a ≡ true = same a (omega arith) ∙ rw here.0 refl in
          let others : (i : ℕ) → a + 1 ≤ i → p i ≡ is_among ms i = λ i le. same i (omega arith) ∙ rw (ne_eqb i m (λ e. absurd (omega (arith, here.1)))) refl in
          let rest : filter p (range_with_len (a + 1) n) ≡ ms = kept p ms (a + 1) n others (rw (← here.1) at r.1) (All-tail (λ k. k < a + 1 + n) m ms further) in
          rw (there, rest, here.1) refl)
      | inr other ↦ (
          let past : a + 1 ≤ m = omega (arith, r.0, other.1) in
          let gone : p a ≡ false = same a (omega arith) ∙ rw other.0 (absent (m + 1) ms a r.1 (omega arith)) in
          let rest : filter p (range_with_len (a + 1) n) ≡ m ∷ ms = kept p (m ∷ ms) (a + 1) n (λ i le. same i (omega arith)) (past, r.1) further in
          rw gone rest)
    ]

-- the members among all stations are the members
pub members_kept : (ms : List ℕ) (n : ℕ) → IsStrictlyIncreasing ms → All (λ m. m < n) ms → filter (is_among ms) (range_with_len 0 n) ≡ ms
members_kept ms n up below =
    let within : All (λ m. m < 0 + n) ms = rw (let e : 0 + n ≡ n = omega arith in e) below in
    kept (is_among ms) ms 0 n (λ i le. refl) (rises 0 ms (λ lt. omega arith) up) within

-- one more number among the first ones
pub zero_words_more : {Y : Type 0} (f : ℕ → Y) (p : ℕ → Bool) (n : ℕ) → map f (filter p (range_with_len 0 (n + 1))) ≡ map f (filter p (range_with_len 0 n)) ++ cond (p n) (f n ∷ []) []
zero_words_more f p n =
    let more : filter p (range_with_len 0 (n + 1)) ≡ filter p (range_with_len 0 n) ++ cond (p n) (n ∷ []) [] = kept_more p 0 n ∙ rw (let e : 0 + n ≡ n = omega arith in e) refl in
    ap (map f) more ∙ map-append f (filter p (range_with_len 0 n)) (cond (p n) (n ∷ []) [])
    ∙ ap (λ ys. map f (filter p (range_with_len 0 n)) ++ ys) (elim (p n) as (λ b. map f (cond b (n ∷ []) []) ≡ cond b (f n ∷ []) []) [ true ↦ refl | false ↦ refl ])
