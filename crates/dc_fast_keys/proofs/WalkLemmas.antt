-- Which sums a block of words is added to, and what they hold before and after.
use Rattle.std.proofs.Common.{◌≡◌, ◌≢◌, ℕ, zero, suc, ◌+◌, ◌-◌, ◌*◌, ◌/◌, ◌%◌, ◌^◌, ◌<◌, ◌≤◌, ◌==◌, cond, false, refl, sym, ap, ◌∙◌, arith, inl, inr, eq-eqb, eqb-true, add-one}
use Rattle.std.proofs.Math.Nat.{pow-suc}
use Rattle.std.proofs.lemmas.Nat.{pow_pos}
use Rattle.std.proofs.lemmas.Bool.{cases_eq, cases_Bool}
use Rattle.dc_fast_keys.specs.Walk.{level, included}

-- a test that fails
not_equal : (m n : ℕ) → m ≢ n → m == n ≡ false
not_equal m n ne = elim (cases_Bool (m == n)) [
  | inl same ↦ absurd (ne (eqb-true m n same))
  | inr other ↦ other
]

included-same : (digits n : ℕ) → included (suc digits) n n ≡ n
included-same digits n = ap (λ b. cond b n (2 * included digits (n / 2) (n / 2))) (eq-eqb n n refl)

included-other : (digits taken round : ℕ) → taken ≢ round → included (suc digits) taken round ≡ 2 * included digits (taken / 2) (round / 2)
included-other digits taken round ne = ap (λ b. cond b taken (2 * included digits (taken / 2) (round / 2))) (not_equal taken round ne)

level-even : (most n : ℕ) → n % 2 ≡ 0 → level (suc most) n ≡ level most (n / 2) + 1
level-even most n even = ap (λ b. cond b (level most (n / 2) + 1) 0) (eq-eqb (n % 2) 0 even)

level-odd : (most n : ℕ) → n % 2 ≢ 0 → level (suc most) n ≡ 0
level-odd most n odd = ap (λ b. cond b (level most (n / 2) + 1) 0) (not_equal (n % 2) 0 odd)

-- the next round has all words
pub included-next : (digits n : ℕ) → n < 2 ^ digits → included digits n n ≡ n
included-next zero n lt = (let e : n < 1 = lt in omega arith)
included-next (suc digits) n lt = included-same digits n

-- at first no sum has any
pub included-none : (digits round : ℕ) → included digits 0 round ≡ 0
included-none zero round = refl
included-none (suc digits) round = elim (cases_eq 0 round) [
  | inl same ↦ ap (λ r. included (suc digits) 0 r) (sym same) ∙ included-same digits 0
  | inr other ↦ (let ih = included-none digits (round / 2) in included-other digits 0 round other ∙ (let e : 2 * included digits (0 / 2) (round / 2) ≡ 0 = omega arith in e))
]

pub level-down : (most n : ℕ) → most ≢ 0 → n % 2 ≡ 0 → level most n ≡ level (most - 1) (n / 2) + 1
level-down zero n some even = absurd (some refl)
level-down (suc most) n some even = let e : suc most - 1 ≡ most = omega arith in level-even most n even ∙ ap (λ m. level m (n / 2) + 1) (sym e)

pub level-end : (most n : ℕ) → n % 2 ≢ 0 → level most n ≡ 0
level-end zero n odd = refl
level-end (suc most) n odd = level-odd most n odd

-- the block is not longer than what was taken
pub block-within : (digits n : ℕ) → 0 < n → 2 ^ level digits n ≤ n
block-within zero n some = (let e : 1 ≤ n = some in e)
block-within (suc digits) n some = elim (cases_eq (n % 2) 0) [
  | inl even ↦
      let ih = block-within digits (n / 2) (omega arith) in
      let p : 2 ^ (level digits (n / 2) + 1) ≡ 2 ^ level digits (n / 2) * 2 = ap (λ k. 2 ^ k) (add-one (level digits (n / 2))) ∙ pow-suc 2 (level digits (n / 2)) in
      let e = ap (λ k. 2 ^ k) (level-even digits n even) in
      omega arith
  | inr odd ↦ (let e = ap (λ k. 2 ^ k) (level-odd digits n odd) in let one : 2 ^ 0 ≡ 1 = refl in omega arith)
]

-- rounds of the block: before it is added their sums lack it, and then they have all words
pub included-block : (digits n round : ℕ) → 0 < n → n ≤ round → round < 2 ^ digits → round < n + 2 ^ level digits n
    → (included digits n round ≡ n) × (included digits (n - 1) round + 2 ^ level digits n ≡ n)
included-block zero n round some later below near = (let e : round < 1 = below in absurd (omega arith))
included-block (suc digits) n round some later below near = elim (cases_eq (n % 2) 0) [
  | inl even ↦
      let p : 2 ^ suc digits ≡ 2 ^ digits * 2 = pow-suc 2 digits in
      let b : 2 ^ level (suc digits) n ≡ 2 ^ level digits (n / 2) * 2 =
      ap (λ k. 2 ^ k) (level-even digits n even ∙ add-one (level digits (n / 2))) ∙ pow-suc 2 (level digits (n / 2)) in
      let ih = included-block digits (n / 2) (round / 2) (omega arith) (omega arith) (omega arith) (omega arith) in
      let before = included-other digits (n - 1) round (λ same. omega arith) in
      let half : (n - 1) / 2 ≡ n / 2 - 1 = omega arith in
      let down : included (suc digits) (n - 1) round ≡ 2 * included digits (n / 2 - 1) (round / 2) = before ∙ ap (λ k. 2 * included digits k (round / 2)) half in
      let one = ih.0 in
      let two = ih.1 in
      let after : included (suc digits) n round ≡ n = elim (cases_eq n round) [
        | inl same ↦ ap (included (suc digits) n) (sym same) ∙ included-same digits n
        | inr other ↦ (let e = included-other digits n round other in omega arith)
      ] in
      (after, omega arith)
  | inr odd ↦
      let b : 2 ^ level (suc digits) n ≡ 1 = ap (λ k. 2 ^ k) (level-odd digits n odd) in
      let p : 2 ^ suc digits ≡ 2 ^ digits * 2 = pow-suc 2 digits in
      let same : round ≡ n = omega arith in
      let half : (n - 1) / 2 ≡ n / 2 = omega arith in
      let last : round / 2 ≡ n / 2 = omega arith in
      let before = included-other digits (n - 1) round (λ e. omega arith) in
      let all : included digits ((n - 1) / 2) (round / 2) ≡ n / 2 =
      ap (λ k. included digits k (round / 2)) half ∙ ap (included digits (n / 2)) last ∙ included-next digits (n / 2) (omega arith) in
      (ap (included (suc digits) n) same ∙ included-same digits n, omega arith)
]

-- later rounds: their sums stay as they are
pub included-later : (digits n round : ℕ) → 0 < n → n + 2 ^ level digits n ≤ round → included digits n round ≡ included digits (n - 1) round
included-later zero n round some later = refl
included-later (suc digits) n round some later =
    let ne : n ≢ round = (let pos = pow_pos (level (suc digits) n) in omega arith) in
    let ne_before : n - 1 ≢ round = (let pos = pow_pos (level (suc digits) n) in omega arith) in
    elim (cases_eq (n % 2) 0) [
      | inl even ↦
          let b : 2 ^ level (suc digits) n ≡ 2 ^ level digits (n / 2) * 2 =
          ap (λ k. 2 ^ k) (level-even digits n even ∙ add-one (level digits (n / 2))) ∙ pow-suc 2 (level digits (n / 2)) in
          let half : (n - 1) / 2 ≡ n / 2 - 1 = omega arith in
          let ih = included-later digits (n / 2) (round / 2) (omega arith) (omega arith) in
          included-other digits n round ne ∙ ap (λ k. 2 * k) (ih ∙ ap (λ k. included digits k (round / 2)) (sym half)) ∙ sym (included-other digits (n - 1) round ne_before)
      | inr odd ↦
          let half : (n - 1) / 2 ≡ n / 2 = omega arith in
          included-other digits n round ne ∙ ap (λ k. 2 * included digits k (round / 2)) (sym half) ∙ sym (included-other digits (n - 1) round ne_before)
    ]

-- a sum has no more words than were taken
pub included-within : (digits taken round : ℕ) → included digits taken round ≤ taken
included-within zero taken round = (let e : 0 ≤ taken = omega arith in e)
included-within (suc digits) taken round = elim (cases_eq taken round) [
  | inl same ↦ (let e = ap (included (suc digits) taken) (sym same) ∙ included-same digits taken in omega arith)
  | inr other ↦ (let ih = included-within digits (taken / 2) (round / 2) in let e = included-other digits taken round other in omega arith)
]
