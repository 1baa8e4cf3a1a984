use Rattle.std.proofs.Common.{ℕ, ◌^◌, ◌<◌, ◌≤◌, arith, inl, inr}
use Rattle.std.proofs.Math.Nat.{pow-le-pow_right}
use Rattle.std.proofs.lemmas.Bool.{cases_lt}
use Rattle.dc_fast_keys.proofs.walk.levels_of.Goals as goal

-- a smaller power has a smaller level
smaller : (words level q : ℕ) → words ≤ 2 ^ level → 2 ^ q < words → q < level
smaller words level q within below = elim (cases_lt q level) [
  | inl lt ↦ lt
  | inr le ↦ (let h : 2 ^ level ≤ 2 ^ q = pow-le-pow_right {n = 2} (omega arith) le in absurd (omega arith))
]

pub returns-then-words-power_of-clause-enough : goal.returns-then-words-power_of-clause-enough
returns-then-words-power_of-clause-enough c = λ q below. smaller c.args.words _ q (omega (arith, c.power_of.ensures.value)) below

pub returns-clause-enough : goal.returns-clause-enough
returns-clause-enough c = λ q below. smaller c.args.words 12 q c.requires below
