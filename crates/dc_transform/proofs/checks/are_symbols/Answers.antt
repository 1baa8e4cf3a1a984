use Rattle.std.proofs.Common.{ℕ, ◌<◌, List, length, get_or, arith, inl, inr}
use Rattle.std.proofs.lemmas.Bool.{cases_lt}
use Rattle.std.proofs.lemmas.List.{get_or_past}
use Rattle.dc_spec.specs.Symbols.{AreSymbols}
use Rattle.dc_transform.proofs.checks.are_symbols.Goals as goal

-- a place past the end reads 0
everywhere : (xs : List ℕ) → ((k : ℕ) → k < length xs → get_or xs k 0 < 65537) → AreSymbols xs
everywhere xs within k = elim (cases_lt k (length xs)) [
  | inl lt ↦ within k lt
  | inr past ↦ (let none = get_or_past xs k 0 past in omega arith)
]

pub returns : goal.returns
returns c = (λ is. everywhere c.args.numbers.now (c.each_is_small.ensures.0 is), λ symbols. c.each_is_small.ensures.1 (λ k lt. symbols k))
