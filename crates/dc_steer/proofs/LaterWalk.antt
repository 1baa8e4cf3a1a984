-- The first later round with a property, round by round.
use Rattle.std.proofs.Common.{◌≡◌, ℕ, ◌+◌, ◌-◌, ◌<◌, Bool, true, false, cond, List, find, Some, option_map, sym, ap, ◌∙◌}
use Rattle.std.specs.List.{range_with_len}
use Rattle.dc_net.proofs.FirstBy.{numbers_left}

-- what is left begins with this round
from_here : (test : ℕ → Bool) (t n : ℕ) → t < n → find test (range_with_len t (n - t)) ≡ cond (test t) (Some t) (find test (range_with_len (t + 1) (n - (t + 1))))
from_here test t n low = ap (λ (ts : List ℕ). find test ts) (numbers_left t n low)

-- the first is this round
pub found_here : {A : Type 0} (g : ℕ → A) (test : ℕ → Bool) (rounds : List ℕ) (t n : ℕ) → t < n → test t ≡ true → find test rounds ≡ find test (range_with_len t (n - t))
    → Some (g t) ≡ option_map g (find test rounds)
found_here g test rounds t n low is left =
    sym (ap (option_map g) (left ∙ from_here test t n low ∙ ap (λ (b : Bool). cond b (Some t) (find test (range_with_len (t + 1) (n - (t + 1))))) is))

-- this round is not one
pub found_later : (test : ℕ → Bool) (rounds : List ℕ) (t n : ℕ) → t < n → test t ≡ false → find test rounds ≡ find test (range_with_len t (n - t))
    → find test rounds ≡ find test (range_with_len (t + 1) (n - (t + 1)))
found_later test rounds t n low is left =
    left ∙ from_here test t n low ∙ ap (λ (b : Bool). cond b (Some t) (find test (range_with_len (t + 1) (n - (t + 1))))) is
