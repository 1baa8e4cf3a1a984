-- In which order the received words are added to the sums of later rounds. After some words,
-- what the last 2 ^ level of them contribute is added to the sums of the next 2 ^ level rounds.
use Rattle.std.specs.Prelude.{ℕ, zero, suc, ◌+◌, ◌*◌, ◌/◌, ◌%◌, ◌==◌, cond}

-- how often 2 divides a number, at most `most` times
abbrev pub level : ℕ → ℕ → ℕ
level zero n = 0
level (suc most) n = cond (n % 2 == 0) (level most (n / 2) + 1) 0

-- how many of the words taken are in the sum of a round that is still to come: the binary digits
-- that both numbers begin with, and zeros after them; numbers have at most `digits` digits
abbrev pub included : ℕ → ℕ → ℕ → ℕ
included zero taken round = 0
included (suc digits) taken round = cond (taken == round) taken (2 * included digits (taken / 2) (round / 2))
