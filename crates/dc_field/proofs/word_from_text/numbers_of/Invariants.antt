use Rattle.std.proofs.Common.{◌≡◌, ℕ, ◌*◌, ◌<◌, length, get_or}
use Rattle.dc_field.specs.WordInText.{symbol_at}
use Rattle.dc_field.proofs.word_from_text.numbers_of.Given as goal

-- the numbers so far are those that the digits spell
abbrev pub invariant-loop-l : goal.invariant-loop-l
invariant-loop-l l =
    (length l.numbers ≡ 16) × ((k : ℕ) → k < l.l → get_or l.numbers k 0 ≡ symbol_at l.digits (5 * k))
