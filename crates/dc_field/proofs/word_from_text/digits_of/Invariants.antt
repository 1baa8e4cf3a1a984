use Rattle.std.proofs.Common.{◌≡◌, ℕ, ◌<◌, length, get_or}
use Rattle.dc_field.specs.WordInText.{count_of}
use Rattle.dc_field.proofs.word_from_text.digits_of.Given as goal

-- the characters so far are counted
abbrev pub invariant-loop-i : goal.invariant-loop-i
invariant-loop-i l =
    (length l.digits ≡ 80) × ((k : ℕ) → k < l.i → get_or l.digits k 0 ≡ count_of (get_or l.b k 0))
