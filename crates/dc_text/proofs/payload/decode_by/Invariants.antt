use Rattle.std.proofs.Common.{◌≡◌, ℕ, ◌+◌, ◌*◌, ◌<◌, length, get_or}
use Rattle.dc_field.specs.WordInText.{count_of}
use Rattle.dc_text.proofs.payload.decode_by.Given as goal

-- the bytes so far are those of their digits
abbrev pub invariant-loop-i : goal.invariant-loop-i
invariant-loop-i l =
    (length l.out ≡ length l.initial.out) × ((k : ℕ) → k < l.i → get_or l.out k 0 ≡ 16 * count_of (get_or l.text (2 * k) 0) + count_of (get_or l.text (2 * k + 1) 0))
