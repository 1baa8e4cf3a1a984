use Rattle.std.proofs.Common.{◌≡◌, ℕ, ◌+◌, ◌-◌, ◌*◌, ◌<◌, length, get_or}
use Rattle.dc_field.proofs.value.put_limbs.Given as goal

-- the first symbol stays, and the limbs so far are the count times the bytes
abbrev pub invariant-loop-l : goal.invariant-loop-l
invariant-loop-l l =
    record { sixteen : length l.word ≡ 16; first : get_or l.word 0 0 ≡ get_or l.initial.word 0 0; limbs : (k : ℕ) → k < l.l - 1 → get_or l.word (k + 1) 0 ≡ l.count * get_or l.bytes k 0 }
