use Rattle.std.proofs.Common.{◌≡◌, ℕ, ◌<◌, length, get_or}
use Rattle.dc_field.specs.WordInText.{count_of}
use Rattle.dc_text.proofs.payload.all_counts.Given as goal

-- the characters so far are counted
abbrev pub invariant-loop-c : goal.invariant-loop-c
invariant-loop-c l = (length l.counts ≡ 256) × ((k : ℕ) → k < l.c → get_or l.counts k 0 ≡ count_of k)
