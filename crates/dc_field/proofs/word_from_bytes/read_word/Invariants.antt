use Rattle.std.proofs.Common.{◌≡◌, ℕ, ◌+◌, ◌*◌, ◌<◌, length, get_or}
use Rattle.dc_spec.specs.Bytes.{number_at}
use Rattle.dc_field.proofs.word_from_bytes.read_word.Given as goal

-- the numbers so far are those that the bytes spell
abbrev pub invariant-loop-l : goal.invariant-loop-l
invariant-loop-l l =
    (length l.symbols ≡ 16) × ((k : ℕ) → k < l.l → get_or l.symbols k 0 ≡ number_at l.b (0 + 4 * k))
