use Rattle.std.proofs.Common.{◌≡◌, ◌+◌, ◌++◌, length, get_or, map, vec_capacity}
use Rattle.std.specs.List.{range_with_len}
use Rattle.dc_reserve.proofs.judge.push_limbs.Given as goal

-- the limbs so far stand after the bytes
abbrev pub invariant-loop-l : goal.invariant-loop-l
invariant-loop-l l =
    (l.bytes.items ≡ l.initial.bytes.items ++ map (λ i. get_or l.w (i + 1) 0) (range_with_len 0 l.l)) × (length l.bytes.items ≡ length l.initial.bytes.items + l.l) × (vec_capacity l.bytes ≡ 3840)
