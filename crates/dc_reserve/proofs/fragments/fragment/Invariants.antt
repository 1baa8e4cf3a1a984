use Rattle.std.proofs.Common.{◌≡◌, ℕ, ◌+◌, ◌-◌, ◌*◌, ◌<◌, length, get_or}
use Rattle.dc_station_rules.specs.Bursts.{burst_bytes}
use Rattle.dc_reserve.proofs.fragments.fragment.Given as goal

-- symbol 0 is the count, and the symbols so far are bytes of the burst
abbrev pub invariant-loop-l : goal.invariant-loop-l
invariant-loop-l l =
    (length l.word ≡ 16) × (get_or l.word 0 0 ≡ l.count - l.i) × ((r : ℕ) → r + 1 < l.l → get_or l.word (r + 1) 0 ≡ get_or (burst_bytes l.bytes) (15 * l.i + r) 0)
