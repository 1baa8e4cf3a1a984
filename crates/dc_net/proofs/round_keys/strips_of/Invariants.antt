use Rattle.std.proofs.Common.{◌≡◌, ◌<◌, ℕ, length, get_or, vec_capacity}
use Rattle.dc_net.specs.RoundKeys.{IsNewStrip}
use Rattle.dc_net.specs.declared.key_strip.KeyStrip.{KeyStrip}
use Rattle.dc_net.proofs.round_keys.strips_of.Given as goal

-- the strips so far, in room for all
abbrev pub invariant-loop-number : goal.invariant-loop-number
invariant-loop-number l = record {
  many : length l.strips.items ≡ l.number;
  room : vec_capacity l.strips ≡ l.count;
  each : (q : ℕ) (d : KeyStrip) → q < length l.strips.items → IsNewStrip (get_or l.strips.items q d) l.file l.stations l.width q;
}
