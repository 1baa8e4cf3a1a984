use Rattle.std.proofs.Common.{◌≡◌, ℕ, ◌<◌, length, get_or, take}
use Rattle.dc_keys.specs.StationPads.{signed_pad}
use Rattle.dc_keys.proofs.summed_pads.sum_pairs.Given as goal

-- the signed sums of the pads of the pairs so far
abbrev pub invariant-loop-pair : goal.invariant-loop-pair
invariant-loop-pair l = record {
  first_length : length l.first ≡ length l.initial.first;
  second_length : length l.second ≡ length l.initial.second;
  first : (n : ℕ) → n < length l.first → get_or l.first n 0 ≡ signed_pad (λ p. p.a) (take l.pair-index l.pairs) l.me n;
  second : (n : ℕ) → n < length l.second → get_or l.second n 0 ≡ signed_pad (λ p. p.b) (take l.pair-index l.pairs) l.me n;
}
