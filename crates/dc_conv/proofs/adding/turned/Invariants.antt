use Rattle.std.proofs.Common.{◌≡◌, ℕ, ◌-◌, ◌*◌, ◌<◌, ◌≤◌, length, get_or, take}
use Rattle.std.specs.List.{All}
use Rattle.dc_spec.specs.Words.{IsWord}
use Rattle.dc_key_rules.specs.PairKeys.{symbols}
use Rattle.dc_conv.proofs.adding.turned.Given as goal

-- the symbols of the words so far, which are sixteen each, stand at the end of their places
abbrev pub invariant-loop-t : goal.invariant-loop-t
invariant-loop-t l = record {
  are_words : All IsWord (take l.t l.words);
  sixteen : length (symbols (take l.t l.words)) ≡ 16 * l.t;
  value : (k : ℕ) → 16 * (length l.words - l.t) ≤ k → k < 16 * length l.words → get_or l.factors k 0 ≡ get_or (symbols l.words) (16 * length l.words - 1 - k) 0;
  small : (k : ℕ) → get_or l.factors k 0 ≤ 65536;
}
