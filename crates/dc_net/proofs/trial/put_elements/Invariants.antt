use Rattle.std.proofs.Common.{◌≡◌, ℕ, ◌+◌, ◌%◌, ◌<◌, length, get_or}
use Rattle.dc_net.specs.TrialNets.{own_element}
use Rattle.dc_net.proofs.trial.put_elements.Given as goal

-- the elements so far are in place
abbrev pub invariant-loop-k : goal.invariant-loop-k
invariant-loop-k l = record {
  long : length l.bytes ≡ length l.initial.bytes;
  put : (k : ℕ) → k < l.k → get_or l.bytes k 0 ≡ own_element l.base l.i (l.from + k) % l.modulus;
}
