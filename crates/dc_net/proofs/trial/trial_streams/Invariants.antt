use Rattle.std.proofs.Common.{◌≡◌, Some, map}
use Rattle.std.specs.List.{range_with_len}
use Rattle.dc_net.specs.TrialNets.{trial_stream}
use Rattle.dc_net.proofs.trial.trial_streams.Given as goal

-- the streams of the stations so far
abbrev pub invariant-loop-i : goal.invariant-loop-i
invariant-loop-i l = l.streams.items ≡ map (λ i. Some (trial_stream l.base i)) (range_with_len 0 l.i)
