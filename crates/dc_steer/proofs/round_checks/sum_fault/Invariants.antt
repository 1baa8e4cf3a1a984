use Rattle.std.proofs.Common.{◌≡◌, ◌-◌, find}
use Rattle.std.specs.List.{range_with_len}
use Rattle.dc_net_rules.specs.Runs.{script_turn}
use Rattle.dc_net_rules.specs.Agreement.{is_sum}
use Rattle.dc_steer.specs.Faults.{later_rounds}
use Rattle.dc_steer.proofs.round_checks.sum_fault.Given as goal

-- what is left to find is what was to be found
abbrev pub invariant-loop-t : goal.invariant-loop-t
invariant-loop-t l =
    find (λ t. is_sum (script_turn l.net t).delivery) (later_rounds l.net l.s) ≡ find (λ t. is_sum (script_turn l.net t).delivery) (range_with_len l.t (l.net.words - l.t))
