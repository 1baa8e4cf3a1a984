use Rattle.std.proofs.Common.{◌≡◌, ◌-◌, find}
use Rattle.std.specs.List.{range_with_len}
use Rattle.dc_net_rules.specs.Runs.{script_turn}
use Rattle.dc_steer.specs.Faults.{later_rounds, has_terms}
use Rattle.dc_steer.proofs.round_checks.term_fault.Given as goal

-- what is left to find is what was to be found
abbrev pub invariant-loop-t : goal.invariant-loop-t
invariant-loop-t l =
    find (λ t. has_terms (script_turn l.net t)) (later_rounds l.net l.s) ≡ find (λ t. has_terms (script_turn l.net t)) (range_with_len l.t (l.net.words - l.t))
