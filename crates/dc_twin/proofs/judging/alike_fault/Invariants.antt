use Rattle.std.proofs.Common.{◌≡◌, drop}
use Rattle.std.specs.List.{enumerate_from}
use Rattle.dc_net_rules.specs.Agreement.{first_by}
use Rattle.dc_net_rules.specs.Runs.{all_rounds}
use Rattle.dc_twin.specs.Faults.{round_fault}
use Rattle.dc_twin.proofs.judging.alike_fault.Given as goal

-- the first fault is that of the rounds that are left
abbrev pub invariant-loop-t : goal.invariant-loop-t
invariant-loop-t l =
    first_by (round_fault l.net) (enumerate_from 0 (all_rounds l.net)) ≡ first_by (round_fault l.net) (enumerate_from l.t (drop l.t (all_rounds l.net)))
