use Rattle.std.proofs.Common.{length, ◌+◌, ◌-◌, ◌≡◌, ◌≤◌, map, drop}
use Rattle.dc_net.specs.Walks.{first_absent}
use Rattle.dc_net.proofs.ends.first_absent.Given as goal

-- what is left to find is what was to be found
abbrev pub invariant-loop-i : goal.invariant-loop-i
invariant-loop-i g l = (l.i ≤ length l.items) × (l.j ≤ length l.others)
    × (first_absent (map g.E.Ends.ends l.items) (map g.F.Ends.ends l.others)
    ≡ first_absent (drop l.i (map g.E.Ends.ends l.items)) (drop l.j (map g.F.Ends.ends l.others)))

abbrev pub decreases-loop-i : goal.decreases-loop-i
decreases-loop-i g l = (length l.items - l.i) + (length l.others - l.j)
