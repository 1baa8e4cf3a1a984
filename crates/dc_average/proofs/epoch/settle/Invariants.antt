use Rattle.std.proofs.Common.{◌≡◌, ◌+◌, ◌≤◌, ◌++◌, length, map}
use Rattle.dc_average.specs.Stacks.{stations_in}
use Rattle.dc_average.specs.Items.{a_group, from_open, leaves_in}
use Rattle.dc_average.proofs.epoch.settle.Given as goal

-- the leaves that are to come out stay the same, and so do the groups that wait
abbrev pub invariant-loop-top : goal.invariant-loop-top
invariant-loop-top l = record {
  room : length l.out + stations_in l.stack ≤ 256;
  waiting : from_open (map a_group l.stack) ≡ from_open (map a_group l.initial.stack);
  leaves : l.out ++ leaves_in (map a_group l.stack) ≡ l.initial.out ++ leaves_in (map a_group l.initial.stack);
}

abbrev pub decreases-loop-top : goal.decreases-loop-top
decreases-loop-top l = length l.stack
