use Rattle.std.proofs.Common.{◌≡◌, ◌*◌, ◌≤◌, sum_by, take}
use Rattle.dc_run_texts.specs.Trial.{shorts_in}
use Rattle.dc_view.proofs.trial.shorts_of.Given as goal

-- the entries so far are counted
abbrev pub invariant-loop-k : goal.invariant-loop-k
invariant-loop-k l = record {
  counted : l.total ≡ sum_by shorts_in (take l.k l.log.entries);
  most : l.total ≤ 65535 * l.k;
}
