use Rattle.std.proofs.Common.{◌≡◌, ◌*◌, ◌≤◌, sum_by, take}
use Rattle.dc_view.proofs.trial.pending_longs.Given as goal

-- the stations so far are counted
abbrev pub invariant-loop-counts : goal.invariant-loop-counts
invariant-loop-counts l = record {
  counted : l.total ≡ sum_by (λ p. p.longs) (take l.counts-index l.pending);
  most : l.total ≤ 4294967295 * l.counts-index;
}
