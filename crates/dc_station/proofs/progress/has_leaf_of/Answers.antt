use Rattle.std.proofs.Common.{sym, ◌∙◌}
use Rattle.dc_station_rules.specs.Stations.{is_leaf_of}
use Rattle.dc_station.proofs.SendingLemmas.{any_at, none_more}
use Rattle.dc_station.proofs.progress.has_leaf_of.Goals as goal

pub returns-then-is_leaf_of : goal.returns-then-is_leaf_of
returns-then-is_leaf_of c = sym (any_at (is_leaf_of c.args.value.now) c.args.leaves.now c.loop-i.i c.get.result c.get.ensures (sym c.is_leaf_of.ensures ∙ c.if-is_leaf_of.true))

pub loop-i-preserved : goal.loop-i-preserved
loop-i-preserved c = none_more (is_leaf_of c.args.value.now) c.args.leaves.now c.loop-i.i c.get.result c.get.ensures c.loop-i.invariant (sym c.is_leaf_of.ensures ∙ c.if-is_leaf_of.false)
