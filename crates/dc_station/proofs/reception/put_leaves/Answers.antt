use Rattle.std.proofs.Common.{◌+◌, [], ◌∷◌, ◌++◌, map, take, ap, sym, ◌∙◌}
use Rattle.dc_station_rules.specs.Stations.{leaf_entry}
use Rattle.dc_station.proofs.LogLemmas.{entries_more, fits_some}
use Rattle.dc_station.proofs.reception.put_leaves.Goals as goal

pub loop-i-preserved : goal.loop-i-preserved
loop-i-preserved c =
    let entries = c.args.log.now.entries in
    let leaves = c.args.leaves.now in
    record {
      room = c.put_short.ensures.room ∙ c.loop-i.invariant.room;
      entries = λ fits.
          let all = ap (λ es. es ++ leaf_entry (record { value = c.leaf.inside.value; times = c.leaf.inside.times; low = c.leaf.inside.low; high = c.leaf.inside.high }) ∷ []) (c.loop-i.invariant.entries fits) ∙ (ap (λ leaf. (entries ++ map leaf_entry (take c.loop-i.i leaves)) ++ leaf_entry leaf ∷ []) c.leaf.view_is ∙ sym (entries_more entries leaves c.loop-i.i c.get-leaf.result c.get-leaf.ensures)) in
          c.put_short.ensures.entries (rw (all, c.loop-i.invariant.room) (fits_some entries leaves (c.loop-i.i + 1) c.args.log.now.room fits)) ∙ all;
    }
