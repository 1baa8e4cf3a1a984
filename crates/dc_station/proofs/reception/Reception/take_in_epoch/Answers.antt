use Rattle.dc_station.proofs.ReceivingLemmas.{took_leaves}
use Rattle.dc_station.proofs.reception.Reception.take_in_epoch.Goals as goal

pub returns : goal.returns
returns c = took_leaves c.args.self.now _ c.args.w.now c.is_over-over.result c.requires.phase c.take.ensures.stands c.take.ensures.leaves c.is_over-over.ensures c.phase_after_epoch_word-self.ensures c.put_leaves.ensures.room c.put_leaves.ensures.entries
