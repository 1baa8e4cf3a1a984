use Rattle.dc_live.proofs.CoreLemmas.{feeds}
use Rattle.dc_live.proofs.hub.feed.Goals as goal

pub returns : goal.returns
returns c = feeds c.args.station c.args.now c.args.word.now _ _ c.take-answer.result _ c.requires c.sum_in.ensures c.take-answer.ensures.replies c.take-answer.ensures.stands c.take-answer.ensures.counts
