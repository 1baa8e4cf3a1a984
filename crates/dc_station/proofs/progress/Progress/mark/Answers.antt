use Rattle.std.proofs.Common.{◌∙◌, rules}
use Rattle.dc_station.proofs.SendingLemmas.{mark_left}
use Rattle.dc_station.proofs.progress.Progress.mark.Goals as goal

pub returns-then-has_long-clause-mark : goal.returns-then-has_long-clause-mark
returns-then-has_long-clause-mark c =
    let self = c.args.self.now in
    let stream = c.args.stream.now in
    c.next_coin.ensures.coin ∙ mark_left stream.longs self.longs_used stream.coins self.coins_used (search rules)
