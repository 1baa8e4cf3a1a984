use Rattle.std.proofs.Common.{sym}
use Rattle.dc_station.proofs.SendingLemmas.{left_first, left_none}
use Rattle.dc_station.proofs.progress.Progress.epoch_word.Goals as goal

pub returns-in-Some : goal.returns-in-Some
returns-in-Some c = λ words stands.
    rw (left_first c.args.stream.now.shorts c.args.self.now.shorts_used c.in-Some.value (sym c.in-Some.ensures)) (c.value_word.ensures words stands)

pub returns-in-None : goal.returns-in-None
returns-in-None c = λ words stands.
    rw (left_none c.args.stream.now.shorts c.args.self.now.shorts_used (sym c.in-None.ensures)) c.zero.ensures
