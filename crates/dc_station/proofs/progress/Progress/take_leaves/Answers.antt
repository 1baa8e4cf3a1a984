use Rattle.std.proofs.Common.{sym, subst}
use Rattle.dc_station.specs.Sending.{SendsShort, left}
use Rattle.dc_station.proofs.SendingLemmas.{left_first, left_none, value_first, no_value_first, sends_no_short}
use Rattle.dc_station.proofs.progress.Progress.take_leaves.Goals as goal

pub returns-in-Some : goal.returns-in-Some
returns-in-Some c =
    let self = c.args.self.now in
    let stream = c.args.stream.now in
    let first = left_first stream.shorts self.shorts_used c.in-Some.value (sym c.in-Some.ensures) in
    subst (λ sends. SendsShort stream self sends c.take_leaves_of.new.self) (sym (value_first self.short_sent (left stream self) c.in-Some.value _ c.args.leaves.now c.if-self.false first)) c.take_leaves_of.ensures

pub returns-in-None : goal.returns-in-None
returns-in-None c =
    let self = c.args.self.now in
    let stream = c.args.stream.now in
    let none = left_none stream.shorts self.shorts_used (sym c.in-None.ensures) in
    subst (λ sends. SendsShort stream self sends self) (sym (no_value_first self.short_sent (left stream self) c.args.leaves.now c.if-self.false none)) (sends_no_short stream self c.requires)
