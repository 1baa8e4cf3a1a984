use Rattle.std.proofs.Common.{sym, subst, ap, ap₂, length, ◌∙◌, ℕ}
use Rattle.dc_station.specs.StandsFor.{SenderStandsFor}
use Rattle.dc_station.proofs.StationLemmas.{pending_left}
use Rattle.dc_station.proofs.sender.Sender.pending.Goals as goal

pub returns : goal.returns
returns c = λ total words stands.
    let now = subst (λ s. SenderStandsFor s c.args.stream.now total words) (sym c.self.view_is) stands in
    let left = pending_left c.self.inside.progress c.args.stream.now words now.sends in
    ap₂ (λ (a b : ℕ). (a, b)) (c.pending.ensures.shorts ∙ ap length left.0) (c.pending.ensures.longs ∙ ap length left.1)
