use Rattle.std.proofs.Common.{refl, ◌<◌, [], ◌∷◌, length, sym, subst, arith, length-append}
use Rattle.dc_station.specs.Receiving.{IsEffectOf}
use Rattle.dc_station.specs.StandsFor.{SenderStandsFor}
use Rattle.dc_station.proofs.StationLemmas.{sends_more}
use Rattle.dc_station.proofs.sender.Sender.take.Goals as goal

pub returns-clause-stands : goal.returns-clause-stands
returns-clause-stands c = λ total words word stands receiver.
    let stream = c.args.stream.now in
    let now = subst (λ s. SenderStandsFor s stream total words) (sym c.self.view_is) stands in
    let counted = receiver.counted in
    let more = length-append words (word ∷ []) in
    let most = c.received-self-inside.ensures.most in
    let received = c.received-self-inside.ensures.received in
    let session = receiver.session in
    let own = now.session in
    let kept_room = c.self.invariant in
    let room : length words < c.self.inside.progress.log.room = omega arith in
    let last = receiver.last words word refl in
    let effect = subst (λ e. IsEffectOf e c.kept.result.now words word) (sym c.effect.ensures.effect) (subst (λ k. IsEffectOf c.args.receiver.now.effect k words word) (sym c.kept.ensures.kept) last) in
    record {
      session = now.session;
      counted = omega arith;
      sends = sends_more c.effect.result c.self.inside.progress c.hear.new.progress c.kept.result.now stream words word room effect c.hear.ensures.hears now.sends;
    }
