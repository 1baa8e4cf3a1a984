use Rattle.std.proofs.Common.{◌<◌, [], ◌∷◌, length, sym, subst, arith, length-append}
use Rattle.dc_station.specs.StandsFor.{ReceiverStandsFor}
use Rattle.dc_station.proofs.ReceivingLemmas.{last_effect}
use Rattle.dc_station.proofs.receiver.Receiver.receive.Goals as goal

pub returns-clause-stands : goal.returns-clause-stands
returns-clause-stands c = λ total words stands.
    let now = subst (λ s. ReceiverStandsFor s total words) (sym c.self.view_is) stands in
    let word = c.args.w.now in
    let kept = c.self.invariant in
    let counted = now.counted in
    let below = subst (λ s. s.taken < s.total) (sym c.self.view_is) c.requires in
    let room : length words < c.self.inside.kept.log.room = omega (arith, kept.room) in
    record {
      session = now.session;
      counted = omega (arith, length-append words (word ∷ []));
      receives = c.take-self-inside.ensures.receives words room now.receives;
      last = last_effect c.take-self-inside.result c.self.inside.kept c.take-self-inside.new.self words word c.take-self-inside.ensures now.receives;
    }
