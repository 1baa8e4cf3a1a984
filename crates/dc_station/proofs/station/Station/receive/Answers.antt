use Rattle.std.proofs.Common.{sym, subst}
use Rattle.dc_station.specs.StandsFor.{StandsFor}
use Rattle.dc_station.proofs.station.Station.receive.Goals as goal

pub returns-clause-stands : goal.returns-clause-stands
returns-clause-stands c = λ stream total words stands.
    let now = subst (λ s. StandsFor s stream total words) (sym c.self.view_is) stands in
    let receives = c.receive.ensures.stands total words now.receives in
    record {
      session = receives.session;
      counted = receives.counted;
      own = now.own;
      receives = receives;
      sends = c.take.ensures.stands total words c.args.w.now now.sends receives;
    }
