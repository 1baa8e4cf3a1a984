use Rattle.std.proofs.Common.{refl, sym, ◌∙◌}
use Rattle.dc_station.proofs.station.Station.start.Goals as goal

pub returns : goal.returns
returns c =
    let receives = c.in_ok-receiver.ensures in
    record { session = receives.session; counted = receives.counted; own = refl; receives = receives; sends = c.in_ok-sender.ensures.stands c.args.stream }

pub invariant_of-result : goal.invariant_of-result
invariant_of-result c =
    let receives = c.in_ok-receiver.ensures in
    let sends = c.in_ok-sender.ensures.stands c.args.stream in
    record { level = sends.counted ∙ sym receives.counted; session = sends.session ∙ sym receives.session; own = c.in_ok-sender.ensures.own c.args.stream }
