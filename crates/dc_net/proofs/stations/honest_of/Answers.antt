use Rattle.std.proofs.Common.{sym, ap, ◌∙◌, arith}
use Rattle.arrayvec.specs.ArrayVec.{array_vec_len}
use Rattle.dc_net.proofs.Flags.{honest_more, honest_same}
use Rattle.dc_net.proofs.stations.honest_of.Goals as goal
use Rattle.dc_net.proofs.stations.honest_of.Goals.{then-not-is_member, else-not-is_member}

pub loop-station-preserved : goal.loop-station-preserved
loop-station-preserved c = elim c.if-not-is_member.branch [
  | then-not-is_member w ↦ (
    omega (arith, ap array_vec_len w.honest-is, w.push.ensures.len),
    honest_more c.args.flags.now c.loop-station.station c.loop-station.honest.items c.if-not-is_member.honest.items c.loop-station.invariant.1
        (sym c.is_member.ensures ∙ w.if-not-is_member.true) (ap (λ v. v.items) w.honest-is ∙ w.push.ensures.items),
  )
  | else-not-is_member w ↦ (
    omega (arith, ap array_vec_len w.honest-is),
    ap (λ v. v.items) w.honest-is ∙ honest_same c.args.flags.now c.loop-station.station c.loop-station.honest.items c.loop-station.invariant.1
        (sym c.is_member.ensures ∙ w.if-not-is_member.false),
  )
]
