use Rattle.std.proofs.Common.{◌≡◌, ◌*◌, ◌+◌, ◌-◌, ◌≤◌, arith, inl, inr, refl, ap}
use Rattle.std.proofs.Math.Nat.{mul-le-mul_left}
use Rattle.std.proofs.lemmas.Bool.{cases_lt}
use Rattle.dc_fast_keys.proofs.CarryLemmas.{row_alike}
use Rattle.dc_fast_keys.proofs.alike.are_alike.Goals as goal

pub loop-row-preserved : goal.loop-row-preserved
loop-row-preserved c = λ k s within low. elim (cases_lt k c.loop-row.row) [
  | inl early ↦ c.loop-row.invariant k s within early
  | inr late ↦
      let w = c.args.width in
      let row = c.loop-row.row in
      let here : c.loop-row.row ≡ k = omega arith in
      let le : c.args.width * (c.loop-row.row + 1) ≤ c.args.width * c.args.rows = mul-le-mul_left c.args.width (omega arith) in
      let step : c.args.width * (c.loop-row.row + 1) ≡ c.args.width * c.loop-row.row + c.args.width = omega arith in
      row_alike c.args.block.now (w * row + w - w * row) (w * row) c.args.width k s within (omega arith) (ap (λ j. c.args.width * j) here) (omega arith)
      (c.if-not-is_constant.ensures refl)
]
