use Rattle.std.proofs.Common.{map, ◌∙◌, sym, rules, arith}
use Rattle.std.proofs.lemmas.List.{length-map}
use Rattle.dc_net.proofs.EndsWalk.{ends_at, found_last, found_before, passes_other, passes_item}
use Rattle.dc_net.proofs.ends.first_absent.Goals as goal

pub returns-then-j-others : goal.returns-then-j-others
returns-then-j-others g c =
    let es = map g.E.Ends.ends c.args.items.now in
    let fs = map g.F.Ends.ends c.args.others.now in
    let e = c.ends-ends.result in
    sym (c.loop-i.invariant.2 ∙ found_last es fs c.loop-i.i c.loop-i.j e (omega (arith, length-map c.args.items.now g.E.Ends.ends)) (omega (arith, length-map c.args.others.now g.F.Ends.ends))
    (ends_at g.E.Ends.ends c.args.items.now c.loop-i.i c.index-items-i.result e c.loop-i-test.true c.index-items-i.is c.ends-ends.ensures))

pub returns-then-is_before : goal.returns-then-is_before
returns-then-is_before g c =
    let es = map g.E.Ends.ends c.args.items.now in
    let fs = map g.F.Ends.ends c.args.others.now in
    sym (c.loop-i.invariant.2 ∙ found_before es fs c.loop-i.i c.loop-i.j c.ends-ends.result c.ends-other.result c.requires.others
    (omega (arith, length-map c.args.items.now g.E.Ends.ends)) (omega (arith, length-map c.args.others.now g.F.Ends.ends))
    (ends_at g.E.Ends.ends c.args.items.now c.loop-i.i c.index-items-i.result c.ends-ends.result c.loop-i-test.true c.index-items-i.is c.ends-ends.ensures)
    (ends_at g.F.Ends.ends c.args.others.now c.loop-i.j c.index-others-j.result c.ends-other.result (omega arith) c.index-others-j.is c.ends-other.ensures)
    (search rules))

pub loop-i-preserved-then-is_before-2 : goal.loop-i-preserved-then-is_before-2
loop-i-preserved-then-is_before-2 g c =
    let es = map g.E.Ends.ends c.args.items.now in
    let fs = map g.F.Ends.ends c.args.others.now in (
      omega arith,
      omega arith,
      c.loop-i.invariant.2 ∙ passes_other es fs c.loop-i.i c.loop-i.j c.ends-ends.result c.ends-other.result c.requires.items
          (omega (arith, length-map c.args.items.now g.E.Ends.ends)) (omega (arith, length-map c.args.others.now g.F.Ends.ends))
          (ends_at g.E.Ends.ends c.args.items.now c.loop-i.i c.index-items-i.result c.ends-ends.result c.loop-i-test.true c.index-items-i.is c.ends-ends.ensures)
          (ends_at g.F.Ends.ends c.args.others.now c.loop-i.j c.index-others-j.result c.ends-other.result (omega arith) c.index-others-j.is c.ends-other.ensures)
          (search rules),
    )

pub loop-i-preserved : goal.loop-i-preserved
loop-i-preserved g c =
    let es = map g.E.Ends.ends c.args.items.now in
    let fs = map g.F.Ends.ends c.args.others.now in (
      omega arith,
      omega arith,
      c.loop-i.invariant.2 ∙ passes_item es fs c.loop-i.i c.loop-i.j c.ends-ends.result c.ends-other.result
          (omega (arith, length-map c.args.items.now g.E.Ends.ends)) (omega (arith, length-map c.args.others.now g.F.Ends.ends))
          (ends_at g.E.Ends.ends c.args.items.now c.loop-i.i c.index-items-i.result c.ends-ends.result c.loop-i-test.true c.index-items-i.is c.ends-ends.ensures)
          (ends_at g.F.Ends.ends c.args.others.now c.loop-i.j c.index-others-j.result c.ends-other.result (omega arith) c.index-others-j.is c.ends-other.ensures)
          (λ h. search rules) (λ h. search rules),
    )
