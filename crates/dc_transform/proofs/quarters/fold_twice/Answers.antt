use Rattle.std.proofs.Common.{◌≡◌, length, sym, ◌∙◌, arith}
use Rattle.dc_transform.specs.Halves.{plus_half, minus_half}
use Rattle.dc_transform.proofs.HalfLemmas.{done_more, rest_more, symbols-made}
use Rattle.dc_transform.proofs.QuarterLemmas.{plus-at, minus-at, length-plus, length-minus, done_plus, done_minus, symbols-plus, symbols-minus}
use Rattle.dc_transform.proofs.quarters.fold_twice.Goals as goal

pub loop-i-preserved : goal.loop-i-preserved
loop-i-preserved c =
    let i = c.loop-i.i in
    let k = c.args.constants.0 in
    let v = c.loop-i.invariant in
    let q = c.args.first.now in
    let r = c.args.second.now in
    let s = c.args.third.now in
    let t = c.args.fourth.now in
    let even : length q ≡ length s = omega arith in
    let odd : length r ≡ length t = omega arith in
    let low : length (plus_half k q s) ≡ length (plus_half k r t) = omega (arith, length-plus k q s even, length-plus k r t odd) in
    let high : length (minus_half k q s) ≡ length (minus_half k r t) = omega (arith, length-minus k q s even, length-minus k r t odd) in
    let w = plus-at k q s i _ _ _ even (v.rest_first i (omega arith)) (v.rest_third i (omega arith)) c.folded-w.ensures.plus in
    let y = minus-at k q s i _ _ _ even (v.rest_first i (omega arith)) (v.rest_third i (omega arith)) c.folded-w.ensures.minus in
    let x = plus-at k r t i _ _ _ odd (v.rest_second i (omega arith)) (v.rest_fourth i (omega arith)) c.folded-x.ensures.plus in
    let z = minus-at k r t i _ _ _ odd (v.rest_second i (omega arith)) (v.rest_fourth i (omega arith)) c.folded-x.ensures.minus in
    record {
      first = done_more _ c.loop-i.first i _ (omega arith) v.first (plus-at c.args.constants.1 _ _ i _ _ _ low w x c.folded.ensures.plus);
      second = done_more _ c.loop-i.second i _ (omega arith) v.second (minus-at c.args.constants.1 _ _ i _ _ _ low w x c.folded.ensures.minus);
      third = done_more _ c.loop-i.third i _ (omega arith) v.third (plus-at c.args.constants.2 _ _ i _ _ _ high y z c.folded-in-loop-i.ensures.plus);
      fourth = done_more _ c.loop-i.fourth i _ (omega arith) v.fourth (minus-at c.args.constants.2 _ _ i _ _ _ high y z c.folded-in-loop-i.ensures.minus);
      rest_first = rest_more q c.loop-i.first i _ v.rest_first;
      rest_second = rest_more r c.loop-i.second i _ v.rest_second;
      rest_third = rest_more s c.loop-i.third i _ v.rest_third;
      rest_fourth = rest_more t c.loop-i.fourth i _ v.rest_fourth;
    }

pub returns-clause-first : goal.returns-clause-first
returns-clause-first c =
    let k = c.args.constants.0 in
    let even : length c.args.first.now ≡ length c.args.third.now = omega arith in
    let odd : length c.args.second.now ≡ length c.args.fourth.now = omega arith in
    let same : length c.args.second.now ≡ length c.args.first.now = omega arith in
    done_plus c.args.constants.1 (length c.args.first.now) _ _ _ (omega arith) (length-plus k _ _ even) (length-plus k _ _ odd ∙ same) (λ j lt. c.loop-i.invariant.first j (omega arith))

pub returns-clause-second : goal.returns-clause-second
returns-clause-second c =
    let k = c.args.constants.0 in
    let even : length c.args.first.now ≡ length c.args.third.now = omega arith in
    let odd : length c.args.second.now ≡ length c.args.fourth.now = omega arith in
    let same : length c.args.second.now ≡ length c.args.first.now = omega arith in
    done_minus c.args.constants.1 (length c.args.first.now) _ _ _ (omega arith) (length-plus k _ _ even) (length-plus k _ _ odd ∙ same) (λ j lt. c.loop-i.invariant.second j (omega arith))

pub returns-clause-third : goal.returns-clause-third
returns-clause-third c =
    let k = c.args.constants.0 in
    let even : length c.args.first.now ≡ length c.args.third.now = omega arith in
    let odd : length c.args.second.now ≡ length c.args.fourth.now = omega arith in
    let same : length c.args.second.now ≡ length c.args.first.now = omega arith in
    done_plus c.args.constants.2 (length c.args.first.now) _ _ _ (omega arith) (length-minus k _ _ even) (length-minus k _ _ odd ∙ same) (λ j lt. c.loop-i.invariant.third j (omega arith))

pub returns-clause-fourth : goal.returns-clause-fourth
returns-clause-fourth c =
    let k = c.args.constants.0 in
    let even : length c.args.first.now ≡ length c.args.third.now = omega arith in
    let odd : length c.args.second.now ≡ length c.args.fourth.now = omega arith in
    let same : length c.args.second.now ≡ length c.args.first.now = omega arith in
    done_minus c.args.constants.2 (length c.args.first.now) _ _ _ (omega arith) (length-minus k _ _ even) (length-minus k _ _ odd ∙ same) (λ j lt. c.loop-i.invariant.fourth j (omega arith))

pub returns-clause-first_symbols : goal.returns-clause-first_symbols
returns-clause-first_symbols c =
    let k = c.args.constants.0 in
    let even : length c.args.first.now ≡ length c.args.third.now = omega arith in
    let odd : length c.args.second.now ≡ length c.args.fourth.now = omega arith in
    let same : length c.args.first.now ≡ length c.args.second.now = omega arith in
    symbols-made _ _ (returns-clause-first c) (symbols-plus c.args.constants.1 _ _ (length-plus k _ _ even ∙ same ∙ sym (length-plus k _ _ odd)))

pub returns-clause-second_symbols : goal.returns-clause-second_symbols
returns-clause-second_symbols c =
    let k = c.args.constants.0 in
    let even : length c.args.first.now ≡ length c.args.third.now = omega arith in
    let odd : length c.args.second.now ≡ length c.args.fourth.now = omega arith in
    let same : length c.args.first.now ≡ length c.args.second.now = omega arith in
    symbols-made _ _ (returns-clause-second c) (symbols-minus c.args.constants.1 _ _ (length-plus k _ _ even ∙ same ∙ sym (length-plus k _ _ odd)))

pub returns-clause-third_symbols : goal.returns-clause-third_symbols
returns-clause-third_symbols c =
    let k = c.args.constants.0 in
    let even : length c.args.first.now ≡ length c.args.third.now = omega arith in
    let odd : length c.args.second.now ≡ length c.args.fourth.now = omega arith in
    let same : length c.args.first.now ≡ length c.args.second.now = omega arith in
    symbols-made _ _ (returns-clause-third c) (symbols-plus c.args.constants.2 _ _ (length-minus k _ _ even ∙ same ∙ sym (length-minus k _ _ odd)))

pub returns-clause-fourth_symbols : goal.returns-clause-fourth_symbols
returns-clause-fourth_symbols c =
    let k = c.args.constants.0 in
    let even : length c.args.first.now ≡ length c.args.third.now = omega arith in
    let odd : length c.args.second.now ≡ length c.args.fourth.now = omega arith in
    let same : length c.args.first.now ≡ length c.args.second.now = omega arith in
    symbols-made _ _ (returns-clause-fourth c) (symbols-minus c.args.constants.2 _ _ (length-minus k _ _ even ∙ same ∙ sym (length-minus k _ _ odd)))
