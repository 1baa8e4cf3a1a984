use Rattle.std.proofs.Common.{◌≡◌, length, sym, ◌∙◌, arith}
use Rattle.dc_transform_rules.proofs.ListLemmas.{length-sums}
use Rattle.dc_transform.proofs.HalfLemmas.{done_more, rest_more, symbols-made, symbols-sums}
use Rattle.dc_transform.proofs.QuarterLemmas.{sums-at, difference-at, length-difference, done_sums, done_difference, symbols-difference}
use Rattle.dc_transform.proofs.quarters.unfold_twice.Goals as goal

pub loop-i-preserved : goal.loop-i-preserved
loop-i-preserved c =
    let i = c.loop-i.i in
    let d = c.args.constants.1 in
    let e = c.args.constants.2 in
    let v = c.loop-i.invariant in
    let q = c.args.first.now in
    let r = c.args.second.now in
    let s = c.args.third.now in
    let t = c.args.fourth.now in
    let left : length q ≡ length r = omega arith in
    let right : length s ≡ length t = omega arith in
    let whole : length q ≡ length s = omega arith in
    let low = length-sums q r left ∙ whole ∙ sym (length-sums s t right) in
    let high = length-difference d q r left ∙ whole ∙ sym (length-difference e s t right) in
    let w = sums-at q r i _ _ _ left (v.rest_first i (omega arith)) (v.rest_second i (omega arith)) c.unfolded-w.ensures.plus in
    let x = difference-at d q r i _ _ _ left (v.rest_first i (omega arith)) (v.rest_second i (omega arith)) c.unfolded-w.ensures.minus in
    let y = sums-at s t i _ _ _ right (v.rest_third i (omega arith)) (v.rest_fourth i (omega arith)) c.unfolded-y.ensures.plus in
    let z = difference-at e s t i _ _ _ right (v.rest_third i (omega arith)) (v.rest_fourth i (omega arith)) c.unfolded-y.ensures.minus in
    record {
      first = done_more _ c.loop-i.first i _ (omega arith) v.first (sums-at _ _ i _ _ _ low w y c.unfolded.ensures.plus);
      second = done_more _ c.loop-i.second i _ (omega arith) v.second (sums-at _ _ i _ _ _ high x z c.unfolded-in-loop-i.ensures.plus);
      third = done_more _ c.loop-i.third i _ (omega arith) v.third (difference-at c.args.constants.0 _ _ i _ _ _ low w y c.unfolded.ensures.minus);
      fourth = done_more _ c.loop-i.fourth i _ (omega arith) v.fourth (difference-at c.args.constants.0 _ _ i _ _ _ high x z c.unfolded-in-loop-i.ensures.minus);
      rest_first = rest_more q c.loop-i.first i _ v.rest_first;
      rest_second = rest_more r c.loop-i.second i _ v.rest_second;
      rest_third = rest_more s c.loop-i.third i _ v.rest_third;
      rest_fourth = rest_more t c.loop-i.fourth i _ v.rest_fourth;
    }

pub returns-clause-first : goal.returns-clause-first
returns-clause-first c =
    let left : length c.args.first.now ≡ length c.args.second.now = omega arith in
    let right : length c.args.third.now ≡ length c.args.fourth.now = omega arith in
    let same : length c.args.third.now ≡ length c.args.first.now = omega arith in
    done_sums (length c.args.first.now) _ _ _ (omega arith) (length-sums _ _ left) (length-sums _ _ right ∙ same) (λ j lt. c.loop-i.invariant.first j (omega arith))

pub returns-clause-second : goal.returns-clause-second
returns-clause-second c =
    let left : length c.args.first.now ≡ length c.args.second.now = omega arith in
    let right : length c.args.third.now ≡ length c.args.fourth.now = omega arith in
    let same : length c.args.third.now ≡ length c.args.first.now = omega arith in
    done_sums (length c.args.first.now) _ _ _ (omega arith) (length-difference c.args.constants.1 _ _ left) (length-difference c.args.constants.2 _ _ right ∙ same) (λ j lt. c.loop-i.invariant.second j (omega arith))

pub returns-clause-third : goal.returns-clause-third
returns-clause-third c =
    let left : length c.args.first.now ≡ length c.args.second.now = omega arith in
    let right : length c.args.third.now ≡ length c.args.fourth.now = omega arith in
    let same : length c.args.third.now ≡ length c.args.first.now = omega arith in
    done_difference c.args.constants.0 (length c.args.first.now) _ _ _ (omega arith) (length-sums _ _ left) (length-sums _ _ right ∙ same) (λ j lt. c.loop-i.invariant.third j (omega arith))

pub returns-clause-fourth : goal.returns-clause-fourth
returns-clause-fourth c =
    let left : length c.args.first.now ≡ length c.args.second.now = omega arith in
    let right : length c.args.third.now ≡ length c.args.fourth.now = omega arith in
    let same : length c.args.third.now ≡ length c.args.first.now = omega arith in
    done_difference c.args.constants.0 (length c.args.first.now) _ _ _ (omega arith) (length-difference c.args.constants.1 _ _ left) (length-difference c.args.constants.2 _ _ right ∙ same) (λ j lt. c.loop-i.invariant.fourth j (omega arith))

pub returns-clause-first_symbols : goal.returns-clause-first_symbols
returns-clause-first_symbols c =
    let left : length c.args.first.now ≡ length c.args.second.now = omega arith in
    let right : length c.args.third.now ≡ length c.args.fourth.now = omega arith in
    let same : length c.args.first.now ≡ length c.args.third.now = omega arith in
    symbols-made _ _ (returns-clause-first c) (symbols-sums _ _ (length-sums _ _ left ∙ same ∙ sym (length-sums _ _ right)))

pub returns-clause-second_symbols : goal.returns-clause-second_symbols
returns-clause-second_symbols c =
    let left : length c.args.first.now ≡ length c.args.second.now = omega arith in
    let right : length c.args.third.now ≡ length c.args.fourth.now = omega arith in
    let same : length c.args.first.now ≡ length c.args.third.now = omega arith in
    symbols-made _ _ (returns-clause-second c) (symbols-sums _ _ (length-difference c.args.constants.1 _ _ left ∙ same ∙ sym (length-difference c.args.constants.2 _ _ right)))

pub returns-clause-third_symbols : goal.returns-clause-third_symbols
returns-clause-third_symbols c = symbols-made _ _ (returns-clause-third c) (symbols-difference c.args.constants.0 _ _)

pub returns-clause-fourth_symbols : goal.returns-clause-fourth_symbols
returns-clause-fourth_symbols c = symbols-made _ _ (returns-clause-fourth c) (symbols-difference c.args.constants.0 _ _)
