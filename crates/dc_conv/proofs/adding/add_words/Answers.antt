use Rattle.std.proofs.Common.{◌≡◌, ◌-◌, length, take, drop, refl, arith}
use Rattle.std.proofs.lemmas.List.{length-take, length-drop}
use Rattle.dc_conv.proofs.Groups.{words_more, group_more}
use Rattle.dc_conv.proofs.adding.add_words.Goals as goal

pub loop-done-preserved : goal.loop-done-preserved
loop-done-preserved c =
    let words = c.args.words.now in
    let long : length (take (c.min-end.result - c.loop-done.done) (drop c.loop-done.done c.args.words.now)) ≡ c.min-end.result - c.loop-done.done =
    omega (arith, length-take (c.min-end.result - c.loop-done.done) (drop c.loop-done.done c.args.words.now), length-drop c.loop-done.done c.args.words.now) in
    record {
      within = omega arith;
      are_words = words_more words c.loop-done.done c.min-end.result _ (omega arith) c.loop-done.invariant.are_words c.add_group.ensures.words;
      added = λ i lt. group_more c.args.second.now words _ c.loop-done.done c.min-end.result i _ _ _ _ _ _ refl long (omega arith) (omega arith) (omega arith)
          c.loop-done.invariant.are_words (omega arith) (c.add_group.ensures.added i (omega arith)) (c.loop-done.invariant.added i (omega arith));
      grown = λ i. omega (arith, c.add_group.ensures.grown i, c.loop-done.invariant.grown i, long);
    }
