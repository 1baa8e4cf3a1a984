use Rattle.std.proofs.Common.{arith, subst, refl}
use Rattle.std.proofs.lemmas.List.Elements.{All-more}
use Rattle.dc_spec.specs.Words.{IsWord}
use Rattle.dc_keys.proofs.KeySums.{sixteen_more}
use Rattle.dc_conv.proofs.Loops.{zeros_small, word_turned}
use Rattle.dc_conv.proofs.Pieces.{piece_small}
use Rattle.dc_conv.proofs.adding.turned.Goals as goal

pub loop-t-preserved : goal.loop-t-preserved
loop-t-preserved c =
    let w = c.index-words-t.result in
    let is = c.index-words-t.is in
    let all = c.loop-t.invariant in
    let room = c.loop-t-test.array_long in
    record {
      are_words = All-more IsWord c.args.words.now c.loop-t.t w c.loop-t-test.true all.are_words (subst IsWord is c.turn.ensures.word);
      sixteen = sixteen_more c.args.words.now w c.loop-t.t c.loop-t-test.true is c.turn.ensures.word.sixteen all.sixteen;
      value = word_turned c.args.words.now w c.loop-t.factors _ c.loop-t.t _ _ c.loop-t-test.true is c.turn.ensures.word.sixteen all.sixteen room c.requires.few
          (omega arith) (omega arith) (omega arith) c.turn.ensures.value all.value;
      small = piece_small c.loop-t.factors _ _ _ _ refl (omega arith) (omega arith) 65536 all.small c.turn.ensures.small;
    }

pub loop-t-init : goal.loop-t-init
loop-t-init c = record { are_words = λ k d lt. omega arith; sixteen = refl; value = λ k le lt. omega arith; small = zeros_small 512 }
