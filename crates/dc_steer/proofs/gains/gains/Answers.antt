use Rattle.std.proofs.Common.{◌≡◌, ◌+◌, ℕ, List, length, drop, ap, sym, subst, ◌∙◌, arith}
use Rattle.std.specs.List.{All}
use Rattle.std.proofs.lemmas.List.{get_or-drop, length-drop, length_push, take_all}
use Rattle.std.proofs.lemmas.List.Elements.{All-more}
use Rattle.dc_spec.specs.Words.{IsWord, word_sub}
use Rattle.dc_steer.proofs.Zipped.{zipped_more, zipped_all}
use Rattle.dc_steer.proofs.gains.gains.Goals as goal

-- as many later sums as wanted words
as_many : (sums wanted : List (List ℕ)) (from : ℕ) → from + length wanted ≡ length sums → length (drop from sums) ≡ length wanted
as_many sums wanted from is = length-drop from sums ∙ omega arith

pub loop-k-preserved : goal.loop-k-preserved
loop-k-preserved c =
    let all = c.loop-k.invariant in
    let sum = c.index-sums-from.result in
    let w = c.index-wanted-k.result in
    let more = length_push c.loop-k.gains.items c.gain.result in
    record {
      as_many = omega (arith, ap (λ (ws : List (List ℕ)). length ws) c.push_reserved.ensures.items, more, all.as_many);
      value = c.push_reserved.ensures.items ∙ zipped_more (λ (ws : List ℕ × List ℕ). word_sub ws.0 ws.1) c.args.wanted.now (drop c.args.from c.args.sums.now) c.loop-k.k w sum _ _
          (as_many c.args.sums.now c.args.wanted.now c.args.from c.requires) c.loop-k-test.true c.index-wanted-k.is
          (c.index-sums-from.is ∙ sym (get_or-drop c.args.from c.args.sums.now c.loop-k.k sum)) c.gain.ensures.value all.value;
      words = All-more IsWord c.args.wanted.now c.loop-k.k w c.loop-k-test.true all.words (subst IsWord c.index-wanted-k.is c.gain.ensures.word);
      room = c.push_reserved.ensures.capacity ∙ all.room;
    }

pub returns-clause-value : goal.returns-clause-value
returns-clause-value c =
    c.from_vec.ensures ∙ zipped_all (λ (ws : List ℕ × List ℕ). word_sub ws.0 ws.1) c.args.wanted.now (drop c.args.from c.args.sums.now) c.loop-k.k c.loop-k.gains.items
    (as_many c.args.sums.now c.args.wanted.now c.args.from c.requires) (omega (arith, c.loop-k-test.false)) c.loop-k.invariant.value

pub returns-clause-words : goal.returns-clause-words
returns-clause-words c = subst (All IsWord) (take_all c.loop-k.k c.args.wanted.now (omega (arith, c.loop-k-test.false))) c.loop-k.invariant.words
