use Rattle.std.proofs.Common.{rules}
use Rattle.dc_spec.specs.Text.{line, word_text}
use Rattle.dc_print.proofs.PutSoFar.{ItemsPut-then, ItemsPut-stops}
use Rattle.dc_view.proofs.words.put_words.Goals as goal

pub returns-in_err-put_lines : goal.returns-in_err-put_lines
returns-in_err-put_lines g c = ItemsPut-stops (λ w. line (word_text w)) c.min.result c.loop-rest.rest.now _ _ _ _ _ _ c.loop-rest.invariant
    (rw (← c.split_at.ensures.front) c.in_err-put_lines.ensures) (search rules)

pub loop-rest-preserved : goal.loop-rest-preserved
loop-rest-preserved g c = rw c.split_at.ensures.back
    (ItemsPut-then (λ w. line (word_text w)) c.min.result c.loop-rest.rest.now _ _ _ _ _ c.loop-rest.invariant
    (rw (← c.split_at.ensures.front) c.in_ok-put_lines.ensures))
