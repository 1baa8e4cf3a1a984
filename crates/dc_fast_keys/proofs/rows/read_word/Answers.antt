use Rattle.std.proofs.Common.{◌%◌, ap, ◌∙◌, arith}
use Rattle.std.proofs.lemmas.List.{length-set}
use Rattle.dc_spec.proofs.WordLemmas.{word_of-same}
use Rattle.dc_fast_keys.proofs.RowLemmas.{done_more}
use Rattle.dc_fast_keys.proofs.rows.read_word.Goals as goal

pub loop-l-preserved : goal.loop-l-preserved
loop-l-preserved c = record {
  long = length-set c.loop-l.totals c.loop-l.l c.from.result ∙ c.loop-l.invariant.long;
  so_far = done_more _ c.loop-l.totals c.loop-l.l c.from.result (omega arith) c.loop-l.invariant.so_far (omega arith);
}

pub returns : goal.returns
returns c = c.reduced.ensures ∙ word_of-same _ _ (λ l lt. ap (λ n. n % 65537) (c.loop-l.invariant.so_far l (omega arith)))
