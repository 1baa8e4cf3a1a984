use Rattle.std.proofs.Common.{◌+◌, ◌*◌, get_or, refl, ap, get_or-set_other, ◌∙◌, arith}
use Rattle.dc_fast_keys.proofs.RowLemmas.{column_more, other_column, symbols-set}
use Rattle.dc_fast_keys.proofs.rows.write_word.Goals as goal

pub loop-l-preserved : goal.loop-l-preserved
loop-l-preserved c =
    let all = c.loop-l.invariant in
    let l = c.loop-l.l in
    record {
      written = column_more _ c.args.width c.args.column 16 _ _ l c.loop-l.rows c.requires.within (omega arith) (omega arith) refl all.written refl;
      others = λ k s lt ne. get_or-set_other c.loop-l.rows _ (c.args.width * k + s) _ 0 (other_column c.args.width k l s c.args.column lt c.requires.within ne) ∙ all.others k s lt ne;
      symbols = symbols-set c.loop-l.rows _ _ all.symbols (omega (arith, c.numbers-numbers.ensures.word.symbols l, ap (λ t. get_or t l 0) c.numbers-numbers.ensures.value));
    }
