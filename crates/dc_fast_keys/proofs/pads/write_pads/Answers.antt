use Rattle.std.proofs.Common.{◌+◌, ◌*◌, refl, sym, get_or-set_other, ◌∙◌, arith, inl, inr}
use Rattle.std.proofs.lemmas.Bool.{cases_lt}
use Rattle.std.proofs.lemmas.List.{get_or_past}
use Rattle.dc_fast_keys.proofs.RowLemmas.{column_more, other_column, other_row, symbols-set}
use Rattle.dc_fast_keys.proofs.pads.write_pads.Goals as goal

pub loop-k-preserved : goal.loop-k-preserved
loop-k-preserved c =
    let all = c.loop-k.invariant in
    let k = c.loop-k.k in
    let w = c.args.width in
    record {
      written = column_more _ w c.args.column c.args.count _ _ k c.loop-k.rows c.requires.within (omega arith) (omega arith) refl all.written refl;
      rest = λ j le. get_or-set_other c.loop-k.rows _ (w * j + c.args.column) _ 0 (other_row w j k c.args.column c.requires.within (λ e. omega arith)) ∙ all.rest j (omega arith);
      others = λ j s lt ne. get_or-set_other c.loop-k.rows _ (w * j + s) _ 0 (other_column w j k s c.args.column lt c.requires.within ne) ∙ all.others j s lt ne;
      symbols = symbols-set c.loop-k.rows _ _ all.symbols (c.requires.pads_symbols k 0 (omega arith));
    }

pub returns-clause-written : goal.returns-clause-written
returns-clause-written c = λ k lt. elim (cases_lt k c.loop-k.k) [
  | inl before ↦ c.loop-k.invariant.written k before
  | inr after ↦ c.loop-k.invariant.rest k after ∙ sym (get_or_past c.args.pads.now k 0 (omega arith))
]
