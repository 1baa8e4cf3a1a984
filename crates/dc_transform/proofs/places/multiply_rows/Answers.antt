use Rattle.std.proofs.Common.{length, refl, arith}
use Rattle.dc_transform.proofs.HalfLemmas.{rows_more, rows_rest, rows_all, symbols-made, symbols-rows}
use Rattle.dc_transform.proofs.places.multiply_rows.Goals as goal

pub loop-i-preserved : goal.loop-i-preserved
loop-i-preserved c = record {
  so_far = rows_more c.args.width c.loop-i.i _ _ c.args.rows.now c.loop-i.rows c.scale.new.numbers c.args.factors.now (omega arith) (omega arith)
      (omega arith) refl c.scale.ensures.value c.loop-i.invariant.so_far c.loop-i.invariant.rest;
  rest = rows_rest c.args.width c.loop-i.i _ (length c.args.factors.now) c.args.rows.now c.loop-i.rows c.scale.new.numbers (omega arith) (omega arith) (omega arith)
      (omega arith) c.loop-i.invariant.rest;
}

pub returns-clause-value : goal.returns-clause-value
returns-clause-value c = rows_all c.args.width (length c.args.factors.now) c.loop-i.i c.args.rows.now c.loop-i.rows c.args.factors.now refl (omega arith) (omega arith)
    c.loop-i.invariant.so_far

pub returns-clause-symbols : goal.returns-clause-symbols
returns-clause-symbols c = symbols-made _ _ (returns-clause-value c) (symbols-rows c.args.width c.args.rows.now c.args.factors.now)
