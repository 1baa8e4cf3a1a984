use Rattle.std.proofs.Common.{take, arith}
use Rattle.std.specs.Prelude.{codes}
use Rattle.std.specs.List.{enumerate_from}
use Rattle.dc_formats.specs.WordLines.{station_word_line}
use Rattle.dc_print.proofs.FillLemmas.{Fills-more}
use Rattle.dc_view.proofs.ListSteps.{enumerate-more}
use Rattle.dc_view.proofs.pieces.fill_published.Goals as goal

pub loop-i-preserved : goal.loop-i-preserved
loop-i-preserved c = record {
  place = omega (arith, c.fill_station_line-end.ensures.most, c.loop-i.invariant.place);
  filled = rw (enumerate-more 0 c.args.words.now c.loop-i.i c.loop-i.i c.index-words-i.result c.loop-i-test.true (omega arith), ← c.index-words-i.is)
      (Fills-more (λ w. station_word_line (codes "word ") w.0 w.1) (enumerate_from 0 (take c.loop-i.i c.args.words.now)) (c.loop-i.i, c.index-words-i.result) _ _ _ _ _ _
      c.loop-i.invariant.filled c.fill_station_line-end.ensures.text);
}
