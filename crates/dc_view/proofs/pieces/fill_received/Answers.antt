use Rattle.std.proofs.Common.{take, get_or, arith}
use Rattle.std.specs.Prelude.{codes, zip}
use Rattle.std.proofs.lemmas.List.{take_all}
use Rattle.std.proofs.lemmas.Slice.Zip.{length-zip}
use Rattle.dc_formats.specs.WordLines.{station_word_line}
use Rattle.dc_print.proofs.FillLemmas.{Fills-more}
use Rattle.dc_view.proofs.ListSteps.{zip-more}
use Rattle.dc_view.proofs.pieces.fill_received.Goals as goal

pub loop-j-preserved : goal.loop-j-preserved
loop-j-preserved c = record {
  place = omega (arith, c.fill_station_line-end.ensures.most, c.loop-j.invariant.place);
  filled =
      rw (zip-more c.args.stations.now c.args.words.now c.loop-j.j 0 c.index-words-j.result (omega arith) (omega arith), ← c.index-words-j.is)
      (Fills-more (λ g. station_word_line (codes "got ") g.0 g.1) (take c.loop-j.j (zip c.args.stations.now c.args.words.now))
      (get_or c.args.stations.now c.loop-j.j 0, c.index-words-j.result) _ _ _ _ _ _
      c.loop-j.invariant.filled c.fill_station_line-end.ensures.text);
}

pub returns : goal.returns
returns c = rw (take_all c.loop-j.j (zip c.args.stations.now c.args.words.now) (omega (arith, length-zip c.args.stations.now c.args.words.now))) at c.loop-j.invariant.filled
