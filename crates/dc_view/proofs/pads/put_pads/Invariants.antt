use Rattle.std.proofs.Common.{◌-◌, ◌≤◌}
use Rattle.std.specs.List.{flat_map, range_with_len}
use Rattle.dc_formats.specs.WordLines.{pair_word_line, items_of_round}
use Rattle.dc_run_texts.specs.View.{pad_lines}
use Rattle.dc_print.proofs.PutSoFar.{PutSoFar}
use Rattle.dc_view.proofs.pads.put_pads.Given as goal

-- all lines but those of the rounds to come were put
abbrev pub invariant-loop-r : goal.invariant-loop-r
invariant-loop-r g l = record {
  within : l.r ≤ l.words;
  put : PutSoFar (pad_lines l.beginning l.words l.ends.0 l.ends.1 l.pads)
      (flat_map (λ r. pair_word_line l.beginning l.ends.0 l.ends.1 r (items_of_round 16 r l.pads)) (range_with_len l.r (l.words - l.r)))
      (g.K.Sink.state l.initial.out) (g.K.Sink.state l.out);
}

abbrev pub decreases-loop-r : goal.decreases-loop-r
decreases-loop-r g l = l.words - l.r
