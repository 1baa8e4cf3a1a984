use Rattle.std.proofs.Common.{drop}
use Rattle.std.specs.List.{flat_map}
use Rattle.dc_view.specs.Pads.{known_lines}
use Rattle.dc_print.proofs.PutSoFar.{PutSoFar}
use Rattle.dc_view.proofs.pads.put_pairs.Given as goal

-- all lines but those of the pairs to come were put
abbrev pub invariant-loop-pair : goal.invariant-loop-pair
invariant-loop-pair g l = PutSoFar (flat_map (known_lines l.coalition l.words) l.pairs) (flat_map (known_lines l.coalition l.words) (drop l.pair-index l.pairs))
    (g.K.Sink.state l.initial.out) (g.K.Sink.state l.out)
