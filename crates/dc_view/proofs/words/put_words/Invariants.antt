use Rattle.std.proofs.Common.{length}
use Rattle.dc_spec.specs.Text.{words_text}
use Rattle.dc_print.proofs.PutSoFar.{PutSoFar}
use Rattle.dc_view.proofs.words.put_words.Given as goal

-- all lines but those of the rest were put
abbrev pub invariant-loop-rest : goal.invariant-loop-rest
invariant-loop-rest g l = PutSoFar (words_text l.w) (words_text l.rest) (g.K.Sink.state l.initial.out) (g.K.Sink.state l.out)

abbrev pub decreases-loop-rest : goal.decreases-loop-rest
decreases-loop-rest g l = length l.rest
