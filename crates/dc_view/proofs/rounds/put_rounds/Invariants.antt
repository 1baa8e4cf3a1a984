use Rattle.std.proofs.Common.{drop}
use Rattle.std.specs.List.{flat_map, enumerate_from}
use Rattle.dc_run_texts.specs.View.{round_text}
use Rattle.dc_print.proofs.PutSoFar.{PutSoFar}
use Rattle.dc_view.proofs.rounds.put_rounds.Given as goal

-- all rounds but those to come were put
abbrev pub invariant-loop-r : goal.invariant-loop-r
invariant-loop-r g l = PutSoFar (flat_map (λ t. round_text l.net l.run t.0 t.1.delivery) (enumerate_from 0 l.rounds))
    (flat_map (λ t. round_text l.net l.run t.0 t.1.delivery) (enumerate_from l.r (drop l.r l.rounds)))
    (g.K.Sink.state l.initial.out) (g.K.Sink.state l.out)
