use Rattle.dc_net_files.proofs.EndedLemmas.{Ended-error}
use Rattle.dc_net_files.proofs.StreamLemmas.{StreamsRead-none, StreamsRead-more, StreamsRead-stops, StreamsRead-no_memory}
use Rattle.dc_net_files.proofs.streams.read_streams.Goals as goal

pub loop-name-init : goal.loop-name-init
loop-name-init g c = StreamsRead-none _ _ _ c.in_ok-streams.ensures.items

pub returns-in_err-stream-clause-ended : goal.returns-in_err-stream-clause-ended
returns-in_err-stream-clause-ended g c =
    Ended-error _ _ _ _ _ c.from_residual-in_err-stream.ensures.1
    (StreamsRead-stops _ _ _ _ _ _ _ _ _ c.loop-name-test.true c.name-item.is c.as_str.ensures c.loop-name.invariant c.in_err-stream.ensures)

pub returns-in_err-push-clause-ended : goal.returns-in_err-push-clause-ended
returns-in_err-push-clause-ended g c =
    Ended-error _ _ _ _ _ c.from_residual-in_err-push.ensures.1
    (StreamsRead-no_memory _ _ _ _ _ _ _ _ _ c.loop-name-test.true c.name-item.is c.as_str.ensures c.loop-name.invariant c.in_ok-stream.ensures)

pub loop-name-preserved : goal.loop-name-preserved
loop-name-preserved g c =
    StreamsRead-more _ _ _ _ _ _ _ _ _ _ c.loop-name-test.true c.name-item.is c.as_str.ensures c.loop-name.invariant c.in_ok-stream.ensures c.in_ok-push.ensures.items
