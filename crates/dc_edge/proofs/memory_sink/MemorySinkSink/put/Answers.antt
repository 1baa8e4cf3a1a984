-- A put that fails appends a front of the piece, and the count rises.
use Rattle.std.proofs.Common.{arith, ◌≡◌, ◌≢◌, ◌≤◌, ℕ, [], take, drop, List, Err}
use Rattle.std.proofs.lemmas.Grind.{common_steps}
use Rattle.dc_spec.specs.Outside.{SinkState, Rose, grown}
use Rattle.dc_edge.specs.declared.fault.Failed.{Failed}
use Rattle.dc_edge.specs.Sink.{Puts}
use Rattle.dc_edge.proofs.memory_sink.MemorySinkSink.put.Goals as goal

-- a front was appended and the count rose
Puts-failed : (bytes : List ℕ) (n : ℕ) (before after : SinkState) (e : Failed) → bytes ≢ [] → after.written ≡ grown before.written (take n bytes) → before.faults ≤ after.faults
    → Rose before.faults after.faults → Puts bytes before after (Err e)
Puts-failed bytes n before after e more took counted rose = record {
  counted = counted;
  answer = ((take n bytes, (drop n bytes, grind (arith, common_steps)), took), rose);
  empty = λ none. absurd (more none);
}

pub returns-clause-puts : goal.returns-clause-puts
returns-clause-puts c = Puts-failed _ c.if-contains.taken _ _ _ (grind (arith, common_steps)) (grind (arith, common_steps)) (grind (arith, common_steps)) (grind (arith, common_steps))
