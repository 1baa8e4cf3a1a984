use Rattle.std.proofs.Common.{length}
use Rattle.dc_file_tests.proofs.script_tests.scripts_that_are_made.Goals as goal

pub with_round-requires-clause-turn : goal.with_round-requires-clause-turn
with_round-requires-clause-turn g c = c.silent_round.ensures.turn (length c.empty-script.result.rounds)

pub with_round-requires-2-clause-turn : goal.with_round-requires-2-clause-turn
with_round-requires-2-clause-turn g c = c.silent_round-2.ensures.turn (length c.done-script.result.rounds)
