use Rattle.std.proofs.Common.{ℕ, List, ◌<◌, [], ◌∙◌, sym, subst, arith}
use Rattle.std.proofs.lemmas.List.Elements.{All-nil}
use Rattle.dc_formats.specs.ScriptFile.{IsSaid, AreSaid}
use Rattle.dc_file_tests.proofs.script_tests.silent_round.Goals as goal

nobody : (r : ℕ) → AreSaid r []
nobody r = record { stations_rise = λ i lt. absurd (omega arith); are_said = All-nil (IsSaid r) }

pub returns-clause-turn : goal.returns-clause-turn
returns-clause-turn c = λ r. record {
  said = subst (AreSaid r) (sym (c.from_vec.ensures ∙ c.new.ensures.items)) (nobody r);
  some_dealt = λ dealt e. absurd cc;
  dealt_words = λ dealt e. absurd cc;
}
