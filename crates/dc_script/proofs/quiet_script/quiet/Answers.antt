use Rattle.std.proofs.Common.{List, subst, sym, ◌∙◌}
use Rattle.dc_spec.specs.Scripts.{Turn}
use Rattle.dc_formats.specs.ScriptFile.{IsScript}
use Rattle.dc_script.proofs.QuietTurns.{quiet_is_script}
use Rattle.dc_script.proofs.quiet_script.quiet.Goals as goal

pub invariant_of-result : goal.invariant_of-result
invariant_of-result c =
    subst (λ (turns : List Turn). IsScript (record { version = 1; rounds = turns })) (sym (c.from_vec.ensures ∙ c.in_ok-rounds.ensures))
    (quiet_is_script c.args.c.now c.args.words c.note_members.ensures c.requires.most_words)
