use Rattle.std.proofs.Common.{List, sym, subst, ◌∙◌, ap}
use Rattle.dc_spec.specs.Scripts.{Turn}
use Rattle.dc_formats.specs.TextFile.{file_lines}
use Rattle.dc_formats.specs.ScriptFile.{IsScript}
use Rattle.dc_script.specs.Progress.{Progress}
use Rattle.dc_script.specs.Turns.{is_waiting}
use Rattle.dc_script.proofs.Spelled.{lines_are_script}
use Rattle.dc_script.proofs.reading.read_rounds.Goals as goal

pub invariant_of-result : goal.invariant_of-result
invariant_of-result c =
    let rounds = ap (λ (p : Progress). p.turns) c.progress.view_is in
    subst (λ (turns : List Turn). IsScript (record { version = c.args.version; rounds = turns })) (sym rounds)
    (lines_are_script c.args.version c.requires.some_version c.requires.most_version (file_lines c.args.lines.bytes) c.in_ok-progress.progress c.in_ok-progress.line c.in_ok-progress.ensures
    (ap is_waiting (sym rounds) ∙ sym c.if-is_waiting.ensures))
