use Rattle.dc_text.proofs.NextLine.{next_line}
use Rattle.dc_text.proofs.lines.Lines.next.Goals as goal

pub returns-clause-text : goal.returns-clause-text
returns-clause-text c =
    next_line c.args.self.now c.self.inside.rest.now c.in_ok-text.text.now c.after_line-self-inside.result.now c.self.inside.before c.self.view_is c.in_ok-text.ensures.text c.after_line-self-inside.ensures
