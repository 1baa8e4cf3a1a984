use Rattle.std.proofs.Common.{◌∙◌, sym}
use Rattle.dc_text.proofs.FirstLine.{line_at, fault_at, nothing_there}
use Rattle.dc_text.proofs.lines.first_line.Goals as goal

pub returns-in_err-end-clause-no_text : goal.returns-in_err-end-clause-no_text
returns-in_err-end-clause-no_text c = λ none. nothing_there c.args.bytes.now c.requires (sym c.first_unprintable.ensures ∙ c.in_err-end.was)

pub returns-then-bytes-end-eq10-clause-text : goal.returns-then-bytes-end-eq10-clause-text
returns-then-bytes-end-eq10-clause-text c = line_at c.args.bytes.now c.in_ok-end.end (sym c.first_unprintable.ensures ∙ c.in_ok-end.was) c.if-bytes-end-eq10.true

pub returns-else-bytes-end-eq10-clause-no_text : goal.returns-else-bytes-end-eq10-clause-no_text
returns-else-bytes-end-eq10-clause-no_text c = λ none. fault_at c.args.bytes.now c.in_ok-end.end (sym c.first_unprintable.ensures ∙ c.in_ok-end.was) c.if-bytes-end-eq10.false
