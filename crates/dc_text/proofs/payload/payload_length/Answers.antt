use Rattle.std.proofs.Common.{sym, ◌∙◌}
use Rattle.dc_text.proofs.PayloadDigits.{is_payload, length_told, odd_refused, character_refused}
use Rattle.dc_text.proofs.payload.payload_length.Goals as goal
use Rattle.dc_text.proofs.payload.payload_length.Goals.{else-text-eq0-via-then-text-eq0+else-are_digits, else-text-eq0-via-else-text-eq0}

pub returns-then-are_digits-clause-counted : goal.returns-then-are_digits-clause-counted
returns-then-are_digits-clause-counted c = length_told c.args.text.now c.if-text-eq0.true (sym c.are_digits.ensures ∙ c.if-are_digits.true)

pub returns-else-text-eq0-clause-counted : goal.returns-else-text-eq0-clause-counted
returns-else-text-eq0-clause-counted c = elim c.else-text-eq0.branch [
  | else-text-eq0-via-then-text-eq0+else-are_digits w ↦ character_refused c.args.text.now (sym w.are_digits.ensures ∙ w.if-are_digits.false)
  | else-text-eq0-via-else-text-eq0 w ↦ odd_refused c.args.text.now w.if-text-eq0.false
]

pub returns-then-are_digits-clause-payload : goal.returns-then-are_digits-clause-payload
returns-then-are_digits-clause-payload c = λ is. is_payload c.args.text.now c.if-text-eq0.true (sym c.are_digits.ensures ∙ c.if-are_digits.true)
