use Rattle.std.proofs.Common.{◌≡◌, Ok, sym, subst, ap, ◌∙◌, arith, true≢false}
use Rattle.std.specs.Fmt.{decimal}
use Rattle.std.specs.Str.{IsAscii}
use Rattle.std.proofs.lemmas.Str.{IsUtf8-from_ascii}
use Rattle.std.proofs.lemmas.Fmt.{IsAscii-decimal, parse-decimal}
use Rattle.std.proofs.lemmas.Slice.Eq.{bytes_eq-Decides}
use Rattle.dc_field.proofs.NumberText.{none_is_due, some_is_due}
use Rattle.dc_field.proofs.number.read_decimal.Goals as goal

pub returns-in-Err-clause-only : goal.returns-in-Err-clause-only
returns-in-Err-clause-only c = λ n lt is.
    absurd (c.in-Err.ensures.cases.0 (IsUtf8-from_ascii c.args.b.now (subst IsAscii (sym is) (IsAscii-decimal n (omega arith)))))

pub returns-in-Err-parse-clause-only : goal.returns-in-Err-parse-clause-only
returns-in-Err-parse-clause-only c = λ n lt is.
    let parsed : c.parse.result ≡ Ok n = parse-decimal 32 n _ c.parse.result lt (omega arith) (c.in-Ok.ensures.cases.0 ∙ is) c.parse.ensures.value.0 in
    absurd (cc (parsed, c.in-Err-parse.is))

pub returns-then-eq-clause-only : goal.returns-then-eq-clause-only
returns-then-eq-clause-only c = λ n lt is.
    let parsed : c.parse.result ≡ Ok n = parse-decimal 32 n _ c.parse.result lt (omega arith) (c.in-Ok.ensures.cases.0 ∙ is) c.parse.ensures.value.0 in
    cc (parsed, c.in-Ok-parse.is)

pub returns-else-eq-clause-only : goal.returns-else-eq-clause-only
returns-else-eq-clause-only c = λ n lt is.
    let parsed : c.parse.result ≡ Ok n = parse-decimal 32 n _ c.parse.result lt (omega arith) (c.in-Ok.ensures.cases.0 ∙ is) c.parse.ensures.value.0 in
    let same : c.in-Ok-parse.number ≡ n = cc (parsed, c.in-Ok-parse.is) in
    let text : c.as_bytes.result.now ≡ c.args.b.now = c.as_bytes.ensures.value ∙ c.format.ensures.text ∙ ap decimal same ∙ sym is in
    absurd (true≢false (sym ((bytes_eq-Decides c.as_bytes.result.now c.args.b.now).1 text) ∙ sym c.eq.ensures ∙ c.if-eq.false))

pub returns-in-Err-clause-exact : goal.returns-in-Err-clause-exact
returns-in-Err-clause-exact c = none_is_due c.args.b.now (returns-in-Err-clause-only c)

pub returns-in-Err-parse-clause-exact : goal.returns-in-Err-parse-clause-exact
returns-in-Err-parse-clause-exact c = none_is_due c.args.b.now (returns-in-Err-parse-clause-only c)

pub returns-then-eq-clause-exact : goal.returns-then-eq-clause-exact
returns-then-eq-clause-exact c =
    let same : c.as_bytes.result.now ≡ c.args.b.now = (bytes_eq-Decides c.as_bytes.result.now c.args.b.now).0 (sym c.eq.ensures ∙ c.if-eq.true) in
    some_is_due c.args.b.now c.in-Ok-parse.number (omega arith) (sym same ∙ c.as_bytes.ensures.value ∙ c.format.ensures.text)

pub returns-else-eq-clause-exact : goal.returns-else-eq-clause-exact
returns-else-eq-clause-exact c = none_is_due c.args.b.now (returns-else-eq-clause-only c)
