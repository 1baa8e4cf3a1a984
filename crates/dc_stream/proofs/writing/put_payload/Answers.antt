use Rattle.std.proofs.Common.{◌≡◌, ℕ, List, ◌++◌, IfOk, subst, ◌∙◌, arith}
use Rattle.dc_spec.specs.Text.{line}
use Rattle.dc_formats.specs.TextFile.{hex_text}
use Rattle.dc_text.proofs.PayloadDigits.{encoded}
use Rattle.dc_stream.proofs.writing.put_payload.Goals as goal

pub returns : goal.returns
returns c =
    let digits : c.as_bytes.result.now ≡ hex_text c.args.payload.now = c.as_bytes.ensures.value ∙ c.in_ok-digits.ensures ∙ encoded c.args.payload.now (λ i. omega (arith, c.type_inv.payload i)) in
    subst (λ (rest : List ℕ). IfOk c.put_line.result (λ _. c.put_line.new.text.items ≡ c.args.text.now.items ++ line (c.args.beginning.now ++ rest))) digits c.put_line.ensures
