use Rattle.std.proofs.Common.{◌≡◌, ◌==◌, ℕ, List, length, Option, None, Some, true, not, sym, refl, ◌∙◌, arith}
use Rattle.std.specs.Prelude.{option_map}
use Rattle.std.specs.Option.{option_eq}
use Rattle.std.proofs.lemmas.Grind.{common_steps}
use Rattle.dc_text.specs.Payload.{payload_in}
use Rattle.dc_cli.specs.Forms.{of_length}
use Rattle.dc_cli.proofs.command.seed_of.Goals as goal

-- bytes of another number are no seed
other_length : (o : Option (List ℕ)) → not (option_eq (λ m n. m == n) (option_map length o) (Some 32)) ≡ true → None ≡ of_length 32 o
other_length None test = refl
other_length (Some bytes) test = grind (arith, common_steps)

pub returns-then-ne : goal.returns-then-ne
returns-then-ne c =
    let counted = rw c.as_bytes-digits.ensures.value at c.payload_length.ensures.counted in
    other_length (payload_in c.args.word.now) (rw (← counted) (sym c.ne.ensures ∙ c.if-ne.true))
