use Rattle.std.proofs.Common.{◌-◌, ◌/◌, ◌%◌, ◌^◌, length-set, ◌∙◌, arith, rules}
use Rattle.std.proofs.lemmas.List.Edits.{fill_by_more}
use Rattle.std.proofs.lemmas.List.FromFn.{fill_by_all}
use Rattle.dc_spec.specs.Values.{fifteen}
use Rattle.dc_field.proofs.value.digits.Goals as goal
use Rattle.dc_field.proofs.Digits.{bytes_shift}

pub loop-i-preserved : goal.loop-i-preserved
loop-i-preserved c =
    rw (bytes_shift (14 - c.loop-i.i)) (length-set c.loop-i.bytes c.loop-i.i _ ∙ c.loop-i.invariant.0, fill_by_more (λ k. c.args.x / 256 ^ (14 - k) % 256) c.loop-i.bytes c.loop-i.i 0 (omega arith) c.loop-i.invariant.1)

pub returns : goal.returns
unfolding fifteen
returns c = fill_by_all (λ k. c.args.x / 256 ^ (14 - k) % 256) c.loop-i.bytes 15 0 c.loop-i.invariant.0 (search rules)
