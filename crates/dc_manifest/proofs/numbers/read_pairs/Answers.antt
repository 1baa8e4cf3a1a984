use Rattle.std.proofs.Common.{◌≡◌, ◌++◌, [], ◌∷◌, pos, arith, sym, ◌∙◌}
use Rattle.std.proofs.lemmas.Grind.{common_steps}
use Rattle.dc_manifest.specs.Reading.{short_pair}
use Rattle.dc_manifest.proofs.InTurn.{each_goes_on}
use Rattle.dc_manifest.proofs.numbers.read_pairs.Goals as goal

pub loop-pair-preserved : goal.loop-pair-preserved
loop-pair-preserved c =
    let xs = c.args.from.now in
    let i = c.loop-pair.pair-index in
    let p = c.in_ok-read_pair.field-0 in
    let front = c.loop-pair.numbers.items in
    let pushed : c.push.new.self.items ≡ front ++ p ∷ [] = grind (arith, common_steps) in
    rw pushed (sym (each_goes_on (short_pair c.args.name.now) front xs i (pos 0, pos 0) p c.loop-pair-test.true c.in_ok-read_pair.ensures) ∙ c.loop-pair.invariant)
