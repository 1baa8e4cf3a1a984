use Rattle.std.proofs.Common.{◌≡◌, ◌++◌, [], ◌∷◌, get_or, Ok, pos, rules, arith, sym, ◌∙◌}
use Rattle.std.proofs.lemmas.Grind.{common_steps}
use Rattle.std.proofs.lemmas.Int.{to_z-of_z}
use mir.Syntax.{w64}
use mir.Val.{SFits}
use Rattle.dc_manifest.specs.Reading.{short}
use Rattle.dc_manifest.proofs.InTurn.{each_goes_on}
use Rattle.dc_manifest.proofs.numbers.read_shorts.Goals as goal

pub loop-number-preserved : goal.loop-number-preserved
loop-number-preserved c =
    let xs = c.args.from.now in
    let i = c.loop-number.number-index in
    let z = get_or xs i (pos 0) in
    let n = c.in_ok-read_short.field-0 in
    let front = c.loop-number.numbers.items in
    let fits : SFits w64 z = search rules in
    let read : short c.args.name.now z ≡ Ok n = simp to_z-of_z at c.in_ok-read_short.ensures in
    let pushed : c.push.new.self.items ≡ front ++ n ∷ [] = grind (arith, common_steps) in
    rw pushed (sym (each_goes_on (short c.args.name.now) front xs i (pos 0) n c.loop-number-test.true read) ∙ c.loop-number.invariant)
