use Rattle.std.proofs.Common.{◌≡◌, ◌+◌, ◌*◌, ◌^◌, length, refl, sym, ◌∙◌, arith}
use Rattle.dc_transform_rules.specs.Transforms.{size}
use Rattle.dc_fast_keys.proofs.StepLemmas.{spectrum-of_columns, level-size}
use Rattle.dc_fast_keys.proofs.spectrum.write_transforms.Goals as goal

pub transform-requires-clause-long : goal.transform-requires-clause-long
transform-requires-clause-long c = let e = level-size (length c.args.pads.now) c.args.level (2 ^ c.args.level) refl in omega arith

pub returns-clause-long : goal.returns-clause-long
returns-clause-long c = let e = level-size (length c.args.pads.now) c.args.level (2 ^ c.args.level) refl in omega arith

pub returns-clause-spectra : goal.returns-clause-spectra
returns-clause-spectra c = λ s none lt.
    let e = level-size (length c.args.pads.now) c.args.level (2 ^ c.args.level) refl in
    let rows : size 1 (c.args.level + 5) ≡ 32 * c.power_of.result =
    sym (level-size 1 c.args.level c.power_of.result c.power_of.ensures.value) ∙ (let f : 1 * (32 * c.power_of.result) ≡ 32 * c.power_of.result = omega arith in f) in
    spectrum-of_columns (length c.args.pads.now) (c.args.level + 5) s c.write_second.new.rows c.transform.new.rows _ lt (omega arith)
    (λ k low. c.write_second.ensures.written s k none lt (omega arith)) c.transform.ensures.value
