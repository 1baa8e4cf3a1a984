use Rattle.std.proofs.Common.{◌^◌, ap, ◌∙◌}
use Rattle.dc_transform_rules.specs.Polynomials.{scaled}
use Rattle.dc_transform_rules.proofs.ListLemmas.{scaled-inverse}
use Rattle.dc_transform_rules.proofs.CoefficientLemmas.{scaled_one}
use Rattle.dc_transform.proofs.places.divide.Goals as goal

pub returns-clause-value : goal.returns-clause-value
returns-clause-value c =
    ap (scaled (2 ^ c.args.depth)) c.scale.ensures.value
    ∙ scaled-inverse (2 ^ c.args.depth) c.inverse_of_power.result c.args.numbers.now c.inverse_of_power.ensures.value (scaled_one c.args.numbers.now c.requires.symbols)
