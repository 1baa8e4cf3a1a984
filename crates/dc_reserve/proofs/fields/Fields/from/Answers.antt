use Rattle.std.proofs.Common.{Bool, List, nat_le, ap, ◌∙◌}
use Rattle.std.specs.List.{find}
use Rattle.dc_reserve.specs.Fields.{fields_of}
use Rattle.dc_reserve.proofs.FieldLemmas.{least_from}
use Rattle.dc_reserve.proofs.fields.Fields.from.Goals as goal

pub returns-clause-least : goal.returns-clause-least
returns-clause-least c =
    c.first_from.ensures.first ∙ least_from c.self.inside.flags c.args.f ∙ ap (λ (flags : List Bool). find (λ field. nat_le c.args.f field) (fields_of flags)) c.self.view_is
