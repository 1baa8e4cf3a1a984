use Rattle.std.proofs.Common.{sym, subst, ap, ◌∙◌}
use Rattle.dc_spec.specs.Pads.{Seeds}
use Rattle.dc_formats.specs.KeyFile.{IsKeys}
use Rattle.dc_keyfile.specs.Generator.{expanded_keys}
use Rattle.dc_keyfile.proofs.Expanded.{expanded_parts, IsKeys-expanded_keys, one_seed}
use Rattle.dc_keyfile.proofs.expansion.expand.Goals as goal

pub invariant_of-result : goal.invariant_of-result
invariant_of-result g c =
    let f : Seeds = record { stations = c.f.inside.stations; words = c.f.inside.words; pairs = c.f.inside.pairs } in
    subst IsKeys (sym (expanded_parts f _ _ c.as_slice-2.ensures c.in_ok-pairs.ensures)) (IsKeys-expanded_keys f c.f.invariant)

pub returns-clause-generated : goal.returns-clause-generated
returns-clause-generated g c = λ base g' is.
    let f : Seeds = record { stations = c.f.inside.stations; words = c.f.inside.words; pairs = c.f.inside.pairs } in
    expanded_parts f _ _ c.as_slice-2.ensures c.in_ok-pairs.ensures ∙ ap expanded_keys c.f.view_is ∙ one_seed base g' c.args.f.now.words c.args.f.now is
