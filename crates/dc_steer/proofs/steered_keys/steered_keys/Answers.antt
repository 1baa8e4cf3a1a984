use Rattle.std.proofs.Common.{List, map, ap, sym, subst, ◌∙◌}
use Rattle.dc_spec.specs.Pads.{Pair, Keys}
use Rattle.dc_formats.specs.KeyFile.{IsKeys}
use Rattle.dc_steer.specs.SteeredKeys.{AreChangesFor, steered_pair}
use Rattle.dc_steer.proofs.SteeredKeys.{steered-keys}
use Rattle.dc_steer.proofs.steered_keys.steered_keys.Goals as goal

pub invariant_of-result : goal.invariant_of-result
invariant_of-result c =
    let changes = c.args.changes.now in
    let keys : Keys = record { stations = c.keys.inside.stations; words = c.keys.inside.words; pairs = c.keys.inside.pairs } in
    let are : AreChangesFor c.keys.inside.words c.args.changes.now = subst (λ (k : Keys). AreChangesFor k.words c.args.changes.now) (sym c.keys.view_is) c.requires in
    let pairs = c.in_ok-pairs.ensures ∙ ap (λ (ps : List Pair). map (steered_pair c.args.u c.args.v changes) ps) c.as_slice.ensures in
    subst (λ (ps : List Pair). IsKeys (record { stations = c.keys.inside.stations; words = c.keys.inside.words; pairs = ps })) (sym pairs)
    (steered-keys c.args.u c.args.v changes keys c.keys.invariant are)
