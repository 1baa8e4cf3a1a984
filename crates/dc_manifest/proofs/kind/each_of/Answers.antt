use Rattle.std.proofs.Common.{◌≡◌, ◌++◌, [], ◌∷◌, get_or, Some, None, option_map, arith, sym, ap, ◌∙◌}
use Rattle.std.proofs.lemmas.Grind.{common_steps}
use Rattle.toml.specs.View.{view}
use Rattle.dc_manifest.proofs.ItemsRead.{each_goes_on, each_ends, moved}
use Rattle.dc_manifest.proofs.kind.each_of.Goals as goal

pub returns-in-None : goal.returns-in-None
returns-in-None g c =
    let kind = g.T.Kind.kind in
    let vs = c.args.values.now in
    let i = c.loop-value.value-index in
    let d = c.value-item.result in
    let none : kind (view (get_or vs i d)) ≡ None = rw (← c.value-item.is) (sym c.in_ok-item.ensures ∙ c.in-None.is) in
    rw (each_ends kind vs i d c.loop-value-test.true none) at c.loop-value.invariant

pub loop-value-preserved : goal.loop-value-preserved
loop-value-preserved g c =
    let kind = g.T.Kind.kind in
    let vs = c.args.values.now in
    let i = c.loop-value.value-index in
    let d = c.value-item.result in
    let x = c.in-Some.item in
    let front = c.loop-value.items.items in
    let some : kind (view (get_or vs i d)) ≡ Some x = rw (← c.value-item.is) (sym c.in_ok-item.ensures ∙ c.in-Some.is) in
    let pushed : c.push.new.self.items ≡ front ++ x ∷ [] = grind (arith, common_steps) in
    let here = each_goes_on kind vs i d x c.loop-value-test.true some in
    rw pushed (sym (moved front x _) ∙ ap (option_map (λ xs. front ++ xs)) (sym here) ∙ c.loop-value.invariant)
