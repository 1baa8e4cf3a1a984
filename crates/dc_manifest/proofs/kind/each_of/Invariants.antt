use Rattle.std.proofs.Common.{◌≡◌, ◌++◌, drop, option_map}
use Rattle.toml.specs.View.{items_view}
use Rattle.dc_manifest.specs.Fields.{each_item}
use Rattle.dc_manifest.proofs.kind.each_of.Given as goal

abbrev pub invariant-loop-value : goal.invariant-loop-value
invariant-loop-value g l =
    option_map (λ xs. l.items.items ++ xs) (each_item g.T.Kind.kind (items_view (drop l.value-index l.values))) ≡ each_item g.T.Kind.kind (items_view l.values)
