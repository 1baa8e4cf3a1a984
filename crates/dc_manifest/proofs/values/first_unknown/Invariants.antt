use Rattle.std.proofs.Common.{◌≡◌}
use Rattle.toml.specs.View.{members_view}
use Rattle.dc_manifest.specs.Fields.{first_unknown}
use Rattle.dc_manifest.proofs.values.first_unknown.Given as goal

abbrev pub invariant-loop-name : goal.invariant-loop-name
invariant-loop-name l =
    (goal.iterator-loop-name).can_next l.name-iterator ×
    (goal.iterator-loop-name).is_finite l.name-iterator ×
    (first_unknown (members_view l.name-iterator) ≡ first_unknown (members_view l.table.entries))
