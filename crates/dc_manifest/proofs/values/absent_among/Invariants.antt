use Rattle.std.proofs.Common.{◌≡◌, drop, map}
use Rattle.std.specs.List.{find}
use Rattle.toml.specs.View.{table_view}
use Rattle.dc_manifest.specs.Fields.{is_absent}
use Rattle.dc_manifest.proofs.values.absent_among.Given as goal

abbrev pub invariant-loop-name : goal.invariant-loop-name
invariant-loop-name l =
    find (is_absent (table_view l.table)) (map (λ name. name.now) (drop l.name-index l.names)) ≡ find (is_absent (table_view l.table)) (map (λ name. name.now) l.names)
