use Rattle.std.proofs.Common.{rules}
use Rattle.std.specs.Int.{w64}
use Rattle.std.proofs.lemmas.Int.{to_z-of_z}
use Rattle.dc_edge.proofs.PutLemmas.{Puts-then, Puts-stops}
use Rattle.dc_cli.proofs.manifest_fault.put_range.Goals as goal

pub returns-in_err-put_before_name : goal.returns-in_err-put_before_name
returns-in_err-put_before_name g c = Puts-stops _ _ _ _ _ _ c.in_err-put_before_name.ensures (search rules)

pub returns : goal.returns
returns g c =
    let seen = to_z-of_z w64 c.args.seen c.ranges.seen in
    Puts-then _ _ _ _ _ _ _ c.in_ok-put_before_name.ensures (rw seen at c.put_signed.ensures)
