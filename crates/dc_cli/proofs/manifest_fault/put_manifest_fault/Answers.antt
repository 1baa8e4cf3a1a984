use Rattle.std.proofs.Common.{rules}
use Rattle.dc_edge.proofs.PutLemmas.{Puts-then, Puts-stops}
use Rattle.dc_cli.proofs.manifest_fault.put_manifest_fault.Goals as goal

pub returns-in-Unknown : goal.returns-in-Unknown
returns-in-Unknown g c = rw c.in-Unknown.is c.put_before_name.ensures

pub returns-in-Field : goal.returns-in-Field
returns-in-Field g c = rw c.in-Field.is c.put_before_name-in-Field.ensures

pub returns-in_err-put-in-Graph : goal.returns-in_err-put-in-Graph
returns-in_err-put-in-Graph g c = rw c.in-Graph.is (Puts-stops _ _ _ _ _ _ c.in_err-put-in-Graph.ensures (search rules))

pub returns-in_ok-put-in-Graph : goal.returns-in_ok-put-in-Graph
returns-in_ok-put-in-Graph g c = rw c.in-Graph.is (Puts-then _ _ _ _ _ _ _ c.in_ok-put-in-Graph.ensures c.put_graph_fault.ensures)

pub returns-in-Member : goal.returns-in-Member
returns-in-Member g c = rw (c.in-Member.is, ← c.from.ensures) c.put_number.ensures

pub returns-in-TooLarge : goal.returns-in-TooLarge
returns-in-TooLarge g c = rw c.in-TooLarge.is c.put_number-in-TooLarge.ensures
