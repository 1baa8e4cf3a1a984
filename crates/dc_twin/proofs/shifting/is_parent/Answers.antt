use Rattle.std.proofs.Common.{ℕ, nat_eq, false, Option, sym, ap, ◌∙◌, arith}
use Rattle.std.specs.Option.{option_map_or}
use Rattle.dc_graph_rules.specs.Graphs.{key_graph}
use Rattle.dc_graph.proofs.ForestProofs.{stations_of_forest}
use Rattle.dc_twin_rules.proofs.TreeEdges.{parent-at}
use Rattle.dc_twin.proofs.shifting.is_parent.Goals as goal

pub parent-requires : goal.parent-requires
parent-requires c = let long = stations_of_forest (key_graph c.args.net.now) c.args.forest.now c.requires.forest in omega arith

pub returns-in-Some : goal.returns-in-Some
returns-in-Some c =
    let g = key_graph c.args.net.now in
    sym (ap (λ (o : Option ℕ). option_map_or (nat_eq c.args.u) o false) (parent-at g c.args.child c.requires.child ∙ sym (c.parent.ensures g c.requires.forest) ∙ c.in-Some.is))

pub returns-in-None : goal.returns-in-None
returns-in-None c =
    let g = key_graph c.args.net.now in
    sym (ap (λ (o : Option ℕ). option_map_or (nat_eq c.args.u) o false) (parent-at g c.args.child c.requires.child ∙ sym (c.parent.ensures g c.requires.forest) ∙ c.in-None.is))
