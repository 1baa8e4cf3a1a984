use Rattle.std.proofs.Common.{ℕ, List, Option, ap, subst, ◌∙◌}
use Rattle.dc_spec.specs.Entries.{Stream}
use Rattle.dc_spec.specs.Net.{Net}
use Rattle.dc_graph.specs.Graph.{PlainGraph}
use Rattle.dc_net.specs.Changed.{AreMoved}
use Rattle.dc_net.proofs.ChangedNets.{changed_made}
use Rattle.dc_net.proofs.checked_net.CheckedNet.changed.Goals as goal

plain_graph : Net → PlainGraph
plain_graph net = record { stations = net.stations; edges = net.edges }

pub of_agreeing-requires : goal.of_agreeing-requires
unfolding plain_graph
of_agreeing-requires c =
    let is = c.net.view_is ∙ c.net-net.ensures.value in
    let moved = subst (λ (xs : List (Option Stream)). AreMoved xs c.args.perm.now c.in_ok-streams.streams) (c.as_slice.ensures ∙ ap (λ (n : Net). n.streams) is)
    (subst (λ (q : List ℕ). AreMoved c.as_slice.result.now q c.in_ok-streams.streams) c.as_slice-2.ensures c.in_ok-streams.ensures) in
    changed_made c.args.self.now c.args.perm.now c.args.keys _ _ _ _ _ c.net-net.ensures.checked c.requires.keys c.requires.permutation
    (c.in_ok-graph.ensures ∙ ap plain_graph is) (c.in_ok-coalition.ensures ∙ ap (λ (n : Net). n.coalition) is) moved
    (c.in_ok-script.ensures ∙ ap (λ (n : Net). n.script) is) (ap (λ (n : Net). n.words) is)
