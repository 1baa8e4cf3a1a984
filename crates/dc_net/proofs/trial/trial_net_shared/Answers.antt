use Rattle.std.proofs.Common.{ap}
use Rattle.dc_graph.specs.Graph.{PlainGraph}
use Rattle.dc_net.proofs.TrialLists.{pads_fit}
use Rattle.dc_net.proofs.trial.trial_net_shared.Goals as goal

pub generate_shared-requires-clause-most_symbols : goal.generate_shared-requires-clause-most_symbols
generate_shared-requires-clause-most_symbols g c κs lives =
    pads_fit c.args.stations c.args.words _ (ap (λ (g : PlainGraph). g.edges) c.in_ok-graph.ensures) c.requires.size
