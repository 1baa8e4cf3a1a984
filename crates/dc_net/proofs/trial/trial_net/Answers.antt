use Rattle.std.proofs.Common.{ap}
use Rattle.dc_graph.specs.Graph.{PlainGraph}
use Rattle.dc_net.proofs.TrialLists.{pads_fit}
use Rattle.dc_net.proofs.trial.trial_net.Goals as goal

pub generate-requires-clause-most_symbols : goal.generate-requires-clause-most_symbols
generate-requires-clause-most_symbols c =
    pads_fit c.args.stations c.args.words _ (ap (λ (g : PlainGraph). g.edges) c.in_ok-graph.ensures) c.requires.size
