use Rattle.dc_net.proofs.TrialLists.{trial_graph}
use Rattle.dc_net.proofs.trial.trial_graph.Goals as goal

pub of_rising-requires : goal.of_rising-requires
of_rising-requires c = rw c.in_ok-edges.ensures (trial_graph c.args.n c.requires.some_stations c.requires.most_stations)
