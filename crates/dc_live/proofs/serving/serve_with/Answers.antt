use Rattle.dc_live.proofs.ServedLemmas.{served_by}
use Rattle.dc_live.proofs.serving.serve_with.Goals as goal

pub returns : goal.returns
returns g c = served_by (g.W.Wire.state c.run_core.new.wire) c.run_core.result (c.in_ok-gather.ensures) c.run_core.ensures
