-- No edge of the forest has an end in the coalition.
use Rattle.dc_twin_rules.proofs.Views.{view-kept}
use Rattle.dc_twin_rules.proofs.laws.twin_keeps_view.Goals as goal

pub returns : goal.returns
returns c = view-kept
