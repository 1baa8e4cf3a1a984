use Rattle.dc_twin.proofs.Moved.{changed-is}
use Rattle.dc_twin.proofs.laws.changed_is_moved.Goals as goal

pub returns : goal.returns
returns c = λ net p keys changed checked is moves. changed-is net p keys changed checked.streams is moves
