-- The inverse leads back from an image.
use Rattle.dc_twin_rules.proofs.Histories.{image-place}
use Rattle.dc_twin_rules.proofs.laws.twin_moves_streams.Goals as goal

pub returns : goal.returns
returns c = image-place
