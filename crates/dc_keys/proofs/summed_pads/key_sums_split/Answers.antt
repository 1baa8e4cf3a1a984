use Rattle.std.proofs.Common.{refl}
use Rattle.dc_keys.proofs.Histories.{history_sum-split}
use Rattle.dc_keys.proofs.summed_pads.key_sums_split.Goals as goal

pub returns : goal.returns
returns c = record { keys = λ pads history. refl; split = history_sum-split }
