use Rattle.std.proofs.Common.{◌≡◌, map}
use Rattle.std.specs.List.{filter, range_with_len}
use Rattle.dc_spec.specs.Lists.{is_among}
use Rattle.dc_script.specs.Quiet.{silent}
use Rattle.dc_script.proofs.quiet_script.zero_words.Given as goal

-- the members so far say the zero word
abbrev pub invariant-loop-station : goal.invariant-loop-station
invariant-loop-station l = l.says.items ≡ map silent (filter (is_among l.c) (range_with_len 0 l.station))
