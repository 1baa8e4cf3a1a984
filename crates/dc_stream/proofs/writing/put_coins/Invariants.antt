use Rattle.std.proofs.Common.{◌≡◌, ◌++◌, take}
use Rattle.std.specs.List.{flat_map}
use Rattle.dc_formats.specs.StreamFile.{coin_line}
use Rattle.dc_stream.proofs.writing.put_coins.Given as goal

-- the lines so far stand at the end
abbrev pub invariant-loop-coin : goal.invariant-loop-coin
invariant-loop-coin l = l.text.items ≡ l.initial.text.items ++ flat_map coin_line (take l.coin-index l.coins)
