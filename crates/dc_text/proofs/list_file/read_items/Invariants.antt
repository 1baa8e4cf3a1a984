use Rattle.std.proofs.Common.{◌≡◌, ◌+◌, length}
use Rattle.dc_text.specs.ListFiles.{list_from_bytes, list_with_lines}
use Rattle.dc_text.proofs.list_file.read_items.Given as goal

-- what the lines so far make of a list, the other lines make into what they all make
abbrev pub invariant-loop-lines : goal.invariant-loop-lines
invariant-loop-lines g l = list_with_lines g.F.ListItem.item l.bad l.most (l.lines.before + 1) l.items.items l.lines.bytes ≡ list_from_bytes g.F.ListItem.item l.bad l.most l.fn.bytes

abbrev pub decreases-loop-lines : goal.decreases-loop-lines
decreases-loop-lines g l = length l.lines.bytes
