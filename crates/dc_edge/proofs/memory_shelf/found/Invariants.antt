-- No name before this one is the one that is looked for.
use Rattle.std.proofs.Common.{◌≡◌, drop}
use Rattle.dc_edge.specs.ShelfBook.{held_bytes}
use Rattle.dc_edge.proofs.memory_shelf.found.Given as goal

abbrev pub invariant-loop-file : goal.invariant-loop-file
invariant-loop-file l = held_bytes (drop l.file-index l.files) l.name ≡ held_bytes l.files l.name
