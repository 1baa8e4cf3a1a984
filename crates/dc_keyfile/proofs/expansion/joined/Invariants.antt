use Rattle.std.proofs.Common.{◌≡◌, take}
use Rattle.std.specs.List.{flat_map}
use Rattle.dc_keyfile.proofs.expansion.joined.Given as goal

-- the pieces so far are put
abbrev pub invariant-loop-piece : goal.invariant-loop-piece
invariant-loop-piece l = l.symbols.items ≡ flat_map (λ w. w) (take l.piece-index l.pieces)
