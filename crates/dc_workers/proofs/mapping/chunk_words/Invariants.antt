use Rattle.std.proofs.Common.{◌≡◌, ◌+◌, length, map, take, vec_capacity}
use Rattle.dc_workers.proofs.mapping.chunk_words.Given as goal

-- the words of the pieces so far, in room for all
abbrev pub invariant-loop-piece : goal.invariant-loop-piece
invariant-loop-piece g l = record {
  words : l.words.items ≡ map g.P.Piece.of (take l.piece-index l.chunk);
  number : l.number ≡ l.start + l.piece-index;
  room : vec_capacity l.words ≡ length l.chunk;
}
