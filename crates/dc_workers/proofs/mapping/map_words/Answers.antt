use Rattle.std.proofs.Common.{length, map, rules}
use Rattle.std.proofs.lemmas.List.{length-map}
use Rattle.std.proofs.lemmas.Grind.{div_ceil_times}
use Rattle.dc_workers.proofs.mapping.map_words.Goals as goal

pub returns : goal.returns
returns g c = c.joined.ensures (map g.P.Piece.of c.args.pieces.now) c.div_ceil-size.result (rw c.deref.ensures.value c.in_ok-parts.ensures.each) (let a = c.in_ok-parts.ensures.len in let b = c.deref.ensures.len in let d = (div_ceil_times (length c.args.pieces.now) c.div_ceil-size.result (search rules)).0 in rw (length-map c.args.pieces.now g.P.Piece.of, b, a) d)
