use Rattle.std.proofs.Common.{◌≡◌, List, ℕ, map, IfOk, slice_index_or, subst, ap, ◌∙◌}
use Rattle.dc_workers.proofs.Parts.{chunk_of_map}
use Rattle.dc_workers.proofs.mapping.words_of_chunks.Goals as goal

pub returns-clause-each : goal.returns-clause-each
returns-clause-each g c = λ n d lt. let k = (c.in_ok-parts.ensures.each n d lt).1 in
    subst (λ (ys : List (List ℕ)). IfOk (slice_index_or c.in_ok-parts.parts.items n d) (λ ws. ws ≡ ys)) (ap (λ ps. map g.P.Piece.of ps) k.argument_is.value ∙ chunk_of_map g.P.Piece.of c.args.pieces.now c.args.size n) k.call
