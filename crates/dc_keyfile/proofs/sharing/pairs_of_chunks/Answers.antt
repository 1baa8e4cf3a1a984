use Rattle.std.proofs.Common.{◌≡◌, ◌*◌, List, map, IfOk, slice_index_or, subst, ap, ◌∙◌}
use Rattle.dc_spec.specs.Pads.{Pair}
use Rattle.dc_keyfile.specs.Generator.{generated_pair}
use Rattle.dc_keyfile.proofs.ChunkPairs.{chunk_of_map}
use Rattle.dc_keyfile.proofs.sharing.pairs_of_chunks.Goals as goal

pub returns-clause-each : goal.returns-clause-each
returns-clause-each g c = λ n d lt. let k = (c.in_ok-parts.ensures.each n d lt).1 in
    let f = generated_pair c.args.base.now (16 * c.args.words) in
    subst (λ (ys : List Pair). IfOk (slice_index_or c.in_ok-parts.parts.items n d) (λ ps. ps ≡ ys)) (ap (λ es. map f es) k.argument_is.value ∙ chunk_of_map f c.args.edges.now c.args.size n) k.call
