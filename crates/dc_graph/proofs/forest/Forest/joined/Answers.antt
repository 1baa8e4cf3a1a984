use Rattle.std.proofs.Common.{◌≡◌, ◌∙◌, ap, nat_eq, slice_index_or}
use Rattle.dc_graph.proofs.ForestProofs.{joined_at}
use Rattle.dc_graph.proofs.forest.Forest.joined.Goals as goal

pub returns : goal.returns
returns c = λ g is.
    let of_u : c.index.result.now ≡ slice_index_or c.args.self.now c.args.u c.index.result.now =
    c.index.ensures ∙ ap (λ xs. slice_index_or xs c.from.result c.index.result.now) c.self.view_is ∙ ap (λ k. slice_index_or c.args.self.now k c.index.result.now) c.from.ensures in
    let of_v : c.index-2.result.now ≡ slice_index_or c.args.self.now c.args.v c.index-2.result.now =
    c.index-2.ensures ∙ ap (λ xs. slice_index_or xs c.from-2.result c.index-2.result.now) c.self.view_is ∙ ap (λ k. slice_index_or c.args.self.now k c.index-2.result.now) c.from-2.ensures in
    ap (λ p. nat_eq p.root c.index-2.result.now.root) of_u
    ∙ ap (λ p. nat_eq (slice_index_or c.args.self.now c.args.u c.index.result.now).root p.root) of_v
    ∙ joined_at g c.args.self.now is c.args.u c.args.v c.index.result.now c.index-2.result.now c.requires.0 c.requires.1
