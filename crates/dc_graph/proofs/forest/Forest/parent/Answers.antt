use Rattle.std.proofs.Common.{◌≡◌, ◌∙◌, ap, slice_index_or}
use Rattle.dc_graph.proofs.ForestProofs.{place_at}
use Rattle.dc_graph.proofs.forest.Forest.parent.Goals as goal

pub returns : goal.returns
returns c = λ g is.
    let here : c.index.result.now ≡ slice_index_or c.args.self.now c.args.v c.index.result.now =
    c.index.ensures ∙ ap (λ xs. slice_index_or xs c.from.result c.index.result.now) c.self.view_is ∙ ap (λ k. slice_index_or c.args.self.now k c.index.result.now) c.from.ensures in
    ap (λ p. p.parent) (here ∙ place_at g c.args.self.now is c.args.v c.index.result.now c.requires)
