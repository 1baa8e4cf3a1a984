use Rattle.std.proofs.Common.{◌∙◌, sym, subst}
use Rattle.dc_graph.specs.Forest.{IsForestOf, AreOwnWords}
use Rattle.dc_graph.proofs.ForestProofs.{sums_done}
use Rattle.dc_graph.proofs.forest.Forest.below_sums.Goals as goal

pub returns : goal.returns
returns c = λ g is.
    let here : IsForestOf g c.deref-2.result.now = subst (λ f. IsForestOf g f) (sym (c.deref-2.ensures.value ∙ c.self.view_is)) is in
    sums_done g c.args.self.now is c.args.demands.now c.put_own_words.new.out c.add_upwards.new.sums
    (subst (λ ds. AreOwnWords c.args.self.now ds c.put_own_words.new.out) c.as_slice.ensures
    (subst (λ f. AreOwnWords f c.as_slice.result.now c.put_own_words.new.out) (c.deref.ensures.value ∙ c.self.view_is) c.put_own_words.ensures))
    c.add_upwards.ensures.count (c.add_upwards.ensures.below g here)
