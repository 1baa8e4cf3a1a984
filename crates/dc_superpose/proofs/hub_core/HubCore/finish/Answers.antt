use Rattle.std.proofs.Common.{ap, subst, ◌∙◌, arith}
use Rattle.dc_superpose.specs.HubCore.{HubState, IsHub}
use Rattle.dc_superpose.proofs.HubLemmas.{finished}
use Rattle.dc_superpose.proofs.hub_core.HubCore.finish.Goals as goal

pub returns : goal.returns
returns c = let hub = subst IsHub c.self.view_is c.self.invariant in let within = hub.within in record {
  accepted = λ n rounds xs stands. finished c.args.self _ _ n rounds _ xs hub stands (omega arith) (ap (λ (s : HubState). s.stations) c.self.view_is)
      (ap (λ (s : HubState). s.rounds) c.self.view_is) (c.into_words.ensures ∙ ap (λ (s : HubState). s.words) c.self.view_is);
}
