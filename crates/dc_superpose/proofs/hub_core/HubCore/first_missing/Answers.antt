use Rattle.std.proofs.Common.{◌≡◌, Some, ap, sym, subst, ◌∙◌, arith}
use Rattle.dc_superpose.specs.Presence.{first_clear}
use Rattle.dc_superpose.specs.HubCore.{HubState, IsHub}
use Rattle.dc_superpose.proofs.Flags.{clear_flag}
use Rattle.dc_superpose.proofs.HubLemmas.{first_missing_is}
use Rattle.dc_superpose.proofs.hub_core.HubCore.first_missing.Goals as goal

pub returns-clause-station : goal.returns-clause-station
returns-clause-station c =
    let flag = clear_flag c.self.inside.there c.unwrap.result (sym c.first_missing.ensures ∙ c.unwrap.ensures) in
    let same : c.self.inside.stations ≡ c.args.self.now.stations = ap (λ (s : HubState). s.stations) c.self.view_is in
    omega (arith, flag.0, c.self.invariant.flags)

pub returns-clause-missing : goal.returns-clause-missing
returns-clause-missing c = λ n rounds xs stands. first_missing_is c.args.self.now n rounds xs c.unwrap.result (subst IsHub c.self.view_is c.self.invariant) stands c.requires.going
    (subst (λ (s : HubState). first_clear s.there ≡ Some c.unwrap.result) c.self.view_is (sym c.first_missing.ensures ∙ c.unwrap.ensures))
