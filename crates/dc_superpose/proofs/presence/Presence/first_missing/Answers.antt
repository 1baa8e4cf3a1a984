use Rattle.std.proofs.Common.{◌≡◌, ◌<◌, Bool, List, length, Some, None, subst, sym, arith}
use Rattle.dc_superpose.specs.Presence.{first_clear}
use Rattle.dc_superpose.proofs.Flags.{first_clear-Some, first_clear-None}
use Rattle.dc_superpose.proofs.presence.Presence.first_missing.Goals as goal

pub returns-then-from-len : goal.returns-then-from-len
returns-then-from-len c =
    let lt : c.self.inside.first < length c.self.inside.flags.items = omega arith in
    subst (λ (fs : List Bool). Some c.self.inside.first ≡ first_clear fs) c.self.view_is
    (sym (first_clear-Some c.self.inside.flags.items c.self.inside.first c.self.invariant.before lt (c.self.invariant.here lt)))

pub returns-else-from-len : goal.returns-else-from-len
returns-else-from-len c =
    subst (λ (fs : List Bool). None ≡ first_clear fs) c.self.view_is
    (sym (first_clear-None c.self.inside.flags.items (λ k low. c.self.invariant.before k (omega arith))))
