use Rattle.std.proofs.Common.{◌≡◌, drop}
use Rattle.std.specs.List.{find}
use Rattle.dc_net.specs.Tests.{is_said_by_faulty_rule}
use Rattle.dc_net.proofs.script_rules.faulty_say.Given as goal

-- what is left to find is what was to be found
abbrev pub invariant-loop-said : goal.invariant-loop-said
invariant-loop-said l =
    let is_faulty = is_said_by_faulty_rule l.net l.round in find is_faulty l.says ≡ find is_faulty (drop l.said-index l.says)
