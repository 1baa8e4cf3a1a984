use Rattle.std.proofs.Common.{◌≡◌, drop}
use Rattle.std.specs.List.{find}
use Rattle.dc_net.specs.Tests.{is_dealt_by_faulty_rule}
use Rattle.dc_net.proofs.script_rules.faulty_among.Given as goal

-- what is left to find is what was to be found
abbrev pub invariant-loop-said : goal.invariant-loop-said
invariant-loop-said l =
    let is_faulty = is_dealt_by_faulty_rule l.net in find is_faulty l.dealt ≡ find is_faulty (drop l.said-index l.dealt)
