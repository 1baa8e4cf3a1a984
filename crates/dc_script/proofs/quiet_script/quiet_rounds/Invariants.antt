use Rattle.std.proofs.Common.{◌≡◌, replicate}
use Rattle.dc_script.specs.Quiet.{quiet_turn}
use Rattle.dc_script.proofs.quiet_script.quiet_rounds.Given as goal

-- the rounds so far are quiet
abbrev pub invariant-loop-t : goal.invariant-loop-t
invariant-loop-t l = l.rounds.items ≡ replicate l._t (quiet_turn l.c)
