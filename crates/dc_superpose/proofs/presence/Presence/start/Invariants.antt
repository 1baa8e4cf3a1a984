use Rattle.std.proofs.Common.{◌≡◌, false, replicate, vec_capacity}
use Rattle.dc_superpose.proofs.presence.Presence.start.Given as goal

-- so many flags, in the room that was taken
abbrev pub invariant-loop : goal.invariant-loop
invariant-loop l = (l.flags.items ≡ replicate l.counter false) × (vec_capacity l.flags ≡ l.stations)
