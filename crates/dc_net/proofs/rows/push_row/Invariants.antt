use Rattle.dc_net.proofs.RowWalk.{Passed}
use Rattle.dc_net.proofs.rows.push_row.Given as goal

-- the stations that come after those that were passed, and the words of those that were passed
abbrev pub invariant-loop-i : goal.invariant-loop-i
invariant-loop-i l = Passed l.coalition l.stations l.honest l.said l.initial.words l.words l.i l.j l.k
