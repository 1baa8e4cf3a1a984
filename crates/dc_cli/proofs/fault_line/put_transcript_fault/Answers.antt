use Rattle.std.proofs.Common.{rules}
use Rattle.dc_edge.proofs.PutLemmas.{Puts-then, Puts-stops}
use Rattle.dc_cli.proofs.fault_line.put_transcript_fault.Goals as goal

pub returns-in-Stations : goal.returns-in-Stations
returns-in-Stations g c = rw (c.in-Stations.is, ← c.from.ensures) c.put_number-in-Stations.ensures

pub returns-in-Words : goal.returns-in-Words
returns-in-Words g c = rw (c.in-Words.is, ← c.from-in-Words.ensures) c.put_number-in-Words.ensures

pub returns-in_err-put_number-in-Truncated : goal.returns-in_err-put_number-in-Truncated
returns-in_err-put_number-in-Truncated g c = rw c.in-Truncated.is (Puts-stops _ _ _ _ _ _ c.in_err-put_number-in-Truncated.ensures (search rules))

pub returns-in_ok-put_number-in-Truncated : goal.returns-in_ok-put_number-in-Truncated
returns-in_ok-put_number-in-Truncated g c = rw c.in-Truncated.is (Puts-then _ _ _ _ _ _ _ c.in_ok-put_number-in-Truncated.ensures c.put_number-in-Truncated.ensures)

pub returns-in_err-put_number-in-Symbol : goal.returns-in_err-put_number-in-Symbol
returns-in_err-put_number-in-Symbol g c = rw c.in-Symbol.is (Puts-stops _ _ _ _ _ _ c.in_err-put_number-in-Symbol.ensures (search rules))

pub returns-in_ok-put_number-in-Symbol : goal.returns-in_ok-put_number-in-Symbol
returns-in_ok-put_number-in-Symbol g c = rw c.in-Symbol.is (rw (← c.from-in-Symbol.ensures) (Puts-then _ _ _ _ _ _ _ c.in_ok-put_number-in-Symbol.ensures c.put_number-in-Symbol-2.ensures))
