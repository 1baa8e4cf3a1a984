use Rattle.std.proofs.Common.{rules}
use Rattle.dc_edge.proofs.PutLemmas.{Puts-then, Puts-stops}
use Rattle.dc_cli.proofs.fault_line.put_outcome_text.Goals as goal

pub returns-in-Usage : goal.returns-in-Usage
returns-in-Usage g c = rw (c.in-Usage.is, ← c.from.ensures) c.put_number.ensures

pub returns-in-SinkFault : goal.returns-in-SinkFault
returns-in-SinkFault g c = rw c.in-SinkFault.is c.put-in-SinkFault.ensures

pub returns-in_err-put_named-in-Malformed : goal.returns-in_err-put_named-in-Malformed
returns-in_err-put_named-in-Malformed g c = rw c.in-Malformed.is (Puts-stops _ _ _ _ _ _ c.in_err-put_named-in-Malformed.ensures (search rules))

pub returns-in_ok-put_named-in-Malformed : goal.returns-in_ok-put_named-in-Malformed
returns-in_ok-put_named-in-Malformed g c = rw c.in-Malformed.is (Puts-then _ _ _ _ _ _ _ c.in_ok-put_named-in-Malformed.ensures c.put_file_fault.ensures)

pub returns-in_err-put-in-Disagree : goal.returns-in_err-put-in-Disagree
returns-in_err-put-in-Disagree g c = rw c.in-Disagree.is (Puts-stops _ _ _ _ _ _ c.in_err-put-in-Disagree.ensures (search rules))

pub returns-in_ok-put-in-Disagree : goal.returns-in_ok-put-in-Disagree
returns-in_ok-put-in-Disagree g c = rw c.in-Disagree.is (Puts-then _ _ _ _ _ _ _ c.in_ok-put-in-Disagree.ensures c.put_net_fault.ensures)

pub returns-in_err-put-in-Refused : goal.returns-in_err-put-in-Refused
returns-in_err-put-in-Refused g c = rw c.in-Refused.is (Puts-stops _ _ _ _ _ _ c.in_err-put-in-Refused.ensures (search rules))

pub returns-in_ok-put-in-Refused : goal.returns-in_ok-put-in-Refused
returns-in_ok-put-in-Refused g c = rw c.in-Refused.is (Puts-then _ _ _ _ _ _ _ c.in_ok-put-in-Refused.ensures c.put_command_fault.ensures)
