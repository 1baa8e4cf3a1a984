use Rattle.std.proofs.Common.{[], Ok, rules, arith}
use Rattle.dc_spec.specs.Entries.{long}
use Rattle.dc_run_texts.specs.Logs.{sent_line}
use Rattle.dc_print.proofs.GatherLemmas.{Gathers-more, Gathers-more-stops}
use Rattle.dc_view.proofs.logs.gather_sent.Goals as goal

pub returns-in_err-end : goal.returns-in_err-end
returns-in_err-end g c = Gathers-more-stops sent_line c.args.sent.now.entries c.loop-k.k (long []) _ _ _ _ _ _ _ _ _ (omega arith) c.loop-k.invariant (c.in_err-end.ensures (long [])) (search rules)

pub loop-k-preserved : goal.loop-k-preserved
loop-k-preserved g c = Gathers-more sent_line c.args.sent.now.entries c.loop-k.k (long []) _ _ _ _ _ _ _ (Ok c.in_ok-end.end) (omega arith) c.loop-k.invariant (c.in_ok-end.ensures (long []))
