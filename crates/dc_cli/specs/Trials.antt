-- The command `trial`: the net of three numbers is made and run, and the summary of its run is put.
use Rattle.std.specs.Prelude.{ℕ, ◌≡◌, ◌+◌, ◌*◌, ◌%◌, ◌==◌, List, length, filter, sum_by, Ok, Err}
use Rattle.std.specs.List.{range_with_len}
use Rattle.dc_spec.specs.Outside.{SinkState}
use Rattle.dc_spec.specs.Net.{Net, Run}
use Rattle.dc_edge.specs.Sink.{Puts}
use Rattle.dc_edge.specs.declared.fault.Failed.{Failed}
use Rattle.dc_net_rules.specs.Nets.{IsNet}
use Rattle.dc_net_rules.specs.Runs.{run_of}
use Rattle.dc_run_texts.specs.Trial.{shorts_in, longs_in, first_log, trial_text}
use Rattle.dc_net.specs.TrialNets.{trial_net}
use Rattle.dc_cli.specs.declared.outcome.Outcome.{Outcome}
use Rattle.dc_cli.specs.declared.outcome.Outcome.TheVariants.{Done, SinkFault, NoMemory}

-- a net was run, and the summary of its run was put; or memory ran out
abbrev pub SummaryRan : ℕ → ℕ → ℕ → Net → SinkState → SinkState → Outcome → Type 0
SummaryRan seed stations words net out out' Done = IsNet net × Puts (trial_text seed stations words (run_of net)) out out' (Ok tt)
SummaryRan seed stations words net out out' SinkFault = (failed : Failed) × Puts (trial_text seed stations words (run_of net)) out out' (Err failed)
SummaryRan seed stations words net out out' NoMemory = out' ≡ out
SummaryRan seed stations words net out out' _ = ⊥

-- what `trial` did, by its outcome: that with the net of its numbers
abbrev pub TrialRan : ℕ → ℕ → ℕ → SinkState → SinkState → Outcome → Type 0
TrialRan seed stations words out out' outcome = SummaryRan seed stations words (trial_net seed stations words) out out' outcome

-- the text of a trial
abbrev pub summary_of : ℕ → ℕ → ℕ → List ℕ
summary_of seed stations words = trial_text seed stations words (run_of (trial_net seed stations words))

-- the values in the first log and those that are pending at all stations are two for each station, and the messages one for each
-- station whose number is divisible by 16
pub record CountsAll (stations : ℕ) (run : Run) : Type 0 where
  pub shorts : sum_by shorts_in (first_log run) + sum_by (λ p. p.0) run.pending ≡ 2 * stations
  pub longs : sum_by longs_in (first_log run) + sum_by (λ p. p.1) run.pending ≡ length (filter (λ i. i % 16 == 0) (range_with_len 0 stations))
