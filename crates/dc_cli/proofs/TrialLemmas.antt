-- What follows from what `trial` did.
use Rattle.std.proofs.Common.{◌≡◌, ◌⊎◌, ◌≤◌, ◌<◌, ◌+◌, ◌%◌, ◌==◌, ◌∙◌, ap, arith, ℕ, Bool, true, false, cond, List, [], ◌∷◌, length, inl, inr, refl, subst}
use Rattle.std.specs.List.{range_with_len}
use Rattle.dc_spec.specs.Entries.{Stream}
use Rattle.dc_spec.proofs.ListLemmas.{below_range}
use Rattle.dc_spec.proofs.SumLemmas.{sum_by-same}
use Rattle.dc_net_rules.specs.Nets.{IsNet}
use Rattle.dc_net_rules.specs.Runs.{run_of, station_stream}
use Rattle.dc_net.specs.TrialNets.{trial_base, own_bytes, trial_stream, trial_net}
use Rattle.dc_spec.specs.Outside.{SinkState, Rose, grown}
use Rattle.dc_cli.specs.Trials.{summary_of, TrialRan, CountsAll}
use Rattle.dc_cli.specs.Promises.{TellsName}
use Rattle.dc_cli.proofs.TotalLemmas.{shorts_of_run, longs_of_run, stream_at, sum_constant, sum_passing}
use Rattle.dc_cli.specs.declared.outcome.Outcome.{Outcome}
use Rattle.dc_cli.specs.declared.outcome.Outcome.TheVariants.{Done, Usage, Missing, TooLong, Malformed, SinkFault, NoMemory}

-- it ends in one of three ways
pub TrialRan-usage : (seed stations words place : ℕ) (o o' : SinkState) → TrialRan seed stations words o o' (Usage place) → ⊥
TrialRan-usage seed stations words place o o' p = p

-- where neither all was done nor the output failed, nothing was printed
pub TrialRan-silent : (seed stations words : ℕ) (o o' : SinkState) (outcome : Outcome) → (outcome ≡ Done → ⊥) → (outcome ≡ SinkFault → ⊥)
    → TrialRan seed stations words o o' outcome → o' ≡ o
TrialRan-silent seed stations words o o' Done not_done not_sink p = absurd (not_done refl)
TrialRan-silent seed stations words o o' SinkFault not_done not_sink p = absurd (not_sink refl)
TrialRan-silent seed stations words o o' NoMemory not_done not_sink p = p
TrialRan-silent seed stations words o o' _ not_done not_sink p = absurd p

-- what was printed where all was done
pub TrialRan-prints : (seed stations words : ℕ) (o o' : SinkState) → TrialRan seed stations words o o' Done
    → o'.written ≡ grown o.written (summary_of seed stations words)
TrialRan-prints seed stations words o o' p = p.1.answer

-- the output's fault has its cause
pub TrialRan-sink_rose : (seed stations words : ℕ) (o o' : SinkState) → TrialRan seed stations words o o' SinkFault → Rose o.faults o'.faults
TrialRan-sink_rose seed stations words o o' p = p.1.answer.1

-- where the count of faults did not rise, all is done, or memory ran out
pub TrialRan-completes : (seed stations words : ℕ) (o o' : SinkState) (outcome : Outcome) → (Rose o.faults o'.faults → ⊥)
    → TrialRan seed stations words o o' outcome → (outcome ≡ Done) ⊎ (outcome ≡ NoMemory)
TrialRan-completes seed stations words o o' Done calm p = inl refl
TrialRan-completes seed stations words o o' NoMemory calm p = inr refl
TrialRan-completes seed stations words o o' SinkFault calm p = absurd (calm p.1.answer.1)
TrialRan-completes seed stations words o o' _ calm p = absurd p

-- it reports no name
pub TrialRan-untold : (seed stations words : ℕ) (o o' : SinkState) (outcome : Outcome) (name : List ℕ) → TellsName outcome name
    → TrialRan seed stations words o o' outcome → ⊥
TrialRan-untold seed stations words o o' outcome name tells p =
    let P : Outcome → Type 0 = λ x. TrialRan seed stations words o o' x in
    elim tells [
      | inl e ↦ let q : P (Missing name) = subst P e p in q
      | inr other ↦ elim other [
        | inl e ↦ let q : P (TooLong name) = subst P e p in q
        | inr f ↦ let q : P (Malformed name f.0) = subst P f.1 p in q
      ]
    ]

-- what was counted: the net of a trial has no coalition, and its streams have two values each
streams_of : (seed stations words j : ℕ) → j < stations → station_stream (trial_net seed stations words) j ≡ trial_stream (trial_base seed) j
streams_of seed stations words j low = stream_at (trial_stream (trial_base seed)) stations j (record { shorts = []; longs = []; coins = [] }) low

one_message : (b : Bool) (message : List ℕ) → length (cond b (message ∷ []) []) ≡ cond b 1 0
one_message true message = refl
one_message false message = refl

pub counts_all : (seed stations words : ℕ) → 1 ≤ stations → IsNet (trial_net seed stations words) → CountsAll stations (run_of (trial_net seed stations words))
counts_all seed stations words some is =
    let net = trial_net seed stations words in
    record {
      shorts = shorts_of_run net is refl some
          ∙ sum_by-same (λ j. length (station_stream net j).shorts) (λ j. 2) (range_with_len 0 stations)
          (λ j there. let below : j < 0 + stations = below_range 0 stations j there in
          ap (λ (s : Stream). length s.shorts) (streams_of seed stations words j (omega arith)))
          ∙ sum_constant 2 stations;
      longs = longs_of_run net is refl some
          ∙ sum_by-same (λ j. length (station_stream net j).longs) (λ j. cond (j % 16 == 0) 1 0) (range_with_len 0 stations)
          (λ j there. let below : j < 0 + stations = below_range 0 stations j there in
          ap (λ (s : Stream). length s.longs) (streams_of seed stations words j (omega arith)) ∙ one_message (j % 16 == 0) (own_bytes (trial_base seed) j 100 20))
          ∙ sum_passing (λ j. j % 16 == 0) (range_with_len 0 stations);
    }
