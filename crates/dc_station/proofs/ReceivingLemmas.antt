-- What a word makes of a receiver that stands for the words before it.
use Rattle.std.proofs.Common.{◌≡◌, ℕ, ◌+◌, ◌<◌, Bool, true, false, List, [], ◌∷◌, ◌++◌, length, map, Option, Some, refl, sym, ap, ◌∙◌, subst, inl, inr, arith, length-append}
use Rattle.std.proofs.lemmas.List.{append-nil, same_from_push}
use Rattle.dc_spec.specs.Entries.{Stream, long}
use Rattle.dc_station_rules.specs.Bursts.{burst_of, has_ended, gave, message_of}
use Rattle.dc_station_rules.specs.Epochs.{epoch_of, is_over, leaves_at}
use Rattle.dc_station_rules.specs.Cycles.{Cycle, History, with_epoch, opened, granted, fields_left, history_of, place_of}
use Rattle.dc_station_rules.specs.Stations.{leaf_entry, log_of}
use Rattle.dc_reserve.specs.Fields.{fields_of}
use Rattle.dc_reserve.specs.StandsFor.{State as BurstState, StandsFor as BurstStandsFor}
use Rattle.dc_reserve.specs.declared.judge.BurstStep.TheVariants.{Goes, Message as GivesMessage, Void}
use Rattle.dc_reserve.specs.declared.judge.BadBurst.{BadBurst}
use Rattle.dc_average.specs.StandsFor.{State as EpochState, StandsFor as EpochStandsFor, is_done}
use Rattle.dc_station.specs.declared.phase.Phase.{Phase}
use Rattle.dc_station.specs.declared.phase.Phase.TheVariants.{Reserve, Burst, Epoch}
use Rattle.dc_station.specs.declared.reception.Reception.{Reception}
use Rattle.dc_station.specs.declared.reception.Effect.{Effect}
use Rattle.dc_station.specs.declared.reception.Effect.TheVariants.{Nothing, Message, Leaves}
use Rattle.dc_station.specs.Logs.{FitsRoom, Kept}
use Rattle.dc_station.specs.Receiving.{phase_at, phase_after_epoch_word, index_of, fields_from, MayTake, IsReady, IsEffectOf, InBurst, InPhase, Receives, IsAt, ReceivesWord, TakesNext}
use Rattle.dc_station.specs.StandsFor.{IsOfLast}
use Rattle.dc_station.proofs.FieldLemmas.{fields_from-zero}
use Rattle.dc_station_rules.proofs.StationSteps.{reserves, burst_goes_on, BurstEnds, burst_ends, epoch_takes, with_ended, since_then, logs_fit}

-- an empty stream
abbrev nothing : Stream
nothing = record { shorts = []; longs = []; coins = [] }

-- the log of words fits in the room of as many
pub log_fits : (words : List (List ℕ)) (word : List ℕ) (room : ℕ) → length words < room → FitsRoom (log_of (words ++ word ∷ [])) room
log_fits words word room lt =
    let fit = logs_fit (words ++ word ∷ []) in
    let more : length (words ++ word ∷ []) ≡ length words + 1 = length-append words (word ∷ []) in
    record { few = omega (arith, fit.0); short = omega (arith, fit.1) }

-- a receiver of no words
pub receives_none : (receiver : Reception) → receiver.phase ≡ Reserve → receiver.log.entries ≡ [] → Receives receiver []
unfolding history_of log_of
receives_none receiver phase log = record { place = rw phase refl; log = log }

-- the phase that a receiver keeps is that of the place
phase_in : (phase : Phase) (flags : List Bool) (burst : BurstState) (epoch : EpochState) (words : List (List ℕ)) → InPhase phase flags burst epoch (history_of words).begun
    → phase ≡ phase_at (place_of words)
unfolding place_of
phase_in Reserve flags burst epoch words place = rw place refl
phase_in (Burst field index) flags burst epoch words place = rw (place.is, place.left, ← place.counted) refl
phase_in Epoch flags burst epoch words place = rw (place.is, place.left) refl

pub phase_of : (receiver : Reception) (words : List (List ℕ)) → Receives receiver words → receiver.phase ≡ phase_at (place_of words)
phase_of receiver words stands = phase_in receiver.phase receiver.granted receiver.burst receiver.epoch words stands.place

-- a begun cycle without words since its last burst, and the phase that begins with the fields that are left
entered_by : (fields : List ℕ) (flags : List Bool) (phase : Phase) (burst : BurstState) (epoch : EpochState) (cycle : Cycle) (begun : Option Cycle) → IsAt fields flags phase epoch → begun ≡ Some cycle
    → fields_left cycle ≡ fields → cycle.since ≡ [] → InPhase phase flags burst epoch begun
entered_by [] flags phase burst epoch cycle begun at is left none =
    rw (at.0) (record { cycle = cycle; is = is; left = left; stands = rw none (at.1) })
entered_by (field ∷ fields) flags phase burst epoch cycle begun at is left none =
    rw (at.0) (record { cycle = cycle; is = is; left = left ∙ ap (λ more. field ∷ more) (at.1); counted = rw none refl; stands = λ some. absurd (omega arith) })

-- whatever words were received, the phase that begins takes a word
ready_by : (fields : List ℕ) (flags : List Bool) (phase : Phase) (burst : BurstState) (epoch : EpochState) → IsAt fields flags phase epoch → MayTake phase burst epoch
unfolding epoch_of
ready_by [] flags phase burst epoch at = rw (at.0) (at.1.over)
ready_by (field ∷ fields) flags phase burst epoch at = rw (at.0) ((at.2), λ some. absurd (omega arith))

index_by : (fields : List ℕ) (flags : List Bool) (phase : Phase) (epoch : EpochState) → IsAt fields flags phase epoch → index_of phase ≡ 0
index_by [] flags phase epoch at = rw (at.0) refl
index_by (field ∷ fields) flags phase epoch at = rw (at.0) refl

-- a reservation word taken
pub took_reservation : (old new : Reception) (word : List ℕ) → old.phase ≡ Reserve → fields_of new.granted ≡ granted word → IsAt (fields_from new.granted 0) new.granted new.phase new.epoch
    → new.log ≡ old.log → ReceivesWord old word new Nothing
took_reservation old new word phase fields at log =
    let flags = new.granted in
    let none = λ (words : List (List ℕ)) (stands : Receives old words). subst (λ p. InPhase p old.granted old.burst old.epoch (history_of words).begun) phase stands.place in
    record {
      ready = ready_by (fields_from flags 0) flags new.phase new.burst new.epoch at;
      index = omega (arith, index_by (fields_from flags 0) flags new.phase new.epoch at);
      room = ap (λ (l : Kept). l.room) log;
      message = tt;
      receives = λ words room stands.
          let step = reserves nothing words word (none words stands) in
          record {
            place = entered_by (fields_from flags 0) flags new.phase new.burst new.epoch (opened word) (history_of (words ++ word ∷ [])).begun at (ap (λ h. h.begun) step.history) (sym fields ∙ sym (fields_from-zero flags)) refl;
            log = ap (λ (l : Kept). l.entries) log ∙ stands.log ∙ sym step.log;
          };
      result_is = λ words stands. inl (none words stands);
    }

-- a receiver in a burst stands for words in a burst
in_burst_place : (old : Reception) (field index : ℕ) (words : List (List ℕ)) → old.phase ≡ Burst field index → Receives old words → InBurst field index old.granted old.burst (history_of words).begun
in_burst_place old field index words phase stands = subst (λ p. InPhase p old.granted old.burst old.epoch (history_of words).begun) phase stands.place

may_take : (old : Reception) (field index : ℕ) → old.phase ≡ Burst field index → IsReady old → MayTake (Burst field index) old.burst old.epoch
may_take old field index phase ready = subst (λ p. MayTake p old.burst old.epoch) phase ready

-- a word taken after which a burst goes on
pub took_going : (old new : Reception) (field index : ℕ) (word : List ℕ) → old.phase ≡ Burst field index → IsReady old → TakesNext index old.burst word new.burst Goes
    → new.phase ≡ Burst field (index + 1) → new.granted ≡ old.granted → new.log ≡ old.log → ReceivesWord old word new Nothing
took_going old new field index word phase ready took next flags log =
    let ended = λ (words : List (List ℕ)) (stands : Receives old words). let place = in_burst_place old field index words phase stands in took.shows place.cycle.since place.counted place.stands in
    record {
      ready = rw next ((may_take old field index phase ready).0, λ some. took.phase);
      index = rw (next, phase) (omega arith);
      room = ap (λ (l : Kept). l.room) log;
      message = tt;
      receives = λ words room stands.
          let place = in_burst_place old field index words phase stands in
          let cycle = place.cycle in
          let step = burst_goes_on nothing words word cycle field (fields_from old.granted (field + 1)) place.is place.left (ap has_ended (ended words stands)) in
          let counted : index + 1 ≡ length (cycle.since ++ word ∷ []) = omega (arith, place.counted, length-append cycle.since (word ∷ [])) in
          record {
            place = rw (next, flags) (record { cycle = since_then cycle (cycle.since ++ word ∷ []); is = ap (λ h. h.begun) step.history; left = place.left; counted = counted; stands = λ some. took.stands cycle.since place.counted place.stands });
            log = ap (λ (l : Kept). l.entries) log ∙ stands.log ∙ sym step.log;
          };
      result_is = λ words stands.
          let place = in_burst_place old field index words phase stands in
          inr (record { cycle = place.cycle; field = field; fields = fields_from old.granted (field + 1); is = place.is; left = place.left; none = ap message_of (ended words stands) });
    }

-- the place after a word that ends a burst
ended_place : (old new : Reception) (field index : ℕ) (words : List (List ℕ)) (word : List ℕ) → (place : InBurst field index old.granted old.burst (history_of words).begun)
    → IsAt (fields_from new.granted (field + 1)) new.granted new.phase new.epoch → new.granted ≡ old.granted → BurstEnds nothing words word place.cycle field (fields_from old.granted (field + 1))
    → InPhase new.phase new.granted new.burst new.epoch (history_of (words ++ word ∷ [])).begun
ended_place old new field index words word place at flags step =
    entered_by (fields_from new.granted (field + 1)) new.granted new.phase new.burst new.epoch (with_ended place.cycle field (place.cycle.since ++ word ∷ [])) (history_of (words ++ word ∷ [])).begun at (ap (λ h. h.begun) step.history) (step.left ∙ ap (λ g. fields_from g (field + 1)) (sym flags)) refl

-- a word taken that makes a burst void
pub took_void : (old new : Reception) (field index : ℕ) (word : List ℕ) (why : BadBurst) → old.phase ≡ Burst field index → TakesNext index old.burst word new.burst (Void why)
    → IsAt (fields_from new.granted (field + 1)) new.granted new.phase new.epoch → new.granted ≡ old.granted → new.log ≡ old.log → ReceivesWord old word new Nothing
took_void old new field index word why phase took at flags log =
    let ended = λ (words : List (List ℕ)) (stands : Receives old words). let place = in_burst_place old field index words phase stands in took.shows place.cycle.since place.counted place.stands in
    record {
      ready = ready_by (fields_from new.granted (field + 1)) new.granted new.phase new.burst new.epoch at;
      index = omega (arith, index_by (fields_from new.granted (field + 1)) new.granted new.phase new.epoch at);
      room = ap (λ (l : Kept). l.room) log;
      message = tt;
      receives = λ words room stands.
          let place = in_burst_place old field index words phase stands in
          let step = burst_ends nothing words word place.cycle field (fields_from old.granted (field + 1)) place.is place.left (ap has_ended (ended words stands)) in
          let none = ap message_of (ended words stands) in
          record {
            place = ended_place old new field index words word place at flags step;
            log = ap (λ (l : Kept). l.entries) log ∙ stands.log ∙ sym (rw none at step.log ∙ append-nil (log_of words));
          };
      result_is = λ words stands.
          let place = in_burst_place old field index words phase stands in
          inr (record { cycle = place.cycle; field = field; fields = fields_from old.granted (field + 1); is = place.is; left = place.left; none = ap message_of (ended words stands) });
    }

-- a word taken that makes a burst whole, where its message was put into the log
pub took_message : (old new : Reception) (field index : ℕ) (word : List ℕ) (size : ℕ) (given : List ℕ) → old.phase ≡ Burst field index → TakesNext index old.burst word new.burst (GivesMessage size)
    → IsAt (fields_from new.granted (field + 1)) new.granted new.phase new.epoch → new.granted ≡ old.granted → new.log.room ≡ old.log.room
    → ((words : List (List ℕ)) (message : List ℕ) → BurstStandsFor new.burst words → burst_of words ≡ gave message → given ≡ message)
    → (FitsRoom (old.log.entries ++ long given ∷ []) old.log.room → new.log.entries ≡ old.log.entries ++ long given ∷ []) → ReceivesWord old word new (Message field)
took_message old new field index word size given phase took at flags room is_given put =
    let stood = λ (words : List (List ℕ)) (stands : Receives old words). let place = in_burst_place old field index words phase stands in took.stands place.cycle.since place.counted place.stands in
    let shown = λ (words : List (List ℕ)) (stands : Receives old words). let place = in_burst_place old field index words phase stands in took.shows place.cycle.since place.counted place.stands in
    record {
      ready = ready_by (fields_from new.granted (field + 1)) new.granted new.phase new.burst new.epoch at;
      index = omega (arith, index_by (fields_from new.granted (field + 1)) new.granted new.phase new.epoch at);
      room = room;
      message = took.phase;
      receives = λ words less stands.
          let place = in_burst_place old field index words phase stands in
          let gives = (shown words stands).1.0 in
          let step = burst_ends nothing words word place.cycle field (fields_from old.granted (field + 1)) place.is place.left (ap has_ended gives) in
          let same = is_given (place.cycle.since ++ word ∷ []) (shown words stands).0 (stood words stands) gives in
          let logged = rw (ap message_of gives) at step.log in
          let all : old.log.entries ++ long given ∷ [] ≡ log_of (words ++ word ∷ []) = rw (stands.log, same) (sym logged) in
          record {
            place = ended_place old new field index words word place at flags step;
            log = put (rw all (log_fits words word old.log.room less)) ∙ all;
          };
      result_is = λ words stands.
          let place = in_burst_place old field index words phase stands in
          record { cycle = place.cycle; fields = fields_from old.granted (field + 1); message = (shown words stands).0; is = place.is; left = place.left; gives = (shown words stands).1.0; stands = stood words stands };
    }

-- the place after a word of an epoch
epoch_place : (over : Bool) (phase : Phase) (flags : List Bool) (burst : BurstState) (epoch : EpochState) (whole : List Cycle) (cycle : Cycle) (words : List (List ℕ)) (history : History)
    → phase ≡ phase_after_epoch_word over → over ≡ is_over (epoch_of words) → history ≡ with_epoch whole cycle words → fields_left cycle ≡ [] → EpochStandsFor epoch words
    → InPhase phase flags burst epoch history.begun
epoch_place true phase flags burst epoch whole cycle words history after over is left stands = rw (after, is, ← over) refl
epoch_place false phase flags burst epoch whole cycle words history after over is left stands =
    rw (after, is, ← over) (record { cycle = since_then cycle words; is = refl; left = left; stands = stands })

epoch_ready : (over : Bool) (phase : Phase) (burst : BurstState) (epoch : EpochState) → phase ≡ phase_after_epoch_word over → over ≡ is_done epoch → MayTake phase burst epoch
epoch_ready true phase burst epoch after over = rw after tt
epoch_ready false phase burst epoch after over = rw after (sym over)

epoch_index : (over : Bool) (phase : Phase) → phase ≡ phase_after_epoch_word over → index_of phase ≡ 0
epoch_index true phase after = rw after refl
epoch_index false phase after = rw after refl

-- a word of an epoch taken, where its leaves were put into the log
pub took_leaves : (old new : Reception) (word : List ℕ) (over : Bool) → old.phase ≡ Epoch → ((words : List (List ℕ)) → EpochStandsFor old.epoch words → EpochStandsFor new.epoch (words ++ word ∷ []))
    → ((words : List (List ℕ)) → EpochStandsFor old.epoch words → new.leaves ≡ leaves_at words word) → over ≡ is_done new.epoch → new.phase ≡ phase_after_epoch_word over → new.log.room ≡ old.log.room
    → (FitsRoom (old.log.entries ++ map leaf_entry new.leaves) old.log.room → new.log.entries ≡ old.log.entries ++ map leaf_entry new.leaves) → ReceivesWord old word new (Leaves over)
took_leaves old new word over phase stood out done after room put =
    let in_epoch = λ (words : List (List ℕ)) (stands : Receives old words). subst (λ p. InPhase p old.granted old.burst old.epoch (history_of words).begun) phase stands.place in
    record {
      ready = epoch_ready over new.phase new.burst new.epoch after done;
      index = omega (arith, epoch_index over new.phase after);
      room = room;
      message = tt;
      receives = λ words less stands.
          let place = in_epoch words stands in
          let cycle = place.cycle in
          let now = stood cycle.since place.stands in
          let step = epoch_takes nothing words word cycle place.is place.left in
          let all : old.log.entries ++ map leaf_entry new.leaves ≡ log_of (words ++ word ∷ []) = rw (stands.log, out cycle.since place.stands) (sym step.log) in
          record {
            place = epoch_place over new.phase new.granted new.burst new.epoch (history_of words).whole cycle (cycle.since ++ word ∷ []) (history_of (words ++ word ∷ [])) after (done ∙ now.over) step.history place.left now;
            log = put (rw all (log_fits words word old.log.room less)) ∙ all;
          };
      result_is = λ words stands.
          let place = in_epoch words stands in
          record { cycle = place.cycle; is = place.is; left = place.left; leaves = out place.cycle.since place.stands; ended = done ∙ (stood place.cycle.since place.stands).over };
    }

-- after a word, its effect is that of the last word
pub last_effect : (effect : Effect) (old new : Reception) (words : List (List ℕ)) (word : List ℕ) → ReceivesWord old word new effect → Receives old words → IsOfLast effect new (words ++ word ∷ [])
last_effect effect old new words word receives stands = λ before last all.
    let same = same_from_push words before word last all in
    subst (λ ws. IsEffectOf effect new ws last) (same.0) (subst (λ w. IsEffectOf effect new words w) (same.1) (receives.result_is words stands))

-- no words have no last one
pub no_last : (effect : Effect) (kept : Reception) → IsOfLast effect kept []
no_last effect kept = λ words word none. absurd (omega (arith, ap length none, length-append words (word ∷ [])))
