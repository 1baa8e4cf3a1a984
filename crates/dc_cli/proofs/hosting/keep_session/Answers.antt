use Rattle.std.proofs.Common.{ℕ, List, refl, subst}
use Rattle.dc_spec.specs.Outside.{ShelfState, SinkState}
use Rattle.dc_spec.specs.Recorded.{Recorded, IsRecorded, transcript_bytes}
use Rattle.dc_spec.specs.Text.{words_text}
use Rattle.dc_hub_rules.specs.Hubs.{Arrival}
use Rattle.dc_superpose.specs.HubCore.{HubState, StandsFor, IsRecordOf}
use Rattle.dc_cli.specs.Altering.{WritesThenPuts}
use Rattle.dc_cli.specs.Hosting.{Keeps, Holds}
use Rattle.dc_cli.specs.declared.hosting.Session.{Session}
use Rattle.dc_cli.specs.declared.outcome.Outcome.{Outcome}
use Rattle.dc_cli.proofs.hosting.keep_session.Goals as goal

-- the accepted words were kept
kept : (core : HubState) (target : List ℕ) (s s' : ShelfState) (o o' : SinkState) (outcome : Outcome) (t : Recorded) (session : Session) → IsRecorded t
    → ((stations rounds : ℕ) (arrivals : List Arrival) → StandsFor core stations rounds arrivals → IsRecordOf stations rounds arrivals t)
    → Holds t session → WritesThenPuts target session.bytes (words_text session.sums) s s' o o' outcome → Keeps core target s s' o o' outcome
kept core target s s' o o' outcome t session recorded accepted holds writes =
    let B : List ℕ → Type 0 = λ b. WritesThenPuts target b (words_text session.sums) s s' o o' outcome in
    let T : List (List ℕ) → Type 0 = λ ws. WritesThenPuts target (transcript_bytes t) (words_text ws) s s' o o' outcome in
    record { session = t; recorded = recorded; accepted = accepted; writes = subst T holds.sums_are (subst B holds.bytes_are writes) }

pub returns-in-Ok : goal.returns-in-Ok
returns-in-Ok g c =
    kept _ _ _ _ _ _ _ c.finish-transcript.result c.in-Ok.session (subst IsRecorded c.transcript.view_is c.transcript.invariant)
    c.finish-transcript.ensures.accepted c.in-Ok.ensures c.write_session.ensures

pub returns : goal.returns
returns g c = record {
  session = c.finish-transcript.result;
  recorded = subst IsRecorded c.transcript.view_is c.transcript.invariant;
  accepted = c.finish-transcript.ensures.accepted;
  writes = (refl, refl);
}
