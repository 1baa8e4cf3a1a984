-- The theorems on nets, said of the net whose view or logs were printed.
use Rattle.std.proofs.Common.{◌≡◌, ℕ, ◌/◌, List, [], Option, None, Some, Result, Ok, Err, refl, sym, ap, ◌∙◌}
use Rattle.dc_spec.specs.Outside.{ShelfState, SinkState, grown}
use Rattle.dc_spec.specs.Net.{Net}
use Rattle.dc_field.specs.declared.list_fault.ListFault.{ListFault}
use Rattle.dc_formats.specs.KeyFile.{keys_bytes}
use Rattle.dc_graph.specs.Images.{perm_from_bytes}
use Rattle.dc_net_rules.specs.Nets.{IsNet}
use Rattle.dc_run_texts.specs.View.{view_text}
use Rattle.dc_twin_rules.specs.Twins.{Admits, shifts, twin}
use Rattle.dc_twin_rules.specs.Shifts.{shifts_text}
use Rattle.dc_twin.specs.Faults.{twin_fault}
use Rattle.dc_twin.specs.declared.fault.TwinFault.{TwinFault}
use Rattle.dc_twin.proofs.Faultless.{faultless}
use Rattle.dc_twin_rules.proofs.Histories.{image-place}
use Rattle.dc_twin_rules.proofs.Rounds.{rounds-kept, alike-kept}
use Rattle.dc_twin_rules.proofs.Kept.{net-kept}
use Rattle.dc_twin_rules.proofs.Views.{view-kept}
use Rattle.dc_twin_rules.proofs.Back.{inverse-admitted, twin-back}
use Rattle.dc_steering_rules.specs.Counting.{MaySteer}
use Rattle.dc_steering_rules.specs.Steerings.{steering_of, steered_net}
use Rattle.dc_steering_rules.specs.SteeringText.{steering_text}
use Rattle.dc_steer.specs.Faults.{heard_difference, steer_fault}
use Rattle.dc_steer.specs.Wanted.{wanted_from_bytes}
use Rattle.dc_steer.specs.declared.fault.SteerFault.{SteerFault}
use Rattle.dc_steer.proofs.Faultless.{faultless as faultless_pair}
use Rattle.dc_steering_rules.proofs.EquallyMany.{key_lists_as_many, own_list, heard_alike, steered_net_is_steered}
use Rattle.dc_message_rules.proofs.Deliveries.{histories-sums}
use Rattle.dc_message_rules.proofs.PlainSums.{sums-plain, logs-agree}
use Rattle.dc_message_rules.proofs.NetBalance.{messages-balance}
use Rattle.dc_message_rules.proofs.NetCycles.{nothing-void, epochs-rise, net-lengths}
use Rattle.dc_cli.specs.Replaying.{RunPrinted}
use Rattle.dc_cli.specs.Theorems.{HasView, HasTwin, PrintedUntraceably, AreSteerable, DeliversAll, IsUntraceable, IsSteerable, DeliversMessages, TwinWritten, WritesTwin, SteeringWritten, WritesSteering}
use Rattle.dc_cli.specs.Commands.{twin as twin_task, steer as steer_task}
use Rattle.dc_cli.specs.Altering.{altered}
use Rattle.dc_cli.specs.Alterations.{WroteKeys}
use Rattle.dc_cli.specs.Twinning.{twin_by, twin_of, twinning}
use Rattle.dc_cli.specs.Steering.{steer_by, steer_of, steering}
use Rattle.dc_cli.specs.Promises.{Call}
use Rattle.dc_cli.proofs.WantedLemmas.{wanted_are_words}
use Rattle.dc_cli.proofs.PromiseLemmas.{HasRun, PrintsView-run, PrintsLogs-run, AltersNets-run}

twins_have : (text : List ℕ) (net : Net) (p : List ℕ) → HasView text net → Admits net p → HasTwin text net p
twins_have text net p has admits = record {
  view = record {
    is_net = net-kept net p has.is_net admits;
    alike = alike-kept net p has.is_net has.alike admits;
    seen = view-kept net p has.is_net has.alike admits ∙ has.seen;
  };
  rounds = rounds-kept net p has.is_net has.alike admits;
  streams = image-place net p admits.permutation;
  admits_inverse = inverse-admitted net p admits;
  back = twin-back net p has.is_net has.alike admits;
}

untraceably : (name : List ℕ) (s s' : ShelfState) (o o' : SinkState) → RunPrinted view_text name s s' o o' → PrintedUntraceably name s s' o o'
untraceably name s s' o o' printed = record {
  printed = printed;
  written = λ alike p admits. printed.written ∙ ap (λ (text : List ℕ). grown o.written text) (sym (view-kept printed.net p printed.is_net alike admits));
  own = λ alike. record { is_net = printed.is_net; alike = alike; seen = refl };
  twins = λ net p has admits. twins_have _ net p has admits;
}

are_steerable : (net : Net) (u v s : ℕ) → MaySteer net u v s → AreSteerable net u v s
are_steerable net u v s may = record {
  own = own_list net u v s may;
  steered = λ w w' are are' many k is. key_lists_as_many net u v s may w w' are are' many k is;
  heard = λ w k is i low. heard_alike net u v s may w k is i low;
}

delivers_all : (net : Net) → IsNet net → net.coalition ≡ [] → DeliversAll net
delivers_all net is none = record {
  received = λ t le i low. histories-sums net is none t le i low;
  plain = λ t less. sums-plain net is none t less;
  alike = λ t le i j low_i low_j. logs-agree net is none t le i j low_i low_j;
  not_void = λ t le i low before cycle at. (let p = nothing-void net is none t le i low before cycle at.0 at.1 in record { bursts = p.0; epoch = p.1 });
  rising = λ t le i low before cycle at over. epochs-rise net is none t le i low before cycle at.0 at.1 over;
  count = λ t le i low before cycle at over. net-lengths net is none t le i low before cycle at.0 at.1 over;
  balance = λ t le i low message. messages-balance net is none t le i low message;
}

pub IsUntraceable-run : (c : Call) → HasRun c → IsUntraceable c
IsUntraceable-run c ran = λ e net workers p. untraceably net c.shelf c.shelf' c.out c.out' (PrintsView-run c ran e net workers p)

pub IsSteerable-run : (c : Call) → HasRun c → IsSteerable c
IsSteerable-run c ran = λ e net workers p.
    let printed = PrintsView-run c ran e net workers p in
    record { printed = printed; steerable = λ u v s may. are_steerable printed.net u v s may }

pub DeliversMessages-run : (c : Call) → HasRun c → DeliversMessages c
DeliversMessages-run c ran = λ e net p.
    let printed = PrintsLogs-run c ran e net p in
    record { printed = printed; delivers = λ none. delivers_all printed.net printed.is_net none }

-- a twin that was made: there was no fault
record MadeTwin (net : Net) (read : Result (List ℕ) ListFault) (keys text : List ℕ) : Type 0 where
  images : List ℕ
  is_read : read ≡ Ok images
  faultless_images : twin_fault net images ≡ None
  keys_are : keys ≡ keys_bytes (twin net images).keys
  text_is : text ≡ shifts_text (shifts net images)

twin_by-made : (net : Net) (p : List ℕ) (fault : Option TwinFault) (keys text : List ℕ) → twin_by net p fault ≡ altered keys text
    → (fault ≡ None) × (keys ≡ keys_bytes (twin net p).keys) × (text ≡ shifts_text (shifts net p))
twin_by-made net p (Some fault) keys text e = absurd cc
twin_by-made net p None keys text e = (refl, cc, cc)

twin_of-made : (net : Net) (read : Result (List ℕ) ListFault) (keys text : List ℕ) → twin_of net read ≡ altered keys text → MadeTwin net read keys text
twin_of-made net (Err fault) keys text e = absurd cc
twin_of-made net (Ok p) keys text e =
    let made = twin_by-made net p (twin_fault net p) keys text e in
    record { images = p; is_read = refl; faultless_images = made.0; keys_are = made.1; text_is = made.2 }

twin_written : (net perm target : List ℕ) (s s' : ShelfState) (o o' : SinkState) (w : WroteKeys net (twinning perm target) s s') → o'.written ≡ grown o.written w.text
    → TwinWritten net (twinning perm target) s s' o o'
twin_written net perm target s s' o o' w printed =
    let n = w.made.net in
    let made = twin_of-made n (perm_from_bytes w.made.bytes) w.keys w.text w.made.due_is in
    let fine = (faultless n made.images w.made.is_net.graph).0 made.faultless_images in
    record {
      wrote = w;
      printed = printed;
      images = made.images;
      read = made.is_read;
      admits = fine.0;
      alike = fine.1;
      keys = made.keys_are;
      text = made.text_is;
      has = twins_have _ n made.images (record { is_net = w.made.is_net; alike = fine.1; seen = refl }) fine.0;
    }

pub WritesTwin-run : (c : Call) → HasRun c → WritesTwin c
WritesTwin-run c ran = λ e net perm target p.
    let w = (AltersNets-run c ran (twin_task net perm target) net (twinning perm target) p refl).printed e in
    twin_written net perm target c.shelf c.shelf' c.out c.out' w.0 w.1

-- a steering that was made
record MadeSteering (net : Net) (u v : ℕ) (read : Result (List (List ℕ)) ListFault) (keys text : List ℕ) : Type 0 where
  wanted : List (List ℕ)
  is_read : read ≡ Ok wanted
  faultless_words : steer_fault net u v wanted ≡ None
  keys_are : keys ≡ keys_bytes (steered_net net u v wanted).keys
  text_is : text ≡ steering_text (steering_of net u v wanted)

steer_by-made : (net : Net) (u v : ℕ) (wanted : List (List ℕ)) (fault : Option SteerFault) (keys text : List ℕ) → steer_by net u v wanted fault ≡ altered keys text
    → (fault ≡ None) × (keys ≡ keys_bytes (steered_net net u v wanted).keys) × (text ≡ steering_text (steering_of net u v wanted))
steer_by-made net u v wanted (Some fault) keys text e = absurd cc
steer_by-made net u v wanted None keys text e = (refl, cc, cc)

steer_of-made : (net : Net) (u v : ℕ) (read : Result (List (List ℕ)) ListFault) (keys text : List ℕ) → steer_of net u v read ≡ altered keys text → MadeSteering net u v read keys text
steer_of-made net u v (Err fault) keys text e = absurd cc
steer_of-made net u v (Ok wanted) keys text e =
    let made = steer_by-made net u v wanted (steer_fault net u v wanted) keys text e in
    record { wanted = wanted; is_read = refl; faultless_words = made.0; keys_are = made.1; text_is = made.2 }

steering_written : (net : List ℕ) (u v : ℕ) (wanted target : List ℕ) (s s' : ShelfState) (o o' : SinkState) (w : WroteKeys net (steering u v wanted target) s s')
    → o'.written ≡ grown o.written w.text → SteeringWritten net u v (steering u v wanted target) s s' o o'
steering_written net u v wanted target s s' o o' w printed =
    let n = w.made.net in
    let made = steer_of-made n u v (wanted_from_bytes w.made.bytes) w.keys w.text w.made.due_is in
    let fine = (faultless_pair n u v made.wanted w.made.is_net).0 made.faultless_words in
    let round = heard_difference n u v / 16 in
    record {
      wrote = w;
      printed = printed;
      wanted = made.wanted;
      read = made.is_read;
      round = round;
      may = fine.0;
      count = fine.1;
      keys = made.keys_are;
      text = made.text_is;
      steered = steered_net_is_steered n u v round fine.0 made.wanted (wanted_are_words w.made.bytes made.wanted made.is_read) fine.1;
      steerable = are_steerable n u v round fine.0;
    }

pub WritesSteering-run : (c : Call) → HasRun c → WritesSteering c
WritesSteering-run c ran = λ e net u v wanted target p.
    let w = (AltersNets-run c ran (steer_task net u v wanted target) net (steering u v wanted target) p refl).printed e in
    steering_written net u v wanted target c.shelf c.shelf' c.out c.out' w.0 w.1
