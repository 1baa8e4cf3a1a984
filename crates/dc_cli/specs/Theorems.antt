-- What the theorems on nets say of the net whose view or logs were printed.
use Rattle.std.specs.Prelude.{ℕ, ◌+◌, ◌-◌, ◌<◌, ◌≤◌, ◌≡◌, true, List, [], ◌∷◌, ◌++◌, length, map, drop, take, sum_by, slice_index, slice_index_or, None, Ok}
use Rattle.std.specs.List.{range_with_len, AllByRecursion}
use Rattle.dc_spec.specs.Words.{AreWords}
use Rattle.dc_spec.specs.Pads.{Pair}
use Rattle.dc_spec.specs.Net.{Net}
use Rattle.dc_spec.specs.Outside.{ShelfState, SinkState, grown}
use Rattle.dc_station_rules.specs.Bursts.{IsMessageBurst}
use Rattle.dc_station_rules.specs.Cycles.{Cycle, cycles, epoch_words, history_of}
use Rattle.dc_station_rules.specs.Epochs.{Leaf, EpochFault, void_epoch, epoch_of, leaves, is_over}
use Rattle.dc_station_rules.specs.Stations.{left_after, log_of, sent_of}
use Rattle.dc_net_rules.specs.Bags.{Message, count_in}
use Rattle.dc_net_rules.specs.Nets.{IsNet}
use Rattle.dc_net_rules.specs.Runs.{all_rounds, rounds_of, history, run_of, station_stream, IsAlike}
use Rattle.dc_message_rules.specs.PlainSums.{plain_sum}
use Rattle.dc_message_rules.specs.SentEpochs.{Delivers, epoch_length}
use Rattle.dc_message_rules.specs.Undisturbed.{first_values}
use Rattle.dc_run_texts.specs.View.{view_text}
use Rattle.dc_run_texts.specs.Logs.{logs_text}
use Rattle.dc_formats.specs.KeyFile.{keys_bytes}
use Rattle.dc_graph.specs.Images.{perm_from_bytes}
use Rattle.dc_steer.specs.Wanted.{wanted_from_bytes}
use Rattle.dc_twin_rules.specs.Twins.{Admits, inverse, shifts, twin}
use Rattle.dc_twin_rules.specs.Shifts.{shifts_text}
use Rattle.dc_steering_rules.specs.Steerings.{with_pair, steering_of, steered_net}
use Rattle.dc_steering_rules.specs.SteeringText.{steering_text}
use Rattle.dc_steering_rules.specs.Counting.{MaySteer, IsKeyListFor, OthersSayTheSame, IsSteeredTo, steered_between, own_pair, heard_symbols}
use Rattle.dc_cli.specs.Replaying.{RunPrinted}
use Rattle.dc_cli.specs.Altering.{Alteration}
use Rattle.dc_cli.specs.Alterations.{WroteKeys}
use Rattle.dc_cli.specs.Twinning.{twinning}
use Rattle.dc_cli.specs.Steering.{steering}
use Rattle.dc_cli.specs.Commands.{replay, logs, twin as twin_task, steer as steer_task, Spells}
use Rattle.dc_cli.specs.Promises.{Call}
use Rattle.dc_cli.specs.declared.outcome.Outcome.TheVariants.{Done}

-- a net of files whose honest stations receive alike, and whose view is this text
pub record HasView (text : List ℕ) (net : Net) : Type 0 where
  pub is_net : IsNet net
  pub alike : IsAlike net
  pub seen : view_text net (run_of net) ≡ text

-- The twin of such a net by a permutation of joined honest stations has this view too, and the same rounds: the words of all
-- stations, their sums, what each station receives. In it the image of a station has the stream of that station. Its twin by the
-- inverse permutation is the net.
pub record HasTwin (text : List ℕ) (net : Net) (p : List ℕ) : Type 0 where
  pub view : HasView text (twin net p)
  pub rounds : all_rounds (twin net p) ≡ all_rounds net
  pub streams : (i : ℕ) → i < net.stations → slice_index_or (twin net p).streams (slice_index p i) None ≡ slice_index_or net.streams i None
  pub admits_inverse : Admits (twin net p) (inverse p)
  pub back : twin (twin net p) (inverse p) ≡ net

-- A view was printed. Where the honest stations of its net receive alike:
--   written: for every permutation that the net admits, what was printed is the view of the twin too, the same bytes.
--   own, twins: the net is one of the nets that have this view, and each of these nets has twins that have it too.
pub record PrintedUntraceably (name : List ℕ) (shelf shelf' : ShelfState) (out out' : SinkState) : Type 0 where
  pub printed : RunPrinted view_text name shelf shelf' out out'
  pub written : IsAlike printed.net → (p : List ℕ) → Admits printed.net p
      → out'.written ≡ grown out.written (view_text (twin printed.net p) (run_of (twin printed.net p)))
  pub own : IsAlike printed.net → HasView (view_text printed.net (run_of printed.net)) printed.net
  pub twins : (net : Net) (p : List ℕ) → HasView (view_text printed.net (run_of printed.net)) net → Admits net p
      → HasTwin (view_text printed.net (run_of printed.net)) net p

-- Honest neighbours u < v of a net first received different words in round s, and the script fixes all later rounds.
--   own: the pads of the net's own pair are a key list for the later sums of its run.
--   steered: pads that are a key list for later sums w become one for any other sums w' by a steering, and the steering back gives
--     them again, so there are as many key lists for w' as for w. Each station but v says the same words.
--   heard: with each key list all stations receive what they receive in the run of the net.
pub record AreSteerable (net : Net) (u v s : ℕ) : Type 0 where
  pub own : IsKeyListFor net u v s (drop (s + 1) (run_of net).sums) (own_pair net u v)
  pub steered : (w w' : List (List ℕ)) → AreWords w → AreWords w' → length w' ≡ net.words - (s + 1) → (k : Pair) → IsKeyListFor net u v s w k →
      (let k' = steered_between net s k w w' in
      IsKeyListFor net u v s w' k' × (steered_between net s k' w' w ≡ k) × OthersSayTheSame (with_pair net k) (with_pair net k') v)
  pub heard : (w : List (List ℕ)) (k : Pair) → IsKeyListFor net u v s w k → (i : ℕ) → i < net.stations
      → heard_symbols (with_pair net k) i ≡ heard_symbols net i

-- a view was printed, and all neighbours of its net that may be steered are steerable
pub record PrintedSteerably (name : List ℕ) (shelf shelf' : ShelfState) (out out' : SinkState) : Type 0 where
  pub printed : RunPrinted view_text name shelf shelf' out out'
  pub steerable : (u v s : ℕ) → MaySteer printed.net u v s → AreSteerable printed.net u v s

-- a cycle of what a station received in the first t rounds of a net
abbrev pub IsCycle : Net → ℕ → ℕ → List Cycle → Cycle → Type 0
IsCycle net t i before cycle = (after : List Cycle) × (cycles (history_of (history (rounds_of net t) i)) ≡ before ++ cycle ∷ after)

-- no burst that has ended is void in a cycle, and its epoch is not
pub record IsNotVoid (cycle : Cycle) : Type 0 where
  pub bursts : AllByRecursion (λ (b : ℕ × List (List ℕ)). (message : List ℕ) × IsMessageBurst b.1 message) cycle.bursts
  pub epoch : (out : List Leaf) (fault : EpochFault) → epoch_of (epoch_words cycle) ≡ void_epoch out fault → ⊥

-- A net delivers what its stations send, after each round t.
--   received: what each station received is the sums of the rounds; plain: each sum is that of the plain words of all stations.
--   alike: all stations have one log.
--   not_void: no burst and no epoch is void.
--   rising: each whole epoch delivers the values sent in its root, in rising order, each as often as it was sent there; count: it
--     takes one word for each value and one more for each that is repeated, or one where nobody sends.
--   balance: each station's log has each message as often as it is in the lists of what all stations sent together.
pub record DeliversAll (net : Net) : Type 0 where
  pub received : (t : ℕ) → t ≤ net.words → (i : ℕ) → i < net.stations → history (rounds_of net t) i ≡ take t (run_of net).sums
  pub plain : (t : ℕ) → t < net.words → slice_index_or (run_of net).sums t [] ≡ plain_sum net (take t (run_of net).sums)
  pub alike : (t : ℕ) → t ≤ net.words → (i j : ℕ) → i < net.stations → j < net.stations
      → log_of (history (rounds_of net t) i) ≡ log_of (history (rounds_of net t) j)
  pub not_void : (t : ℕ) → t ≤ net.words → (i : ℕ) → i < net.stations → (before : List Cycle) (cycle : Cycle) → IsCycle net t i before cycle → IsNotVoid cycle
  pub rising : (t : ℕ) → t ≤ net.words → (i : ℕ) → i < net.stations → (before : List Cycle) (cycle : Cycle) → IsCycle net t i before cycle
      → is_over (epoch_of (epoch_words cycle)) ≡ true
      → Delivers (first_values (map (λ j. left_after (station_stream net j) before) (range_with_len 0 net.stations))) (leaves (epoch_of (epoch_words cycle)))
  pub count : (t : ℕ) → t ≤ net.words → (i : ℕ) → i < net.stations → (before : List Cycle) (cycle : Cycle) → IsCycle net t i before cycle
      → is_over (epoch_of (epoch_words cycle)) ≡ true → length (epoch_words cycle) ≡ epoch_length (leaves (epoch_of (epoch_words cycle)))
  pub balance : (t : ℕ) → t ≤ net.words → (i : ℕ) → i < net.stations → (message : Message)
      → count_in message (log_of (history (rounds_of net t) i))
      ≡ sum_by (λ j. count_in message (sent_of (station_stream net j) (history (rounds_of net t) j))) (range_with_len 0 net.stations)

-- logs were printed, and where their net has no coalition, it delivers what its stations send
pub record PrintedAll (name : List ℕ) (shelf shelf' : ShelfState) (out out' : SinkState) : Type 0 where
  pub printed : RunPrinted logs_text name shelf shelf' out out'
  pub delivers : printed.net.coalition ≡ [] → DeliversAll printed.net

-- where `replay` is done and the honest stations of the net receive alike, the view that was printed is also that of its twins
abbrev pub IsUntraceable : Call → Type 0
IsUntraceable c = c.outcome ≡ Done → (net : List ℕ) (workers : ℕ) → Spells c.words (replay net workers) → PrintedUntraceably net c.shelf c.shelf' c.out c.out'

-- where `replay` is done, and two honest neighbours of its net received different words, each list of the later sums comes from as many
-- of their keys as any other
abbrev pub IsSteerable : Call → Type 0
IsSteerable c = c.outcome ≡ Done → (net : List ℕ) (workers : ℕ) → Spells c.words (replay net workers) → PrintedSteerably net c.shelf c.shelf' c.out c.out'

-- where `logs` is done, and the net has no coalition, the logs hold each message as often as it was sent
abbrev pub DeliversMessages : Call → Type 0
DeliversMessages c = c.outcome ≡ Done → (net : List ℕ) → Spells c.words (logs net) → PrintedAll net c.shelf c.shelf' c.out c.out'

-- The twin of a net was written: the net of the manifest admits the images of the list, and its honest stations receive alike.
--   keys, text: the target holds the key file of the twin, and its shifts were printed.
--   has: the twin has the view that `replay` prints of the net, and the same rounds; its twin by the inverse permutation is the net.
pub record TwinWritten (source : List ℕ) (m : Alteration) (shelf shelf' : ShelfState) (out out' : SinkState) : Type 0 where
  pub wrote : WroteKeys source m shelf shelf'
  pub printed : out'.written ≡ grown out.written wrote.text
  pub images : List ℕ
  pub read : perm_from_bytes wrote.made.bytes ≡ Ok images
  pub admits : Admits wrote.made.net images
  pub alike : IsAlike wrote.made.net
  pub keys : wrote.keys ≡ keys_bytes (twin wrote.made.net images).keys
  pub text : wrote.text ≡ shifts_text (shifts wrote.made.net images)
  pub has : HasTwin (view_text wrote.made.net (run_of wrote.made.net)) wrote.made.net images

-- where `twin` is done, it wrote the twin
abbrev pub WritesTwin : Call → Type 0
WritesTwin c = c.outcome ≡ Done → (net perm target : List ℕ) → Spells c.words (twin_task net perm target) → TwinWritten net (twinning perm target) c.shelf c.shelf' c.out c.out'

-- A steered net was written: u < v are honest neighbours of the net of the manifest that first received different words in a round, the
-- script fixes all later rounds, and there is a wanted word for each of them.
--   keys, text: the target holds the key file of the steered net, and the changes were printed.
--   steered: in the steered net all words up to that round are the same, the later sums are the wanted words, and each station but v
--     says the same words.
--   steerable: each list of later sums comes from as many pads of the pair as any other.
pub record SteeringWritten (source : List ℕ) (u v : ℕ) (m : Alteration) (shelf shelf' : ShelfState) (out out' : SinkState) : Type 0 where
  pub wrote : WroteKeys source m shelf shelf'
  pub printed : out'.written ≡ grown out.written wrote.text
  pub wanted : List (List ℕ)
  pub read : wanted_from_bytes wrote.made.bytes ≡ Ok wanted
  pub round : ℕ
  pub may : MaySteer wrote.made.net u v round
  pub count : length wanted ≡ wrote.made.net.words - (round + 1)
  pub keys : wrote.keys ≡ keys_bytes (steered_net wrote.made.net u v wanted).keys
  pub text : wrote.text ≡ steering_text (steering_of wrote.made.net u v wanted)
  pub steered : IsSteeredTo wrote.made.net v round wanted (steered_net wrote.made.net u v wanted)
  pub steerable : AreSteerable wrote.made.net u v round

-- where `steer` is done, it wrote the steered net
abbrev pub WritesSteering : Call → Type 0
WritesSteering c = c.outcome ≡ Done → (net : List ℕ) (u v : ℕ) (wanted target : List ℕ) → Spells c.words (steer_task net u v wanted target)
    → SteeringWritten net u v (steering u v wanted target) c.shelf c.shelf' c.out c.out'
