-- The changes from what was received are the steering of the net, and its keys steer it.
use Rattle.std.proofs.Common.{◌≡◌, ◌≢◌, ℕ, ◌+◌, ◌*◌, ◌/◌, ◌%◌, ◌<◌, List, ◌++◌, length, drop, replicate, slice_index, Option, Some, None, sym, ◌∙◌, ap, ap₂, subst, arith}
use Rattle.std.proofs.lemmas.List.{length-map, length-drop}
use Rattle.dc_spec.specs.Words.{AreWords, word_sub}
use Rattle.dc_spec.specs.Pads.{Keys}
use Rattle.dc_spec.specs.Net.{Net}
use Rattle.dc_key_rules.specs.PairKeys.{symbols}
use Rattle.dc_net_rules.specs.Nets.{IsNet}
use Rattle.dc_net_rules.specs.Runs.{Round, history, all_rounds, run_of}
use Rattle.dc_net_rules.proofs.RoundLemmas.{length-rounds_of, length-history}
use Rattle.dc_net_rules.proofs.Agreeing.{all_agree}
use Rattle.dc_steering_rules.specs.Steerings.{Steering, first_difference, steered_from, second_changes, first_changes, changes_between, steering_of}
use Rattle.dc_steering_rules.specs.Counting.{IsSteeredTo, heard_symbols}
use Rattle.dc_steering_rules.proofs.SteeringLemmas.{computed-steers}
use Rattle.dc_steering_rules.proofs.ReceivedWords.{heard_count, heard_are, differ_at}
use Rattle.dc_steering_rules.proofs.LaterSums.{changes_are}
use Rattle.dc_steering_rules.proofs.EquallyMany.{steered_net_is_steered}
use Rattle.dc_steer.specs.Changes.{changes_for}
use Rattle.dc_steer.specs.Gains.{gains}
use Rattle.dc_steer.specs.Faults.{heard_difference, steer_fault}
use Rattle.dc_steer.specs.Tests.{ends_fault, rounds_fault}
use Rattle.dc_steer.specs.SteeredKeys.{AreChangesFor, steered_keys}
use Rattle.dc_steer.specs.declared.fault.SteerFault.{SteerFault}
use Rattle.dc_steer.specs.Steered.{IsKeySteering, with_keys, steered_of, with_new_keys}
use Rattle.dc_steer.proofs.HonestEnds.{ends_good, are_stations}
use Rattle.dc_steer.proofs.FaultChain.{ends_faultless}
use Rattle.dc_steer.proofs.LaterRounds.{AreSteerable, rounds_good}
use Rattle.dc_steer.proofs.Zipped.{length-zipped}
use Rattle.dc_steer.proofs.Faultless.{may_steer}

-- the changes for what a net's stations received
abbrev pub changes_of : Net → ℕ → ℕ → List (List ℕ) → Steering
changes_of net u v wanted =
    changes_for (history (all_rounds net) u) (history (all_rounds net) v) (gains (drop (heard_difference net u v / 16 + 1) (run_of net).sums) wanted)

pub steering_is : (net : Net) (u v : ℕ) (wanted : List (List ℕ)) → changes_of net u v wanted ≡ steering_of net u v wanted
steering_is net u v wanted =
    let p = heard_difference net u v in
    let cu = heard_symbols net u in
    let e = replicate (steered_from p) 0 ++ symbols (gains (drop (p / 16 + 1) (run_of net).sums) wanted) in
    let by : ℕ → Steering = λ n. (
    let y = second_changes cu (heard_symbols net v) e (16 * n) in record { round = p / 16; symbol = p % 16; first = first_changes cu y (16 * n); second = y }) in
    ap by (length-history net net.words u)

-- as many sums as words
pub sums-count : (net : Net) → length (run_of net).sums ≡ net.words
sums-count net = length-map (all_rounds net) (λ (r : Round). r.sum) ∙ length-rounds_of net net.words

-- the steered keys give the wanted sums
pub steered-wanted : (net : Net) (u v : ℕ) (wanted : List (List ℕ)) → IsNet net → ends_fault net u v ≡ None
    → rounds_fault net (heard_difference net u v) wanted ≡ None → AreWords wanted →
    IsSteeredTo net v (heard_difference net u v / 16) wanted (with_new_keys net (steered_of net u v wanted).keys)
steered-wanted net u v wanted is ends rounds words =
    steered_net_is_steered net u v (heard_difference net u v / 16) (may_steer net u v wanted is ends rounds) wanted words
    (rounds_good net (heard_difference net u v) wanted rounds).count

-- the first difference of stations that may be steered
differ : (net : Net) (u v : ℕ) → u < net.stations → v < net.stations → heard_difference net u v < 16 * net.words
    → slice_index (heard_symbols net u) (heard_difference net u v) ≢ slice_index (heard_symbols net v) (heard_difference net u v)
differ net u v low_u low_v within =
    let in_u = heard_count net u low_u in
    let in_v = heard_count net v low_v in
    differ_at (heard_symbols net u) (heard_symbols net v) (omega arith) (in_u ∙ sym in_v)

-- a change for each pad, none for the first second pad
pub fitting : (net : Net) (u v : ℕ) (wanted : List (List ℕ)) → IsNet net → ends_fault net u v ≡ None → rounds_fault net (heard_difference net u v) wanted ≡ None →
    AreChangesFor net.keys.words (steering_of net u v wanted)
fitting net u v wanted is ends rounds =
    let are = ends_good net u v ends in
    let low = are_stations net u v is.graph are.edge in
    let p = heard_difference net u v in
    let within = (rounds_good net (heard_difference net u v) wanted rounds).differ in
    let given = drop (p / 16 + 1) (run_of net).sums in
    let st = computed-steers (heard_symbols net u) (heard_symbols net v) (changes_between (heard_difference net u v / 16 + 1) given wanted) (16 * net.words)
    (heard_are net u low.0) (heard_are net v low.1) (changes_are (heard_difference net u v / 16 + 1) given wanted) (differ net u v low.0 low.1 within) in
    subst (λ (t : ℕ). AreChangesFor t (steering_of net u v wanted)) (sym (all_agree net is.agrees).words)
    (record { first_changes = st.first.many; second_changes = st.second.many; no_first = st.early 0 (later (heard_difference net u v)) })
  where
    later : (p : ℕ) → 0 + p < 16 * (p / 16 + 1)
    later p = omega arith

-- ---- the call, step by step

-- what is known of two stations without a fault
pub record Found (net : Net) (u v : ℕ) (wanted cu cv : List (List ℕ)) (p : ℕ) : Type 0 where
  pub smaller : cu ≡ history (all_rounds net) u
  pub larger : cv ≡ history (all_rounds net) v
  pub place : p ≡ heard_difference net u v
  pub none : rounds_fault net (heard_difference net u v) wanted ≡ None
  pub steerable : AreSteerable net (heard_difference net u v) wanted
  pub count : length cu ≡ net.words
  pub as_many : length cv ≡ net.words

heard_is : (net : Net) (u v : ℕ) (cu cv : List (List ℕ)) (p : ℕ) → cu ≡ history (all_rounds net) u → cv ≡ history (all_rounds net) v
    → p ≡ first_difference (symbols cu) (symbols cv) → p ≡ heard_difference net u v
heard_is net u v cu cv p smaller larger is = is ∙ ap₂ (λ (us vs : List (List ℕ)). first_difference (symbols us) (symbols vs)) smaller larger

pub found : (net : Net) (u v : ℕ) (wanted cu cv : List (List ℕ)) (p : ℕ) (r : Option SteerFault) → cu ≡ history (all_rounds net) u → cv ≡ history (all_rounds net) v
    → p ≡ first_difference (symbols cu) (symbols cv) → r ≡ rounds_fault net p wanted → r ≡ None → Found net u v wanted cu cv p
found net u v wanted cu cv p r smaller larger is tested passed =
    let place = heard_is net u v cu cv p smaller larger is in
    let none = ap (λ (q : ℕ). rounds_fault net q wanted) (sym place) ∙ sym tested ∙ passed in
    record {
      smaller = smaller;
      larger = larger;
      place = place;
      none = none;
      steerable = rounds_good net (heard_difference net u v) wanted none;
      count = ap (λ (ws : List (List ℕ)). length ws) smaller ∙ length-history net net.words u;
      as_many = ap (λ (ws : List (List ℕ)). length ws) larger ∙ length-history net net.words v;
    }

-- a fault of the rounds is the first one
pub rounds_faulty : (net : Net) (u v : ℕ) (wanted cu cv : List (List ℕ)) (p : ℕ) (fault : SteerFault) → ends_fault net u v ≡ None → cu ≡ history (all_rounds net) u
    → cv ≡ history (all_rounds net) v → p ≡ first_difference (symbols cu) (symbols cv) → rounds_fault net p wanted ≡ Some fault → steer_fault net u v wanted ≡ Some fault
rounds_faulty net u v wanted cu cv p fault ends smaller larger is faulty =
    ends_faultless net u v wanted ends ∙ ap (λ (q : ℕ). rounds_fault net q wanted) (sym (heard_is net u v cu cv p smaller larger is)) ∙ faulty

-- as many later sums as wanted words
pub later_sums : (net : Net) (u v : ℕ) (wanted cu cv sums ws : List (List ℕ)) (p : ℕ) → Found net u v wanted cu cv p → sums ≡ (run_of net).sums → ws ≡ wanted
    → p / 16 + 1 + length ws ≡ length sums
later_sums net u v wanted cu cv sums ws p f all as_wanted =
    let place = f.place in
    let within = f.steerable.differ in
    let many = f.steerable.count in
    let long = ap (λ (xs : List (List ℕ)). length xs) all ∙ sums-count net in
    let same = ap (λ (xs : List (List ℕ)). length xs) as_wanted in
    omega arith

-- and as many gains
pub later_gains : (sums ws gs : List (List ℕ)) (from : ℕ) → from + length ws ≡ length sums → gs ≡ gains (drop from sums) ws → from + length gs ≡ length sums
later_gains sums ws gs from fit is =
    let long = length-drop from sums in
    let same = ap (λ (xs : List (List ℕ)). length xs) is ∙ length-zipped (λ (x : List ℕ × List ℕ). word_sub x.0 x.1) ws (drop from sums) (omega arith) in
    omega arith

-- the changes that were computed are the steering
pub changes_are_due : (net : Net) (u v : ℕ) (wanted cu cv sums ws gs : List (List ℕ)) (p : ℕ) (changes : Steering)
    → Found net u v wanted cu cv p → sums ≡ (run_of net).sums → ws ≡ wanted → gs ≡ gains (drop (p / 16 + 1) sums) ws → changes ≡ changes_for cu cv gs → changes ≡ steering_of net u v wanted
changes_are_due net u v wanted cu cv sums ws gs p changes f all as_wanted gained is =
    let gs_is : gs ≡ gains (drop (heard_difference net u v / 16 + 1) (run_of net).sums) wanted = gained ∙ ap (λ (q : ℕ). gains (drop (q / 16 + 1) sums) ws) f.place
    ∙ ap₂ (λ (xs ys : List (List ℕ)). gains (drop (heard_difference net u v / 16 + 1) xs) ys) all as_wanted in
    is ∙ ap (λ (us : List (List ℕ)). changes_for us cv gs) f.smaller ∙ ap (λ (vs : List (List ℕ)). changes_for (history (all_rounds net) u) vs gs) f.larger
    ∙ ap (λ (xs : List (List ℕ)). changes_for (history (all_rounds net) u) (history (all_rounds net) v) xs) gs_is ∙ steering_is net u v wanted

-- with the keys it is the steering of the net
pub whole : (net : Net) (u v : ℕ) (wanted : List (List ℕ)) (shown changes : Steering) (own keys : Keys)
    → shown ≡ changes → changes ≡ steering_of net u v wanted → own ≡ net.keys → keys ≡ steered_keys u v changes own → with_keys shown keys ≡ steered_of net u v wanted
whole net u v wanted shown changes own keys as_shown is same made =
    ap₂ with_keys (as_shown ∙ is) (made ∙ ap₂ (λ (c : Steering) (k : Keys). steered_keys u v c k) is same)

-- which has a change for each pad
pub fits : (net : Net) (u v : ℕ) (wanted : List (List ℕ)) → IsNet net → ends_fault net u v ≡ None → rounds_fault net (heard_difference net u v) wanted ≡ None →
    IsKeySteering (steered_of net u v wanted)
fits net u v wanted is ends none =
    let are = fitting net u v wanted is ends none in
    record { most_words = is.keys.most_words; first_changes = are.first_changes; second_changes = are.second_changes }
