-- The parts of the net of a trial agree.
use Rattle.std.proofs.Common.{◌≡◌, ℕ, zero, suc, ◌+◌, ◌*◌, ◌<◌, Bool, true, false, cond, not, ◌&&◌, eqb, List, [], ◌∷◌, length, get_or, map, replicate, Option, Some, None, refl, sym, ap, subst, ◌∙◌, arith, eq-eqb}
use Rattle.std.specs.List.{All, list_any, find, range_with_len, enumerate_from}
use Rattle.std.proofs.lemmas.List.{get_or-map, length-map, length-replicate}
use Rattle.std.proofs.lemmas.List.Elements.{All-nil, All-head, All-tail, All-map, All-from_get_or}
use Rattle.std.proofs.lemmas.List.Folds.{list_any_at}
use Rattle.std.proofs.lemmas.List.FromFn.{length-range_with_len, length-map-range_with_len, get_or-range_with_len, get_or-map-range_with_len}
use Rattle.dc_spec.specs.Scripts.{Turn, all_sum, Script}
use Rattle.dc_spec.specs.Pads.{Pair, Keys}
use Rattle.dc_spec.specs.Entries.{Stream}
use Rattle.dc_spec.specs.Net.{Net}
use Rattle.dc_graph.specs.Graph.{PlainGraph}
use Rattle.dc_keyfile.specs.Generator.{generated_pair, generated_keys}
use Rattle.dc_script.specs.Quiet.{quiet_script}
use Rattle.dc_net_rules.specs.Agreement.{key_stations, key_words, script_rounds, first_of, first_by, missing_key, stray_key, stream_fault, station_fault, delivery_fault, rule_fault, Agrees}
use Rattle.dc_net.specs.Checked.{IsChecked}
use Rattle.dc_net.specs.TrialNets.{trial_base, trial_edges, trial_stream, trial_script, trial_net}

-- ---- lists in which nothing is found

none_of : {A : Type 0} (os : List (Option A)) → All (λ o. o ≡ None) os → first_of os ≡ None
none_of [] none = refl
none_of (o ∷ os) none =
    rw (All-head (λ x. x ≡ None) o os none) (none_of os (All-tail (λ x. x ≡ None) o os none))

passed : {A : Type 0} (o : Option A) (os : List (Option A)) → o ≡ None → first_of os ≡ None → first_of (o ∷ os) ≡ None
passed o os none rest = rw none rest

none_by : {A B : Type 0} (f : A → Option B) (xs : List A) → All (λ x. f x ≡ None) xs → first_by f xs ≡ None
none_by f xs none = none_of (map f xs) (All-map (λ o. o ≡ None) f xs none)

none_found : {A : Type 0} (p : A → Bool) (xs : List A) → All (λ x. p x ≡ false) xs → find p xs ≡ None
none_found p [] none = refl
none_found p (x ∷ xs) none =
    rw (All-head (λ y. p y ≡ false) x xs none) (none_found p xs (All-tail (λ y. p y ≡ false) x xs none))

-- a turn that has no fault in any round
none_in_turns : {B : Type 0} (f : ℕ × Turn → Option B) (turn : Turn) → ((t : ℕ) → f (t, turn) ≡ None)
    → (a count : ℕ) → first_by f (enumerate_from a (replicate count turn)) ≡ None
none_in_turns f turn none a zero = refl
none_in_turns f turn none a (suc count) = rw (none a) (none_in_turns f turn none (a + 1) count)

-- ---- keys

same_ends : (e : ℕ × ℕ) → (eqb e.0 e.0 && eqb e.1 e.1) ≡ true
same_ends e = rw (eq-eqb e.0 e.0 refl, eq-eqb e.1 e.1 refl) refl

has_pair : (base : List ℕ) (m : ℕ) (es : List (ℕ × ℕ)) (k : ℕ) → k < length es
    → list_any (λ pair. eqb pair.u (get_or es k (0, 0)).0 && eqb pair.v (get_or es k (0, 0)).1) (map (generated_pair base m) es) ≡ true
has_pair base m es k lt =
    let e = get_or es k (0, 0) in
    let none = generated_pair base m (0, 0) in
    let at : get_or (map (generated_pair base m) es) k none ≡ generated_pair base m e = get_or-map (generated_pair base m) es k (0, 0) none lt in
    list_any_at (λ pair. eqb pair.u (get_or es k (0, 0)).0 && eqb pair.v (get_or es k (0, 0)).1) (map (generated_pair base m) es) k none
    (omega (arith, length-map es (generated_pair base m))) (rw at (same_ends e))

has_edge_of : (es : List (ℕ × ℕ)) (k : ℕ) → k < length es
    → list_any (λ e. eqb e.0 (get_or es k (0, 0)).0 && eqb e.1 (get_or es k (0, 0)).1) es ≡ true
has_edge_of es k lt =
    list_any_at (λ e. eqb e.0 (get_or es k (0, 0)).0 && eqb e.1 (get_or es k (0, 0)).1) es k (0, 0) lt (same_ends (get_or es k (0, 0)))

-- ---- a net of generated keys, a stream for each station and a quiet script without a coalition

abbrev plain_net : List ℕ → List (ℕ × ℕ) → (ℕ → Stream) → ℕ → ℕ → Net
plain_net base es stream n words = record {
  stations = n;
  edges = es;
  coalition = [];
  keys = generated_keys base (record { stations = n; edges = es }) words;
  streams = map (λ i. Some (stream i)) (range_with_len 0 n);
  script = trial_script words;
  words = words;
}

no_missing : (base : List ℕ) (es : List (ℕ × ℕ)) (stream : ℕ → Stream) (n words : ℕ) → missing_key (plain_net base es stream n words) ≡ None
no_missing base es stream n words =
    let p : ℕ × ℕ → Bool = λ e. not (list_any (λ pair. eqb pair.u e.0 && eqb pair.v e.1) (map (generated_pair base (16 * words)) es)) in
    let none : find p es ≡ None = none_found p es (All-from_get_or (λ e. p e ≡ false) es (0, 0) (λ k lt. ap not (has_pair base (16 * words) es k lt))) in
    rw none refl

no_stray : (base : List ℕ) (es : List (ℕ × ℕ)) (stream : ℕ → Stream) (n words : ℕ) → stray_key (plain_net base es stream n words) ≡ None
no_stray base es stream n words =
    let p : Pair → Bool = λ pair. not (list_any (λ e. eqb e.0 pair.u && eqb e.1 pair.v) es) in
    let none : find p (map (generated_pair base (16 * words)) es) ≡ None =
    none_found p (map (generated_pair base (16 * words)) es) (All-map (λ pair. p pair ≡ false) (generated_pair base (16 * words)) es
    (All-from_get_or (λ e. p (generated_pair base (16 * words) e) ≡ false) es (0, 0) (λ k lt. ap not (has_edge_of es k lt)))) in
    rw none refl

has_stream : (base : List ℕ) (es : List (ℕ × ℕ)) (stream : ℕ → Stream) (n words k : ℕ) → k < n → stream_fault (plain_net base es stream n words) k ≡ None
has_stream base es stream n words k lt =
    let there : get_or (map (λ i. Some (stream i)) (range_with_len 0 n)) k None ≡ Some (stream k) =
    get_or-map-range_with_len (λ i. Some (stream i)) 0 n k k None lt (omega arith) in
    rw there refl

all_streams : (base : List ℕ) (es : List (ℕ × ℕ)) (stream : ℕ → Stream) (n words : ℕ) → first_by (stream_fault (plain_net base es stream n words)) (range_with_len 0 n) ≡ None
all_streams base es stream n words =
    let P : ℕ → Type 0 = λ i. stream_fault (plain_net base es stream n words) i ≡ None in
    none_by (stream_fault (plain_net base es stream n words)) (range_with_len 0 n) (All-from_get_or P (range_with_len 0 n) 0 (λ k lt.
    let below : k < n = omega (arith, length-range_with_len 0 n) in
    let is : 0 + k ≡ k = omega arith in
    let at : k ≡ get_or (range_with_len 0 n) k 0 = sym (get_or-range_with_len 0 n k 0 below ∙ is) in
    subst P at (has_stream base es stream n words k below)))

abbrev quiet_turn : Turn
quiet_turn = record { says = []; delivery = all_sum }

plain_agrees : (base : List ℕ) (es : List (ℕ × ℕ)) (stream : ℕ → Stream) (n words : ℕ) → Agrees (plain_net base es stream n words)
plain_agrees base es stream n words =
    let stations : cond (eqb n n) None (Some (key_stations n n)) ≡ None = rw (eq-eqb n n refl) refl in
    let sizes : cond (eqb words words) None (Some (key_words words words)) ≡ None = rw (eq-eqb words words refl) refl in
    let rounds : cond (eqb (length (replicate words quiet_turn)) words) None (Some (script_rounds (length (replicate words quiet_turn)) words)) ≡ None =
    rw (length-replicate words quiet_turn, eq-eqb words words refl) refl in
    passed _ _ stations
    (passed _ _ sizes
    (passed _ _ (no_missing base es stream n words)
    (passed _ _ (no_stray base es stream n words)
    (passed _ _ (all_streams base es stream n words)
    (passed _ _ rounds
    (passed _ _ (none_in_turns (station_fault (plain_net base es stream n words)) quiet_turn (λ t. refl) 0 words)
    (passed _ _ (none_in_turns (delivery_fault (plain_net base es stream n words)) quiet_turn (λ t. refl) 0 words)
    (passed _ _ (none_in_turns (rule_fault (plain_net base es stream n words)) quiet_turn (λ t. refl) 0 words)
    refl))))))))

-- the net of a trial
pub trial_checked : (seed n words : ℕ) → IsChecked (trial_net seed n words)
trial_checked seed n words = record {
  agrees = plain_agrees (trial_base seed) (trial_edges n) (trial_stream (trial_base seed)) n words;
  streams = length-map-range_with_len (λ i. Some (trial_stream (trial_base seed) i)) 0 n;
  members = All-nil (λ m. m < n);
}

-- it is made of its parts
pub trial_made : (seed n words : ℕ) (base : List ℕ) (es : List (ℕ × ℕ)) (g : PlainGraph) (members : List ℕ) (keys : Keys) (streams : List (Option Stream)) (script : Script)
    → base ≡ trial_base seed → es ≡ trial_edges n → g ≡ record { stations = n; edges = es } → members ≡ [] → keys ≡ generated_keys base g words
    → script ≡ quiet_script members words → streams ≡ map (λ i. Some (trial_stream base i)) (range_with_len 0 n)
    → record { stations = g.stations; edges = g.edges; coalition = members; keys = keys; streams = streams; script = script; words = words } ≡ trial_net seed n words
trial_made seed n words base es g members keys streams script is_base are_edges is_graph nobody are_keys is_script are_streams =
    rw (are_streams, is_script, are_keys, nobody, is_graph, are_edges, is_base) refl
