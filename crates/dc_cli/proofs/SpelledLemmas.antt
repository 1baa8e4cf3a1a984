-- The words of a command line that spell a command are a form, and spell no other command.
use Rattle.std.proofs.Common.{◌≡◌, ℕ, Bool, true, false, List, [], ◌∷◌, ◌++◌, Option, Some, refl, sym, ap, ◌∙◌, subst}
use Rattle.std.specs.Prelude.{IsTrue, codes, slice_index_or, unwrap_or}
use Rattle.std.specs.Str.{bytes_eq}
use Rattle.std.proofs.lemmas.Slice.Eq.{bytes_eq-Decides}
use Rattle.dc_spec.specs.Limits.{most_stations}
use Rattle.dc_cli.specs.Forms.{Slot, number, number_between, fits, spells, workers_slots, most_words_of, stations_in, words_slots, stations_slots, trial_slots, is_name, is_form}
use Rattle.dc_cli.specs.Commands.{Task, sum, keygen, keygen_seeds, migrate, replay, logs, twin, steer, station, hub, trial, SpellsKeygen, SpellsTwin, SpellsSteer, SpellsStation, SpellsHub, SpellsWorkers, unsaid, said, SpellsTrial, Spells}

-- a name as a test of its truth
name_is : (b : Bool) → IsTrue b → b ≡ true
name_is true h = refl
name_is false h = h

replay_form : (words : List (List ℕ)) (net : List ℕ) (workers : ℕ) (rest : List (List ℕ)) {after : List (List ℕ)} → words ≡ codes "replay" ∷ after → after ≡ net ∷ rest
    → is_name net ≡ true → SpellsWorkers rest workers → is_form words ≡ true
replay_form words net workers rest a b named (unsaid none one) = rw (a, b, none, named) refl
replay_form words net workers rest a b named (said digits are counted) = rw (a, b, are, named, counted) refl

-- a word that fits its place
spells_step : (slot : Slot) (slots : List Slot) (word : List ℕ) (words : List (List ℕ)) → fits slot word ≡ true → spells (slot ∷ slots) (word ∷ words) ≡ spells slots words
spells_step slot slots word words e = rw e refl

fits_number : (low high n : ℕ) (word : List ℕ) → number_between low high word ≡ Some n → fits (number low high) word ≡ true
fits_number low high n word e = rw e refl

-- the three numbers of a trial fit
three_fit : (words : List (List ℕ)) (seed stations count workers : ℕ) (q : SpellsTrial words seed stations count workers) (slots : List Slot)
    → spells (trial_slots q.of_stations ++ slots) (q.of_seed ∷ q.of_stations ∷ q.of_count ∷ q.rest) ≡ spells slots q.rest
three_fit words seed stations count workers q slots =
    let there : stations_in q.of_stations ≡ stations = ap (λ (o : Option ℕ). unwrap_or o 1) q.stations_are in
    let few : number_between 1 (most_words_of (stations_in q.of_stations)) q.of_count ≡ Some count
    = ap (λ (n : ℕ). number_between 1 (most_words_of n) q.of_count) there ∙ q.count_is in
    spells_step (number 0 4294967295) (stations_slots q.of_stations ++ slots) q.of_seed (q.of_stations ∷ q.of_count ∷ q.rest) (fits_number 0 4294967295 seed q.of_seed q.seed_is)
    ∙ spells_step (number 1 most_stations) (words_slots (stations_in q.of_stations) ++ slots) q.of_stations (q.of_count ∷ q.rest) (fits_number 1 most_stations stations q.of_stations q.stations_are)
    ∙ spells_step (number 1 (most_words_of (stations_in q.of_stations))) slots q.of_count q.rest (fits_number 1 (most_words_of (stations_in q.of_stations)) count q.of_count few)

form_unsaid : (words : List (List ℕ)) → spells (trial_slots (slice_index_or words 1 [])) words ≡ true → is_form (codes "trial" ∷ words) ≡ true
form_unsaid words fit = rw fit refl

form_said : (words : List (List ℕ)) → spells (trial_slots (slice_index_or words 1 [])) words ≡ false → spells (trial_slots (slice_index_or words 1 []) ++ workers_slots) words ≡ true
    → is_form (codes "trial" ∷ words) ≡ true
form_said words more fit = rw (more, fit) refl

trial_form : (words : List (List ℕ)) (seed stations count workers : ℕ) → (q : SpellsTrial words seed stations count workers) → SpellsWorkers q.rest workers → is_form (codes "trial" ∷ words) ≡ true
trial_form words seed stations count workers q (unsaid none one) =
    let all = q.of_seed ∷ q.of_stations ∷ q.of_count ∷ q.rest in
    let fit : spells (trial_slots q.of_stations) all ≡ true = three_fit words seed stations count workers q [] ∙ ap (spells []) none in
    let form : is_form (codes "trial" ∷ all) ≡ true = form_unsaid all fit in
    ap (λ (ws : List (List ℕ)). is_form (codes "trial" ∷ ws)) q.words_are ∙ form
trial_form words seed stations count workers q (said digits are counted) =
    let all = q.of_seed ∷ q.of_stations ∷ q.of_count ∷ q.rest in
    let more : spells (trial_slots q.of_stations) all ≡ false = three_fit words seed stations count workers q [] ∙ ap (spells []) are in
    let option : spells workers_slots (codes "--workers" ∷ digits ∷ []) ≡ true = rw counted refl in
    let fit : spells (trial_slots q.of_stations ++ workers_slots) all ≡ true = three_fit words seed stations count workers q workers_slots ∙ ap (spells workers_slots) are ∙ option in
    let form : is_form (codes "trial" ∷ all) ≡ true = form_said all more fit in
    ap (λ (ws : List (List ℕ)). is_form (codes "trial" ∷ ws)) q.words_are ∙ form

twin_form : (words : List (List ℕ)) (net perm target : List ℕ) → SpellsTwin words net perm target → is_form (codes "twin" ∷ words) ≡ true
twin_form words net perm target q =
    let net_named : is_name net ≡ true = name_is (is_name net) q.net_is in
    let perm_named : is_name perm ≡ true = name_is (is_name perm) q.perm_is in
    let target_named : is_name target ≡ true = name_is (is_name target) q.target_is in
    rw (q.words_are, net_named, perm_named, target_named) refl

steer_form : (words : List (List ℕ)) (net : List ℕ) (u v : ℕ) (wanted target : List ℕ) → SpellsSteer words net u v wanted target → is_form (codes "steer" ∷ words) ≡ true
steer_form words net u v wanted target q =
    let ends = q.ends in
    let second = ends.second in
    let names = second.names in
    let net_named : is_name net ≡ true = name_is (is_name net) q.net_is in
    let wanted_named : is_name wanted ≡ true = name_is (is_name wanted) names.wanted_is in
    let target_named : is_name target ≡ true = name_is (is_name target) names.target_is in
    rw (q.words_are, ends.words_are, second.words_are, names.words_are, net_named, ends.u_is, second.v_is, wanted_named, target_named) refl

station_form : (words : List (List ℕ)) (addr : List ℕ) (id : ℕ) (keys stream : List ℕ) → SpellsStation words addr id keys stream → is_form (codes "station" ∷ words) ≡ true
station_form words addr id keys stream q =
    let player = q.player in
    let files = player.files in
    let addr_named : is_name addr ≡ true = name_is (is_name addr) q.addr_is in
    let keys_named : is_name keys ≡ true = name_is (is_name keys) files.keys_is in
    let stream_named : is_name stream ≡ true = name_is (is_name stream) files.stream_is in
    rw (q.words_are, player.words_are, files.words_are, addr_named, player.id_is, keys_named, stream_named) refl

hub_form : (words : List (List ℕ)) (addr : List ℕ) (stations count : ℕ) (target : List ℕ) → SpellsHub words addr stations count target → is_form (codes "hub" ∷ words) ≡ true
hub_form words addr stations count target q =
    let hosted = q.hosted in
    let counted = hosted.length in
    let named = counted.named in
    let addr_named : is_name addr ≡ true = name_is (is_name addr) q.addr_is in
    let target_named : is_name target ≡ true = name_is (is_name target) named.target_is in
    rw (q.words_are, hosted.words_are, counted.words_are, named.words_are, addr_named, hosted.stations_are, counted.count_is, target_named) refl

-- the words of a command are a form
Spells-form : (words : List (List ℕ)) (command : Task) → Spells words command → is_form words ≡ true
Spells-form words (sum file) p = let named : is_name file ≡ true = name_is (is_name file) p.1 in rw (p.0, named) refl
Spells-form words (keygen seed net target) p =
    let net_named : is_name net ≡ true = name_is (is_name net) p.2.net_is in
    let target_named : is_name target ≡ true = name_is (is_name target) p.2.target_is in
    rw (p.1, p.2.words_are, p.2.seed_is, net_named, target_named) refl
Spells-form words (keygen_seeds seed net target) p =
    let net_named : is_name net ≡ true = name_is (is_name net) p.2.net_is in
    let target_named : is_name target ≡ true = name_is (is_name target) p.2.target_is in
    rw (p.1, p.2.words_are, p.2.seed_is, net_named, target_named) refl
Spells-form words (migrate keys target) p =
    let keys_named : is_name keys ≡ true = name_is (is_name keys) p.1 in
    let target_named : is_name target ≡ true = name_is (is_name target) p.2 in
    rw (p.0, keys_named, target_named) refl
Spells-form words (replay net workers) p =
    let q = p.2 in
    replay_form words net workers q.rest p.1 q.words_are (name_is (is_name net) q.net_is) q.workers_are
Spells-form words (logs net) p = let named : is_name net ≡ true = name_is (is_name net) p.1 in rw (p.0, named) refl
Spells-form words (twin net perm target) p = ap is_form p.1 ∙ twin_form p.0 net perm target p.2
Spells-form words (steer net u v wanted target) p = ap is_form p.1 ∙ steer_form p.0 net u v wanted target p.2
Spells-form words (station addr id keys stream) p = ap is_form p.1 ∙ station_form p.0 addr id keys stream p.2
Spells-form words (hub addr stations count target) p = ap is_form p.1 ∙ hub_form p.0 addr stations count target p.2
Spells-form words (trial seed stations count workers) p = ap is_form p.1 ∙ trial_form p.0 seed stations count workers p.2 p.2.workers_are

pub not_both : (words : List (List ℕ)) (command : Task) → Spells words command → is_form words ≡ false → ⊥
not_both words command p refused = let is = Spells-form words command p in absurd cc

-- the words of `keygen` spell one seed, two names and the words after these
record SameKeygen (seed net target : List ℕ) (flags : List (List ℕ)) (seed' net' target' : List ℕ) (flags' : List (List ℕ)) : Type 0 where
  seed_is : seed ≡ seed'
  net_is : net ≡ net'
  target_is : target ≡ target'
  flags_are : flags ≡ flags'

same_keygen : (words : List (List ℕ)) (seed net target : List ℕ) (flags : List (List ℕ)) (seed' net' target' : List ℕ) (flags' : List (List ℕ)) → SpellsKeygen words seed net target flags
    → SpellsKeygen words seed' net' target' flags' → SameKeygen seed net target flags seed' net' target' flags'
same_keygen words seed net target flags seed' net' target' flags' p q =
    let a = p.words_are in
    let b = q.words_are in
    let a_seed = p.seed_is in
    let b_seed = q.seed_is in
    record { seed_is = cc; net_is = cc; target_is = cc; flags_are = cc }

-- the words after the first one, where the first is the same
same_rest : (words rest rest' : List (List ℕ)) (first : List ℕ) → words ≡ first ∷ rest → words ≡ first ∷ rest' → rest ≡ rest'
same_rest words rest rest' first a b = cc

same_workers : (words : List (List ℕ)) (n m : ℕ) → SpellsWorkers words n → SpellsWorkers words m → n ≡ m
same_workers words n m (unsaid none one) (unsaid none' one') = one ∙ sym one'
same_workers words n m (unsaid none one) (said digits are counted) = absurd cc
same_workers words n m (said digits are counted) (unsaid none one) = absurd cc
same_workers words n m (said digits are counted) (said digits' are' counted') = cc

-- the words of a trial spell one trial
same_trial : (words : List (List ℕ)) (seed stations count workers seed' stations' count' workers' : ℕ) → SpellsTrial words seed stations count workers
    → SpellsTrial words seed' stations' count' workers' → trial seed stations count workers ≡ trial seed' stations' count' workers'
same_trial words seed stations count workers seed' stations' count' workers' p q =
    let a = p.words_are in
    let b = q.words_are in
    let rests : q.rest ≡ p.rest = cc in
    let a_seed = p.seed_is in
    let b_seed = q.seed_is in
    let seeds : seed ≡ seed' = cc in
    let a_stations = p.stations_are in
    let b_stations = q.stations_are in
    let among : stations ≡ stations' = cc in
    let a_count = p.count_is in
    let b_count = q.count_is in
    let counts : count ≡ count' = cc in
    let W : List (List ℕ) → Type 0 = λ ws. SpellsWorkers ws workers' in
    let shared : workers ≡ workers' = same_workers p.rest workers workers' p.workers_are (subst W rests q.workers_are) in
    cc

-- the words of `twin` spell three names
same_twin : (words : List (List ℕ)) (net perm target net' perm' target' : List ℕ) → SpellsTwin words net perm target → SpellsTwin words net' perm' target'
    → twin net perm target ≡ twin net' perm' target'
same_twin words net perm target net' perm' target' p q = let a = p.words_are in let b = q.words_are in cc

-- the words of `steer` spell one steering
same_steer : (words : List (List ℕ)) (net : List ℕ) (u v : ℕ) (wanted target net' : List ℕ) (u' v' : ℕ) (wanted' target' : List ℕ)
    → SpellsSteer words net u v wanted target → SpellsSteer words net' u' v' wanted' target' → steer net u v wanted target ≡ steer net' u' v' wanted' target'
same_steer words net u v wanted target net' u' v' wanted' target' p q =
    let a = p.words_are in
    let b = q.words_are in
    let nets : net ≡ net' = cc in
    let rests : p.rest ≡ q.rest = cc in
    let a_ends = p.ends.words_are in
    let b_ends = q.ends.words_are in
    let digits : p.ends.digits ≡ q.ends.digits = cc in
    let later : p.ends.rest ≡ q.ends.rest = cc in
    let a_u = p.ends.u_is in
    let b_u = q.ends.u_is in
    let firsts : u ≡ u' = cc in
    let a_second = p.ends.second.words_are in
    let b_second = q.ends.second.words_are in
    let digits_of_v : p.ends.second.digits ≡ q.ends.second.digits = cc in
    let last : p.ends.second.rest ≡ q.ends.second.rest = cc in
    let a_v = p.ends.second.v_is in
    let b_v = q.ends.second.v_is in
    let seconds : v ≡ v' = cc in
    let a_names = p.ends.second.names.words_are in
    let b_names = q.ends.second.names.words_are in
    let listed : wanted ≡ wanted' = cc in
    let targets : target ≡ target' = cc in
    cc

-- the words of `station` spell one station
same_station : (words : List (List ℕ)) (addr : List ℕ) (id : ℕ) (keys stream addr' : List ℕ) (id' : ℕ) (keys' stream' : List ℕ)
    → SpellsStation words addr id keys stream → SpellsStation words addr' id' keys' stream' → station addr id keys stream ≡ station addr' id' keys' stream'
same_station words addr id keys stream addr' id' keys' stream' p q =
    let a = p.words_are in
    let b = q.words_are in
    let addresses : addr ≡ addr' = cc in
    let rests : p.rest ≡ q.rest = cc in
    let a_player = p.player.words_are in
    let b_player = q.player.words_are in
    let digits : p.player.digits ≡ q.player.digits = cc in
    let later : p.player.rest ≡ q.player.rest = cc in
    let a_id = p.player.id_is in
    let b_id = q.player.id_is in
    let ids : id ≡ id' = cc in
    let a_files = p.player.files.words_are in
    let b_files = q.player.files.words_are in
    let key_files : keys ≡ keys' = cc in
    let streams : stream ≡ stream' = cc in
    cc

-- the words of `hub` spell one hub
same_hub : (words : List (List ℕ)) (addr : List ℕ) (stations count : ℕ) (target addr' : List ℕ) (stations' count' : ℕ) (target' : List ℕ)
    → SpellsHub words addr stations count target → SpellsHub words addr' stations' count' target' → hub addr stations count target ≡ hub addr' stations' count' target'
same_hub words addr stations count target addr' stations' count' target' p q =
    let a = p.words_are in
    let b = q.words_are in
    let addresses : addr ≡ addr' = cc in
    let rests : p.rest ≡ q.rest = cc in
    let a_hosted = p.hosted.words_are in
    let b_hosted = q.hosted.words_are in
    let digits : p.hosted.digits ≡ q.hosted.digits = cc in
    let later : p.hosted.rest ≡ q.hosted.rest = cc in
    let a_stations = p.hosted.stations_are in
    let b_stations = q.hosted.stations_are in
    let among : stations ≡ stations' = cc in
    let a_length = p.hosted.length.words_are in
    let b_length = q.hosted.length.words_are in
    let digits_of_count : p.hosted.length.digits ≡ q.hosted.length.digits = cc in
    let last : p.hosted.length.rest ≡ q.hosted.length.rest = cc in
    let a_count = p.hosted.length.count_is in
    let b_count = q.hosted.length.count_is in
    let counts : count ≡ count' = cc in
    let a_name = p.hosted.length.named.words_are in
    let b_name = q.hosted.length.named.words_are in
    let targets : target ≡ target' = cc in
    cc

-- the first word
first_word : List (List ℕ) → List ℕ
first_word [] = []
first_word (word ∷ words) = word

-- the first word of a command
verb_of : Task → List ℕ
verb_of (sum file) = codes "sum"
verb_of (keygen seed net target) = codes "keygen"
verb_of (keygen_seeds seed net target) = codes "keygen"
verb_of (migrate keys target) = codes "migrate"
verb_of (replay net workers) = codes "replay"
verb_of (logs net) = codes "logs"
verb_of (twin net perm target) = codes "twin"
verb_of (steer net u v wanted target) = codes "steer"
verb_of (station addr id keys stream) = codes "station"
verb_of (hub addr stations count target) = codes "hub"
verb_of (trial seed stations count workers) = codes "trial"

Spells-verb : (words : List (List ℕ)) (command : Task) → Spells words command → first_word words ≡ verb_of command
unfolding first_word verb_of
Spells-verb words (sum file) p = ap first_word p.0
Spells-verb words (keygen seed net target) p = ap first_word p.1
Spells-verb words (keygen_seeds seed net target) p = ap first_word p.1
Spells-verb words (migrate keys target) p = ap first_word p.0
Spells-verb words (replay net workers) p = ap first_word p.1
Spells-verb words (logs net) p = ap first_word p.0
Spells-verb words (twin net perm target) p = ap first_word p.1
Spells-verb words (steer net u v wanted target) p = ap first_word p.1
Spells-verb words (station addr id keys stream) p = ap first_word p.1
Spells-verb words (hub addr stations count target) p = ap first_word p.1
Spells-verb words (trial seed stations count workers) p = ap first_word p.1

words_differ : (word other : List ℕ) → word ≡ other → bytes_eq word other ≡ false → ⊥
words_differ word other same test = let is : bytes_eq word other ≡ true = (bytes_eq-Decides word other).1 same in absurd cc

-- commands with one first word that the same words spell
with_verb : (words : List (List ℕ)) (a b : Task) → verb_of a ≡ verb_of b → Spells words a → Spells words b → a ≡ b
unfolding verb_of
with_verb words (sum file) (sum other) e p q = let a = p.0 in let b = q.0 in let same : file ≡ other = cc in ap sum same
with_verb words (keygen seed net target) (keygen seed' net' target') e p q =
    let same = same_keygen q.0 seed net target [] seed' net' target' [] (rw (← same_rest words p.0 q.0 (codes "keygen") p.1 q.1) p.2) q.2 in
    λ i. keygen (same.seed_is i) (same.net_is i) (same.target_is i)
with_verb words (keygen seed net target) (keygen_seeds seed' net' target') e p q =
    let same = same_keygen q.0 seed net target [] seed' net' target' (codes "--seeds" ∷ []) (rw (← same_rest words p.0 q.0 (codes "keygen") p.1 q.1) p.2) q.2 in
    let flags = same.flags_are in absurd cc
with_verb words (keygen_seeds seed net target) (keygen seed' net' target') e p q =
    let same = same_keygen q.0 seed net target (codes "--seeds" ∷ []) seed' net' target' [] (rw (← same_rest words p.0 q.0 (codes "keygen") p.1 q.1) p.2) q.2 in
    let flags = same.flags_are in absurd cc
with_verb words (keygen_seeds seed net target) (keygen_seeds seed' net' target') e p q =
    let same = same_keygen q.0 seed net target (codes "--seeds" ∷ []) seed' net' target' (codes "--seeds" ∷ []) (rw (← same_rest words p.0 q.0 (codes "keygen") p.1 q.1) p.2) q.2 in
    λ i. keygen_seeds (same.seed_is i) (same.net_is i) (same.target_is i)
with_verb words (migrate keys target) (migrate keys' target') e p q = let a = p.0 in let b = q.0 in cc
with_verb words (replay net workers) (replay net' workers') e p q =
    let a = p.1 in
    let b = q.1 in
    let a_rest = p.2.words_are in
    let b_rest = q.2.words_are in
    let rests : q.2.rest ≡ p.2.rest = cc in
    let nets : net ≡ net' = cc in
    let W : List (List ℕ) → Type 0 = λ ws. SpellsWorkers ws workers' in
    let counts : workers ≡ workers' = same_workers p.2.rest workers workers' p.2.workers_are (subst W rests q.2.workers_are) in
    cc
with_verb words (logs net) (logs net') e p q = let a = p.0 in let b = q.0 in let same : net ≡ net' = cc in ap logs same
with_verb words (twin net perm target) (twin net' perm' target') e p q =
    same_twin q.0 net perm target net' perm' target' (rw (← same_rest words p.0 q.0 (codes "twin") p.1 q.1) p.2) q.2
with_verb words (steer net u v wanted target) (steer net' u' v' wanted' target') e p q =
    same_steer q.0 net u v wanted target net' u' v' wanted' target' (rw (← same_rest words p.0 q.0 (codes "steer") p.1 q.1) p.2) q.2
with_verb words (station addr id keys stream) (station addr' id' keys' stream') e p q =
    same_station q.0 addr id keys stream addr' id' keys' stream' (rw (← same_rest words p.0 q.0 (codes "station") p.1 q.1) p.2) q.2
with_verb words (hub addr stations count target) (hub addr' stations' count' target') e p q =
    same_hub q.0 addr stations count target addr' stations' count' target' (rw (← same_rest words p.0 q.0 (codes "hub") p.1 q.1) p.2) q.2
with_verb words (trial seed stations count workers) (trial seed' stations' count' workers') e p q =
    same_trial q.0 seed stations count workers seed' stations' count' workers' (rw (← same_rest words p.0 q.0 (codes "trial") p.1 q.1) p.2) q.2
with_verb words (sum file) other e p q = absurd (words_differ (verb_of (sum file)) (verb_of other) e refl)
with_verb words (keygen seed net target) other e p q = absurd (words_differ (verb_of (keygen seed net target)) (verb_of other) e refl)
with_verb words (keygen_seeds seed net target) other e p q = absurd (words_differ (verb_of (keygen_seeds seed net target)) (verb_of other) e refl)
with_verb words (migrate keys target) other e p q = absurd (words_differ (verb_of (migrate keys target)) (verb_of other) e refl)
with_verb words (replay net workers) other e p q = absurd (words_differ (verb_of (replay net workers)) (verb_of other) e refl)
with_verb words (logs net) other e p q = absurd (words_differ (verb_of (logs net)) (verb_of other) e refl)
with_verb words (twin net perm target) other e p q = absurd (words_differ (verb_of (twin net perm target)) (verb_of other) e refl)
with_verb words (steer net u v wanted target) other e p q = absurd (words_differ (verb_of (steer net u v wanted target)) (verb_of other) e refl)
with_verb words (station addr id keys stream) other e p q = absurd (words_differ (verb_of (station addr id keys stream)) (verb_of other) e refl)
with_verb words (hub addr stations count target) other e p q = absurd (words_differ (verb_of (hub addr stations count target)) (verb_of other) e refl)
with_verb words (trial seed stations count workers) other e p q = absurd (words_differ (verb_of (trial seed stations count workers)) (verb_of other) e refl)

-- the words spell one command
pub same_command : (words : List (List ℕ)) (a b : Task) → Spells words a → Spells words b → a ≡ b
same_command words a b p q = with_verb words a b (sym (Spells-verb words a p) ∙ Spells-verb words b q) p q
