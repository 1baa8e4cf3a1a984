-- Words that begin with a fixed word, read as a command.
use Rattle.std.proofs.Common.{◌≡◌, ◌≢◌, ℕ, zero, suc, ◌+◌, max, cond, sym, ap, subst, ◌∙◌, Result, Ok, Err, ◌-◌, ◌<◌, ◌≤◌, Bool, true, false, List, [], ◌∷◌, ◌++◌, length, get_or, take, drop, replicate, String, Option, None, Some, refl, arith}
use Rattle.std.specs.Prelude.{codes, slice_index_or, unwrap_or, fold}
use Rattle.std.specs.String.{string_bytes}
use Rattle.std.specs.Str.{bytes_eq}
use Rattle.std.proofs.lemmas.List.{take_all}
use Rattle.std.proofs.lemmas.Slice.Eq.{bytes_eq-Decides}
use Rattle.dc_spec.specs.Limits.{most_stations, most_words}
use Rattle.dc_cli.specs.Forms.{Slot, literal, name, number, number_between, fits, keygen_slots, seeds_slots, twin_slots, second_slots, ends_slots, steer_slots, player_slots, station_slots, length_slots, hosted_slots, hub_slots, workers_slots, stations_in, words_slots, stations_slots, trial_slots, is_name, texts, begun, spells, is_form, longest_begun}
use Rattle.dc_cli.specs.Commands.{said, SpellsWords, ReadsAs, ReadsAsFile, ReadsAsKeygen, ReadsAsMigrate, ReadsAsLogs, ReadsAsTwin, ReadsAsSteer, ReadsAsEnds, ReadsAsSecond, ReadsAsWanted, ReadsAsStation, ReadsAsPlayer, ReadsAsFiles, ReadsAsHub, ReadsAsHosted, ReadsAsLength, ReadsAsTarget, ReadsAsReplay, ReadsAsTrial, ReadsAsStations, ReadsAsWords, FitsNot, ReadsAsWorkers, ReadsAsCount}
use Rattle.dc_cli.specs.declared.command.Command.{Command}
use Rattle.dc_cli.specs.declared.command.Command.TheVariants.{Sum, Keygen, KeygenSeeds, Migrate, Replay, Logs, Twin, Steer, Station, Hub, Trial}

-- the first word and the others
pub texts-front : {A : Type 0} (xs : List (String A)) (d : String A) → 1 ≤ length xs → texts xs ≡ string_bytes (get_or xs 0 d) ∷ texts (take (length xs - 1) (drop 1 xs))
texts-front [] d le = absurd (omega arith)
texts-front (x ∷ xs) d le =
    let all : take (length (x ∷ xs) - 1) xs ≡ xs = take_all (length (x ∷ xs) - 1) xs (omega arith) in
    rw all refl

not_true : (b : Bool) → (b ≡ true → ⊥) → b ≡ false
not_true true h = absurd (h refl)
not_true false h = refl

-- texts that differ
texts_differ : (word due : List ℕ) → word ≢ due → bytes_eq word due ≡ false
texts_differ word due other = not_true (bytes_eq word due) (λ same. other ((bytes_eq-Decides word due).0 same))

-- words that begin with another word are not a form
pub other_word : (verb : List ℕ) (rest : List (List ℕ)) → verb ≢ codes "sum" → verb ≢ codes "keygen" → verb ≢ codes "migrate" → verb ≢ codes "replay" → verb ≢ codes "logs"
    → verb ≢ codes "twin" → verb ≢ codes "steer" → verb ≢ codes "station" → verb ≢ codes "hub" → verb ≢ codes "trial" → (is_form (verb ∷ rest) ≡ false) × (0 ≡ longest_begun (verb ∷ rest))
other_word verb rest not_sum not_keygen not_migrate not_replay not_logs not_twin not_steer not_station not_hub not_trial =
    let sum = texts_differ verb (codes "sum") not_sum in
    let keygen = texts_differ verb (codes "keygen") not_keygen in
    let migrate = texts_differ verb (codes "migrate") not_migrate in
    let replay = texts_differ verb (codes "replay") not_replay in
    let logs = texts_differ verb (codes "logs") not_logs in
    let twin = texts_differ verb (codes "twin") not_twin in
    let steer = texts_differ verb (codes "steer") not_steer in
    let station = texts_differ verb (codes "station") not_station in
    let hub = texts_differ verb (codes "hub") not_hub in
    let trial = texts_differ verb (codes "trial") not_trial in
    (rw (sum, keygen, migrate, replay, logs, twin, steer, station, hub, trial) refl, rw (sum, keygen, migrate, replay, logs, twin, steer, station, hub, trial) refl)

-- an empty command line is not a form
pub no_words : {A : Type 0} (xs : List (String A)) → length xs < 1 → (is_form (texts xs) ≡ false) × (0 ≡ longest_begun (texts xs))
no_words [] lt = (refl, refl)
no_words (x ∷ xs) lt = absurd (omega arith)

-- a list of one word
pub texts_one : {A : Type 0} (xs : List (String A)) (d : String A) → 1 ≤ length xs → length xs < 2 → texts xs ≡ string_bytes (get_or xs 0 d) ∷ []
texts_one [] d le lt = absurd (omega arith)
texts_one (x ∷ []) d le lt = refl
texts_one (x ∷ y ∷ xs) d le lt = absurd (omega arith)

-- a word that was compared
pub same_text : (word due : List ℕ) → bytes_eq word due ≡ true → word ≡ due
same_text word due test = (bytes_eq-Decides word due).0 test

-- a form that begins with another one is begun as far
begun_more : (slots more : List Slot) (words : List (List ℕ)) → begun slots words ≤ begun (slots ++ more) words
begun_more [] more words = omega arith
begun_more (slot ∷ slots) more [] = omega arith
begun_more (slot ∷ slots) more (word ∷ words) = further (fits slot word) (begun slots words) (begun (slots ++ more) words) (begun_more slots more words)
  where
    further : (b : Bool) (m n : ℕ) → m ≤ n → cond b (suc m) 0 ≤ cond b (suc n) 0
    further true m n le = omega (arith, le)
    further false m n le = omega arith

-- forms that are not begun
zeros : (k n : ℕ) → fold max n (replicate k 0) ≡ n
zeros zero n = refl
zeros (suc k) n = zeros k (max n 0) ∙ (let e : max n 0 ≡ n = omega arith in e)

-- of one form, or of two of which one begins with the other, and others that are not begun
as_far : (k n : ℕ) → fold max (max 0 (suc n)) (replicate k 0) ≡ 1 + n
as_far k n = zeros k (max 0 (suc n)) ∙ (let e : max 0 (suc n) ≡ 1 + n = omega arith in e)

as_far_of_two : (k m n : ℕ) → m ≤ n → fold max (max (max 0 (suc m)) (suc n)) (replicate k 0) ≡ 1 + n
as_far_of_two k m n le = zeros k (max (max 0 (suc m)) (suc n)) ∙ (let e : max (max 0 (suc m)) (suc n) ≡ 1 + n = omega (arith, le) in e)

-- the words after `sum`, read as its file, make the command
pub ReadsAs-sum : (words : List (List ℕ)) (r : Result Command ℕ) → ReadsAsFile words r → ReadsAs (codes "sum" ∷ words) r
ReadsAs-sum words (Ok (Sum file)) p = (ap (λ (ws : List (List ℕ)). codes "sum" ∷ ws) p.0, p.1)
ReadsAs-sum words (Ok _) p = absurd p
ReadsAs-sum words (Err place) p = (rw p.0 refl, p.1 ∙ sym (as_far 12 (begun (name ∷ []) words)))

-- the words after `keygen`, read as its seed, its names and its flag, make the command
pub ReadsAs-keygen : (words : List (List ℕ)) (r : Result Command ℕ) → ReadsAsKeygen words r → ReadsAs (codes "keygen" ∷ words) r
ReadsAs-keygen words (Ok (Keygen seed net target)) p = (words, refl, p)
ReadsAs-keygen words (Ok (KeygenSeeds seed net target)) p = (words, refl, p)
ReadsAs-keygen words (Ok _) p = absurd p
ReadsAs-keygen words (Err place) p =
    (rw (p.0, p.1) refl, p.2 ∙ sym (as_far_of_two 10 (begun keygen_slots words) (begun seeds_slots words) (begun_more keygen_slots (literal (codes "--seeds") ∷ []) words)))

-- the words after `migrate`, read as its names, make the command
pub ReadsAs-migrate : (words : List (List ℕ)) (r : Result Command ℕ) → ReadsAsMigrate words r → ReadsAs (codes "migrate" ∷ words) r
ReadsAs-migrate words (Ok (Migrate keys target)) p = (ap (λ (ws : List (List ℕ)). codes "migrate" ∷ ws) p.0, p.1, p.2)
ReadsAs-migrate words (Ok _) p = absurd p
ReadsAs-migrate words (Err place) p = (rw p.0 refl, p.1 ∙ sym (as_far 9 (begun (name ∷ name ∷ []) words)))

-- the words after `logs`, read as its name, make the command
pub ReadsAs-logs : (words : List (List ℕ)) (r : Result Command ℕ) → ReadsAsLogs words r → ReadsAs (codes "logs" ∷ words) r
ReadsAs-logs words (Ok (Logs net)) p = (ap (λ (ws : List (List ℕ)). codes "logs" ∷ ws) p.0, p.1)
ReadsAs-logs words (Ok _) p = absurd p
ReadsAs-logs words (Err place) p = (rw p.0 refl, p.1 ∙ sym (as_far 6 (begun (name ∷ []) words)))

-- the words after `replay`, read as its name and its number of workers, make the command
pub ReadsAs-replay : (words : List (List ℕ)) (r : Result Command ℕ) → ReadsAsReplay words r → ReadsAs (codes "replay" ∷ words) r
ReadsAs-replay words (Ok (Replay net workers)) p = (words, refl, p)
ReadsAs-replay words (Ok _) p = absurd p
ReadsAs-replay words (Err place) p = (rw (p.0, p.1) refl, p.2 ∙ sym (as_far_of_two 7 (begun (name ∷ []) words) (begun (name ∷ workers_slots) words) (begun_more (name ∷ []) workers_slots words)))

-- the words after `trial`, read as its numbers, make the command
pub ReadsAs-trial : (words : List (List ℕ)) (r : Result Command ℕ) → ReadsAsTrial words r → ReadsAs (codes "trial" ∷ words) r
ReadsAs-trial words (Ok (Trial seed stations count workers)) p = (words, refl, p)
ReadsAs-trial words (Ok _) p = absurd p
ReadsAs-trial words (Err place) p =
    let slots = trial_slots (slice_index_or words 1 []) in
    (rw (p.0, p.1) refl, p.2 ∙ sym (as_far_of_two 0 (begun slots words) (begun (slots ++ workers_slots) words) (begun_more slots workers_slots words)))

one_less : (k n : ℕ) → suc k + n ≡ k + suc n
one_less k n = omega arith

-- the words after `twin`, read as its names, make the command
pub ReadsAs-twin : (words : List (List ℕ)) (r : Result Command ℕ) → ReadsAsTwin words r → ReadsAs (codes "twin" ∷ words) r
ReadsAs-twin words (Ok (Twin net perm target)) p = (words, refl, p)
ReadsAs-twin words (Ok _) p = absurd p
ReadsAs-twin words (Err place) p = (rw p.0 refl, p.1 ∙ sym (as_far 5 (begun twin_slots words)))

-- the words after `steer`, read as its names and stations, make the command
pub ReadsAs-steer : (words : List (List ℕ)) (r : Result Command ℕ) → ReadsAsSteer words r → ReadsAs (codes "steer" ∷ words) r
ReadsAs-steer words (Ok (Steer net u v wanted target)) p = (words, refl, p)
ReadsAs-steer words (Ok _) p = absurd p
ReadsAs-steer words (Err place) p = (rw p.0 refl, p.1 ∙ sym (as_far 4 (begun steer_slots words)))

-- the words after `station`, read as an address and a station, make the command
pub ReadsAs-station : (words : List (List ℕ)) (r : Result Command ℕ) → ReadsAsStation words r → ReadsAs (codes "station" ∷ words) r
ReadsAs-station words (Ok (Station addr id keys stream)) p = (words, refl, p)
ReadsAs-station words (Ok _) p = absurd p
ReadsAs-station words (Err place) p = (rw p.0 refl, p.1 ∙ sym (as_far 3 (begun station_slots words)))

-- the words after `hub`, read as an address and a session, make the command
pub ReadsAs-hub : (words : List (List ℕ)) (r : Result Command ℕ) → ReadsAsHub words r → ReadsAs (codes "hub" ∷ words) r
ReadsAs-hub words (Ok (Hub addr stations count target)) p = (words, refl, p)
ReadsAs-hub words (Ok _) p = absurd p
ReadsAs-hub words (Err place) p = (rw p.0 refl, p.1 ∙ sym (as_far 2 (begun hub_slots words)))

-- a word that fits its place, and those after it, which do not; of places of which so many others stand before them
later_place : (before : ℕ) (slot : Slot) (slots : List Slot) (word : List ℕ) (words : List (List ℕ)) (place : ℕ) → fits slot word ≡ true
    → spells slots words ≡ false → place ≡ suc before + begun slots words
    → (spells (slot ∷ slots) (word ∷ words) ≡ false) × (place ≡ before + begun (slot ∷ slots) (word ∷ words))
later_place before slot slots word words place e a b = (rw (e, a) refl, rw e (b ∙ one_less before (begun slots words)))

-- a word that does not fit its place
first_place : (before : ℕ) (slot : Slot) (slots : List Slot) (word : List ℕ) (words : List (List ℕ)) → fits slot word ≡ false
    → (spells (slot ∷ slots) (word ∷ words) ≡ false) × (before ≡ before + begun (slot ∷ slots) (word ∷ words))
first_place before slot slots word words e = (rw e refl, rw e (omega arith))

-- the words after the name of a manifest, and this name
pub ReadsAsSteer-ends : (net : List ℕ) (words : List (List ℕ)) (r : Result Command ℕ) → is_name net ≡ true → ReadsAsEnds net words r → ReadsAsSteer (net ∷ words) r
ReadsAsSteer-ends net words (Ok (Steer named u v wanted target)) e p =
    record { rest = words; words_are = ap (λ (n : List ℕ). n ∷ words) (sym p.0); net_is = rw p.0 e; ends = p.1 }
ReadsAsSteer-ends net words (Ok _) e p = absurd p
ReadsAsSteer-ends net words (Err place) e p = later_place 1 name ends_slots net words place e p.0 p.1

-- the words after the first station, and this station
pub ReadsAsEnds-second : (net digits : List ℕ) (words : List (List ℕ)) (u : ℕ) (r : Result Command ℕ) → number_between 0 255 digits ≡ Some u
    → ReadsAsSecond net u words r → ReadsAsEnds net (digits ∷ words) r
ReadsAsEnds-second net digits words u (Ok (Steer named seen v wanted target)) e p =
    (p.0, record { digits = digits; rest = words; words_are = refl; u_is = e ∙ ap Some (sym p.1); second = p.2 })
ReadsAsEnds-second net digits words u (Ok _) e p = absurd p
ReadsAsEnds-second net digits words u (Err place) e p = later_place 2 (number 0 255) second_slots digits words place (rw e refl) p.0 p.1

-- the words after the second station, and this station
pub ReadsAsSecond-wanted : (net digits : List ℕ) (words : List (List ℕ)) (u v : ℕ) (r : Result Command ℕ) → number_between 0 255 digits ≡ Some v
    → ReadsAsWanted net u v words r → ReadsAsSecond net u (digits ∷ words) r
ReadsAsSecond-wanted net digits words u v (Ok (Steer named seen other wanted target)) e p =
    (p.0, p.1, record { digits = digits; rest = words; words_are = refl; v_is = e ∙ ap Some (sym p.2); names = p.3 })
ReadsAsSecond-wanted net digits words u v (Ok _) e p = absurd p
ReadsAsSecond-wanted net digits words u v (Err place) e p = later_place 3 (number 0 255) (name ∷ name ∷ []) digits words place (rw e refl) p.0 p.1

-- a word that is no station
pub no_first : {A : Type 0} (xs : List (String A)) (d : String A) (net : List ℕ) → 1 ≤ length xs → number_between 0 255 (string_bytes (get_or xs 0 d)) ≡ None
    → ReadsAsEnds net (texts xs) (Err 2)
no_first [] d net le e = absurd (omega arith)
no_first (x ∷ xs) d net le e = first_place 2 (number 0 255) second_slots (string_bytes x) (texts xs) (rw e refl)

pub no_second : {A : Type 0} (xs : List (String A)) (d : String A) (net : List ℕ) (u : ℕ) → 1 ≤ length xs → number_between 0 255 (string_bytes (get_or xs 0 d)) ≡ None
    → ReadsAsSecond net u (texts xs) (Err 3)
no_second [] d net u le e = absurd (omega arith)
no_second (x ∷ xs) d net u le e = first_place 3 (number 0 255) (name ∷ name ∷ []) (string_bytes x) (texts xs) (rw e refl)

-- the words after an address, and this address
pub ReadsAsStation-player : (addr : List ℕ) (words : List (List ℕ)) (r : Result Command ℕ) → is_name addr ≡ true → ReadsAsPlayer addr words r → ReadsAsStation (addr ∷ words) r
ReadsAsStation-player addr words (Ok (Station at id keys stream)) e p =
    record { rest = words; words_are = ap (λ (n : List ℕ). n ∷ words) (sym p.0); addr_is = rw p.0 e; player = p.1 }
ReadsAsStation-player addr words (Ok _) e p = absurd p
ReadsAsStation-player addr words (Err place) e p = later_place 1 name player_slots addr words place e p.0 p.1

pub ReadsAsHub-hosted : (addr : List ℕ) (words : List (List ℕ)) (r : Result Command ℕ) → is_name addr ≡ true → ReadsAsHosted addr words r → ReadsAsHub (addr ∷ words) r
ReadsAsHub-hosted addr words (Ok (Hub at stations count target)) e p =
    record { rest = words; words_are = ap (λ (n : List ℕ). n ∷ words) (sym p.0); addr_is = rw p.0 e; hosted = p.1 }
ReadsAsHub-hosted addr words (Ok _) e p = absurd p
ReadsAsHub-hosted addr words (Err place) e p = later_place 1 name hosted_slots addr words place e p.0 p.1

-- the words after a number, and this number
pub ReadsAsPlayer-files : (addr digits : List ℕ) (words : List (List ℕ)) (id : ℕ) (r : Result Command ℕ) → number_between 0 255 digits ≡ Some id
    → ReadsAsFiles addr id words r → ReadsAsPlayer addr (digits ∷ words) r
ReadsAsPlayer-files addr digits words id (Ok (Station at seen keys stream)) e p =
    (p.0, record { digits = digits; rest = words; words_are = refl; id_is = e ∙ ap Some (sym p.1); files = p.2 })
ReadsAsPlayer-files addr digits words id (Ok _) e p = absurd p
ReadsAsPlayer-files addr digits words id (Err place) e p = later_place 2 (number 0 255) (name ∷ name ∷ []) digits words place (rw e refl) p.0 p.1

pub ReadsAsHosted-length : (addr digits : List ℕ) (words : List (List ℕ)) (stations : ℕ) (r : Result Command ℕ) → number_between 1 most_stations digits ≡ Some stations
    → ReadsAsLength addr stations words r → ReadsAsHosted addr (digits ∷ words) r
ReadsAsHosted-length addr digits words stations (Ok (Hub at seen count target)) e p =
    (p.0, record { digits = digits; rest = words; words_are = refl; stations_are = e ∙ ap Some (sym p.1); length = p.2 })
ReadsAsHosted-length addr digits words stations (Ok _) e p = absurd p
ReadsAsHosted-length addr digits words stations (Err place) e p = later_place 2 (number 1 most_stations) length_slots digits words place (rw e refl) p.0 p.1

pub ReadsAsLength-target : (addr digits : List ℕ) (words : List (List ℕ)) (stations count : ℕ) (r : Result Command ℕ) → number_between 1 most_words digits ≡ Some count
    → ReadsAsTarget addr stations count words r → ReadsAsLength addr stations (digits ∷ words) r
ReadsAsLength-target addr digits words stations count (Ok (Hub at seen of target)) e p =
    (p.0, p.1, record { digits = digits; rest = words; words_are = refl; count_is = e ∙ ap Some (sym p.2); named = p.3 })
ReadsAsLength-target addr digits words stations count (Ok _) e p = absurd p
ReadsAsLength-target addr digits words stations count (Err place) e p = later_place 3 (number 1 most_words) (name ∷ []) digits words place (rw e refl) p.0 p.1

-- a word that is no number
pub no_player : {A : Type 0} (xs : List (String A)) (d : String A) (addr : List ℕ) → 1 ≤ length xs → number_between 0 255 (string_bytes (get_or xs 0 d)) ≡ None
    → ReadsAsPlayer addr (texts xs) (Err 2)
no_player [] d addr le e = absurd (omega arith)
no_player (x ∷ xs) d addr le e = first_place 2 (number 0 255) (name ∷ name ∷ []) (string_bytes x) (texts xs) (rw e refl)

pub no_hosted : {A : Type 0} (xs : List (String A)) (d : String A) (addr : List ℕ) → 1 ≤ length xs → number_between 1 most_stations (string_bytes (get_or xs 0 d)) ≡ None
    → ReadsAsHosted addr (texts xs) (Err 2)
no_hosted [] d addr le e = absurd (omega arith)
no_hosted (x ∷ xs) d addr le e = first_place 2 (number 1 most_stations) length_slots (string_bytes x) (texts xs) (rw e refl)

pub no_length : {A : Type 0} (xs : List (String A)) (d : String A) (addr : List ℕ) (stations : ℕ) → 1 ≤ length xs → number_between 1 most_words (string_bytes (get_or xs 0 d)) ≡ None
    → ReadsAsLength addr stations (texts xs) (Err 3)
no_length [] d addr stations le e = absurd (omega arith)
no_length (x ∷ xs) d addr stations le e = first_place 3 (number 1 most_words) (name ∷ []) (string_bytes x) (texts xs) (rw e refl)

-- the first word does not fit
pub FitsNot-first : (before : ℕ) (slot : Slot) (slots : List Slot) (word : List ℕ) (words : List (List ℕ)) → fits slot word ≡ false → FitsNot before (slot ∷ slots) (word ∷ words) before
FitsNot-first before slot slots word words e = (rw e refl, rw e refl, rw e (omega arith))

-- as where it is no number within its limits
pub FitsNot-number : (before low high : ℕ) (slots : List Slot) (word : List ℕ) (words : List (List ℕ)) → number_between low high word ≡ None
    → FitsNot before (number low high ∷ slots) (word ∷ words) before
FitsNot-number before low high slots word words e = FitsNot-first before (number low high) slots word words (rw e refl)

-- the word after `trial` is no seed, or the one after its seed is no number of stations
pub no_seed : {A : Type 0} (xs : List (String A)) (d : String A) → 1 ≤ length xs → number_between 0 4294967295 (string_bytes (get_or xs 0 d)) ≡ None → ReadsAsTrial (texts xs) (Err 1)
no_seed [] d le e = absurd (omega arith)
no_seed (x ∷ xs) d le e = FitsNot-number 1 0 4294967295 (stations_slots (slice_index_or (texts xs) 0 [])) (string_bytes x) (texts xs) e

pub no_stations : {A : Type 0} (xs : List (String A)) (d : String A) (seed : ℕ) → 1 ≤ length xs → number_between 1 most_stations (string_bytes (get_or xs 0 d)) ≡ None
    → ReadsAsStations seed (texts xs) (Err 2)
no_stations [] d seed le e = absurd (omega arith)
no_stations (x ∷ xs) d seed le e = FitsNot-number 2 1 most_stations (words_slots (stations_in (string_bytes x))) (string_bytes x) (texts xs) e

-- the first word fits, and those after it do not
pub FitsNot-later : (before : ℕ) (slot : Slot) (slots : List Slot) (word : List ℕ) (words : List (List ℕ)) (place : ℕ) → fits slot word ≡ true
    → FitsNot (suc before) slots words place → FitsNot before (slot ∷ slots) (word ∷ words) place
FitsNot-later before slot slots word words place e p = (rw (e, p.0) refl, rw (e, p.1) refl, rw e (p.2 ∙ one_less before (begun (slots ++ workers_slots) words)))

-- the words after the seed of a trial, and the seed
pub ReadsAsTrial-stations : (digits : List ℕ) (words : List (List ℕ)) (seed : ℕ) (r : Result Command ℕ) → number_between 0 4294967295 digits ≡ Some seed
    → ReadsAsStations seed words r → ReadsAsTrial (digits ∷ words) r
ReadsAsTrial-stations digits words seed (Ok (Trial seen stations count workers)) e p =
    let q = p.1 in
    let after = q.words_after in
    record {
      of_seed = digits;
      of_stations = q.of_stations;
      of_count = after.of_count;
      rest = after.rest;
      words_are = rw (q.words_are, after.words_are) refl;
      seed_is = e ∙ ap Some (sym p.0);
      stations_are = q.stations_are;
      count_is = after.count_is;
      workers_are = after.workers_are;
    }
ReadsAsTrial-stations digits words seed (Ok _) e p = absurd p
ReadsAsTrial-stations digits words seed (Err place) e p = FitsNot-later 1 (number 0 4294967295) (stations_slots (slice_index_or words 0 [])) digits words place (rw e refl) p

-- the words after the number of stations, and this number
pub ReadsAsStations-words : (digits : List ℕ) (words : List (List ℕ)) (seed stations : ℕ) (r : Result Command ℕ) → number_between 1 most_stations digits ≡ Some stations
    → ReadsAsWords seed stations words r → ReadsAsStations seed (digits ∷ words) r
ReadsAsStations-words digits words seed stations (Ok (Trial seen of count workers)) e p =
    let W : ℕ → Type 0 = λ n. SpellsWords words n count workers in
    (p.0, record { of_stations = digits; rest = words; words_are = refl; stations_are = e ∙ ap Some (sym p.1); words_after = subst W (sym p.1) p.2 })
ReadsAsStations-words digits words seed stations (Ok _) e p = absurd p
ReadsAsStations-words digits words seed stations (Err place) e p =
    FitsNot-later 2 (number 1 most_stations) (words_slots (stations_in digits)) digits words place (rw e refl)
    (let there : stations_in digits ≡ stations = ap (λ (o : Option ℕ). unwrap_or o 1) e in
    let F : ℕ → Type 0 = λ n. FitsNot 3 (words_slots n) words place in
    subst F (sym there) p)

-- the words after `--workers`, read as a number, are a number of workers
pub ReadsAsWorkers-count : (option : List ℕ) (words : List (List ℕ)) (before : ℕ) (r : Result ℕ ℕ) → true ≡ bytes_eq option (codes "--workers")
    → ReadsAsCount (before + 1) words r → ReadsAsWorkers before (option ∷ words) r
ReadsAsWorkers-count option words before (Ok workers) test p =
    let e : option ≡ codes "--workers" = (bytes_eq-Decides option (codes "--workers")).0 (sym test) in said p.0 (rw (e, p.1) refl) p.2
ReadsAsWorkers-count option words before (Err place) test p =
    let e : option ≡ codes "--workers" = (bytes_eq-Decides option (codes "--workers")).0 (sym test) in
    rw e (refl, p.0, p.1 ∙ one_more before (begun (number 1 64 ∷ []) words))
  where
    one_more : (k n : ℕ) → k + 1 + n ≡ k + suc n
    one_more k n = omega arith
