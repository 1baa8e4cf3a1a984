-- Commands, and the words that spell them.
use Rattle.std.specs.Prelude.{ℕ, ◌+◌, ◌*◌, ◌≤◌, ◌≡◌, false, List, [], ◌∷◌, ◌++◌, slice_index_or, codes, IsTrue, Some, Result, Ok, Err}
use Rattle.dc_spec.specs.Limits.{most_stations, most_words}
use Rattle.dc_cli.specs.Forms.{Slot, literal, name, number, keygen_slots, seeds_slots, twin_slots, second_slots, ends_slots, steer_slots, player_slots, station_slots, length_slots, hosted_slots, hub_slots, workers_slots, most_words_of, words_slots, stations_slots, trial_slots, is_name, seed_in, number_between, begun, spells, is_form, longest_begun}
use Rattle.dc_cli.specs.declared.command.Command.{Command}
use Rattle.dc_cli.specs.declared.command.Command.TheVariants.{Sum, Keygen, KeygenSeeds, Migrate, Replay, Logs, Twin, Steer, Station, Hub, Trial}

-- a command with its arguments
pub data Task : Type 0 where
  sum : List ℕ → Task
  keygen : List ℕ → List ℕ → List ℕ → Task
  keygen_seeds : List ℕ → List ℕ → List ℕ → Task
  migrate : List ℕ → List ℕ → Task
  replay : List ℕ → ℕ → Task
  logs : List ℕ → Task
  twin : List ℕ → List ℕ → List ℕ → Task
  steer : List ℕ → ℕ → ℕ → List ℕ → List ℕ → Task
  station : List ℕ → ℕ → List ℕ → List ℕ → Task
  hub : List ℕ → ℕ → ℕ → List ℕ → Task
  trial : ℕ → ℕ → ℕ → ℕ → Task

-- the words spell a seed, the name of a manifest and the name of the key file that is written, and these are left
pub record SpellsKeygen (words : List (List ℕ)) (seed net target : List ℕ) (flags : List (List ℕ)) : Type 0 where
  pub digits : List ℕ
  pub words_are : words ≡ digits ∷ net ∷ target ∷ flags
  pub seed_is : seed_in digits ≡ Some seed
  pub net_is : IsTrue (is_name net)
  pub target_is : IsTrue (is_name target)

-- the last words of a command line spell a number of workers: none is 1
pub data SpellsWorkers (words : List (List ℕ)) (workers : ℕ) : Type 0 where
  unsaid : words ≡ [] → workers ≡ 1 → SpellsWorkers words workers
  said : (digits : List ℕ) → words ≡ codes "--workers" ∷ digits ∷ [] → number_between 1 64 digits ≡ Some workers → SpellsWorkers words workers

-- the words spell the name of a manifest, and a number of workers
pub record SpellsReplay (words : List (List ℕ)) (net : List ℕ) (workers : ℕ) : Type 0 where
  pub rest : List (List ℕ)
  pub words_are : words ≡ net ∷ rest
  pub net_is : IsTrue (is_name net)
  pub workers_are : SpellsWorkers rest workers

-- the words spell three names: of a manifest, of a list of images, and of the key file that is written
pub record SpellsTwin (words : List (List ℕ)) (net perm target : List ℕ) : Type 0 where
  pub words_are : words ≡ net ∷ perm ∷ target ∷ []
  pub net_is : IsTrue (is_name net)
  pub perm_is : IsTrue (is_name perm)
  pub target_is : IsTrue (is_name target)

-- the words spell two names: of wanted words, and of the key file that is written
pub record SpellsWanted (words : List (List ℕ)) (wanted target : List ℕ) : Type 0 where
  pub words_are : words ≡ wanted ∷ target ∷ []
  pub wanted_is : IsTrue (is_name wanted)
  pub target_is : IsTrue (is_name target)

-- the words spell a station, and these names after it
pub record SpellsSecond (words : List (List ℕ)) (v : ℕ) (wanted target : List ℕ) : Type 0 where
  pub digits : List ℕ
  pub rest : List (List ℕ)
  pub words_are : words ≡ digits ∷ rest
  pub v_is : number_between 0 255 digits ≡ Some v
  pub names : SpellsWanted rest wanted target

-- the words spell two stations, and these names after them
pub record SpellsEnds (words : List (List ℕ)) (u v : ℕ) (wanted target : List ℕ) : Type 0 where
  pub digits : List ℕ
  pub rest : List (List ℕ)
  pub words_are : words ≡ digits ∷ rest
  pub u_is : number_between 0 255 digits ≡ Some u
  pub second : SpellsSecond rest v wanted target

-- the words spell the name of a manifest, and these after it
pub record SpellsSteer (words : List (List ℕ)) (net : List ℕ) (u v : ℕ) (wanted target : List ℕ) : Type 0 where
  pub rest : List (List ℕ)
  pub words_are : words ≡ net ∷ rest
  pub net_is : IsTrue (is_name net)
  pub ends : SpellsEnds rest u v wanted target

-- the words spell two names: of a key file and of a stream
pub record SpellsFiles (words : List (List ℕ)) (keys stream : List ℕ) : Type 0 where
  pub words_are : words ≡ keys ∷ stream ∷ []
  pub keys_is : IsTrue (is_name keys)
  pub stream_is : IsTrue (is_name stream)

-- the words spell a station, and the names of its files
pub record SpellsPlayer (words : List (List ℕ)) (id : ℕ) (keys stream : List ℕ) : Type 0 where
  pub digits : List ℕ
  pub rest : List (List ℕ)
  pub words_are : words ≡ digits ∷ rest
  pub id_is : number_between 0 255 digits ≡ Some id
  pub files : SpellsFiles rest keys stream

-- the words spell an address, a station, and the names of its files
pub record SpellsStation (words : List (List ℕ)) (addr : List ℕ) (id : ℕ) (keys stream : List ℕ) : Type 0 where
  pub rest : List (List ℕ)
  pub words_are : words ≡ addr ∷ rest
  pub addr_is : IsTrue (is_name addr)
  pub player : SpellsPlayer rest id keys stream

-- the words spell the name of a transcript
pub record SpellsTarget (words : List (List ℕ)) (target : List ℕ) : Type 0 where
  pub words_are : words ≡ target ∷ []
  pub target_is : IsTrue (is_name target)

-- the words spell a number of words, and that name
pub record SpellsLength (words : List (List ℕ)) (count : ℕ) (target : List ℕ) : Type 0 where
  pub digits : List ℕ
  pub rest : List (List ℕ)
  pub words_are : words ≡ digits ∷ rest
  pub count_is : number_between 1 most_words digits ≡ Some count
  pub named : SpellsTarget rest target

-- the words spell a number of stations, and these after it
pub record SpellsHosted (words : List (List ℕ)) (stations count : ℕ) (target : List ℕ) : Type 0 where
  pub digits : List ℕ
  pub rest : List (List ℕ)
  pub words_are : words ≡ digits ∷ rest
  pub stations_are : number_between 1 most_stations digits ≡ Some stations
  pub length : SpellsLength rest count target

-- the words spell an address, and these after it
pub record SpellsHub (words : List (List ℕ)) (addr : List ℕ) (stations count : ℕ) (target : List ℕ) : Type 0 where
  pub rest : List (List ℕ)
  pub words_are : words ≡ addr ∷ rest
  pub addr_is : IsTrue (is_name addr)
  pub hosted : SpellsHosted rest stations count target

-- the words spell the numbers of a trial: its seed, stations and words, and the workers
pub record SpellsTrial (words : List (List ℕ)) (seed stations count workers : ℕ) : Type 0 where
  pub of_seed : List ℕ
  pub of_stations : List ℕ
  pub of_count : List ℕ
  pub rest : List (List ℕ)
  pub words_are : words ≡ of_seed ∷ of_stations ∷ of_count ∷ rest
  pub seed_is : number_between 0 4294967295 of_seed ≡ Some seed
  pub stations_are : number_between 1 most_stations of_stations ≡ Some stations
  pub count_is : number_between 1 (most_words_of stations) of_count ≡ Some count
  pub workers_are : SpellsWorkers rest workers

-- the words spell the command
abbrev pub Spells : List (List ℕ) → Task → Type 0
Spells words (sum file) = (words ≡ codes "sum" ∷ file ∷ []) × IsTrue (is_name file)
Spells words (keygen seed net target) = (rest : List (List ℕ)) × (words ≡ codes "keygen" ∷ rest) × SpellsKeygen rest seed net target []
Spells words (keygen_seeds seed net target) = (rest : List (List ℕ)) × (words ≡ codes "keygen" ∷ rest) × SpellsKeygen rest seed net target (codes "--seeds" ∷ [])
Spells words (migrate keys target) = (words ≡ codes "migrate" ∷ keys ∷ target ∷ []) × IsTrue (is_name keys) × IsTrue (is_name target)
Spells words (replay net workers) = (rest : List (List ℕ)) × (words ≡ codes "replay" ∷ rest) × SpellsReplay rest net workers
Spells words (logs net) = (words ≡ codes "logs" ∷ net ∷ []) × IsTrue (is_name net)
Spells words (twin net perm target) = (rest : List (List ℕ)) × (words ≡ codes "twin" ∷ rest) × SpellsTwin rest net perm target
Spells words (steer net u v wanted target) = (rest : List (List ℕ)) × (words ≡ codes "steer" ∷ rest) × SpellsSteer rest net u v wanted target
Spells words (station addr id keys stream) = (rest : List (List ℕ)) × (words ≡ codes "station" ∷ rest) × SpellsStation rest addr id keys stream
Spells words (hub addr stations count target) = (rest : List (List ℕ)) × (words ≡ codes "hub" ∷ rest) × SpellsHub rest addr stations count target
Spells words (trial seed stations count workers) = (rest : List (List ℕ)) × (words ≡ codes "trial" ∷ rest) × SpellsTrial rest seed stations count workers

-- the command that was read
abbrev pub task_of : Command → Task
task_of (Sum file) = sum file.now
task_of (Keygen seed net target) = keygen seed net.now target.now
task_of (KeygenSeeds seed net target) = keygen_seeds seed net.now target.now
task_of (Migrate keys target) = migrate keys.now target.now
task_of (Replay net workers) = replay net.now workers
task_of (Logs net) = logs net.now
task_of (Twin net perm target) = twin net.now perm.now target.now
task_of (Steer net u v wanted target) = steer net.now u v wanted.now target.now
task_of (Station addr id keys stream) = station addr.now id keys.now stream.now
task_of (Hub addr stations words target) = hub addr.now stations words target.now
task_of (Trial seed stations words workers) = trial seed stations words workers

-- the words were read as the command that they spell, or are not a form
abbrev pub ReadsAs : List (List ℕ) → Result Command ℕ → Type 0
ReadsAs words (Ok command) = Spells words (task_of command)
ReadsAs words (Err place) = (is_form words ≡ false) × (place ≡ longest_begun words)

-- the words after `sum` were read as its file, or do not fit
abbrev pub ReadsAsFile : List (List ℕ) → Result Command ℕ → Type 0
ReadsAsFile words (Ok (Sum file)) = (words ≡ file.now ∷ []) × IsTrue (is_name file.now)
ReadsAsFile words (Ok _) = ⊥
ReadsAsFile words (Err place) = (spells (name ∷ []) words ≡ false) × (place ≡ 1 + begun (name ∷ []) words)

-- the words after `keygen` were read as its seed, its names and its flag, or do not fit
abbrev pub ReadsAsKeygen : List (List ℕ) → Result Command ℕ → Type 0
ReadsAsKeygen words (Ok (Keygen seed net target)) = SpellsKeygen words seed net.now target.now []
ReadsAsKeygen words (Ok (KeygenSeeds seed net target)) = SpellsKeygen words seed net.now target.now (codes "--seeds" ∷ [])
ReadsAsKeygen words (Ok _) = ⊥
ReadsAsKeygen words (Err place) = (spells keygen_slots words ≡ false) × (spells seeds_slots words ≡ false) × (place ≡ 1 + begun seeds_slots words)

-- two names of `keygen`, and the words after them
pub record NamesKeygen (words : List (List ℕ)) (net target : List ℕ) (flags : List (List ℕ)) : Type 0 where
  pub words_are : words ≡ net ∷ target ∷ flags
  pub net_is : IsTrue (is_name net)
  pub target_is : IsTrue (is_name target)

-- the words after the seed were read as the names of `keygen` and its flag, or do not fit
abbrev pub ReadsAsNames : List ℕ → List (List ℕ) → Result Command ℕ → Type 0
ReadsAsNames seed words (Ok (Keygen bytes net target)) = (bytes ≡ seed) × NamesKeygen words net.now target.now []
ReadsAsNames seed words (Ok (KeygenSeeds bytes net target)) = (bytes ≡ seed) × NamesKeygen words net.now target.now (codes "--seeds" ∷ [])
ReadsAsNames seed words (Ok _) = ⊥
ReadsAsNames seed words (Err place) = (spells (name ∷ name ∷ []) words ≡ false) × (spells (name ∷ name ∷ literal (codes "--seeds") ∷ []) words ≡ false)
    × (place ≡ 2 + begun (name ∷ name ∷ literal (codes "--seeds") ∷ []) words)

-- the words after the names were read as the flag of `keygen`, or do not fit
abbrev pub ReadsAsFlag : List ℕ → List ℕ → List ℕ → List (List ℕ) → Result Command ℕ → Type 0
ReadsAsFlag seed net target words (Ok (Keygen s n t)) = (s ≡ seed) × (n.now ≡ net) × (t.now ≡ target) × (words ≡ [])
ReadsAsFlag seed net target words (Ok (KeygenSeeds s n t)) = (s ≡ seed) × (n.now ≡ net) × (t.now ≡ target) × (words ≡ codes "--seeds" ∷ [])
ReadsAsFlag seed net target words (Ok _) = ⊥
ReadsAsFlag seed net target words (Err place) = (spells [] words ≡ false) × (spells (literal (codes "--seeds") ∷ []) words ≡ false)
    × (place ≡ 4 + begun (literal (codes "--seeds") ∷ []) words)

-- the words after `migrate` were read as its names, or do not fit
abbrev pub ReadsAsMigrate : List (List ℕ) → Result Command ℕ → Type 0
ReadsAsMigrate words (Ok (Migrate keys target)) = (words ≡ keys.now ∷ target.now ∷ []) × IsTrue (is_name keys.now) × IsTrue (is_name target.now)
ReadsAsMigrate words (Ok _) = ⊥
ReadsAsMigrate words (Err place) = (spells (name ∷ name ∷ []) words ≡ false) × (place ≡ 1 + begun (name ∷ name ∷ []) words)

-- the words after `replay` were read as a name and a number of workers, or do not fit
abbrev pub ReadsAsReplay : List (List ℕ) → Result Command ℕ → Type 0
ReadsAsReplay words (Ok (Replay net workers)) = SpellsReplay words net.now workers
ReadsAsReplay words (Ok _) = ⊥
ReadsAsReplay words (Err place) =
    (spells (name ∷ []) words ≡ false) × (spells (name ∷ workers_slots) words ≡ false)
    × (place ≡ 1 + begun (name ∷ workers_slots) words)

-- the words after `logs` were read as its name, or do not fit
abbrev pub ReadsAsLogs : List (List ℕ) → Result Command ℕ → Type 0
ReadsAsLogs words (Ok (Logs net)) = (words ≡ net.now ∷ []) × IsTrue (is_name net.now)
ReadsAsLogs words (Ok _) = ⊥
ReadsAsLogs words (Err place) = (spells (name ∷ []) words ≡ false) × (place ≡ 1 + begun (name ∷ []) words)

-- the words after `twin` were read as its names, or do not fit
abbrev pub ReadsAsTwin : List (List ℕ) → Result Command ℕ → Type 0
ReadsAsTwin words (Ok (Twin net perm target)) = SpellsTwin words net.now perm.now target.now
ReadsAsTwin words (Ok _) = ⊥
ReadsAsTwin words (Err place) = (spells twin_slots words ≡ false) × (place ≡ 1 + begun twin_slots words)

-- the words after `steer` were read as its names and stations, or do not fit
abbrev pub ReadsAsSteer : List (List ℕ) → Result Command ℕ → Type 0
ReadsAsSteer words (Ok (Steer net u v wanted target)) = SpellsSteer words net.now u v wanted.now target.now
ReadsAsSteer words (Ok _) = ⊥
ReadsAsSteer words (Err place) = (spells steer_slots words ≡ false) × (place ≡ 1 + begun steer_slots words)

-- the words after the manifest of `steer` were read, or do not fit
abbrev pub ReadsAsEnds : List ℕ → List (List ℕ) → Result Command ℕ → Type 0
ReadsAsEnds net words (Ok (Steer named u v wanted target)) = (named.now ≡ net) × SpellsEnds words u v wanted.now target.now
ReadsAsEnds net words (Ok _) = ⊥
ReadsAsEnds net words (Err place) = (spells ends_slots words ≡ false) × (place ≡ 2 + begun ends_slots words)

-- the words after the first station of `steer` were read, or do not fit
abbrev pub ReadsAsSecond : List ℕ → ℕ → List (List ℕ) → Result Command ℕ → Type 0
ReadsAsSecond net u words (Ok (Steer named seen v wanted target)) = (named.now ≡ net) × (seen ≡ u) × SpellsSecond words v wanted.now target.now
ReadsAsSecond net u words (Ok _) = ⊥
ReadsAsSecond net u words (Err place) = (spells second_slots words ≡ false) × (place ≡ 3 + begun second_slots words)

-- the words after both stations of `steer` were read, or do not fit
abbrev pub ReadsAsWanted : List ℕ → ℕ → ℕ → List (List ℕ) → Result Command ℕ → Type 0
ReadsAsWanted net u v words (Ok (Steer named seen other wanted target)) =
    (named.now ≡ net) × (seen ≡ u) × (other ≡ v) × SpellsWanted words wanted.now target.now
ReadsAsWanted net u v words (Ok _) = ⊥
ReadsAsWanted net u v words (Err place) = (spells (name ∷ name ∷ []) words ≡ false) × (place ≡ 4 + begun (name ∷ name ∷ []) words)

-- the words after `station` were read, or do not fit
abbrev pub ReadsAsStation : List (List ℕ) → Result Command ℕ → Type 0
ReadsAsStation words (Ok (Station addr id keys stream)) = SpellsStation words addr.now id keys.now stream.now
ReadsAsStation words (Ok _) = ⊥
ReadsAsStation words (Err place) = (spells station_slots words ≡ false) × (place ≡ 1 + begun station_slots words)

-- the words after the address of `station` were read, or do not fit
abbrev pub ReadsAsPlayer : List ℕ → List (List ℕ) → Result Command ℕ → Type 0
ReadsAsPlayer addr words (Ok (Station at id keys stream)) = (at.now ≡ addr) × SpellsPlayer words id keys.now stream.now
ReadsAsPlayer addr words (Ok _) = ⊥
ReadsAsPlayer addr words (Err place) = (spells player_slots words ≡ false) × (place ≡ 2 + begun player_slots words)

-- the words after the number of `station` were read, or do not fit
abbrev pub ReadsAsFiles : List ℕ → ℕ → List (List ℕ) → Result Command ℕ → Type 0
ReadsAsFiles addr id words (Ok (Station at seen keys stream)) = (at.now ≡ addr) × (seen ≡ id) × SpellsFiles words keys.now stream.now
ReadsAsFiles addr id words (Ok _) = ⊥
ReadsAsFiles addr id words (Err place) = (spells (name ∷ name ∷ []) words ≡ false) × (place ≡ 3 + begun (name ∷ name ∷ []) words)

-- the words after `hub` were read, or do not fit
abbrev pub ReadsAsHub : List (List ℕ) → Result Command ℕ → Type 0
ReadsAsHub words (Ok (Hub addr stations count target)) = SpellsHub words addr.now stations count target.now
ReadsAsHub words (Ok _) = ⊥
ReadsAsHub words (Err place) = (spells hub_slots words ≡ false) × (place ≡ 1 + begun hub_slots words)

-- the words after the address of `hub` were read, or do not fit
abbrev pub ReadsAsHosted : List ℕ → List (List ℕ) → Result Command ℕ → Type 0
ReadsAsHosted addr words (Ok (Hub at stations count target)) = (at.now ≡ addr) × SpellsHosted words stations count target.now
ReadsAsHosted addr words (Ok _) = ⊥
ReadsAsHosted addr words (Err place) = (spells hosted_slots words ≡ false) × (place ≡ 2 + begun hosted_slots words)

-- the words after the number of stations of `hub` were read, or do not fit
abbrev pub ReadsAsLength : List ℕ → ℕ → List (List ℕ) → Result Command ℕ → Type 0
ReadsAsLength addr stations words (Ok (Hub at seen count target)) = (at.now ≡ addr) × (seen ≡ stations) × SpellsLength words count target.now
ReadsAsLength addr stations words (Ok _) = ⊥
ReadsAsLength addr stations words (Err place) = (spells length_slots words ≡ false) × (place ≡ 3 + begun length_slots words)

-- the words after both numbers of `hub` were read as a name, or do not fit
abbrev pub ReadsAsTarget : List ℕ → ℕ → ℕ → List (List ℕ) → Result Command ℕ → Type 0
ReadsAsTarget addr stations count words (Ok (Hub at seen of target)) = (at.now ≡ addr) × (seen ≡ stations) × (of ≡ count) × SpellsTarget words target.now
ReadsAsTarget addr stations count words (Ok _) = ⊥
ReadsAsTarget addr stations count words (Err place) = (spells (name ∷ []) words ≡ false) × (place ≡ 4 + begun (name ∷ []) words)

-- the last words, after so many others, were read as a number of workers, or do not fit
abbrev pub ReadsAsWorkers : ℕ → List (List ℕ) → Result ℕ ℕ → Type 0
ReadsAsWorkers before words (Ok workers) = SpellsWorkers words workers
ReadsAsWorkers before words (Err place) =
    (spells [] words ≡ false) × (spells workers_slots words ≡ false) × (place ≡ before + begun workers_slots words)

-- the words after `--workers` were read as a number, or do not fit
abbrev pub ReadsAsCount : ℕ → List (List ℕ) → Result ℕ ℕ → Type 0
ReadsAsCount before words (Ok workers) = (digits : List ℕ) × (words ≡ digits ∷ []) × (number_between 1 64 digits ≡ Some workers)
ReadsAsCount before words (Err place) = (spells (number 1 64 ∷ []) words ≡ false) × (place ≡ before + begun (number 1 64 ∷ []) words)

-- the words spell the number of words of a trial of so many stations, and its workers
pub record SpellsWords (words : List (List ℕ)) (stations count workers : ℕ) : Type 0 where
  pub of_count : List ℕ
  pub rest : List (List ℕ)
  pub words_are : words ≡ of_count ∷ rest
  pub count_is : number_between 1 (most_words_of stations) of_count ≡ Some count
  pub workers_are : SpellsWorkers rest workers

-- the words spell the number of stations too
pub record SpellsStations (words : List (List ℕ)) (stations count workers : ℕ) : Type 0 where
  pub of_stations : List ℕ
  pub rest : List (List ℕ)
  pub words_are : words ≡ of_stations ∷ rest
  pub stations_are : number_between 1 most_stations of_stations ≡ Some stations
  pub words_after : SpellsWords rest stations count workers

-- the words do not fit the places of a trial, of which so many others stand before them
abbrev pub FitsNot : ℕ → List Slot → List (List ℕ) → ℕ → Type 0
FitsNot before slots words place =
    (spells slots words ≡ false) × (spells (slots ++ workers_slots) words ≡ false)
    × (place ≡ before + begun (slots ++ workers_slots) words)

-- the words after the number of stations of a trial were read, or do not fit
abbrev pub ReadsAsWords : ℕ → ℕ → List (List ℕ) → Result Command ℕ → Type 0
ReadsAsWords seed stations words (Ok (Trial seen of count workers)) = (seen ≡ seed) × (of ≡ stations) × SpellsWords words stations count workers
ReadsAsWords seed stations words (Ok _) = ⊥
ReadsAsWords seed stations words (Err place) = FitsNot 3 (words_slots stations) words place

-- the words after the seed of a trial were read, or do not fit
abbrev pub ReadsAsStations : ℕ → List (List ℕ) → Result Command ℕ → Type 0
ReadsAsStations seed words (Ok (Trial seen stations count workers)) = (seen ≡ seed) × SpellsStations words stations count workers
ReadsAsStations seed words (Ok _) = ⊥
ReadsAsStations seed words (Err place) = FitsNot 2 (stations_slots (slice_index_or words 0 [])) words place

-- the words after `trial` were read as its numbers, or do not fit
abbrev pub ReadsAsTrial : List (List ℕ) → Result Command ℕ → Type 0
ReadsAsTrial words (Ok (Trial seed stations count workers)) = SpellsTrial words seed stations count workers
ReadsAsTrial words (Ok _) = ⊥
ReadsAsTrial words (Err place) = FitsNot 1 (trial_slots (slice_index_or words 1 [])) words place

-- the numbers of a command are within their limits
abbrev pub IsRunnable : Task → Type 0
IsRunnable (replay net workers) = (1 ≤ workers) × (workers ≤ 64)
IsRunnable (hub addr stations count target) = (1 ≤ stations) × (stations ≤ most_stations) × (1 ≤ count) × (count ≤ most_words)
IsRunnable (trial seed stations count workers) =
    (1 ≤ stations) × (stations ≤ most_stations) × (1 ≤ count) × (count ≤ most_words) × (stations * count ≤ 524288) × (1 ≤ workers) × (workers ≤ 64)
IsRunnable _ = Unit {0}
