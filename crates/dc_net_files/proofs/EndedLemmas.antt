-- A reader that goes on as another one ends as that one does.
use Rattle.std.proofs.Common.{◌≡◌, ℕ, List, [], ◌∷◌, ◌++◌, Result, Ok, Err, refl, sym, ap, ◌∙◌, append_assoc, subst, arith}
use Rattle.std.specs.Result.{IsErrAnd}
use Rattle.std.proofs.lemmas.List.{map-append}
use Rattle.dc_spec.specs.Outside.{ShelfState}
use Rattle.dc_field.specs.Answers.{Answers}
use Rattle.dc_field.specs.declared.refusal.Refusal.{Refusal}
use Rattle.dc_field.specs.declared.refusal.Refusal.TheVariants as refusals
use Rattle.dc_edge.specs.Shelf.{Reads}
use Rattle.dc_edge.specs.declared.fault.ShelfFault.{ShelfFault}
use Rattle.dc_manifest.specs.Reading.{manifest_of}
use Rattle.dc_keyfile.specs.Reading.{keys_from_bytes}
use Rattle.dc_stream.specs.Reading.{stream_from_bytes}
use Rattle.dc_script.specs.Reading.{script_from_bytes}
use Rattle.dc_net_files.specs.Steps.{File, Step, needs, makes, Reader, ◌>>=◌, bytes_of, file_step, read_as}
use Rattle.dc_net_files.specs.Parts.{HasFault, of_kind, manifest_in, keys_in, stream_in, script_in}
use Rattle.dc_net_files.specs.Reading.{Gave, Reaches, Stops, Refuses, Ended}
use Rattle.dc_net_files.specs.Files.{FileRead, Named}
use Rattle.dc_net_files.specs.declared.fault.NetFileFault.{NetFileFault}
use Rattle.dc_net_files.specs.declared.fault.NetFileFault.TheVariants.{Manifest, Keys as KeyFile, Stream as StreamFile, Script as ScriptFile}
use Rattle.dc_net_files.specs.declared.fault.NotRead.{NotRead}
use Rattle.dc_net_files.specs.declared.fault.NotRead.TheVariants.{Missing, TooLong, Malformed, Disagree, ShelfFault as ShelfFailed, NoMemory}
use Rattle.dc_net_files.proofs.GaveLemmas.{Gave-append, Gave-first, Gave-none, Gave-one}

bytes-append : (front files : List File) → bytes_of (front ++ files) ≡ bytes_of front ++ bytes_of files
bytes-append front files = map-append (λ (file : File). file.bytes) front files

bytes-then : (front files : List File) (more : List (List ℕ)) → bytes_of (front ++ files) ++ more ≡ bytes_of front ++ (bytes_of files ++ more)
bytes-then front files more = ap (λ (bs : List (List ℕ)). bs ++ more) (bytes-append front files) ∙ append_assoc (bytes_of front) (bytes_of files) more

-- the step after the first files and more files
step-then : {A : Type 0} (reader next : Reader A) (front files : List File) → ((more : List (List ℕ)) → reader (bytes_of front ++ more) ≡ next more)
    → reader (bytes_of (front ++ files)) ≡ next (bytes_of files)
step-then reader next front files goes_on = ap reader (bytes-append front files) ∙ goes_on (bytes_of files)

-- a reader that goes on as a second one, which goes on as a third one
pub Reaches-then : {A : Type 0} (reader next last : Reader A) (s0 s1 s2 : ShelfState)
    → Reaches reader next s0 s1 → Reaches next last s1 s2 → Reaches reader last s0 s2
Reaches-then reader next last s0 s1 s2 p q = record {
  files = p.files ++ q.files;
  gave = Gave-append reader next p.files q.files s0 s1 s2 p.gave p.goes_on q.gave;
  goes_on = λ more. ap reader (bytes-then p.files q.files more) ∙ p.goes_on (bytes_of q.files ++ more) ∙ q.goes_on more;
}

Stops-then : {A : Type 0} (reader next : Reader A) (name : List ℕ) (cause : ShelfFault) (s0 s1 s2 : ShelfState)
    → Reaches reader next s0 s1 → Stops next name cause s1 s2 → Stops reader name cause s0 s2
Stops-then reader next name cause s0 s1 s2 p q = record {
  files = p.files ++ q.files;
  middle = q.middle;
  gave = Gave-append reader next p.files q.files s0 s1 q.middle p.gave p.goes_on q.gave;
  limit = q.limit;
  needed = step-then reader next p.files q.files p.goes_on ∙ q.needed;
  read = q.read;
}

Refuses-then : {A : Type 0} (reader next : Reader A) (name : List ℕ) (fault : NetFileFault) (s0 s1 s2 : ShelfState)
    → Reaches reader next s0 s1 → Refuses next name fault s1 s2 → Refuses reader name fault s0 s2
Refuses-then reader next name fault s0 s1 s2 p q =
    let same = append_assoc p.files q.front (q.last ∷ []) in record {
      front = p.files ++ q.front;
      last = q.last;
      gave = rw same (Gave-append reader next p.files (q.front ++ q.last ∷ []) s0 s1 s2 p.gave p.goes_on q.gave);
      refused = ap (λ (fs : List File). reader (bytes_of fs)) same ∙ step-then reader next p.files (q.front ++ q.last ∷ []) p.goes_on ∙ q.refused;
      named = q.named;
      has = q.has;
    }

-- a reader that goes on as the next one ends as the next one does
pub Ended-then : {A : Type 0} (reader next : Reader A) (s0 s1 s2 : ShelfState) (r : Result A NotRead)
    → Reaches reader next s0 s1 → Ended next s1 s2 r → Ended reader s0 s2 r
Ended-then reader next s0 s1 s2 (Ok x) p q = Reaches-then reader next (makes x) s0 s1 s2 p q
Ended-then reader next s0 s1 s2 (Err (Missing name)) p q = Stops-then reader next name _ s0 s1 s2 p q
Ended-then reader next s0 s1 s2 (Err (TooLong name)) p q = Stops-then reader next name _ s0 s1 s2 p q
Ended-then reader next s0 s1 s2 (Err (Malformed name fault)) p q = Refuses-then reader next name fault s0 s1 s2 p q
Ended-then reader next s0 s1 s2 (Err (Disagree fault)) p q = record {
  files = p.files ++ q.files;
  gave = Gave-append reader next p.files q.files s0 s1 s2 p.gave p.goes_on q.gave;
  found = q.found;
  differ = step-then reader next p.files q.files p.goes_on ∙ q.differ;
  is = q.is;
}
Ended-then reader next s0 s1 s2 (Err ShelfFailed) p q = (q.0, Stops-then reader next q.0 _ s0 s1 s2 p q.1)
Ended-then reader next s0 s1 s2 (Err NoMemory) p q =
    (p.files ++ q.0, Gave-append reader next p.files q.0 s0 s1 s2 p.gave p.goes_on q.1)

-- where the first of two readers goes on as another one, both do with that one as the first
pub Reaches-first : {A B : Type 0} (reader other : Reader A) (next : A → Reader B) (s0 s1 : ShelfState)
    → Reaches reader other s0 s1 → Reaches (λ given. reader given >>= next) (λ given. other given >>= next) s0 s1
Reaches-first {A} reader other next s0 s1 p = record {
  files = p.files;
  gave = Gave-first reader next p.files s0 s1 p.gave;
  goes_on = λ more. ap (λ (step : Step A). step >>= next) (p.goes_on more);
}

Stops-first : {A B : Type 0} (reader : Reader A) (next : A → Reader B) (name : List ℕ) (cause : ShelfFault) (s0 s1 : ShelfState)
    → Stops reader name cause s0 s1 → Stops (λ given. reader given >>= next) name cause s0 s1
Stops-first {A} reader next name cause s0 s1 p = record {
  files = p.files;
  middle = p.middle;
  gave = Gave-first reader next p.files s0 p.middle p.gave;
  limit = p.limit;
  needed = ap (λ (step : Step A). step >>= next) p.needed;
  read = p.read;
}

-- where the first of two readers made nothing, both end as it does
pub Ended-first : {A B : Type 0} (reader : Reader A) (next : A → Reader B) (s0 s1 : ShelfState) (e : NotRead)
    → Ended reader s0 s1 (Err e) → Ended (λ given. reader given >>= next) s0 s1 (Err e)
Ended-first reader next s0 s1 (Missing name) p = Stops-first reader next name _ s0 s1 p
Ended-first reader next s0 s1 (TooLong name) p = Stops-first reader next name _ s0 s1 p
Ended-first {A} reader next s0 s1 (Malformed name fault) p = record {
  front = p.front;
  last = p.last;
  gave = Gave-first reader next (p.front ++ p.last ∷ []) s0 s1 p.gave;
  refused = ap (λ (step : Step A). step >>= next) p.refused;
  named = p.named;
  has = p.has;
}
Ended-first {A} reader next s0 s1 (Disagree fault) p = record {
  files = p.files;
  gave = Gave-first reader next p.files s0 s1 p.gave;
  found = p.found;
  differ = ap (λ (step : Step A). step >>= next) p.differ;
  is = p.is;
}
Ended-first reader next s0 s1 ShelfFailed p = (p.0, Stops-first reader next p.0 _ s0 s1 p.1)
Ended-first reader next s0 s1 NoMemory p = (p.0, Gave-first reader next p.0 s0 s1 p.1)

-- the first of two readers made something, and the second ends
pub Ended-both : {A B : Type 0} (reader : Reader A) (next : A → Reader B) (s0 s1 s2 : ShelfState) (x : A) (r : Result B NotRead)
    → Ended reader s0 s1 (Ok x) → Ended (next x) s1 s2 r → Ended (λ given. reader given >>= next) s0 s2 r
Ended-both reader next s0 s1 s2 x r p q =
    Ended-then (λ given. reader given >>= next) (next x) s0 s1 s2 r (Reaches-first reader (makes x) next s0 s1 p) q

-- an error that is handed on
pub Ended-error : {A : Type 0} (reader : Reader A) (s0 s1 : ShelfState) (e : NotRead) (r : Result A NotRead)
    → IsErrAnd r (λ y. y ≡ e) → Ended reader s0 s1 (Err e) → Ended reader s0 s1 r
Ended-error reader s0 s1 e (Ok x) is p = absurd is
Ended-error {A} reader s0 s1 e (Err y) is p = let P : NotRead → Type 0 = λ z. Ended reader s0 s1 (Err z) in subst P (sym is) p

Stops-one : {A : Type 0} (name seen : List ℕ) (limit : ℕ) (read : List ℕ → Result A NetFileFault) (cause : ShelfFault) (s0 s1 : ShelfState)
    → seen ≡ name → Reads name limit s0 s1 (Err cause) → Stops (file_step name limit read) seen cause s0 s1
Stops-one name seen limit read cause s0 s1 e p = record {
  files = [];
  middle = s0;
  gave = Gave-none (file_step name limit read) s0 s0 refl refl (omega arith);
  limit = limit;
  needed = ap (λ (n : List ℕ). needs n limit) (sym e);
  read = rw e p;
}

-- without a file a reader goes on as one with the same steps
pub Reaches-same : {A : Type 0} (reader next : Reader A) (s : ShelfState)
    → ((more : List (List ℕ)) → reader more ≡ next more) → Reaches reader next s s
Reaches-same reader next s same = record {
  files = [];
  gave = Gave-none reader s s refl refl (omega arith);
  goes_on = same;
}

-- one file was not given
pub Ended-unread : {A : Type 0} (name : List ℕ) (limit : ℕ) (read : List ℕ → Result A NetFileFault) (s0 s1 : ShelfState) (e : NotRead)
    → FileRead name limit s0 s1 (Err e) → Ended (file_step name limit read) s0 s1 (Err e)
Ended-unread name limit read s0 s1 (Missing seen) p = Stops-one name seen limit read _ s0 s1 p.0 p.1
Ended-unread name limit read s0 s1 (TooLong seen) p = Stops-one name seen limit read _ s0 s1 p.0 p.1
Ended-unread name limit read s0 s1 (Malformed seen fault) p = absurd p
Ended-unread name limit read s0 s1 (Disagree fault) p = absurd p
Ended-unread name limit read s0 s1 ShelfFailed p = (name, Stops-one name name limit read _ s0 s1 refl p)
Ended-unread name limit read s0 s1 NoMemory p = ([], Gave-none (file_step name limit read) s0 s1 p.kept p.asked (omega (arith, p.faults)))

abbrev file_of : List ℕ → List ℕ → File
file_of name bytes = record { name = name; bytes = bytes }

Gave-file : {A : Type 0} (name bytes : List ℕ) (limit : ℕ) (read : List ℕ → Result A NetFileFault) (s0 s1 : ShelfState)
    → Reads name limit s0 s1 (Ok bytes) → Gave (file_step name limit read) (file_of name bytes ∷ []) s0 s1
Gave-file name bytes limit read s0 s1 p = Gave-one (file_step name limit read) name bytes limit s0 s1 (refl, p.answer.0) p

-- one file was given
Ended-given : {A : Type 0} (name bytes : List ℕ) (limit : ℕ) (read : List ℕ → Result A NetFileFault) (s0 s1 : ShelfState)
    (seen : Result A (Refusal NetFileFault)) (r : Result A NotRead)
    → ((fault : NetFileFault) → read bytes ≡ Err fault → HasFault bytes fault)
    → Reads name limit s0 s1 (Ok bytes) → Answers seen (read bytes) → Named name seen r → Ended (file_step name limit read) s0 s1 r
Ended-given name bytes limit read s0 s1 (Ok x) (Ok y) faulty p is named = record {
  files = file_of name bytes ∷ [];
  gave = Gave-file name bytes limit read s0 s1 p;
  goes_on = λ more. ap (λ d. read_as name d more) is ∙ ap (λ z. makes z more) (sym named);
}
Ended-given name bytes limit read s0 s1 (Err (refusals.Bad fault)) (Err (Malformed told seen)) faulty p is named = record {
  front = [];
  last = file_of name bytes;
  gave = Gave-file name bytes limit read s0 s1 p;
  refused = ap (λ d. read_as name d []) is ∙ rw (named.0, named.1) refl;
  named = sym named.0;
  has = rw named.1 (faulty fault is);
}
Ended-given name bytes limit read s0 s1 (Err (refusals.Bad fault)) (Err NoMemory) faulty p is named =
    (file_of name bytes ∷ [], Gave-file name bytes limit read s0 s1 p)
Ended-given name bytes limit read s0 s1 (Err refusals.NoMemory) (Err NoMemory) faulty p is named =
    (file_of name bytes ∷ [], Gave-file name bytes limit read s0 s1 p)
Ended-given name bytes limit read s0 s1 _ _ faulty p is named = absurd named

-- one file was given, and read from a slice of its bytes
pub Ended-read : {A : Type 0} (name bytes : List ℕ) (limit : ℕ) (read : List ℕ → Result A NetFileFault) (s0 s1 : ShelfState)
    (slice : List ℕ) (seen : Result A (Refusal NetFileFault)) (r : Result A NotRead)
    → ((bytes : List ℕ) (fault : NetFileFault) → read bytes ≡ Err fault → HasFault bytes fault)
    → Reads name limit s0 s1 (Ok bytes) → slice ≡ bytes → Answers seen (read slice) → Named name seen r
    → Ended (file_step name limit read) s0 s1 r
Ended-read {A} name bytes limit read s0 s1 slice seen r faulty p e is named =
    let P : List ℕ → Type 0 = λ b. Answers seen (read b) in
    Ended-given name bytes limit read s0 s1 seen r (faulty bytes) p (subst P e is) named

of_kind-fault : {A F : Type 0} (kind : F → NetFileFault) (r : Result A F) (fault : NetFileFault)
    → of_kind kind r ≡ Err fault → (f : F) × (fault ≡ kind f) × (r ≡ Err f)
of_kind-fault kind (Ok x) fault e = absurd cc
of_kind-fault kind (Err f) fault e = (f, cc, refl)

-- a fault of bytes as a file of each kind
pub manifest_fault : (bytes : List ℕ) (fault : NetFileFault) → manifest_in bytes ≡ Err fault → HasFault bytes fault
manifest_fault bytes fault e = let k = of_kind-fault Manifest (manifest_of bytes) fault e in rw k.1 k.2

pub keys_fault : (bytes : List ℕ) (fault : NetFileFault) → keys_in bytes ≡ Err fault → HasFault bytes fault
keys_fault bytes fault e = let k = of_kind-fault KeyFile (keys_from_bytes bytes) fault e in rw k.1 k.2

pub stream_fault : (bytes : List ℕ) (fault : NetFileFault) → stream_in bytes ≡ Err fault → HasFault bytes fault
stream_fault bytes fault e = let k = of_kind-fault StreamFile (stream_from_bytes bytes) fault e in rw k.1 k.2

pub script_fault : (bytes : List ℕ) (fault : NetFileFault) → script_in bytes ≡ Err fault → HasFault bytes fault
script_fault bytes fault e = let k = of_kind-fault ScriptFile (script_from_bytes bytes) fault e in rw k.1 k.2
