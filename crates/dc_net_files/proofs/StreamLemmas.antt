-- The streams of stations, one after another; the script or the quiet one.
use Rattle.std.proofs.Common.{◌≡◌, ◌+◌, ◌<◌, ◌≤◌, ◌==◌, false, ℕ, get_or, drop, drop-cons, suc, List, [], ◌∷◌, ◌++◌, length, Option, Some, None, Result, Ok, Err, refl, sym, ap, ◌∙◌, append_assoc, length-append, subst, arith}
use Rattle.std.proofs.lemmas.List.{append-nil, drop_all}
use Rattle.dc_spec.specs.Outside.{ShelfState}
use Rattle.dc_spec.specs.Limits.{stream_limit}
use Rattle.dc_spec.specs.Entries.{Stream}
use Rattle.dc_spec.specs.Scripts.{Script}
use Rattle.dc_manifest.specs.Content.{Content}
use Rattle.dc_script.specs.Quiet.{quiet_script}
use Rattle.dc_net_files.specs.Steps.{Step, needs, refuses, differs, makes, Reader, ◌>>=◌, file_step}
use Rattle.dc_net_files.specs.Parts.{stream_in, stream_step, streams_step, script_or_quiet, script_step}
use Rattle.dc_net_files.specs.Reading.{Reaches, Ended}
use Rattle.dc_net_files.specs.declared.fault.NotRead.{NotRead}
use Rattle.dc_net_files.specs.declared.fault.NotRead.TheVariants.{NoMemory}
use Rattle.dc_net_files.proofs.EndedLemmas.{Reaches-then, Reaches-first, Reaches-same, Ended-then, Ended-first}

-- a stream that has a name
abbrev named_stream : List ℕ → Reader (Option Stream)
named_stream name given = file_step name stream_limit stream_in given >>= λ stream left. makes (Some stream) left

named_step : (name : List ℕ) (more : List (List ℕ)) → false ≡ (length name == 0) → stream_step name more ≡ named_stream name more
named_step [] more some = absurd cc
named_step (c ∷ name) more some = refl

-- a name that is not empty: its file was read
pub station-read : (name : List ℕ) (s0 s1 : ShelfState) (stream : Stream) → false ≡ (length name == 0)
    → Ended (file_step name stream_limit stream_in) s0 s1 (Ok stream) → Ended (stream_step name) s0 s1 (Ok (Some stream))
station-read name s0 s1 stream some p =
    Reaches-then (stream_step name) (named_stream name) (makes (Some stream)) s0 s0 s1
    (Reaches-same (stream_step name) (named_stream name) s0 (λ more. named_step name more some))
    (Reaches-first (file_step name stream_limit stream_in) (makes stream) (λ stream left. makes (Some stream) left) s0 s1 p)

-- or was not read
pub station-unread : (name : List ℕ) (s0 s1 : ShelfState) (e : NotRead) → false ≡ (length name == 0)
    → Ended (file_step name stream_limit stream_in) s0 s1 (Err e) → Ended (stream_step name) s0 s1 (Err e)
station-unread name s0 s1 e some p =
    Ended-then (stream_step name) (named_stream name) s0 s0 s1 (Err e)
    (Reaches-same (stream_step name) (named_stream name) s0 (λ more. named_step name more some))
    (Ended-first (file_step name stream_limit stream_in) (λ stream left. makes (Some stream) left) s0 s1 e p)

-- an empty name has no file
pub station-without : (name : List ℕ) (s : ShelfState) → name ≡ [] → Ended (stream_step name) s s (Ok None)
station-without name s e = Reaches-same (stream_step name) (makes None) s (λ more. rw e refl)

-- without a script the quiet one is made
pub script-quiet : (m : Content) (s : ShelfState) (script : Script) → m.script ≡ None → script ≡ quiet_script m.coalition m.words
    → Ended (script_step m) s s (Ok script)
script-quiet m s script none e = Reaches-same (script_step m) (makes script) s (λ more. rw (none, e) refl)

-- with a script its file is read
pub script-read : (m : Content) (name : List ℕ) (s0 s1 : ShelfState) (r : Result Script NotRead) → m.script ≡ Some name
    → Ended (script_or_quiet m (Some name)) s0 s1 r → Ended (script_step m) s0 s1 r
script-read m name s0 s1 r e p =
    Ended-then (script_step m) (script_or_quiet m (Some name)) s0 s0 s1 r
    (Reaches-same (script_step m) (script_or_quiet m (Some name)) s0 (λ more. rw e refl)) p

-- the streams so far, and those of the other names
abbrev pub streams_after : List (Option Stream) → List (List ℕ) → Reader (List (Option Stream))
streams_after read names given = streams_step names given >>= λ streams left. makes (read ++ streams) left

-- at the beginning none was read
streams_begin : (step : Step (List (Option Stream))) → step ≡ (step >>= λ streams left. makes ([] ++ streams) left)
streams_begin (needs name limit) = refl
streams_begin (refuses name fault) = refl
streams_begin (differs found) = refl
streams_begin (makes streams left) = refl

Reaches-begin : (names : List (List ℕ)) (s : ShelfState) → Reaches (streams_step names) (streams_after [] names) s s
Reaches-begin names s = Reaches-same (streams_step names) (streams_after [] names) s (λ more. streams_begin (streams_step names more))

-- one more stream after those that were read
one_more : (read : List (Option Stream)) (stream : Option Stream) (rest : Step (List (Option Stream)))
    → ((rest >>= λ streams left. makes (stream ∷ streams) left) >>= λ streams left. makes (read ++ streams) left)
    ≡ (rest >>= λ streams left. makes ((read ++ stream ∷ []) ++ streams) left)
one_more read stream (needs name limit) = refl
one_more read stream (refuses name fault) = refl
one_more read stream (differs found) = refl
one_more read stream (makes streams left) = ap (λ (ss : List (Option Stream)). makes ss left) (sym (append_assoc read (stream ∷ []) streams))

-- the streams of a name and of the others
abbrev after_first : List (List ℕ) → Option Stream → Reader (List (Option Stream))
after_first names stream given = streams_step names given >>= λ streams left. makes (stream ∷ streams) left

Reaches-stream : (read : List (Option Stream)) (name : List ℕ) (names : List (List ℕ)) (s0 s1 : ShelfState) (stream : Option Stream)
    → Ended (stream_step name) s0 s1 (Ok stream)
    → Reaches (streams_after read (name ∷ names)) (streams_after (read ++ stream ∷ []) names) s0 s1
Reaches-stream read name names s0 s1 stream p =
    let next = λ (streams : List (Option Stream)) (left : List (List ℕ)). makes (read ++ streams) left in
    let all = λ (given : List (List ℕ)). stream_step name given >>= after_first names in
    Reaches-then (streams_after read (name ∷ names)) (λ given. after_first names stream given >>= next) (streams_after (read ++ stream ∷ []) names) s0 s1 s1
    (Reaches-first all (after_first names stream) next s0 s1 (Reaches-first (stream_step name) (makes stream) (after_first names) s0 s1 p))
    (Reaches-same (λ given. after_first names stream given >>= next) (streams_after (read ++ stream ∷ []) names) s1
    (λ more. one_more read stream (streams_step names more)))

-- the names from an index on
names_from : (names : List (List ℕ)) (i : ℕ) (item name : List ℕ) → i < length names → item ≡ get_or names i item → name ≡ item
    → drop i names ≡ name ∷ drop (i + 1) names
names_from names i item name lt is e =
    let next : i + 1 ≡ suc i = omega arith in
    drop-cons names i item lt ∙ ap (λ (n : List ℕ). n ∷ drop (suc i) names) (sym is ∙ sym e) ∙ ap (λ (k : ℕ). name ∷ drop k names) (sym next)

-- the streams of the names before an index were read
pub record StreamsRead (names : List (List ℕ)) (i : ℕ) (read : List (Option Stream)) (before now : ShelfState) : Type 0 where
  pub count : length read ≡ i
  pub reaches : Reaches (streams_step names) (streams_after read (drop i names)) before now

pub StreamsRead-none : (names : List (List ℕ)) (read : List (Option Stream)) (s : ShelfState) → read ≡ [] → StreamsRead names 0 read s s
StreamsRead-none names read s e = record {
  count = ap (λ (ss : List (Option Stream)). length ss) e;
  reaches = rw e (Reaches-begin names s);
}

-- the stream of the name at the index is next
reaches_name : (names : List (List ℕ)) (i : ℕ) (name : List ℕ) (read : List (Option Stream)) (s0 s1 : ShelfState)
    → drop i names ≡ name ∷ drop (i + 1) names → StreamsRead names i read s0 s1
    → Reaches (streams_step names) (streams_after read (name ∷ drop (i + 1) names)) s0 s1
reaches_name names i name read s0 s1 e p =
    let P : List (List ℕ) → Type 0 = λ ns. Reaches (streams_step names) (streams_after read ns) s0 s1 in subst P e p.reaches

-- one more was read
pub StreamsRead-more : (names : List (List ℕ)) (i : ℕ) (item name : List ℕ) (read next : List (Option Stream)) (s0 s1 s2 : ShelfState)
    (stream : Option Stream) → i < length names → item ≡ get_or names i item → name ≡ item → StreamsRead names i read s0 s1
    → Ended (stream_step name) s1 s2 (Ok stream) → next ≡ read ++ stream ∷ [] → StreamsRead names (i + 1) next s0 s2
StreamsRead-more names i item name read next s0 s1 s2 stream lt is same p q e = record {
  count = ap (λ (ss : List (Option Stream)). length ss) e ∙ length-append read (stream ∷ []) ∙ ap (λ (k : ℕ). k + 1) p.count;
  reaches = rw e
      (Reaches-then (streams_step names) (streams_after read (name ∷ drop (i + 1) names)) (streams_after (read ++ stream ∷ []) (drop (i + 1) names)) s0 s1 s2
      (reaches_name names i name read s0 s1 (names_from names i item name lt is same) p)
      (Reaches-stream read name (drop (i + 1) names) s1 s2 stream q));
}

-- the next one was not read
pub StreamsRead-stops : (names : List (List ℕ)) (i : ℕ) (item name : List ℕ) (read : List (Option Stream)) (s0 s1 s2 : ShelfState) (e : NotRead)
    → i < length names → item ≡ get_or names i item → name ≡ item → StreamsRead names i read s0 s1
    → Ended (stream_step name) s1 s2 (Err e) → Ended (streams_step names) s0 s2 (Err e)
StreamsRead-stops names i item name read s0 s1 s2 e lt is same p q =
    let next = λ (streams : List (Option Stream)) (left : List (List ℕ)). makes (read ++ streams) left in
    Ended-then (streams_step names) (streams_after read (name ∷ drop (i + 1) names)) s0 s1 s2 (Err e)
    (reaches_name names i name read s0 s1 (names_from names i item name lt is same) p)
    (Ended-first (λ given. stream_step name given >>= after_first (drop (i + 1) names)) next s1 s2 e
    (Ended-first (stream_step name) (after_first (drop (i + 1) names)) s1 s2 e q))

-- memory ran out after the next one was read
pub StreamsRead-no_memory : (names : List (List ℕ)) (i : ℕ) (item name : List ℕ) (read : List (Option Stream)) (s0 s1 s2 : ShelfState) (stream : Option Stream)
    → i < length names → item ≡ get_or names i item → name ≡ item → StreamsRead names i read s0 s1
    → Ended (stream_step name) s1 s2 (Ok stream) → Ended (streams_step names) s0 s2 (Err NoMemory)
StreamsRead-no_memory names i item name read s0 s1 s2 stream lt is same p q =
    let more = StreamsRead-more names i item name read (read ++ stream ∷ []) s0 s1 s2 stream lt is same p q refl in
    (more.reaches.files, more.reaches.gave)

-- all were read
pub StreamsRead-all : (names : List (List ℕ)) (i : ℕ) (read : List (Option Stream)) (s0 s1 : ShelfState)
    → length names ≤ i → StreamsRead names i read s0 s1 → Ended (streams_step names) s0 s1 (Ok read)
StreamsRead-all names i read s0 s1 le p =
    let P : List (List ℕ) → Type 0 = λ ns. Reaches (streams_step names) (streams_after read ns) s0 s1 in
    Reaches-then (streams_step names) (streams_after read []) (makes read) s0 s1 s1 (subst P (drop_all i names le) p.reaches)
    (Reaches-same (streams_after read []) (makes read) s1 (λ more. ap (λ (ss : List (Option Stream)). makes ss more) (append-nil read)))
