-- The parts of a net, one after another.
use Rattle.std.proofs.Common.{◌≡◌, ℕ, List, Option, Ok, Err, subst}
use Rattle.dc_spec.specs.Outside.{ShelfState}
use Rattle.dc_spec.specs.Limits.{manifest_limit, key_file_limit}
use Rattle.dc_spec.specs.Entries.{Stream}
use Rattle.dc_spec.specs.Pads.{Keys}
use Rattle.dc_spec.specs.Scripts.{Script}
use Rattle.dc_spec.specs.Net.{Net}
use Rattle.dc_manifest.specs.Content.{Content}
use Rattle.dc_net_files.specs.Steps.{makes, Reader, ◌>>=◌, file_step}
use Rattle.dc_net_files.specs.Parts.{manifest_in, keys_in, streams_step, script_step, net_of, parts_step}
use Rattle.dc_net_files.specs.Reading.{Reaches, Ended}
use Rattle.dc_net_files.specs.declared.fault.NotRead.{NotRead}
use Rattle.dc_net_files.proofs.EndedLemmas.{Reaches-then, Reaches-first, Ended-then, Ended-first}

-- what is left to do after each part
abbrev after_streams : Content → Keys → List (Option Stream) → Reader Net
after_streams manifest keys streams given =
    script_step manifest given >>= λ script left. makes (net_of manifest keys streams script) left

abbrev after_keys : Content → Keys → Reader Net
after_keys manifest keys given = streams_step manifest.streams given >>= after_streams manifest keys

abbrev after_manifest : Content → Reader Net
after_manifest manifest given = file_step manifest.keys key_file_limit keys_in given >>= after_keys manifest

-- the manifest was read, from the file of this name
pub record ManifestRead (name : List ℕ) (manifest : Content) (before after : ShelfState) : Type 0 where
  pub ended : Ended (file_step name manifest_limit manifest_in) before after (Ok manifest)

-- and then the key file that it names
pub record KeysRead (name : List ℕ) (manifest : Content) (keys : Keys) (before after : ShelfState) : Type 0 where
  pub reaches : Reaches (parts_step name) (after_keys manifest keys) before after

-- and then the streams that it names
pub record AllStreamsRead (name : List ℕ) (manifest : Content) (keys : Keys) (streams : List (Option Stream)) (before after : ShelfState) : Type 0 where
  pub reaches : Reaches (parts_step name) (after_streams manifest keys streams) before after

pub manifest-stops : (name : List ℕ) (s0 s1 : ShelfState) (e : NotRead)
    → Ended (file_step name manifest_limit manifest_in) s0 s1 (Err e) → Ended (parts_step name) s0 s1 (Err e)
unfolding parts_step
manifest-stops name s0 s1 e p = Ended-first (file_step name manifest_limit manifest_in) after_manifest s0 s1 e p

reaches_keys : (name : List ℕ) (m : Content) (s0 s1 : ShelfState) → ManifestRead name m s0 s1 → Reaches (parts_step name) (after_manifest m) s0 s1
unfolding parts_step
reaches_keys name m s0 s1 p = Reaches-first (file_step name manifest_limit manifest_in) (makes m) after_manifest s0 s1 p.ended

pub keys-stop : (name : List ℕ) (m : Content) (file : List ℕ) (s0 s1 s2 : ShelfState) (e : NotRead) → ManifestRead name m s0 s1
    → file ≡ m.keys → Ended (file_step file key_file_limit keys_in) s1 s2 (Err e) → Ended (parts_step name) s0 s2 (Err e)
keys-stop name m file s0 s1 s2 e before same p =
    let P : List ℕ → Type 0 = λ n. Ended (file_step n key_file_limit keys_in) s1 s2 (Err e) in
    Ended-then (parts_step name) (after_manifest m) s0 s1 s2 (Err e) (reaches_keys name m s0 s1 before)
    (Ended-first (file_step m.keys key_file_limit keys_in) (after_keys m) s1 s2 e (subst P same p))

pub keys-read : (name : List ℕ) (m : Content) (file : List ℕ) (keys : Keys) (s0 s1 s2 : ShelfState) → ManifestRead name m s0 s1
    → file ≡ m.keys → Ended (file_step file key_file_limit keys_in) s1 s2 (Ok keys) → KeysRead name m keys s0 s2
keys-read name m file keys s0 s1 s2 before same p =
    let P : List ℕ → Type 0 = λ n. Ended (file_step n key_file_limit keys_in) s1 s2 (Ok keys) in record {
      reaches = Reaches-then (parts_step name) (after_manifest m) (after_keys m keys) s0 s1 s2 (reaches_keys name m s0 s1 before)
          (Reaches-first (file_step m.keys key_file_limit keys_in) (makes keys) (after_keys m) s1 s2 (subst P same p));
    }

pub streams-stop : (name : List ℕ) (m : Content) (keys : Keys) (names : List (List ℕ)) (s0 s1 s2 : ShelfState) (e : NotRead)
    → KeysRead name m keys s0 s1 → names ≡ m.streams → Ended (streams_step names) s1 s2 (Err e) → Ended (parts_step name) s0 s2 (Err e)
streams-stop name m keys names s0 s1 s2 e before same p =
    let P : List (List ℕ) → Type 0 = λ ns. Ended (streams_step ns) s1 s2 (Err e) in
    Ended-then (parts_step name) (after_keys m keys) s0 s1 s2 (Err e) before.reaches
    (Ended-first (streams_step m.streams) (after_streams m keys) s1 s2 e (subst P same p))

pub streams-read : (name : List ℕ) (m : Content) (keys : Keys) (names : List (List ℕ)) (streams : List (Option Stream)) (s0 s1 s2 : ShelfState)
    → KeysRead name m keys s0 s1 → names ≡ m.streams → Ended (streams_step names) s1 s2 (Ok streams) → AllStreamsRead name m keys streams s0 s2
streams-read name m keys names streams s0 s1 s2 before same p =
    let P : List (List ℕ) → Type 0 = λ ns. Ended (streams_step ns) s1 s2 (Ok streams) in record {
      reaches = Reaches-then (parts_step name) (after_keys m keys) (after_streams m keys streams) s0 s1 s2 before.reaches
          (Reaches-first (streams_step m.streams) (makes streams) (after_streams m keys) s1 s2 (subst P same p));
    }

pub script-stops : (name : List ℕ) (m : Content) (keys : Keys) (streams : List (Option Stream)) (s0 s1 s2 : ShelfState) (e : NotRead)
    → AllStreamsRead name m keys streams s0 s1 → Ended (script_step m) s1 s2 (Err e) → Ended (parts_step name) s0 s2 (Err e)
script-stops name m keys streams s0 s1 s2 e before p =
    Ended-then (parts_step name) (after_streams m keys streams) s0 s1 s2 (Err e) before.reaches
    (Ended-first (script_step m) (λ script left. makes (net_of m keys streams script) left) s1 s2 e p)

pub all-read : (name : List ℕ) (m : Content) (keys : Keys) (streams : List (Option Stream)) (script : Script) (net : Net) (s0 s1 s2 : ShelfState)
    → AllStreamsRead name m keys streams s0 s1 → Ended (script_step m) s1 s2 (Ok script) → net_of m keys streams script ≡ net
    → Ended (parts_step name) s0 s2 (Ok net)
all-read name m keys streams script net s0 s1 s2 before p same =
    let P : Net → Type 0 = λ n. Reaches (parts_step name) (makes n) s0 s2 in
    subst P same (Reaches-then (parts_step name) (after_streams m keys streams) (makes (net_of m keys streams script)) s0 s1 s2 before.reaches
    (Reaches-first (script_step m) (makes script) (λ script left. makes (net_of m keys streams script) left) s1 s2 p))
