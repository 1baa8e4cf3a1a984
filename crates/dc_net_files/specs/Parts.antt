-- The files of a net: the manifest, the key file, the streams, the script.
use Rattle.std.specs.Prelude.{ℕ, ◌≡◌, List, [], ◌∷◌, Option, Some, None, Result, Ok, Err}
use Rattle.dc_spec.specs.Limits.{manifest_limit, key_file_limit, stream_limit, script_limit}
use Rattle.dc_spec.specs.Entries.{Stream}
use Rattle.dc_spec.specs.Pads.{Keys}
use Rattle.dc_spec.specs.Scripts.{Script}
use Rattle.dc_spec.specs.Net.{Net}
use Rattle.dc_net_rules.specs.Agreement.{Disagreement, disagreement}
use Rattle.dc_manifest.specs.Content.{Content}
use Rattle.dc_manifest.specs.Reading.{manifest_of}
use Rattle.dc_keyfile.specs.Reading.{keys_from_bytes}
use Rattle.dc_stream.specs.Reading.{stream_from_bytes}
use Rattle.dc_script.specs.Reading.{script_from_bytes}
use Rattle.dc_script.specs.Quiet.{quiet_script}
use Rattle.dc_net_files.specs.Steps.{differs, makes, Reader, ◌>>=◌, file_step}
use Rattle.dc_net_files.specs.declared.fault.NetFileFault.{NetFileFault}
use Rattle.dc_net_files.specs.declared.fault.NetFileFault.TheVariants.{Manifest, Keys as KeyFile, Stream as StreamFile, Script as ScriptFile}

-- what was read, or its fault as one of a kind of file
abbrev pub of_kind : {A F : Type 0} → (F → NetFileFault) → Result A F → Result A NetFileFault
of_kind kind (Ok x) = Ok x
of_kind kind (Err fault) = Err (kind fault)

-- bytes as a file of each kind
abbrev pub manifest_in : List ℕ → Result Content NetFileFault
manifest_in bytes = of_kind Manifest (manifest_of bytes)

abbrev pub keys_in : List ℕ → Result Keys NetFileFault
keys_in bytes = of_kind KeyFile (keys_from_bytes bytes)

abbrev pub stream_in : List ℕ → Result Stream NetFileFault
stream_in bytes = of_kind StreamFile (stream_from_bytes bytes)

abbrev pub script_in : List ℕ → Result Script NetFileFault
script_in bytes = of_kind ScriptFile (script_from_bytes bytes)

-- the bytes have this fault as a file of its kind
abbrev pub HasFault : List ℕ → NetFileFault → Type 0
HasFault bytes (Manifest fault) = manifest_of bytes ≡ Err fault
HasFault bytes (KeyFile fault) = keys_from_bytes bytes ≡ Err fault
HasFault bytes (StreamFile fault) = stream_from_bytes bytes ≡ Err fault
HasFault bytes (ScriptFile fault) = script_from_bytes bytes ≡ Err fault

-- the stream of a station: a file, or none where its name is empty
abbrev pub stream_step : List ℕ → Reader (Option Stream)
stream_step [] given = makes None given
stream_step (c ∷ name) given =
    file_step (c ∷ name) stream_limit stream_in given >>= λ stream left. makes (Some stream) left

-- the streams of all stations, in order
abbrev pub streams_step : List (List ℕ) → Reader (List (Option Stream))
streams_step [] given = makes [] given
streams_step (name ∷ names) given =
    stream_step name given >>= λ stream left.
    streams_step names left >>= λ streams left.
    makes (stream ∷ streams) left

-- the script that the manifest names, or the quiet one
abbrev pub script_or_quiet : Content → Option (List ℕ) → Reader Script
script_or_quiet manifest None given = makes (quiet_script manifest.coalition manifest.words) given
script_or_quiet manifest (Some name) given = file_step name script_limit script_in given

abbrev pub script_step : Content → Reader Script
script_step manifest given = script_or_quiet manifest manifest.script given

-- the net of these parts
abbrev pub net_of : Content → Keys → List (Option Stream) → Script → Net
net_of manifest keys streams script = record {
  stations = manifest.graph.stations;
  edges = manifest.graph.edges;
  coalition = manifest.coalition;
  keys = keys;
  streams = streams;
  script = script;
  words = manifest.words;
}

-- the parts that a manifest of this name names: the manifest, the key file, the streams by station,
-- the script
unfoldable pub parts_step : List ℕ → Reader Net
parts_step name given =
    file_step name manifest_limit manifest_in given >>= λ manifest left.
    file_step manifest.keys key_file_limit keys_in left >>= λ keys left.
    streams_step manifest.streams left >>= λ streams left.
    script_step manifest left >>= λ script left.
    makes (net_of manifest keys streams script) left

-- a net, where its parts do not differ
abbrev pub unless : Option Disagreement → Net → Reader Net
unless None net left = makes net left
unless (Some found) net left = differs found

abbrev pub agreed : Net → Reader Net
agreed net left = unless (disagreement net) net left

-- the net of the files that a manifest of this name names: its parts, where they agree
abbrev pub net_step : List ℕ → Reader Net
net_step name given = parts_step name given >>= agreed
