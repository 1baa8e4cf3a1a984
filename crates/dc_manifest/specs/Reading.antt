-- Reading a manifest: the tests in their order, and what is read.
use Rattle.std.specs.Prelude.{ℕ, ◌*◌, ◌-◌, ◌^◌, ◌/◌, ◌%◌, ℤ, pos, negsuc, min, ◌&&◌, ◌==◌, nat_le, nat_lt, List, [], ◌∷◌, length, map, Option, Some, None, Result, Ok, Err, if◌then◌else◌, codes}
use Rattle.std.specs.List.{range_with_len, filter}
use Rattle.std.specs.Str.{is_utf8}
use Rattle.toml.specs.Data.{Members}
use Rattle.toml.specs.Parse.{parse_document}
use Rattle.dc_spec.specs.Lists.{is_among}
use Rattle.dc_spec.specs.Limits.{most_words, most_pads}
use Rattle.dc_graph.specs.declared.fault.MemberFault.{MemberFault}
use Rattle.dc_graph.specs.declared.fault.GraphFault.{GraphFault}
use Rattle.dc_graph.specs.Faults.{graph_fault, member_fault, stands_in}
use Rattle.dc_manifest.specs.declared.fault.ManifestFault.{ManifestFault}
use Rattle.dc_manifest.specs.declared.fault.ManifestFault.TheVariants.{Toml, Unknown, Field, Range, Graph, Member, TooLarge}
use Rattle.dc_graph.specs.Graph.{PlainGraph}
use Rattle.dc_manifest.specs.Content.{Content}
use Rattle.dc_manifest.specs.Fields.{◌>>=◌, FieldValues, values_of, first_unknown, first_absent}

-- a number of a field, where it is one of low to high
abbrev pub within : List ℕ → ℕ → ℕ → ℤ → Result ℕ ManifestFault
within name low high (pos n) = if nat_le low n && nat_le n high then Ok n else Err (Range name (pos n))
within name low high (negsuc n) = Err (Range name (negsuc n))

-- a number below 65536
abbrev pub short : List ℕ → ℤ → Result ℕ ManifestFault
short name z = within name 0 65535 z

-- two numbers below 65536
abbrev pub short_pair : List ℕ → ℤ × ℤ → Result (ℕ × ℕ) ManifestFault
short_pair name p = short name p.0 >>= λ u. short name p.1 >>= λ v. Ok (u, v)

-- each item of a list as it is read, or the first fault
abbrev pub each : {X Y : Type 0} → (X → Result Y ManifestFault) → List X → Result (List Y) ManifestFault
each read [] = Ok []
each read (x ∷ xs) = read x >>= λ y. each read xs >>= λ ys. Ok (y ∷ ys)

-- the number of stations, where there are as many streams
abbrev pub with_streams : ℕ → ℕ → Result ℕ ManifestFault
with_streams stations count =
    if count == stations then Ok stations
    else Err (Range (codes "streams") (pos (min count (2 ^ 63 - 1))))

-- a key graph and its coalition as they are given, and how many words a session has
pub record GivenNumbers : Type 0 where
  pub coalition : List ℕ
  pub edges : List (ℕ × ℕ)
  pub stations : ℕ
  pub words : ℕ

-- the numbers of all fields, or the first that is out of range
unfoldable pub numbers_of : FieldValues → Result GivenNumbers ManifestFault
numbers_of values =
    each (short (codes "coalition")) values.coalition >>= λ coalition.
    each (short_pair (codes "edges")) values.edges >>= λ edges.
    short (codes "stations") values.stations >>= λ stations.
    with_streams stations (length values.streams) >>= λ stations.
    within (codes "words") 1 most_words values.words >>= λ words.
    Ok (record { coalition = coalition; edges = edges; stations = stations; words = words })

-- all pairs of so many stations in rising order, and those of them that are given
abbrev pub pair_number : ℕ → ℕ → ℕ × ℕ
pair_number n k = (k / n, k % n)

abbrev pub rising_edges : ℕ → List (ℕ × ℕ) → List (ℕ × ℕ)
rising_edges n edges = filter (stands_in edges) (map (pair_number n) (range_with_len 0 (n * n)))

-- the key graph of these edges, where they have no fault
abbrev pub graph_of : ℕ → List (ℕ × ℕ) → Option GraphFault → Result PlainGraph ManifestFault
graph_of n edges (Some fault) = Err (Graph fault)
graph_of n edges None = Ok (record { stations = n; edges = rising_edges n edges })

-- the stations that are given, in rising order
abbrev pub rising_members : ℕ → List ℕ → List ℕ
rising_members n members = filter (is_among members) (range_with_len 0 n)

-- the coalition of these members, where they have no fault
abbrev pub coalition_of : ℕ → List ℕ → Option MemberFault → Result (List ℕ) ManifestFault
coalition_of n members (Some fault) = Err (Member fault.place)
coalition_of n members None = Ok (rising_members n members)

-- the number of words, where the pads of so many edges are not too many
abbrev pub sized : ℕ → ℕ → Result ℕ ManifestFault
sized edges words =
    if nat_lt most_pads (edges * 32 * words) then Err (TooLarge (edges * 32 * words)) else Ok words

-- the content of values, or the first fault of their numbers
unfoldable pub content_of : FieldValues → Result Content ManifestFault
content_of values =
    numbers_of values >>= λ numbers.
    graph_of numbers.stations numbers.edges (graph_fault numbers.stations numbers.edges) >>= λ graph.
    coalition_of numbers.stations numbers.coalition (member_fault numbers.stations numbers.coalition) >>= λ coalition.
    sized (length graph.edges) numbers.words >>= λ words.
    Ok (record {
      graph = graph;
      coalition = coalition;
      words = words;
      keys = values.keys;
      streams = values.streams;
      script = values.script;
    })

-- a table without unknown fields, and one with all required fields
abbrev pub without_unknown : Members → Option (List ℕ) → Result Members ManifestFault
without_unknown ms None = Ok ms
without_unknown ms (Some name) = Err (Unknown name)

abbrev pub without_absent : Members → Option (List ℕ) → Result Members ManifestFault
without_absent ms None = Ok ms
without_absent ms (Some name) = Err (Field name)

-- what a document holds, or its first fault
unfoldable pub manifest_of_document : Option Members → Result Content ManifestFault
manifest_of_document None = Err Toml
manifest_of_document (Some ms) =
    without_unknown ms (first_unknown ms) >>= λ ms.
    without_absent ms (first_absent ms) >>= λ ms.
    values_of ms >>= λ values.
    content_of values

-- what bytes hold as a manifest, or their first fault
unfoldable pub manifest_of : List ℕ → Result Content ManifestFault
manifest_of bytes = if is_utf8 bytes then manifest_of_document (parse_document bytes) else Err Toml
