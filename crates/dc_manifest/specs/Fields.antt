-- The seven fields of a manifest: the kind of each, and which of them are required.
use Rattle.std.specs.Prelude.{ℕ, ℤ, Bool, List, [], ◌∷◌, Option, Some, None, option_and_then, option_map, unwrap_or, Result, Ok, Err, bytes_eq, is_none, if◌then◌else◌, codes}
use Rattle.std.specs.List.{list_any, find}
use Rattle.toml.specs.Data.{Data, Items, no_items, item, Members, no_members, member, get_member, as_integer, as_str, as_array}
use Rattle.dc_manifest.specs.declared.fault.ManifestFault.{ManifestFault}
use Rattle.dc_manifest.specs.declared.fault.ManifestFault.TheVariants.{Kind}

-- the next test, where those before it passed
infixr 10 ◌>>=◌
abbrev pub ◌>>=◌ : {X Y : Type 0} → Result X ManifestFault → (X → Result Y ManifestFault) → Result Y ManifestFault
Err fault >>= next = Err fault
Ok x >>= next = next x

-- all items as one kind, or nothing where an item is of another kind
abbrev pub each_item : {X : Type 0} → (Data → Option X) → Items → Option (List X)
each_item kind no_items = Some []
each_item kind (item d ds) = option_and_then (λ x. option_map (λ xs. x ∷ xs) (each_item kind ds)) (kind d)

-- an array of one kind
abbrev pub array_of : {X : Type 0} → (Data → Option X) → Data → Option (List X)
array_of kind d = option_and_then (each_item kind) (as_array d)

-- a list of two
abbrev pub two_of : {X : Type 0} → List X → Option (X × X)
two_of (x ∷ y ∷ []) = Some (x, y)
two_of _ = None

-- an array of two integers
abbrev pub as_pair : Data → Option (ℤ × ℤ)
as_pair d = option_and_then two_of (array_of as_integer d)

-- the names of all fields, and of those that are required, in byte order
abbrev pub known : List (List ℕ)
known =
    codes "coalition" ∷ codes "edges" ∷ codes "keys" ∷ codes "script" ∷ codes "stations" ∷ codes "streams" ∷
    codes "words" ∷ []

abbrev pub required : List (List ℕ)
required = codes "edges" ∷ codes "keys" ∷ codes "stations" ∷ codes "streams" ∷ codes "words" ∷ []

-- whether a name is among names
abbrev pub is_named : List (List ℕ) → List ℕ → Bool
is_named names name = list_any (bytes_eq name) names

-- the first field that no manifest has; a table has its fields in byte order
abbrev pub first_unknown : Members → Option (List ℕ)
first_unknown no_members = None
first_unknown (member name d ms) = if is_named known name then first_unknown ms else Some name

-- whether a table has no field of this name
abbrev pub is_absent : Members → List ℕ → Bool
is_absent ms name = is_none (get_member name ms)

-- the first required field that a table does not have
abbrev pub first_absent : Members → Option (List ℕ)
first_absent ms = find (is_absent ms) required

-- the values of all fields
pub record FieldValues : Type 0 where
  pub coalition : List ℤ
  pub edges : List (ℤ × ℤ)
  pub keys : List ℕ
  pub script : Option (List ℕ)
  pub stations : ℤ
  pub streams : List (List ℕ)
  pub words : ℤ

-- a value as a kind, or the fault that a field is of another kind
abbrev pub of_kind : {X : Type 0} → List ℕ → Option X → Result X ManifestFault
of_kind name (Some x) = Ok x
of_kind name None = Err (Kind name)

-- the value of an optional field as a kind
abbrev pub optionally : {X : Type 0} → (Data → Option X) → Option Data → Option (Option X)
optionally kind None = Some None
optionally kind (Some d) = option_map (λ x. Some x) (kind d)

-- a required field and an optional field of a table as a kind
abbrev pub needed : {X : Type 0} → (Data → Option X) → List ℕ → Members → Result X ManifestFault
needed kind name ms = of_kind name (option_and_then kind (get_member name ms))

abbrev pub wanted : {X : Type 0} → (Data → Option X) → List ℕ → Members → Result (Option X) ManifestFault
wanted kind name ms = of_kind name (optionally kind (get_member name ms))

-- the values of all fields, or the first field of another kind
unfoldable pub values_of : Members → Result FieldValues ManifestFault
values_of ms =
    wanted (array_of as_integer) (codes "coalition") ms >>= λ coalition.
    needed (array_of as_pair) (codes "edges") ms >>= λ edges.
    needed as_str (codes "keys") ms >>= λ keys.
    wanted as_str (codes "script") ms >>= λ script.
    needed as_integer (codes "stations") ms >>= λ stations.
    needed (array_of as_str) (codes "streams") ms >>= λ streams.
    needed as_integer (codes "words") ms >>= λ words.
    Ok (record {
      coalition = unwrap_or coalition [];
      edges = edges;
      keys = keys;
      script = script;
      stations = stations;
      streams = streams;
      words = words;
    })
