-- The keys of honest stations that follow one another, and the words that they have received.
use Rattle.std.specs.Prelude.{ℕ, ◌+◌, ◌<◌, ◌≤◌, ◌≡◌, List, [], ◌∷◌, ◌++◌, length, slice_index_or}
use Rattle.dc_spec.specs.Pads.{Keys}
use Rattle.dc_formats.specs.KeyFile.{IsKeys}
use Rattle.dc_keys.specs.StationPads.{station_pads}
use Rattle.dc_fast_keys.specs.NetKeys.{KeysState, StandsFor}
use Rattle.dc_net.specs.KeyPart.{KeyStandsFor}
use Rattle.dc_net.specs.declared.key_strip.StripKeys.{StripKeys}
use Rattle.dc_net.specs.declared.key_strip.StripKeys.TheVariants.{One, Many}
use Rattle.dc_net.specs.declared.key_strip.KeyStrip.{KeyStrip}

-- how many stations there are, how many words were taken, and how many the session has
abbrev pub stations_in : StripKeys → ℕ
stations_in (One part) = 1
stations_in (Many keys) = keys.stations

abbrev pub taken_in : StripKeys → ℕ
taken_in (One part) = part.taken
taken_in (Many keys) = keys.taken

abbrev pub total_in : StripKeys → ℕ
total_in (One part) = part.total
total_in (Many keys) = keys.words

-- station s of many has the pads of this station of a key file, and has received these words
pub record IsAmong (many : KeysState) (s : ℕ) (keys : Keys) (station : ℕ) (received : List (List ℕ)) : Type 0 where
  pub are_keys : IsKeys keys
  pub session : many.words ≡ keys.words
  pub stands : StandsFor many s (station_pads keys station) received

-- the keys at place s are those of this station after these words
abbrev pub StripStandsFor : StripKeys → ℕ → Keys → ℕ → List (List ℕ) → Type 0
StripStandsFor (One part) s keys station received = KeyStandsFor part keys station received
StripStandsFor (Many many) s keys station received = IsAmong many s keys station received

-- the words of the stations are in a row, and the session has a round more
pub record TakesRow (row : List (List ℕ)) (strip : KeyStrip) : Type 0 where
  pub within : strip.first + stations_in strip.keys ≤ length row
  pub left : taken_in strip.keys < total_in strip.keys

-- a strip before and after each of its stations took its word of a row
pub record TookRow (row : List (List ℕ)) (before after : KeyStrip) : Type 0 where
  pub first : after.first ≡ before.first
  pub stations : stations_in after.keys ≡ stations_in before.keys
  pub taken : taken_in after.keys ≡ taken_in before.keys + 1
  pub total : total_in after.keys ≡ total_in before.keys
  pub stands : (s : ℕ) (keys : Keys) (station : ℕ) (received : List (List ℕ)) → s < stations_in before.keys
      → StripStandsFor before.keys s keys station received
      → StripStandsFor after.keys s keys station (received ++ slice_index_or row (before.first + s) [] ∷ [])

-- all strips did
pub record AllTookRow (row : List (List ℕ)) (before after : List KeyStrip) : Type 0 where
  pub as_many : length after ≡ length before
  pub each : (q : ℕ) (d : KeyStrip) → q < length before → TookRow row (slice_index_or before q d) (slice_index_or after q d)
