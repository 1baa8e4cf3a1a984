-- The keys of a station, and the words that it has received.
use Rattle.std.specs.Prelude.{ℕ, ◌≡◌, List, length}
use Rattle.dc_spec.specs.Pads.{Keys}
use Rattle.dc_formats.specs.KeyFile.{IsKeys}
use Rattle.dc_keys.specs.StationPads.{station_pads}
use Rattle.dc_conv.specs.Mask.{MaskState, StandsFor}

-- how many words were taken, how many words the session has, and what is kept of the words
pub record KeyState : Type 0 where
  pub taken : ℕ
  pub total : ℕ
  pub mask : MaskState

-- these are the keys of this station after these words
pub record KeyStandsFor (part : KeyState) (keys : Keys) (station : ℕ) (received : List (List ℕ)) : Type 0 where
  pub are_keys : IsKeys keys
  pub session : part.total ≡ keys.words
  pub counted : part.taken ≡ length received
  pub stands : StandsFor part.mask (station_pads keys station) received
