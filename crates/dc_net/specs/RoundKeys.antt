-- The keys of all honest stations, by their places, in strips of so many places.
use Rattle.std.specs.Prelude.{ℕ, ◌+◌, ◌-◌, ◌*◌, ◌/◌, ◌%◌, ◌<◌, ◌≤◌, ◌≡◌, min, List, [], length, slice_index, slice_index_or}
use Rattle.dc_spec.specs.Pads.{Keys}
use Rattle.dc_net.specs.KeyStrip.{stations_in, taken_in, total_in, StripStandsFor}
use Rattle.dc_net.specs.declared.key_strip.KeyStrip.{KeyStrip}

-- how many places a strip has, how many places there are, how many words were taken, how many the
-- session has, and the strips
pub record RoundKeysState : Type 0 where
  pub width : ℕ
  pub places : ℕ
  pub taken : ℕ
  pub total : ℕ
  pub strips : List KeyStrip

-- strip q has the places from q times the width on, as far as there are places
pub record IsStrip (k : RoundKeysState) (strip : KeyStrip) (q : ℕ) : Type 0 where
  pub begins : q * k.width < k.places
  pub first : strip.first ≡ q * k.width
  pub stations : stations_in strip.keys ≡ min k.width (k.places - q * k.width)
  pub taken : taken_in strip.keys ≡ k.taken
  pub total : total_in strip.keys ≡ k.total

-- each place is in a strip
pub record AreRoundKeys (k : RoundKeysState) : Type 0 where
  pub some : 1 ≤ k.width
  pub enough : k.places ≤ length k.strips * k.width
  pub strips : (q : ℕ) (d : KeyStrip) → q < length k.strips → IsStrip k (slice_index_or k.strips q d) q

-- the keys at this place are those of this station after these words
pub record KeysAt (k : RoundKeysState) (place : ℕ) (keys : Keys) (station : ℕ) (received : List (List ℕ)) : Type 0 where
  pub within : place < k.places
  pub session : k.total ≡ keys.words
  pub counted : k.taken ≡ length received
  pub stands : (d : KeyStrip)
      → StripStandsFor (slice_index_or k.strips (place / k.width) d).keys (place % k.width) keys station received

-- strip q of these stations before the first round
pub record IsNewStrip (strip : KeyStrip) (keys : Keys) (stations : List ℕ) (width q : ℕ) : Type 0 where
  pub begins : q * width < length stations
  pub first : strip.first ≡ q * width
  pub count : stations_in strip.keys ≡ min width (length stations - q * width)
  pub taken : taken_in strip.keys ≡ 0
  pub total : total_in strip.keys ≡ keys.words
  pub stands : (s : ℕ) → s < stations_in strip.keys → StripStandsFor strip.keys s keys (slice_index stations (q * width + s)) []

-- the strips of all these stations before the first round
pub record AreNewStrips (strips : List KeyStrip) (keys : Keys) (stations : List ℕ) (width : ℕ) : Type 0 where
  pub enough : length stations ≤ length strips * width
  pub each : (q : ℕ) (d : KeyStrip) → q < length strips → IsNewStrip (slice_index_or strips q d) keys stations width q
