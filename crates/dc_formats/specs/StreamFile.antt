-- Stream files: a line for each short (a value), then for each long (a message), then for each coin
-- (a field).
use Rattle.std.specs.Prelude.{ℕ, ◌<◌, ◌≤◌, List, ◌++◌, length, All, codes}
use Rattle.std.specs.List.{flat_map}
use Rattle.std.specs.Fmt.{decimal}
use Rattle.dc_spec.specs.Limits as limit
use Rattle.dc_spec.specs.Text.{line}
use Rattle.dc_spec.specs.Entries.{Stream}
use Rattle.dc_spec.specs.Values.{IsValue}
pub use Rattle.dc_spec.specs.Entries.{IsMessage}
use Rattle.dc_formats.specs.TextFile.{hex_text}

-- a value
abbrev pub short_line : List ℕ → List ℕ
short_line value = line (codes "short " ++ hex_text value)

-- a message; the line of an empty one ends with the blank
abbrev pub long_line : List ℕ → List ℕ
long_line message = line (codes "long " ++ hex_text message)

-- a field
abbrev pub coin_line : ℕ → List ℕ
coin_line field = line (codes "coin " ++ decimal field)

-- all shorts, then all longs, then all coins
abbrev pub stream_text : Stream → List ℕ
stream_text s =
    flat_map short_line s.shorts ++ flat_map long_line s.longs ++ flat_map coin_line s.coins

-- no more values, messages and coins than the limits; a coin is a field from 0 to 15
pub record IsStream (s : Stream) : Type 0 where
  pub most_shorts : length s.shorts ≤ limit.most_shorts
  pub are_values : All IsValue s.shorts
  pub most_longs : length s.longs ≤ limit.most_longs
  pub are_messages : All IsMessage s.longs
  pub most_coins : length s.coins ≤ limit.most_coins
  pub are_fields : All (λ c. c < 16) s.coins
