-- What a station keeps of its sending, beside its stream: how much of the stream was used up before the cycle began, and what the cycle sent.
use Rattle.std.specs.Prelude.{◌≡◌, ℕ, ◌+◌, ◌≤◌, Bool, true, false, ◌||◌, ◌&&◌, ◌==◌, if◌then◌else◌, List, [], ◌∷◌, ◌++◌, length, map, drop, nat_lt, Option, Some, None}
use Rattle.std.specs.Str.{bytes_eq}
use Rattle.dc_spec.specs.Words.{zero_word}
use Rattle.dc_spec.specs.Entries.{short, long, Stream}
use Rattle.dc_spec.specs.Values.{contended_word}
use Rattle.dc_station_rules.specs.Bursts.{fragment, fragment_count}
use Rattle.dc_station_rules.specs.Epochs.{Leaf, Epoch, calls}
use Rattle.dc_station_rules.specs.Stations.{coins_used, first_short, marked}
use Rattle.dc_station.specs.declared.progress.Progress.{Progress}
use Rattle.dc_station.specs.Logs.{FitsRoom}

-- what of a stream was pending when the cycle began
abbrev pub left : Stream → Progress → Stream
left stream progress = record { shorts = drop progress.shorts_used stream.shorts; longs = drop progress.longs_used stream.longs; coins = drop progress.coins_used stream.coins }

-- one where a flag is set
abbrev pub one_if : Bool → ℕ
one_if true = 1
one_if false = 0

-- no more of a stream is used up or sent than there is
pub record IsWithin (stream : Stream) (progress : Progress) : Type 0 where
  pub shorts : progress.shorts_used + one_if progress.short_sent ≤ length stream.shorts
  pub longs : progress.longs_used + one_if progress.long_sent ≤ length stream.longs
  pub coins : progress.coins_used ≤ length stream.coins

-- a payload where a flag is set
abbrev pub if_any : Bool → List ℕ → List (List ℕ)
if_any so payload = if so then payload ∷ [] else []

abbrev pub is_any : List (List ℕ) → Bool
is_any [] = false
is_any (payload ∷ payloads) = true

-- whether a field is the marked one
abbrev pub is_mark : ℕ → Option ℕ → Bool
is_mark field None = false
is_mark field (Some mark) = mark == field

-- whether a message is the first of some
abbrev pub is_first : List ℕ → List (List ℕ) → Bool
is_first message [] = false
is_first message (first ∷ longs) = bytes_eq message first

-- the messages that a burst of this field sends by giving a message: one or none
abbrev pub longs_of : Stream → ℕ → List ℕ → List (List ℕ)
longs_of pending field message = if_any (is_mark field (marked pending) && is_first message pending.longs) message

-- the values that leaves send, where the cycle sent one or not
abbrev pub shorts_of : Bool → Stream → List Leaf → List (List ℕ)
shorts_of true pending out = []
shorts_of false pending out = first_short pending.shorts out

-- these messages, one or none, are sent
pub record SendsLong (stream : Stream) (old : Progress) (sends : List (List ℕ)) (new : Progress) : Type 0 where
  pub within : IsWithin stream new
  pub same : left stream new ≡ left stream old
  pub shorts : new.short_sent ≡ old.short_sent
  pub longs : new.long_sent ≡ (old.long_sent || is_any sends)
  pub room : new.log.room ≡ old.log.room
  pub log : FitsRoom (old.log.entries ++ map long sends) old.log.room → new.log.entries ≡ old.log.entries ++ map long sends

-- these values, one or none, are sent
pub record SendsShort (stream : Stream) (old : Progress) (sends : List (List ℕ)) (new : Progress) : Type 0 where
  pub within : IsWithin stream new
  pub same : left stream new ≡ left stream old
  pub longs : new.long_sent ≡ old.long_sent
  pub shorts : new.short_sent ≡ (old.short_sent || is_any sends)
  pub room : new.log.room ≡ old.log.room
  pub log : FitsRoom (old.log.entries ++ map (λ value. short value 1) sends) old.log.room → new.log.entries ≡ old.log.entries ++ map (λ value. short value 1) sends

-- a stream without its first value or message, where they were sent, and without the coin that it marks
abbrev pub less : Bool → Bool → Stream → Stream
less short_sent long_sent pending = record { shorts = drop (one_if short_sent) pending.shorts; longs = drop (one_if long_sent) pending.longs; coins = drop (coins_used (marked pending)) pending.coins }

-- a cycle is over
pub record Ends (stream : Stream) (old : Progress) (new : Progress) : Type 0 where
  pub within : IsWithin stream new
  pub remains : left stream new ≡ less old.short_sent old.long_sent (left stream old)
  pub shorts : new.short_sent ≡ false
  pub longs : new.long_sent ≡ false
  pub log : new.log ≡ old.log

-- fragment i of a message, and zeros after its last fragment
abbrev pub fragment_word : List ℕ → ℕ → List ℕ
fragment_word message i = if nat_lt i (fragment_count (length message)) then fragment message i else zero_word

-- a value, where it is called for
abbrev pub value_word : List ℕ → Epoch → List ℕ
value_word value epoch = if calls value epoch then contended_word value 1 else zero_word
