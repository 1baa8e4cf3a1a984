-- The keys of all stations of a net, and the words that each of them has taken.
use Rattle.std.specs.Prelude.{ℕ, ◌+◌, ◌-◌, ◌*◌, ◌/◌, ◌%◌, ◌^◌, ◌<◌, ◌≤◌, ◌≡◌, List, [], length, sum_by, slice_index, slice_index_or}
use Rattle.std.specs.List.{range_with_len}
use Rattle.dc_spec.specs.Limits.{most_words}
use Rattle.dc_spec.specs.Words.{AreWords}
use Rattle.dc_spec.specs.Symbols.{AreSymbols}
use Rattle.dc_key_rules.specs.PairKeys.{symbols}
use Rattle.dc_keys.specs.StationPads.{StationPads}
use Rattle.dc_transform_rules.specs.Transforms.{size}
use Rattle.dc_fast_keys.specs.Spectrum.{IsSpectrum}
use Rattle.dc_fast_keys.specs.Walk.{included}

-- how many stations and words there are, the transforms of the second pads by how many words they are for,
-- a sum and a received symbol of each station for each symbol of the session, how many words were taken
pub record KeysState : Type 0 where
  pub stations : ℕ
  pub words : ℕ
  pub spectra : List (List ℕ)
  pub sums : List ℕ
  pub received : List ℕ
  pub taken : ℕ

-- there is a transform, and room for a product, for each power of two below the number of words
pub record IsNetKeys (k : KeysState) (work : List ℕ) : Type 0 where
  pub some_words : 1 ≤ k.words
  pub most_words : k.words ≤ most_words
  pub few_stations : k.stations ≤ 256
  pub within : k.taken ≤ k.words
  pub sums_long : length k.sums ≡ k.stations * (16 * k.words)
  pub sums_symbols : AreSymbols k.sums
  pub received_long : length k.received ≡ k.stations * (16 * k.words)
  pub received_symbols : AreSymbols k.received
  pub spectra_many : (q : ℕ) → 2 ^ q < k.words → q < length k.spectra
  pub spectra_long : (q : ℕ) → 2 ^ q < k.words → length (slice_index_or k.spectra q []) ≡ size k.stations (q + 5)
  pub work_long : (q : ℕ) → 2 ^ q < k.words → size k.stations (q + 5) + size 1 (q + 5) ≤ length work

-- sum n of a station: its first pad and the products of the symbols of so many words with second pads
abbrev pub sum_of : StationPads → List (List ℕ) → ℕ → ℕ → ℕ
sum_of pads history words n =
    (slice_index pads.first n
    + sum_by (λ i. slice_index pads.second (n - i) * slice_index (symbols history) i) (range_with_len 0 (16 * words))) % 65537

-- station s has these pads and has taken these words, in this order
pub record StandsFor (k : KeysState) (s : ℕ) (pads : StationPads) (history : List (List ℕ)) : Type 0 where
  pub words : AreWords history
  pub taken : k.taken ≡ length history
  pub spectra : (q : ℕ) → 2 ^ q < k.words → IsSpectrum k.stations (q + 5) s (slice_index_or k.spectra q []) pads.second
  pub received : (n : ℕ) → n < 16 * k.taken → slice_index k.received (k.stations * n + s) ≡ slice_index (symbols history) n
  pub sums : (n : ℕ) → 16 * k.taken ≤ n → n < 16 * k.words →
      slice_index k.sums (k.stations * n + s) ≡ sum_of pads history (included 12 k.taken (n / 16)) n
