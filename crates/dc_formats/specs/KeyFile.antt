-- Key files, version 1: a head of twelve bytes, then for each pair its two stations and its pads,
-- four bytes a symbol.
use Rattle.std.specs.Prelude.{ℕ, ◌+◌, ◌*◌, ◌<◌, ◌≤◌, ◌≡◌, List, [], ◌∷◌, ◌++◌, length, map, slice_index, slice_index_or, All, codes}
use Rattle.std.specs.List.{flat_map}
use Rattle.std.specs.Int.{w16, w32, to_be_bytes}
use Rattle.dc_spec.specs.Limits as limit
use Rattle.dc_spec.specs.Words.{IsSymbol}
use Rattle.dc_spec.specs.Bytes.{symbol_bytes}
use Rattle.dc_spec.specs.Pads.{Pair, Keys}

-- the two ends, the first pads, the second pads
abbrev pub pair_bytes : Pair → List ℕ
pair_bytes p =
    to_be_bytes w16 p.u ++ to_be_bytes w16 p.v ++ flat_map symbol_bytes p.a
    ++ flat_map symbol_bytes p.b

-- the letters DCK, the version, the numbers of stations, words and pairs, the pairs
abbrev pub keys_bytes : Keys → List ℕ
keys_bytes k = codes "DCK" ++ 1 ∷ []
    ++ to_be_bytes w16 k.stations ++ to_be_bytes w16 k.words ++ to_be_bytes w32 (length k.pairs)
    ++ flat_map pair_bytes k.pairs

-- two of so many stations, with sixteen first and sixteen second pads for each word, the second pad
-- of number 0 being 0
pub record IsPair (stations words : ℕ) (p : Pair) : Type 0 where
  pub ends : p.u < p.v
  pub within : p.v < stations
  pub first_pads : length p.a ≡ 16 * words
  pub second_pads : length p.b ≡ 16 * words
  pub first_symbols : All IsSymbol p.a
  pub second_symbols : All IsSymbol p.b
  pub no_first : slice_index p.b 0 ≡ 0

-- the lesser end is less, or it is the same and the greater end is less
pub record AreEndsBefore (e f : ℕ × ℕ) : Type 0 where
  pub lesser : e.0 ≤ f.0
  pub greater : e.0 ≡ f.0 → e.1 < f.1

-- the ends of pairs are in order, and none are there twice
abbrev pub AreEndsRising : List (ℕ × ℕ) → Type 0
AreEndsRising es =
    (i : ℕ) (d : ℕ × ℕ) → i + 1 < length es
    → AreEndsBefore (slice_index_or es i d) (slice_index_or es (i + 1) d)

-- at least one station and one word, no more than the limits of stations, words and pads, and pairs
-- in order
pub record IsKeys (k : Keys) : Type 0 where
  pub some_stations : 1 ≤ k.stations
  pub most_stations : k.stations ≤ limit.most_stations
  pub some_words : 1 ≤ k.words
  pub most_words : k.words ≤ limit.most_words
  pub most_symbols : length k.pairs * (32 * k.words) ≤ limit.most_pads
  pub are_pairs : All (IsPair k.stations k.words) k.pairs
  pub rising : AreEndsRising (map (λ p. (p.u, p.v)) k.pairs)
