-- Key files, version 2: a head of twelve bytes, then for each pair its two stations and the
-- thirty-two bytes of its seed.
use Rattle.std.specs.Prelude.{ℕ, ◌*◌, ◌<◌, ◌≤◌, ◌≡◌, List, [], ◌∷◌, ◌++◌, length, map, All, codes}
use Rattle.std.specs.List.{flat_map}
use Rattle.std.specs.Int.{w16, w32, to_be_bytes}
use Rattle.dc_spec.specs.Limits as limit
use Rattle.dc_spec.specs.Pads.{SeedPair, Seeds}
use Rattle.dc_formats.specs.TextFile.{AreBytes}
use Rattle.dc_formats.specs.KeyFile.{AreEndsRising}

-- the two ends, the seed
abbrev pub seed_pair_bytes : SeedPair → List ℕ
seed_pair_bytes p = to_be_bytes w16 p.u ++ to_be_bytes w16 p.v ++ p.seed

-- the letters DCK, the version, the numbers of stations, words and pairs, the pairs
abbrev pub seeds_bytes : Seeds → List ℕ
seeds_bytes s = codes "DCK" ++ 2 ∷ []
    ++ to_be_bytes w16 s.stations ++ to_be_bytes w16 s.words ++ to_be_bytes w32 (length s.pairs)
    ++ flat_map seed_pair_bytes s.pairs

-- two of so many stations, with a seed of thirty-two bytes
pub record IsSeedPair (stations : ℕ) (p : SeedPair) : Type 0 where
  pub ends : p.u < p.v
  pub within : p.v < stations
  pub seed_length : length p.seed ≡ 32
  pub seed_bytes : AreBytes p.seed

-- at least one station and one word, no more than the limits of stations, words and pads, and pairs
-- in order
pub record IsSeeds (s : Seeds) : Type 0 where
  pub some_stations : 1 ≤ s.stations
  pub most_stations : s.stations ≤ limit.most_stations
  pub some_words : 1 ≤ s.words
  pub most_words : s.words ≤ limit.most_words
  pub most_symbols : length s.pairs * (32 * s.words) ≤ limit.most_pads
  pub are_pairs : All (IsSeedPair s.stations) s.pairs
  pub rising : AreEndsRising (map (λ p. (p.u, p.v)) s.pairs)
