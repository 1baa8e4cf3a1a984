-- Pairs of stations with their first and second pads, and key files: of pads, and of seeds.
use Rattle.std.specs.Prelude.{ℕ, List}

-- the first pads a and the second pads b of a pair u < v
pub record Pair : Type 0 where
  pub u : ℕ
  pub v : ℕ
  pub a : List ℕ
  pub b : List ℕ

-- a key file: how many stations and words it is for, and its pairs
pub record Keys : Type 0 where
  pub stations : ℕ
  pub words : ℕ
  pub pairs : List Pair

-- a pair u < v with the seed of its pads, thirty-two bytes
pub record SeedPair : Type 0 where
  pub u : ℕ
  pub v : ℕ
  pub seed : List ℕ

-- a key file of seeds: how many stations and words it is for, and its pairs
pub record Seeds : Type 0 where
  pub stations : ℕ
  pub words : ℕ
  pub pairs : List SeedPair
