-- The pad generator: ChaCha20, with the two stations of a pair in the last four bytes of its seed.
use Rattle.std.specs.Prelude.{ℕ, ◌+◌, ◌*◌, ◌/◌, ◌%◌, ◌^◌, ◌==◌, List, [], ◌++◌, map, take, slice_index_or, if◌then◌else◌}
use Rattle.std.specs.List.{range_with_len}
use Rattle.std.specs.Int.{w16, to_be_bytes}
use Rattle.rand_chacha.specs.ChaCha.{word_at, key_of}
use Rattle.dc_spec.specs.Pads.{Pair, Keys, SeedPair, Seeds}
use Rattle.dc_graph.specs.Graph.{PlainGraph}

-- the seed of the pair (u, v): the base, with u in the bytes 28 and 29 and v in the bytes 30 and 31
abbrev pub pair_seed : List ℕ → ℕ → ℕ → List ℕ
pair_seed base u v = take 28 base ++ to_be_bytes w16 u ++ to_be_bytes w16 v

-- two words of a key's stream as one number of sixty-four bits, the first one high, modulo 65537
abbrev pub generated_symbol : List ℕ → ℕ → ℕ
generated_symbol key place =
    (word_at 10 key 0 place * 2 ^ 32 + word_at 10 key 0 (place + 1)) % 65537

-- element e of the pair (u, v)
unfoldable pub element_at : List ℕ → ℕ → ℕ → ℕ → ℕ
element_at base u v e = generated_symbol (key_of (pair_seed base u v)) (2 * e)

-- first pads n of a session of so many symbols are elements n, second pads n are the elements after
-- these, but for the first, which is 0
abbrev pub generated_pair : List ℕ → ℕ → ℕ × ℕ → Pair
generated_pair base symbols e = record {
  u = e.0;
  v = e.1;
  a = map (λ n. element_at base e.0 e.1 n) (range_with_len 0 symbols);
  b = map (λ n. if n == 0 then 0 else element_at base e.0 e.1 (symbols + n))
      (range_with_len 0 symbols);
}

-- a pair for each edge of a key graph
abbrev pub generated_keys : List ℕ → PlainGraph → ℕ → Keys
generated_keys base g words = record {
  stations = g.stations;
  words = words;
  pairs = map (generated_pair base (16 * words)) g.edges;
}

-- ---- seeds

-- the pair that a seed gives, for a session of so many symbols: its own seed is the base
abbrev pub expanded_pair : ℕ → SeedPair → Pair
expanded_pair symbols p = generated_pair p.seed symbols (p.u, p.v)

-- the expansion of a key file of seeds
abbrev pub expanded_keys : Seeds → Keys
expanded_keys f = record {
  stations = f.stations;
  words = f.words;
  pairs = map (expanded_pair (16 * f.words)) f.pairs;
}

-- the pair of an edge with this seed
abbrev pub seeded : List ℕ → ℕ × ℕ → SeedPair
seeded base e = record { u = e.0; v = e.1; seed = base }

-- the key file of seeds in which each edge of a key graph has the same seed
abbrev pub seeds_of : List ℕ → PlainGraph → ℕ → Seeds
seeds_of base g words = record {
  stations = g.stations;
  words = words;
  pairs = map (seeded base) g.edges;
}

-- ---- pieces of sixteen elements

-- sixteen elements of a pair, from this one on
abbrev pub elements_from : SeedPair → ℕ → List ℕ
elements_from p e = map (λ n. element_at p.seed p.u p.v (e + n)) (range_with_len 0 16)

-- the pieces of a pair, for a session of so many words: as many for its first pads, then as many
-- for its second
abbrev pub pieces_of : ℕ → SeedPair → List (List ℕ)
pieces_of words p = map (λ j. elements_from p (16 * j)) (range_with_len 0 (2 * words))

-- a pair in the place of none
abbrev pub no_seed : SeedPair
no_seed = record { u = 0; v = 0; seed = [] }

-- piece i of the pieces of all pairs, pair after pair
abbrev pub piece_of : List SeedPair → ℕ → ℕ → List ℕ
piece_of pairs words i =
    elements_from (slice_index_or pairs (i / (2 * words)) no_seed) (16 * (i % (2 * words)))
