-- The net of a trial: a large net from three numbers. Its pads, values, message bytes and coins come
-- from the pad generator.
use Rattle.std.specs.Prelude.{ℕ, ◌+◌, ◌%◌, ◌==◌, nat_lt, List, [], ◌∷◌, ◌++◌, map, filter, replicate, Some, if◌then◌else◌}
use Rattle.std.specs.List.{range_with_len, flat_map}
use Rattle.std.specs.Int.{w64, to_be_bytes}
use Rattle.dc_spec.specs.Entries.{Stream}
use Rattle.dc_spec.specs.Scripts.{all_sum, Script}
use Rattle.dc_spec.specs.Net.{Net}
use Rattle.dc_keyfile.specs.Generator.{element_at, generated_keys}

-- the base seed: the eight bytes of the number, then zeros
abbrev pub trial_base : ℕ → List ℕ
trial_base seed = to_be_bytes w64 seed ++ replicate 24 0

-- a station and the stations one, two and four places further
abbrev pub edges_of : ℕ → List (ℕ × ℕ)
edges_of i = (i, i + 1) ∷ (i, i + 2) ∷ (i, i + 4) ∷ []

-- these for each station, where there is the second one
abbrev pub trial_edges : ℕ → List (ℕ × ℕ)
trial_edges n = filter (λ e. nat_lt e.1 n) (flat_map edges_of (range_with_len 0 n))

-- element e of a station's own generator
abbrev pub own_element : List ℕ → ℕ → ℕ → ℕ
own_element base i e = element_at base i i e

-- so many bytes from an element on
abbrev pub own_bytes : List ℕ → ℕ → ℕ → ℕ → List ℕ
own_bytes base i from count = map (λ k. own_element base i (from + k) % 256) (range_with_len 0 count)

-- two values, a message of twenty bytes at every sixteenth station, eight coins
abbrev pub trial_stream : List ℕ → ℕ → Stream
trial_stream base i = record {
  shorts = own_bytes base i 0 15 ∷ own_bytes base i 15 15 ∷ [];
  longs = if i % 16 == 0 then own_bytes base i 100 20 ∷ [] else [];
  coins = map (λ c. own_element base i (200 + c) % 16) (range_with_len 0 8);
}

-- no coalition; everybody receives the sum in every round
abbrev pub trial_script : ℕ → Script
trial_script words = record { version = 1; rounds = replicate words (record { says = []; delivery = all_sum }) }

-- the net of a seed and of so many stations and words
abbrev pub trial_net : ℕ → ℕ → ℕ → Net
trial_net seed n words =
    let base = trial_base seed in
    record {
      stations = n;
      edges = trial_edges n;
      coalition = [];
      keys = generated_keys base (record { stations = n; edges = trial_edges n }) words;
      streams = map (λ i. Some (trial_stream base i)) (range_with_len 0 n);
      script = trial_script words;
      words = words;
    }
