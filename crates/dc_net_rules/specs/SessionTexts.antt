-- What a station sends in a session: a greeting, then its word for each round.
use Rattle.std.specs.Prelude.{ℕ, ◌+◌, min, List, ◌∷◌, length, map, take}
use Rattle.std.specs.List.{range_with_len}
use Rattle.dc_spec.specs.Pads.{Pair}
use Rattle.dc_spec.specs.Entries.{Stream}
use Rattle.dc_net_rules.specs.Runs.{station_word}
use Rattle.dc_spec.specs.Frames.{Frame, hello, send}

-- what station i of n has sent in a session of so many words when it has received these: its
-- greeting, and its word for each round up to the one in progress
abbrev pub says : ℕ → ℕ → ℕ → List Pair → Stream → List (List ℕ) → List Frame
says i n words pairs stream received =
    hello i n words ∷ map (λ t. send t (station_word stream pairs i (take t received)))
    (range_with_len 0 (min (length received + 1) words))
