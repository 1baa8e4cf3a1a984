-- Why there is no twin of a net by a list of images.
use Rattle.std.specs.Prelude.{ℕ, ◌||◌, ◌==◌, not, min, nat_lt, if◌then◌else◌, Bool, List, [], ◌∷◌, length, find, take, slice_index, Option, Some, None, option_map, bytes_eq}
use Rattle.std.specs.List.{range_with_len, enumerate_from}
use Rattle.dc_spec.specs.Lists.{is_among}
use Rattle.dc_spec.specs.Net.{Net}
use Rattle.dc_graph_rules.specs.Graphs.{key_graph, is_joined}
use Rattle.dc_net_rules.specs.Runs.{Round, word_of_station, honest_stations, all_rounds}
use Rattle.dc_net_rules.specs.Agreement.{first_of, first_by}
use Rattle.dc_twin.specs.declared.fault.TwinFault.{TwinFault}
use Rattle.dc_twin.specs.declared.fault.TwinFault.TheVariants.{PermCount, Perm, NotJoined, NotAlike}

-- the greatest number of 32 bits
abbrev pub most_counted : ℕ
most_counted = 4294967295

-- there is not one image for each station
abbrev pub count_fault : ℕ → List ℕ → Option TwinFault
count_fault n p = if length p == n then None else Some (PermCount (min (length p) most_counted) n)

-- whether the number at a place is no station, or stood before
abbrev pub is_bad_place : ℕ → List ℕ → ℕ → Bool
is_bad_place n p k = not (nat_lt (slice_index p k) n) || is_among (take k p) (slice_index p k)

-- the first such place
abbrev pub place_fault : ℕ → List ℕ → Option TwinFault
place_fault n p = option_map Perm (find (is_bad_place n p) (range_with_len 0 n))

-- the first station that is not joined with its image; it is joined with itself
abbrev pub joined_fault : Net → List ℕ → Option TwinFault
joined_fault net p =
    option_map (λ i. NotJoined i (slice_index p i))
    (find (λ i. not (is_joined (key_graph net) i (slice_index p i))) (range_with_len 0 net.stations))

-- of stations in rising order the first, and the first one with another word
abbrev pub first_unlike : (ℕ → List ℕ) → List ℕ → Option (ℕ × ℕ)
first_unlike word [] = None
first_unlike word (i ∷ rest) =
    option_map (λ j. (i, j)) (find (λ j. not (bytes_eq (word i) (word j))) rest)

-- a round whose honest stations did not all receive one word, with the least honest station and the
-- least that differs from it
abbrev pub round_fault : Net → ℕ × Round → Option TwinFault
round_fault net t =
    option_map (λ e. NotAlike t.0 e.0 e.1)
    (first_unlike (word_of_station t.1.received) (honest_stations net))

-- the first such round
abbrev pub alike_fault : Net → Option TwinFault
alike_fault net = first_by (round_fault net) (enumerate_from 0 (all_rounds net))

-- the first of these faults
unfoldable pub twin_fault : Net → List ℕ → Option TwinFault
twin_fault net p =
    first_of (count_fault net.stations p ∷ place_fault net.stations p ∷ joined_fault net p
    ∷ alike_fault net ∷ [])
