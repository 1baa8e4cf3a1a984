-- Values that several worked cases share.
use Rattle.std.specs.Prelude.{ℕ, ◌+◌, ◌*◌, ◌%◌, List, [], ◌∷◌, ◌++◌, map, replicate, Option, Some, None}
use Rattle.std.specs.List.{range_with_len}
use Rattle.dc_spec.specs.Words.{zero_word}
use Rattle.dc_spec.specs.Entries.{Stream}
use Rattle.dc_spec.specs.Scripts.{Term, Said, all_sum, each, Turn, Script}
use Rattle.dc_spec.specs.Pads.{Pair}
use Rattle.dc_spec.specs.Net.{Net}

-- the word with this first and this last symbol, and zeros between them
abbrev pub two_ends : ℕ → ℕ → List ℕ
two_ends count last = count ∷ replicate 14 0 ++ last ∷ []

-- the value with this number, which is below 256
abbrev pub small_value : ℕ → List ℕ
small_value x = replicate 14 0 ++ x ∷ []

-- a stream with nothing to send, and one of values below 256 alone
abbrev pub nothing : Stream
nothing = record { shorts = []; longs = []; coins = [] }

abbrev pub of_values : List ℕ → Option Stream
of_values values = Some (record { shorts = map small_value values; longs = []; coins = [] })

-- a script of these rounds, whose words have no terms
abbrev pub first_version : List Turn → Script
first_version turns = record { version = 1; rounds = turns }

-- a station's word without terms
abbrev pub constant : ℕ → List ℕ → Said
constant i w = record { station = i; word = w; terms = [] }

-- a term by its numbers in the order of its line: the symbol that gains, the factor, and the station, round and symbol that are named
abbrev pub term_of : ℕ → ℕ → ℕ → ℕ → ℕ → Term
term_of to factor i r symbol = record { to = to; factor = factor; station = i; round = r; symbol = symbol }

-- a round in which a member says a word, and all receive the sum
abbrev pub said : ℕ → List ℕ → Turn
said i w = record { says = constant i w ∷ []; delivery = all_sum }

-- a round of stations 0 and 1 and the member 2, which says the zero word: these words are delivered
abbrev pub dealing : List ℕ → List ℕ → Turn
dealing v w = record { says = constant 2 zero_word ∷ []; delivery = each (constant 0 v ∷ constant 1 w ∷ []) }

-- the pair of two stations in a session of so many words whose pads are zeros, and one with some pads
abbrev pub zero_pair : ℕ → ℕ → ℕ → Pair
zero_pair words u v = record { u = u; v = v; a = replicate (16 * words) 0; b = replicate (16 * words) 0 }

abbrev pub some_pair : ℕ → ℕ → ℕ → ℕ → Pair
some_pair words u v seed = record {
  u = u;
  v = v;
  a = map (λ n. (seed * n + 3) * (n + 7) % 65537) (range_with_len 0 (16 * words));
  b = map (λ n. (seed + n) * n % 65537) (range_with_len 0 (16 * words));
}

-- a ring of four stations, the last one in the coalition, values 5 and 9 at stations 0 and 2
abbrev pub ring : Net
ring = record {
  stations = 4;
  edges = (0, 1) ∷ (0, 3) ∷ (1, 2) ∷ (2, 3) ∷ [];
  coalition = 3 ∷ [];
  keys = record { stations = 4; words = 4; pairs = some_pair 4 0 1 5 ∷ zero_pair 4 0 3 ∷ some_pair 4 1 2 8 ∷ zero_pair 4 2 3 ∷ [] };
  streams = of_values (5 ∷ []) ∷ of_values [] ∷ of_values (9 ∷ []) ∷ None ∷ [];
  script = first_version (replicate 4 (said 3 zero_word));
  words = 4;
}

-- stations 0 and 2 exchanged
abbrev pub exchange : List ℕ
exchange = 2 ∷ 1 ∷ 0 ∷ 3 ∷ []

-- two honest stations that received 2 and 3 as symbol 15 of the first word
abbrev pub split_pair : Net
split_pair = record {
  stations = 3;
  edges = (0, 1) ∷ [];
  coalition = 2 ∷ [];
  keys = record { stations = 3; words = 2; pairs = zero_pair 2 0 1 ∷ [] };
  streams = of_values [] ∷ of_values [] ∷ None ∷ [];
  script = first_version (dealing (two_ends 0 2) (two_ends 0 3) ∷ dealing zero_word zero_word ∷ []);
  words = 2;
}

-- a triangle with no coalition, whose stations have the values 1, 3 and 3
abbrev pub three_stations : Net
three_stations = record {
  stations = 3;
  edges = (0, 1) ∷ (0, 2) ∷ (1, 2) ∷ [];
  coalition = [];
  keys = record { stations = 3; words = 5; pairs = some_pair 5 0 1 9 ∷ some_pair 5 0 2 4 ∷ some_pair 5 1 2 11 ∷ [] };
  streams = of_values (1 ∷ []) ∷ of_values (3 ∷ []) ∷ of_values (3 ∷ []) ∷ [];
  script = first_version (replicate 5 (record { says = []; delivery = all_sum }));
  words = 5;
}
