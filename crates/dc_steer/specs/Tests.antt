-- The tests of a steering in two groups: those of the two stations, and those of what they received
-- and of the wanted words.
use Rattle.std.specs.Prelude.{ℕ, ◌/◌, List, [], ◌∷◌, Option}
use Rattle.dc_spec.specs.Net.{Net}
use Rattle.dc_net_rules.specs.Agreement.{first_of}
use Rattle.dc_steer.specs.declared.fault.SteerFault.{SteerFault}
use Rattle.dc_steer.specs.Faults.{edge_fault, member_fault, difference_fault, sum_fault, term_fault, count_fault}

-- the tests of the stations
abbrev pub ends_fault : Net → ℕ → ℕ → Option SteerFault
ends_fault net u v = first_of (edge_fault net u v ∷ member_fault net u v ∷ [])

-- the tests of the rounds after round s
abbrev pub later_fault : Net → ℕ → List (List ℕ) → Option SteerFault
later_fault net s wanted = first_of (sum_fault net s ∷ term_fault net s ∷ count_fault net s wanted ∷ [])

-- the tests of a first difference p, and of the rounds after its round
abbrev pub rounds_fault : Net → ℕ → List (List ℕ) → Option SteerFault
rounds_fault net p wanted = first_of (difference_fault net p ∷ later_fault net (p / 16) wanted ∷ [])
