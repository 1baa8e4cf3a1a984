-- The script of a coalition that says nothing.
use Rattle.std.specs.Prelude.{ℕ, List, [], map, replicate}
use Rattle.dc_spec.specs.Words.{zero_word}
use Rattle.dc_spec.specs.Scripts.{Said, all_sum, Turn, Script}

-- a station with the zero word
abbrev pub silent : ℕ → Said
silent i = record { station = i; word = zero_word; terms = [] }

-- each member with the zero word
abbrev pub quiet_says : List ℕ → List Said
quiet_says members = map silent members

-- the members say the zero word, and all receive the sum
abbrev pub quiet_turn : List ℕ → Turn
quiet_turn members = record { says = quiet_says members; delivery = all_sum }

-- that turn so many times
abbrev pub quiet_script : List ℕ → ℕ → Script
quiet_script members words = record { version = 1; rounds = replicate words (quiet_turn members) }
