-- Why two stations of a net cannot be steered towards wanted words.
use Rattle.std.specs.Prelude.{ℕ, ◌+◌, ◌-◌, ◌*◌, ◌/◌, ◌==◌, ◌&&◌, ◌||◌, not, min, nat_lt, if◌then◌else◌, Bool, List, [], ◌∷◌, length, find, Option, Some, None, option_map}
use Rattle.std.specs.List.{range_with_len, list_any}
use Rattle.dc_spec.specs.Lists.{is_among}
use Rattle.dc_spec.specs.Scripts.{Said, Turn, delivered_words}
use Rattle.dc_spec.specs.Net.{Net}
use Rattle.dc_graph_rules.specs.Graphs.{has_edge}
use Rattle.dc_net_rules.specs.Runs.{script_turn}
use Rattle.dc_net_rules.specs.Agreement.{first_of, is_sum}
use Rattle.dc_steering_rules.specs.Steerings.{first_difference}
use Rattle.dc_steering_rules.specs.Counting.{heard_symbols}
use Rattle.dc_steer.specs.declared.fault.SteerFault.{SteerFault}
use Rattle.dc_steer.specs.declared.fault.SteerFault.TheVariants.{NotNeighbours, NotHonest, NeverDiffered, SumDelivery, RuledRound, WantedWords}

-- the greatest number of 32 bits
abbrev pub most_counted : ℕ
most_counted = 4294967295

-- the two are not the smaller and the larger end of an edge
abbrev pub edge_fault : Net → ℕ → ℕ → Option SteerFault
edge_fault net u v =
    if nat_lt u v && has_edge net.edges u v then None else Some (NotNeighbours u v)

-- the first of the two that is a member
abbrev pub member_fault : Net → ℕ → ℕ → Option SteerFault
member_fault net u v = option_map NotHonest (find (is_among net.coalition) (u ∷ v ∷ []))

-- the number of the first symbol that the two received differently, or how many they received where
-- none is
abbrev pub heard_difference : Net → ℕ → ℕ → ℕ
heard_difference net u v = first_difference (heard_symbols net u) (heard_symbols net v)

-- they received the same in all rounds
abbrev pub difference_fault : Net → ℕ → Option SteerFault
difference_fault net p = if nat_lt p (16 * net.words) then None else Some NeverDiffered

-- the rounds after a round
abbrev pub later_rounds : Net → ℕ → List ℕ
later_rounds net s = range_with_len (s + 1) (net.words - (s + 1))

-- the first later round that delivers the sum
abbrev pub sum_fault : Net → ℕ → Option SteerFault
sum_fault net s =
    option_map SumDelivery (find (λ t. is_sum (script_turn net t).delivery) (later_rounds net s))

-- whether one of these words has a term
abbrev pub have_terms : List Said → Bool
have_terms listed = list_any (λ said. not (length said.terms == 0)) listed

-- whether a word said or dealt in a round has a term
abbrev pub has_terms : Turn → Bool
has_terms turn = have_terms turn.says || have_terms (delivered_words turn.delivery)

-- the first later round with a term
abbrev pub term_fault : Net → ℕ → Option SteerFault
term_fault net s =
    option_map RuledRound (find (λ t. has_terms (script_turn net t)) (later_rounds net s))

-- there is not one wanted word for each later round
abbrev pub count_fault : Net → ℕ → List (List ℕ) → Option SteerFault
count_fault net s wanted =
    let need = net.words - (s + 1) in
    if length wanted == need then None else Some (WantedWords (min (length wanted) most_counted) need)

-- the first of these faults, where the later rounds are those after that of the first difference
unfoldable pub steer_fault : Net → ℕ → ℕ → List (List ℕ) → Option SteerFault
steer_fault net u v wanted =
    let p = heard_difference net u v in
    first_of (edge_fault net u v ∷ member_fault net u v ∷ difference_fault net p
    ∷ sum_fault net (p / 16) ∷ term_fault net (p / 16) ∷ count_fault net (p / 16) wanted ∷ [])
