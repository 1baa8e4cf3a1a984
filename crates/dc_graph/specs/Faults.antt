-- The first fault of what is to be a key graph or a coalition, and what is kept where there is none.
use Rattle.std.specs.Prelude.{ℕ, ◌-◌, ◌^◌, ◌≡◌, min, Bool, not, ◌&&◌, ◌||◌, nat_eq, nat_lt, nat_le, List, length, take, slice_index, slice_index_or, position, Option, Some, None, option_map, if◌then◌else◌, Result, Ok, Err}
use Rattle.std.specs.List.{range_with_len, list_any}
use Rattle.std.specs.List.Sorted.{IsPermutation}
use Rattle.dc_spec.specs.Limits.{most_stations}
use Rattle.dc_spec.specs.Lists.{is_among}
use Rattle.dc_field.specs.declared.refusal.Refusal.{Refusal}
use Rattle.dc_field.specs.declared.refusal.Refusal.TheVariants.{NoMemory, Bad}
use Rattle.dc_graph.specs.declared.fault.GraphFault.{GraphFault}
use Rattle.dc_graph.specs.declared.fault.GraphFault.TheVariants.{Stations, Ends, Repeated}
use Rattle.dc_graph.specs.declared.fault.MemberFault.{MemberFault}
use Rattle.dc_graph.specs.Graph.{PlainGraph, AreRisingEdges, AreMembers}

-- a place as a fault reports it: the greatest u32 where it is above that
abbrev pub reported_place : ℕ → ℕ
reported_place i = min i (2 ^ 32 - 1)

-- whether a pair joins two of the stations, the smaller one first
abbrev pub joins : ℕ → ℕ × ℕ → Bool
joins n e = nat_lt e.0 e.1 && nat_lt e.1 n

-- whether a pair is in a list
abbrev pub is_listed : List (ℕ × ℕ) → ℕ × ℕ → Bool
is_listed es e = list_any (λ f. nat_eq f.0 e.0 && nat_eq f.1 e.1) es

-- the pair at a place
abbrev pub pair_at : List (ℕ × ℕ) → ℕ → ℕ × ℕ
pair_at es i = slice_index_or es i (0, 0)

-- whether the pair at a place is not an edge, or is at an earlier place too
abbrev pub is_faulty_pair : ℕ → List (ℕ × ℕ) → ℕ → Bool
is_faulty_pair n es i = not (joins n (pair_at es i)) || is_listed (take i es) (pair_at es i)

-- which of the two it is
abbrev pub pair_fault : ℕ → List (ℕ × ℕ) → ℕ → GraphFault
pair_fault n es i = if joins n (pair_at es i) then Repeated (reported_place i) else Ends (reported_place i)

-- the fault at the first faulty place
abbrev pub first_pair_fault : ℕ → List (ℕ × ℕ) → Option GraphFault
first_pair_fault n es = option_map (pair_fault n es) (position (is_faulty_pair n es) (range_with_len 0 (length es)))

-- the fault of a number of stations and a list of pairs
abbrev pub graph_fault : ℕ → List (ℕ × ℕ) → Option GraphFault
graph_fault n es = if nat_le 1 n && nat_le n most_stations then first_pair_fault n es else Some (Stations n)

-- a graph that keeps the pairs of a list without a fault, in rising order
pub record Keeps (n : ℕ) (es : List (ℕ × ℕ)) (g : PlainGraph) : Type 0 where
  pub no_fault : graph_fault n es ≡ None
  pub stations : g.stations ≡ n
  pub same_edges : IsPermutation es g.edges
  pub rising : AreRisingEdges g.edges

-- a graph is made of a list without a fault, and refused by the first fault
abbrev pub MakesGraph : ℕ → List (ℕ × ℕ) → Result PlainGraph (Refusal GraphFault) → Type 0
MakesGraph n es (Ok g) = Keeps n es g
MakesGraph n es (Err NoMemory) = Unit {0}
MakesGraph n es (Err (Bad fault)) = graph_fault n es ≡ Some fault

-- whether the number at a place is not a station, or is at an earlier place too
abbrev pub is_faulty_member : ℕ → List ℕ → ℕ → Bool
is_faulty_member n ms i = nat_le n (slice_index ms i) || is_among (take i ms) (slice_index ms i)

-- the fault at the first faulty place
abbrev pub member_fault : ℕ → List ℕ → Option MemberFault
member_fault n ms = option_map (λ i. record { place = reported_place i }) (position (is_faulty_member n ms) (range_with_len 0 (length ms)))

-- a coalition that keeps the numbers of a list without a fault, in rising order
pub record KeepsMembers (n : ℕ) (ms kept : List ℕ) : Type 0 where
  pub no_fault : member_fault n ms ≡ None
  pub same_members : IsPermutation ms kept
  pub rising : AreMembers kept

-- a coalition is made of a list without a fault, and refused by the first fault
abbrev pub MakesCoalition : ℕ → List ℕ → Result (List ℕ) (Refusal MemberFault) → Type 0
MakesCoalition n ms (Ok kept) = KeepsMembers n ms kept
MakesCoalition n ms (Err NoMemory) = Unit {0}
MakesCoalition n ms (Err (Bad fault)) = member_fault n ms ≡ Some fault
