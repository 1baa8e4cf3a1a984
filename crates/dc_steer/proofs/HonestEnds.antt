-- What the tests of the two stations say where there is no fault, and back.
use Rattle.std.proofs.Common.{◌≡◌, ℕ, ◌<◌, ◌==◌, ◌&&◌, ◌||◌, not, nat_lt, Bool, true, false, [], ◌∷◌, find, None, refl, sym, subst, inl, inr, arith, true≢false, eqb-true, ltb-true, lt-ltb}
use Rattle.std.proofs.lemmas.Bool.{and_parts}
use Rattle.std.proofs.lemmas.List.Folds.{Any-from_list_any}
use Rattle.dc_spec.specs.Lists.{is_among}
use Rattle.dc_spec.specs.Net.{Net}
use Rattle.dc_spec.proofs.Booleans.{or_cases}
use Rattle.dc_spec.proofs.Options.{map-none, if-none}
use Rattle.dc_graph_rules.specs.Graphs.{IsKeyGraph, key_graph, has_edge, are_neighbours}
use Rattle.dc_net_rules.proofs.Agreeing.{none_found}
use Rattle.dc_steer.specs.declared.fault.SteerFault.TheVariants.{NotNeighbours, NotHonest}
use Rattle.dc_steer.specs.Faults.{edge_fault, member_fault}
use Rattle.dc_steer.specs.Tests.{ends_fault}
use Rattle.dc_steer.proofs.FaultChain.{first_none}

-- two stations without a fault
pub record AreEnds (net : Net) (u v : ℕ) : Type 0 where
  pub ends : u < v
  pub edge : has_edge net.edges u v ≡ true
  pub smaller : is_among net.coalition u ≡ false
  pub larger : is_among net.coalition v ≡ false

pub ends_good : (net : Net) (u v : ℕ) → ends_fault net u v ≡ None → AreEnds net u v
ends_good net u v none =
    let both = first_none (edge_fault net u v) (member_fault net u v ∷ []) none in
    let members = (first_none (member_fault net u v) [] both.1).0 in
    let tests = and_parts (nat_lt u v) (has_edge net.edges u v) (if-none (nat_lt u v && has_edge net.edges u v) (NotNeighbours u v) both.0) in
    let away = none_found (is_among net.coalition) (u ∷ v ∷ []) (map-none NotHonest (find (is_among net.coalition) (u ∷ v ∷ [])) members) in
    record { ends = ltb-true u v tests.0; edge = tests.1; smaller = away 0 0 (omega arith); larger = away 1 0 (omega arith) }

-- and back
pub no_ends_fault : (net : Net) (u v : ℕ) → AreEnds net u v → ends_fault net u v ≡ None
no_ends_fault net u v are = rw (lt-ltb u v are.ends, are.edge, are.smaller, are.larger) refl

-- the ends of an edge are stations
ends_below : (u v : ℕ) (e : ℕ × ℕ) (n : ℕ) → (e.0 < e.1) × (e.1 < n) → ((e.0 == u && e.1 == v) || (e.0 == v && e.1 == u)) ≡ true → (u < n) × (v < n)
ends_below u v e n is same = elim (or_cases (e.0 == u && e.1 == v) (e.0 == v && e.1 == u) same) [
  | inl there ↦ (
      let ends = and_parts (e.0 == u) (e.1 == v) there in
      let first = eqb-true e.0 u ends.0 in
      let second = eqb-true e.1 v ends.1 in
      let less = is.0 in
      let low = is.1 in (omega arith, omega arith))
  | inr back ↦ (
      let ends = and_parts (e.0 == v) (e.1 == u) back in
      let first = eqb-true e.0 v ends.0 in
      let second = eqb-true e.1 u ends.1 in
      let less = is.0 in
      let low = is.1 in (omega arith, omega arith))
]

pub are_stations : (net : Net) (u v : ℕ) → IsKeyGraph (key_graph net) → has_edge net.edges u v ≡ true → (u < net.stations) × (v < net.stations)
are_stations net u v good edge =
    let found = Any-from_list_any (λ e. (e.0 == u && e.1 == v) || (e.0 == v && e.1 == u)) net.edges edge in
    ends_below u v found.1 net.stations (subst (λ e. (e.0 < e.1) × (e.1 < net.stations)) found.3 (good found.0 found.1 found.2)) found.4

-- honest neighbours
pub neighbours_if : (net : Net) (u v : ℕ) → AreEnds net u v → are_neighbours (key_graph net) u v ≡ true
neighbours_if net u v are = rw (are.edge, are.smaller, are.larger) refl

neither : (b c : Bool) → not (b || c) ≡ true → (b ≡ false) × (c ≡ false)
neither true c h = absurd (true≢false (sym h))
neither false true h = absurd (true≢false (sym h))
neither false false h = (refl, refl)

pub ends_if : (net : Net) (u v : ℕ) → u < v → are_neighbours (key_graph net) u v ≡ true → AreEnds net u v
ends_if net u v less are =
    let tests = and_parts (has_edge net.edges u v) (not (is_among net.coalition u || is_among net.coalition v)) are in
    let away = neither (is_among net.coalition u) (is_among net.coalition v) tests.1 in
    record { ends = less; edge = tests.0; smaller = away.0; larger = away.1 }
