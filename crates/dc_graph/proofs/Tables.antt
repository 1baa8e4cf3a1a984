-- A table with a flag for each two stations.
use Rattle.std.proofs.Common.{◌≡◌, ℕ, ◌+◌, ◌*◌, ◌<◌, ◌≢◌, Bool, true, false, ◌&&◌, ◌||◌, not, nat_eq, List, [], ◌∷◌, length, get_or, set, take, refl, sym, ap, ◌∙◌, arith, inl, inr, eq-eqb, true≢false, get_or-set_other, get_or-set_same}
use Rattle.std.proofs.lemmas.Bool.{cases_Bool}
use Rattle.std.proofs.lemmas.Nat.{mul-add-lt}
use Rattle.std.proofs.lemmas.List.Folds.{list_any_more}
use Rattle.std.proofs.Math.Bool.{or-true, or-false}
use Rattle.dc_graph_rules.specs.Graphs.{has_edge}
use Rattle.dc_graph.specs.Walk.{edge_at}
use Rattle.dc_graph.proofs.FirstFault.{place_apart, same_pair}

-- the place of two stations is in the table
pub place_within : (n u v : ℕ) (table : List Bool) → u < n → v < n → length table ≡ n * n → u * n + v < length table
place_within n u v table u' v' wide = omega (arith, mul-add-lt u n v n u' v')

-- a flag that is set
pub flag_set : (n u v x y : ℕ) (table : List Bool) → length table ≡ n * n → u < n → v < n → y < n →
    edge_at n (set table (u * n + v) true) x y ≡ (edge_at n table x y || (nat_eq u x && nat_eq v y))
flag_set n u v x y table wide u' v' y' = elim (cases_Bool (nat_eq u x && nat_eq v y)) [
  | inl passes ↦ (let is : (u, v) ≡ (x, y) = same_pair (u, v) (x, y) passes in
      let at : x * n + y ≡ u * n + v = ap (λ (e : ℕ × ℕ). e.0 * n + e.1) (sym is) in
      let here : get_or (set table (u * n + v) true) (x * n + y) false ≡ true = rw at (get_or-set_same table (u * n + v) true false (place_within n u v table u' v' wide)) in
      here ∙ sym (rw passes (or-true (edge_at n table x y))))
  | inr fails ↦ (let apart : x * n + y ≢ u * n + v = λ e. (let parts = place_apart n x y u v y' v' e in true≢false (sym (rw (eq-eqb u x (sym parts.0), eq-eqb v y (sym parts.1)) refl) ∙ fails)) in
      let there : get_or (set table (u * n + v) true) (x * n + y) false ≡ get_or table (x * n + y) false = rw get_or-set_other refl in
      there ∙ sym (rw fails (or-false (edge_at n table x y))))
]

-- the flags of both directions of an edge whose ends are no members
pub both_set : (o p q m : Bool) → (p ≡ true → m ≡ false) → (q ≡ true → m ≡ false) → ((o || p) || q) ≡ (o || (((p || q) || false) && not m))
both_set true p q m of_p of_q = refl
both_set false true q m of_p of_q = rw (of_p refl) refl
both_set false false true m of_p of_q = rw (of_q refl) refl
both_set false false false m of_p of_q = refl

-- no flag of an edge with an end that is a member
pub none_set : (o p m : Bool) → (p ≡ true → m ≡ true) → o ≡ (o || (p && not m))
none_set true p m of_p = refl
none_set false true m of_p = rw (of_p refl) refl
none_set false false m of_p = refl

-- one edge more
pub edge_more : (es : List (ℕ × ℕ)) (i u v : ℕ) (h : Bool) (e : ℕ × ℕ) → i < length es → get_or es i (0, 0) ≡ e →
    ((has_edge (take i es) u v && h) || (has_edge (e ∷ []) u v && h)) ≡ (has_edge (take (i + 1) es) u v && h)
edge_more es i u v h e low at =
    let joins : ℕ × ℕ → Bool = λ f. (nat_eq f.0 u && nat_eq f.1 v) || (nat_eq f.0 v && nat_eq f.1 u) in
    let more : has_edge (take (i + 1) es) u v ≡ (has_edge (take i es) u v || joins e) = list_any_more joins es i (0, 0) low ∙ ap (λ f. has_edge (take i es) u v || joins f) at in
    and_over_or (has_edge (take i es) u v) (joins e) h ∙ ap (λ b. b && h) (sym more)
  where
    and_over_or : (a b h : Bool) → ((a && h) || ((b || false) && h)) ≡ ((a || b) && h)
    and_over_or true b true = refl
    and_over_or true true false = refl
    and_over_or true false false = refl
    and_over_or false true h = refl
    and_over_or false false h = refl
