-- A parent is the least neighbour one step nearer to the root of the part.
use Rattle.std.proofs.Common.{◌≡◌, ℕ, zero, suc, ◌+◌, ◌<◌, ◌≤◌, Bool, true, false, cond, ◌&&◌, ◌==◌, [], ◌∷◌, Option, Some, None, find, refl, sym, ◌∙◌, subst, inl, inr, arith, true≢false, eqb-true, eq-eqb, eq-or-lt_of_le}
use Rattle.std.proofs.lemmas.Option.{none-some}
use Rattle.std.specs.List.{range_with_len}
use Rattle.std.proofs.lemmas.Bool.{and_parts}
use Rattle.dc_graph_rules.specs.Graphs.{KeyGraph, IsKeyGraph, are_neighbours}
use Rattle.dc_graph_rules.specs.Forests.{distance, root, parent}
use Rattle.dc_graph_rules.specs.Laws.{IsLeastNearer, ParentsAreLeastNearer}
use Rattle.std.proofs.lemmas.Bool.{and_from}
use Rattle.dc_spec.proofs.Booleans.{or_first}
use Rattle.dc_spec.proofs.ListLemmas.{found_passes}
use Rattle.dc_graph_rules.proofs.ForestLemmas.{rank_in}
use Rattle.dc_graph_rules.proofs.DistanceLemmas.{never_lacking, has_parent, at_root}
use Rattle.dc_spec.proofs.Options.{some-inj}

-- nothing before what a search finds passes the test
pub found_first : (p : ℕ → Bool) (a n x w : ℕ) → find p (range_with_len a n) ≡ Some x → a ≤ w → w < x → p w ≡ false
found_first p a zero x w is from less = absurd (none-some _ is)
found_first p a (suc n) x w is from less = here (p a) refl is (λ h after. found_first p (a + 1) n x w h after less)
  where
    here : (b : Bool) → p a ≡ b → cond b (Some a) (find p (range_with_len (a + 1) n)) ≡ Some x → (find p (range_with_len (a + 1) n) ≡ Some x → a + 1 ≤ w → p w ≡ false) → p w ≡ false
    here true e h later = let same = some-inj h in absurd (omega arith)
    here false e h later = elim (eq-or-lt_of_le from) [
      | inl same ↦ subst (λ z. p z ≡ false) same e
      | inr after ↦ later h (omega arith)
    ]

-- the test of a neighbour one step nearer
is_nearer : KeyGraph → ℕ → ℕ → Bool
is_nearer g v u = are_neighbours g u v && (distance g (root g v) u + 1 == distance g (root g v) v)

-- what is found is the least such neighbour
parent-least : (g : KeyGraph) (v u : ℕ) → parent g v ≡ Some u → IsLeastNearer g v u
unfolding is_nearer
parent-least g v u is =
    let passes = (found_passes (is_nearer g v) (range_with_len 0 g.stations) u is).0 in
    let tests = and_parts (are_neighbours g u v) (distance g (root g v) u + 1 == distance g (root g v) v) passes in
    record {
      neighbour = tests.0;
      nearer = eqb-true _ _ tests.1;
      least = λ w less neighbour nearer. true≢false (sym (and_from _ _ neighbour (eq-eqb _ _ nearer)) ∙ found_first (is_nearer g v) 0 g.stations u w is (omega arith) less);
    }

-- a station without a parent is at distance 0
no-parent : (g : KeyGraph) → IsKeyGraph g → (v : ℕ) → v < g.stations → (rank : ℕ) → rank_in g v ≡ rank → parent g v ≡ None → root g v ≡ v
no-parent g good v low zero at none = at_root g good v low at
no-parent g good v low (suc d) at none = let some = has_parent g good v d low at in absurd (none-some _ (sym none ∙ some.1))

-- and a root has no station nearer
root-none : (g : KeyGraph) (v : ℕ) → v < g.stations → root g v ≡ v → (o : Option ℕ) → parent g v ≡ o → parent g v ≡ None
root-none g v low own None is = is
root-none g v low own (Some u) is =
    let nearer : distance g (root g v) u + 1 ≡ distance g (root g v) v = (parent-least g v u is).nearer in
    let here : distance g v v ≡ 0 = never_lacking g (v ∷ []) g.stations v low (or_first _ false (eq-eqb v v refl)) in
    let at : distance g (root g v) v ≡ 0 = subst (λ r. distance g r v ≡ 0) (sym own) here in
    absurd (omega arith)

pub parents-least : ParentsAreLeastNearer
parents-least g good v low = (parent-least g v, (no-parent g good v low (rank_in g v) refl, λ own. root-none g v low own (parent g v) refl))
