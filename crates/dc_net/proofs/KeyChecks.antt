-- The tests of the keys are walks along ends.
use Rattle.std.proofs.Common.{◌≡◌, ℕ, Bool, true, false, cond, not, ◌&&◌, ◌||◌, eqb, List, [], ◌∷◌, map, Option, Some, None, option_map, refl, sym, ap, ◌∙◌}
use Rattle.std.specs.List.{list_any, find}
use Rattle.std.proofs.lemmas.List.{map-id}
use Rattle.dc_spec.specs.Pads.{Pair}
use Rattle.dc_spec.specs.Net.{Net}
use Rattle.dc_formats.specs.KeyFile.{AreEndsRising}
use Rattle.dc_graph.specs.Graph.{AreRisingEdges}
use Rattle.dc_net_rules.specs.Agreement.{key_missing, key_stray, missing_key, stray_key}
use Rattle.dc_net.specs.declared.fault.NetFault.TheVariants.{KeyMissing, KeyStray}
use Rattle.dc_net.specs.Walks.{are_same_ends, first_absent}
use Rattle.dc_net.specs.Tests.{as_fault}

-- the two stations of a pair
abbrev pub pair_ends : Pair → ℕ × ℕ
pair_ends p = (p.u, p.v)

pub pairs_rise : (ps : List Pair) → AreEndsRising (map pair_ends ps) → AreRisingEdges (map pair_ends ps)
pairs_rise ps up i d lt = let rises = up i d lt in record { lesser = rises.lesser; greater = rises.greater }

pub edges_rise : (es : List (ℕ × ℕ)) → AreRisingEdges es → AreRisingEdges (map (λ e. e) es)
edges_rise es up = rw (map-id es) up

pairs_any : (e : ℕ × ℕ) (ps : List Pair) → list_any (λ pair. eqb pair.u e.0 && eqb pair.v e.1) ps ≡ list_any (λ f. are_same_ends f e) (map pair_ends ps)
pairs_any e [] = refl
pairs_any e (p ∷ ps) = ap (λ b. (eqb p.u e.0 && eqb p.v e.1) || b) (pairs_any e ps)

choice : {X : Type 0} (b b' : Bool) (x : X) (o o' : Option X) → b ≡ b' → o ≡ o' → cond (not b) (Some x) o ≡ cond (not b') (Some x) o'
choice b b' x o o' p q = ap (λ c. cond (not c) (Some x) o) p ∙ ap (λ z. cond (not b') (Some x) z) q

missing_same : (es : List (ℕ × ℕ)) (ps : List Pair) → find (λ e. not (list_any (λ pair. eqb pair.u e.0 && eqb pair.v e.1) ps)) es ≡ first_absent es (map pair_ends ps)
missing_same [] ps = refl
missing_same (e ∷ es) ps = choice _ _ e _ _ (pairs_any e ps) (missing_same es ps)

stray_same : (ps : List Pair) (es : List (ℕ × ℕ))
    → option_map (λ pair. key_stray pair.u pair.v) (find (λ pair. not (list_any (λ e. eqb e.0 pair.u && eqb e.1 pair.v) es)) ps)
    ≡ option_map (λ e. key_stray e.0 e.1) (first_absent (map pair_ends ps) es)
stray_same [] es = refl
stray_same (p ∷ ps) es = elim (list_any (λ e. eqb e.0 p.u && eqb e.1 p.v) es) as
    (λ b. option_map (λ pair. key_stray pair.u pair.v) (cond (not b) (Some p) (find (λ pair. not (list_any (λ e. eqb e.0 pair.u && eqb e.1 pair.v) es)) ps))
    ≡ option_map (λ e. key_stray e.0 e.1) (cond (not b) (Some (pair_ends p)) (first_absent (map pair_ends ps) es)))
    [ true ↦ stray_same ps es | false ↦ refl ]

fault_missing : (o : Option (ℕ × ℕ)) → as_fault (option_map (λ e. key_missing e.0 e.1) o) ≡ option_map (λ e. KeyMissing e.0 e.1) o
fault_missing None = refl
fault_missing (Some e) = refl

fault_stray : (o : Option (ℕ × ℕ)) → as_fault (option_map (λ e. key_stray e.0 e.1) o) ≡ option_map (λ e. KeyStray e.0 e.1) o
fault_stray None = refl
fault_stray (Some e) = refl

pub missing_fault_is : (net : Net) (es : List (ℕ × ℕ)) (ps : List Pair) (o : Option (ℕ × ℕ)) → es ≡ net.edges → ps ≡ net.keys.pairs
    → o ≡ first_absent (map (λ e. e) es) (map pair_ends ps) → option_map (λ e. KeyMissing e.0 e.1) o ≡ as_fault (missing_key net)
missing_fault_is net es ps o edges pairs is =
    let found : o ≡ first_absent net.edges (map pair_ends net.keys.pairs) =
    is ∙ ap (λ x. first_absent x (map pair_ends ps)) (map-id es ∙ edges) ∙ ap (λ x. first_absent net.edges (map pair_ends x)) pairs in
    ap (λ x. option_map (λ e. KeyMissing e.0 e.1) x) (found ∙ sym (missing_same net.edges net.keys.pairs)) ∙ sym (fault_missing _)

pub stray_fault_is : (net : Net) (es : List (ℕ × ℕ)) (ps : List Pair) (o : Option (ℕ × ℕ)) → es ≡ net.edges → ps ≡ net.keys.pairs
    → o ≡ first_absent (map pair_ends ps) (map (λ e. e) es) → option_map (λ e. KeyStray e.0 e.1) o ≡ as_fault (stray_key net)
stray_fault_is net es ps o edges pairs is =
    let found : o ≡ first_absent (map pair_ends net.keys.pairs) net.edges =
    is ∙ ap (λ x. first_absent (map pair_ends ps) x) (map-id es ∙ edges) ∙ ap (λ x. first_absent (map pair_ends x) net.edges) pairs in
    ap (λ x. option_map (λ e. KeyStray e.0 e.1) x) found ∙ sym (fault_stray _) ∙ sym (ap as_fault (stray_same net.keys.pairs net.edges))
