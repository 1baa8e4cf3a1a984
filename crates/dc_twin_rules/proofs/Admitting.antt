-- Whether a permutation is admitted, as it is computed.
use Rattle.std.proofs.Common.{◌≡◌, ℕ, zero, suc, ◌+◌, ◌<◌, ◌≢◌, ◌↔◌, not, true, true≢false, List, [], ◌∷◌, length, get_or, slice_index, nat_eq, nat_lt, refl, sym, ◌∙◌, ap, subst, inl, inr, arith, eqb-true, eq-eqb, ltb-true, lt-ltb, zero-le}
use Rattle.std.specs.Prelude.{AllPairs, IsTrue}
use Rattle.std.specs.List.{range_with_len}
use Rattle.std.proofs.lemmas.Bool.{and_from, and_parts, not-true, cases_Bool}
use Rattle.std.proofs.lemmas.List.Kept.{AllPairs-cons}
use Rattle.std.proofs.lemmas.List.Sums.{AllPass-from_list_all, list_all-from_AllPass}
use Rattle.dc_spec.specs.Net.{Net}
use Rattle.dc_graph_rules.specs.Graphs.{IsKeyGraph, key_graph}
use Rattle.dc_spec.specs.Lists.{is_among}
use Rattle.dc_twin_rules.specs.Twins.{IsPermutationOf, Admits, are_distinct, is_permutation_of, admits}
use Rattle.dc_spec.proofs.Booleans.{or_cases, or_first, or_second}
use Rattle.dc_spec.proofs.ListLemmas.{in_range, below_range, all_at, all_from}
use Rattle.dc_graph_rules.proofs.GraphLemmas.{joined-walks}

-- an item of a list stands in it
pub stands : (xs : List ℕ) (k d : ℕ) → k < length xs → is_among xs (get_or xs k d) ≡ true
stands [] k d low = absurd (omega arith)
stands (x ∷ xs) zero d low = or_first (nat_eq x x) (is_among xs x) (eq-eqb x x refl)
stands (x ∷ xs) (suc k) d low = or_second (nat_eq (get_or xs k d) x) (is_among xs (get_or xs k d)) (stands xs k d (omega arith))

-- and what stands in it has a place
pub place_in : (xs : List ℕ) (x : ℕ) → is_among xs x ≡ true → (k : ℕ) × (k < length xs) × (get_or xs k 0 ≡ x)
place_in [] x there = absurd (true≢false (sym there))
place_in (y ∷ ys) x there = elim (or_cases (nat_eq x y) (is_among ys x) there) [
  | inl same ↦ (zero, (omega arith), sym (eqb-true x y same))
  | inr later ↦ (let at = place_in ys x later in (suc at.0, (omega (arith, at.1)), at.2))
]

-- distinct items are different at each two places
distinct_pairs : (p : List ℕ) → are_distinct p ≡ true → AllPairs (λ i j. i ≢ j) p
distinct_pairs [] apart = λ i j d lt within. absurd (omega arith)
distinct_pairs (x ∷ xs) apart =
    let parts = and_parts _ _ apart in
    AllPairs-cons (λ i j. i ≢ j) x xs (λ k d low same. true≢false (sym (subst (λ (z : ℕ). is_among xs z ≡ true) (sym same) (stands xs k d low)) ∙ not-true (is_among xs x) parts.0))
    (distinct_pairs xs parts.1)

pairs_distinct : (p : List ℕ) → AllPairs (λ i j. i ≢ j) p → are_distinct p ≡ true
pairs_distinct [] apart = refl
pairs_distinct (x ∷ xs) apart = and_from _ _
    (elim (cases_Bool (is_among xs x)) [
      | inl there ↦ (let at = place_in xs x there in absurd (apart zero (suc at.0) 0 (omega arith) (omega (arith, at.1)) (sym at.2)))
      | inr away ↦ ap not away
    ])
    (pairs_distinct xs (λ i j d lt within. apart (suc i) (suc j) d (omega arith) (omega arith)))

-- a permutation
permutation_computed : (n : ℕ) (p : List ℕ) → IsTrue (is_permutation_of n p) ↔ IsPermutationOf n p
permutation_computed n p = (
  λ all. (let parts = and_parts _ _ all in let more = and_parts _ _ parts.1 in record {
    count = eqb-true (length p) n parts.0;
    stations = λ k d low. ltb-true (get_or p k d) n (AllPass-from_list_all (λ image. nat_lt image n) p more.0 k d low);
    distinct = distinct_pairs p more.1;
  }),
  λ is. and_from _ _ (eq-eqb (length p) n is.count) (and_from _ _ (list_all-from_AllPass (λ image. nat_lt image n) p (λ k d low. lt-ltb (get_or p k d) n (is.stations k d low)))
      (pairs_distinct p is.distinct)),
)

-- an admitted permutation
pub admits_is_computed : (net : Net) (p : List ℕ) → IsKeyGraph (key_graph net) → IsTrue (admits net p) ↔ Admits net p
admits_is_computed net p good =
    let n = net.stations in (
      λ all. (let parts = and_parts _ _ all in record {
        permutation = (permutation_computed n p).0 parts.0;
        joined = λ i low. (joined-walks (key_graph net) good i (slice_index p i) low).0 (all_at _ (range_with_len 0 n) parts.1 i (in_range 0 n i zero-le (omega arith)));
      }),
      λ is. and_from _ _ ((permutation_computed n p).1 is.permutation) (all_from _ (range_with_len 0 n) (λ i there. (let low : i < 0 + n = below_range 0 n i there in
          (joined-walks (key_graph net) good i (slice_index p i) (omega arith)).1 (is.joined i (omega arith))))),
    )
