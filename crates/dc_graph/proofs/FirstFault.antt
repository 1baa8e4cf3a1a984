-- The first faulty place of a list.
use Rattle.std.proofs.Common.{◌≡◌, ℕ, ◌+◌, ◌*◌, ◌/◌, ◌%◌, ◌<◌, ◌≤◌, ◌≢◌, Bool, true, false, cond, ◌&&◌, ◌||◌, not, ltb, leb, nat_eq, Option, List, length, get_or, set, take, Some, None, refl, sym, ap, ◌∙◌, arith, inl, inr, eqb-true, eq-eqb, true≢false, get_or-set_other, get_or-set_same}
use Rattle.std.proofs.Math.ListN.{length-set}
use Rattle.std.specs.Prelude.{position}
use Rattle.std.specs.List.Sorted.{IsPermutation, IsSorted}
use Rattle.std.specs.Ordering.{nat_cmp, ordering_then}
use Rattle.std.proofs.lemmas.List.Elements.{All-from_get_or}
use Rattle.std.proofs.lemmas.List.Sorted.{All-permutation, IsNonDecreasingBy-from_sort}
use Rattle.std.specs.List.{position_or_len, range_with_len}
use Rattle.std.proofs.lemmas.Bool.{cases_Bool, cases_lt, le-ltb, lt-ltb, ltb-true, leb-true, leb-false, and_parts, or_parts}
use Rattle.std.proofs.lemmas.Nat.{mul-add-lt, div-mul-add, mod-mul-add}
use Rattle.std.proofs.lemmas.List.FromFn.{length-range_with_len, get_or-range_with_len}
use Rattle.std.proofs.lemmas.List.Folds.{list_any_more}
use Rattle.std.proofs.lemmas.List.Sums.{position_or_len_is}
use Rattle.std.proofs.Math.Bool.{and-false, or-true, or-false}
use Rattle.dc_spec.specs.Lists.{is_among}
use Rattle.dc_graph.specs.declared.fault.GraphFault.TheVariants.{Stations, Ends, Repeated}
use Rattle.dc_graph.specs.declared.fault.MemberFault.{MemberFault}
use Rattle.dc_graph.specs.Graph.{IsEdge, IsGraph, AreMembers}
use Rattle.dc_graph.specs.Faults.{reported_place, joins, is_listed, pair_at, is_faulty_pair, pair_fault, first_pair_fault, graph_fault, is_faulty_member, member_fault}
use Rattle.dc_spec.proofs.Options.{map-none}
use Rattle.dc_graph.proofs.Positions.{fails_where_none}
use Rattle.dc_graph.proofs.Rising.{neighbours_differ, AreRisingEdges-from_sort}

place_is : (n k : ℕ) → k < n → get_or (range_with_len 0 n) k 0 ≡ k
place_is n k lt = get_or-range_with_len 0 n k 0 lt ∙ omega arith

-- a place that passes, where none before it does
pub first_place : (p : ℕ → Bool) (n i : ℕ) → i < n → ((k : ℕ) → k < i → p k ≡ false) → p i ≡ true → position p (range_with_len 0 n) ≡ Some i
first_place p n i lt before here =
    let long = length-range_with_len 0 n in
    let at : position_or_len p (range_with_len 0 n) ≡ i = position_or_len_is p (range_with_len 0 n) i 0 (omega arith) (λ k below. rw (place_is n k (omega arith)) (before k below)) (λ _. rw (place_is n i lt) here) in
    let within : ltb (position_or_len p (range_with_len 0 n)) (length (range_with_len 0 n)) ≡ true = lt-ltb _ _ (omega arith) in
    rw within (ap Some at)

-- no place passes
pub no_place : (p : ℕ → Bool) (n : ℕ) → ((k : ℕ) → k < n → p k ≡ false) → position p (range_with_len 0 n) ≡ None
no_place p n none =
    let long = length-range_with_len 0 n in
    let all : position_or_len p (range_with_len 0 n) ≡ length (range_with_len 0 n) = position_or_len_is p (range_with_len 0 n) (length (range_with_len 0 n)) 0 (omega arith) (λ k lt. let lt' : k < n = omega arith in rw (place_is n k lt') (none k lt')) (λ lt. absurd (omega arith)) in
    let past : ltb (position_or_len p (range_with_len 0 n)) (length (range_with_len 0 n)) ≡ false = le-ltb _ _ (omega arith) in
    rw past refl

-- a pair joins two stations
pub joins_both : (n u v : ℕ) → u < v → v < n → joins n (u, v) ≡ true
joins_both n u v ends within = rw (lt-ltb u v ends, lt-ltb v n within) refl

-- a pair whose ends do not rise joins none
pub joins_not_rising : (n u v : ℕ) → v ≤ u → joins n (u, v) ≡ false
joins_not_rising n u v le = rw (le-ltb u v le) refl

-- nor one with an end that is no station
pub joins_not_within : (n u v : ℕ) → n ≤ v → joins n (u, v) ≡ false
joins_not_within n u v le = rw (le-ltb v n le) (and-false (ltb u v))

-- the two tests of a pair that is not faulty
pub not_faulty : (a b : Bool) → (not a || b) ≡ false → (a ≡ true) × (b ≡ false)
not_faulty true b e = (refl, e)
not_faulty false b e = absurd (true≢false e)

-- the test of a pair against another
pub same_pair : (f e : ℕ × ℕ) → (nat_eq f.0 e.0 && nat_eq f.1 e.1) ≡ true → f ≡ e
same_pair f e h = elim (cases_Bool (nat_eq f.0 e.0)) [
  | inl passes ↦ (let second : nat_eq f.1 e.1 ≡ true = rw passes at h in
      let with_second : ℕ → ℕ × ℕ = λ x. (x, f.1) in
      let with_first : ℕ → ℕ × ℕ = λ y. (e.0, y) in
      ap with_second (eqb-true f.0 e.0 passes) ∙ ap with_first (eqb-true f.1 e.1 second))
  | inr fails ↦ absurd (true≢false (sym h ∙ rw fails refl))
]

pub itself : (e : ℕ × ℕ) → (nat_eq e.0 e.0 && nat_eq e.1 e.1) ≡ true
itself e = rw (eq-eqb e.0 e.0 refl, eq-eqb e.1 e.1 refl) refl

-- the table of flags: one for each two stations, set where the pair stands among the first of a list
pub record IsTable (n : ℕ) (es : List (ℕ × ℕ)) (i : ℕ) (seen : List Bool) : Type 0 where
  pub wide : length seen ≡ n * n
  pub flags : (u v : ℕ) → u < n → v < n → get_or seen (u * n + v) false ≡ is_listed (take i es) (u, v)

pub place_apart : (n u v x y : ℕ) → v < n → y < n → u * n + v ≡ x * n + y → (u ≡ x) × (v ≡ y)
place_apart n u v x y v' y' e =
    (sym (div-mul-add u n v v') ∙ ap (λ (k : ℕ). k / n) e ∙ div-mul-add x n y y', sym (mod-mul-add u n v v') ∙ ap (λ (k : ℕ). k % n) e ∙ mod-mul-add x n y y')

-- one pair more, whose flag is set
pub IsTable-more : (n : ℕ) (es : List (ℕ × ℕ)) (i u v : ℕ) (seen : List Bool) → IsTable n es i seen → i < length es → pair_at es i ≡ (u, v) → u < n → v < n
    → IsTable n es (i + 1) (set seen (u * n + v) true)
IsTable-more n es i u v seen table lt here u' v' = record {
  wide = length-set seen (u * n + v) true ∙ table.wide;
  flags = λ x y x' y'.
      let more : is_listed (take (i + 1) es) (x, y) ≡ (is_listed (take i es) (x, y) || (nat_eq u x && nat_eq v y)) = rw (list_any_more (λ f. nat_eq f.0 x && nat_eq f.1 y) es i (0, 0) lt, here) refl in
      let old = table.flags x y x' y' in
      elim (cases_Bool (nat_eq u x && nat_eq v y)) [
        | inl passes ↦ (let is : (u, v) ≡ (x, y) = same_pair (u, v) (x, y) passes in
            let at : x * n + y ≡ u * n + v = ap (λ (e : ℕ × ℕ). e.0 * n + e.1) (sym is) in
            let within : u * n + v < length seen = let w = table.wide in omega (arith, mul-add-lt u n v n u' v') in
            let set_here : get_or (set seen (u * n + v) true) (x * n + y) false ≡ true = rw at (get_or-set_same seen (u * n + v) true false within) in
            set_here ∙ sym (more ∙ rw passes (or-true (is_listed (take i es) (x, y)))))
        | inr fails ↦ (let apart : x * n + y ≢ u * n + v = λ e. (let parts = place_apart n x y u v y' v' e in true≢false (sym (rw (eq-eqb u x (sym parts.0), eq-eqb v y (sym parts.1)) refl) ∙ fails)) in
            let set_there : get_or (set seen (u * n + v) true) (x * n + y) false ≡ get_or seen (x * n + y) false = rw get_or-set_other refl in
            set_there ∙ old ∙ sym (more ∙ rw fails (or-false (is_listed (take i es) (x, y)))))
      ];
}

-- a pair that joins no stations is faulty
pub faulty_by_ends : (a b : Bool) → a ≡ false → (not a || b) ≡ true
faulty_by_ends a b e = rw e refl

-- so is one that stood before
pub faulty_by_before : (a b : Bool) → b ≡ true → (not a || b) ≡ true
faulty_by_before a b e = rw e (or-true (not a))

-- a pair that joins stations and did not stand before is not
pub not_faulty_by_both : (a b : Bool) → a ≡ true → b ≡ false → (not a || b) ≡ false
not_faulty_by_both a b e f = rw (e, f) refl

-- what a pair that joins two stations says of its ends
pub ends_of_joins : (n u v : ℕ) → joins n (u, v) ≡ true → (u < v) × (v < n)
ends_of_joins n u v e = elim (cases_lt u v) [
  | inl rises ↦ (let second : ltb v n ≡ true = rw (lt-ltb u v rises) at e in (rises, ltb-true v n second))
  | inr falls ↦ absurd (true≢false (sym e ∙ joins_not_rising n u v falls))
]

-- the fault of a pair that joins no stations, where no pair before it is faulty
pub ends_reported : (n : ℕ) (es : List (ℕ × ℕ)) (i : ℕ) → i < length es → ((k : ℕ) → k < i → is_faulty_pair n es k ≡ false) → joins n (pair_at es i) ≡ false
    → first_pair_fault n es ≡ Some (Ends (reported_place i))
ends_reported n es i lt clear e =
    rw (first_place (is_faulty_pair n es) (length es) i lt clear (faulty_by_ends (joins n (pair_at es i)) (is_listed (take i es) (pair_at es i)) e), e) refl

-- the fault of a pair that stood before
pub before_reported : (n : ℕ) (es : List (ℕ × ℕ)) (i : ℕ) → i < length es → ((k : ℕ) → k < i → is_faulty_pair n es k ≡ false) → joins n (pair_at es i) ≡ true
    → is_listed (take i es) (pair_at es i) ≡ true → first_pair_fault n es ≡ Some (Repeated (reported_place i))
before_reported n es i lt clear e f =
    rw (first_place (is_faulty_pair n es) (length es) i lt clear (faulty_by_before (joins n (pair_at es i)) (is_listed (take i es) (pair_at es i)) f), e) refl

-- where no place passes, each fails
pub clear_of_none : (p : ℕ → Bool) (n : ℕ) → position p (range_with_len 0 n) ≡ None → (k : ℕ) → k < n → p k ≡ false
clear_of_none p n e k lt =
    rw (place_is n k lt) at (fails_where_none p (range_with_len 0 n) k 0 e (omega (arith, length-range_with_len 0 n)))

none_of_choice : {X : Type 0} (b : Bool) (o : Option X) (x : X) → cond b o (Some x) ≡ None → (b ≡ true) × (o ≡ None)
none_of_choice true o x e = (refl, e)
none_of_choice false o x e = absurd cc

-- a sorted list of the pairs of a list without a fault is a graph
pub IsGraph-from_sort : (n : ℕ) (es kept : List (ℕ × ℕ)) → graph_fault n es ≡ None → IsPermutation es kept
    → IsSorted (λ e f. ordering_then (nat_cmp e.0 f.0) (nat_cmp e.1 f.1)) kept → IsGraph (record { stations = n; edges = kept })
IsGraph-from_sort n es kept none moved sorted =
    let parts = none_of_choice (leb 1 n && leb n 256) (first_pair_fault n es) (Stations n) none in
    let range = and_parts (leb 1 n) (leb n 256) parts.0 in
    let clear = clear_of_none (is_faulty_pair n es) (length es) (map-none (pair_fault n es) (position (is_faulty_pair n es) (range_with_len 0 (length es))) parts.1) in
    let both : (k : ℕ) → k < length es → (joins n (pair_at es k) ≡ true) × (is_listed (take k es) (pair_at es k) ≡ false) = λ k lt. not_faulty (joins n (pair_at es k)) (is_listed (take k es) (pair_at es k)) (clear k lt) in
    record {
      some_stations = leb-true 1 n range.0;
      most_stations = leb-true n 256 range.1;
      are_edges = All-permutation (IsEdge n) es kept moved (All-from_get_or (IsEdge n) es (0, 0) (λ k lt. let ends = ends_of_joins n (pair_at es k).0 (pair_at es k).1 (both k lt).0 in record { ends = ends.0; within = ends.1 }));
      rising = AreRisingEdges-from_sort kept sorted (neighbours_differ (λ f e. nat_eq f.0 e.0 && nat_eq f.1 e.1) same_pair itself es kept (0, 0) (λ k lt. (both k lt).1) moved);
    }

-- a sorted list of the numbers of a list without a fault is a coalition
pub AreMembers-from_sort : (n : ℕ) (ms kept : List ℕ) → n ≤ 256 → member_fault n ms ≡ None → IsPermutation ms kept → IsSorted nat_cmp kept → AreMembers kept
AreMembers-from_sort n ms kept le none moved sorted =
    let clear = clear_of_none (is_faulty_member n ms) (length ms) (map-none (λ (i : ℕ). let fault : MemberFault = record { place = reported_place i } in fault) (position (is_faulty_member n ms) (range_with_len 0 (length ms))) none) in
    let both : (k : ℕ) → k < length ms → (leb n (get_or ms k 0) ≡ false) × (is_among (take k ms) (get_or ms k 0) ≡ false) = λ k lt. or_parts (leb n (get_or ms k 0)) (is_among (take k ms) (get_or ms k 0)) (clear k lt) in
    let order = IsNonDecreasingBy-from_sort (λ (m : ℕ). m) kept sorted in
    let below : ℕ → Type 0 = λ m. m < 256 in
    record {
      stations = All-permutation below ms kept moved (All-from_get_or below ms 0 (λ k lt. let small = leb-false n (get_or ms k 0) (both k lt).0 in omega arith));
      rising = λ i lt.
          let up = order i (i + 1) 0 (omega arith) lt in
          let differ = neighbours_differ (λ (y x : ℕ). nat_eq x y) (λ y x e. sym (eqb-true x y e)) (λ m. eq-eqb m m refl) ms kept 0 (λ k lt. (both k lt).1) moved i lt in
          elim (cases_lt (get_or kept i 0) (get_or kept (i + 1) 0)) [ inl less ↦ less | inr le ↦ absurd (differ (omega arith)) ];
    }
