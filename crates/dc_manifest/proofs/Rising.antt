-- What a key graph and a coalition keep is what was given, in rising order.
use Rattle.std.proofs.Common.{◌≡◌, ℕ, zero, suc, ◌+◌, ◌*◌, ◌/◌, ◌%◌, ◌<◌, ◌≤◌, Bool, true, false, cond, not, ◌&&◌, eqb, leb, ltb, List, [], ◌∷◌, length, map, get_or, take, Option, Some, None, ◌≢◌, refl, sym, ap, subst, ◌∙◌, arith, inl, inr, add-one}
use Rattle.std.specs.Prelude.{position, ⊤}
use Rattle.std.specs.List.{range_with_len, filter, list_any, All}
use Rattle.std.proofs.lemmas.Bool.{cases_Bool, cases_eq, eq-eqb, ne_eqb, eqb-true, ltb-true, leb-false, and_parts, or_parts, not-false}
use Rattle.std.proofs.lemmas.List.{map-id}
use Rattle.std.proofs.lemmas.List.Elements.{All-from_get_or}
use Rattle.std.proofs.lemmas.List.FromFn.{get_or-range_with_len, length-range_with_len}
use Rattle.std.proofs.lemmas.List.Sorted.{All-permutation, list_any-IsPermutation}
use Rattle.std.proofs.lemmas.Nat.{mul-add-lt, div-mul-add, mod-mul-add}
use Rattle.std.proofs.Math.Nat.{div-add-mod, mul-le-mul_right}
use Rattle.dc_spec.specs.Lists.{is_among}
use Rattle.dc_spec.proofs.Options.{map-none}
use Rattle.dc_field.proofs.Positions.{fails_where_none}
use Rattle.dc_graph.specs.declared.fault.GraphFault.TheVariants.{Stations}
use Rattle.dc_graph.specs.declared.fault.MemberFault.{MemberFault}
use Rattle.dc_graph.specs.Graph.{PlainGraph, IsEdge, IsEdgeBefore}
use Rattle.dc_graph.specs.Faults.{reported_place, joins, is_listed, pair_at, is_faulty_pair, pair_fault, first_pair_fault, graph_fault, is_faulty_member, member_fault, Keeps, KeepsMembers}
use Rattle.dc_manifest.specs.Reading.{pair_number, rising_edges, rising_members}

-- items that a rising list of numbers from low to high gives
abbrev Lies : {X : Type 0} → (X → ℕ) → (ℕ → X) → ℕ → ℕ → List X → Type 0
Lies key at low high [] = ⊤
Lies key at low high (x ∷ xs) = (low ≤ key x) × (key x < high) × (at (key x) ≡ x) × Lies key at (key x + 1) high xs

lies : {X : Type 0} (key : X → ℕ) (at : ℕ → X) (low high : ℕ) (xs : List X) (d : X) → (0 < length xs → low ≤ key (get_or xs 0 d))
    → ((i : ℕ) → i < length xs → (key (get_or xs i d) < high) × (at (key (get_or xs i d)) ≡ get_or xs i d))
    → ((i : ℕ) → suc i < length xs → key (get_or xs i d) < key (get_or xs (suc i) d)) → Lies key at low high xs
lies key at low high [] d first each up = tt
lies key at low high (x ∷ xs) d first each up =
    let here = each 0 (omega arith) in (
      first (omega arith),
      here.0,
      here.1,
      lies key at (key x + 1) high xs d (λ some. let next : key x < key (get_or xs 0 d) = up 0 (omega arith) in omega arith) (λ i lt. each (suc i) (omega arith)) (λ i lt. up (suc i) (omega arith)),
    )

-- no item has a number below the first
none_below : {X : Type 0} (key : X → ℕ) (at : ℕ → X) (low high : ℕ) (xs : List X) → Lies key at low high xs → (i : ℕ) → i < low → list_any (λ x. eqb i (key x)) xs ≡ false
none_below key at low high [] l i lt = refl
none_below key at low high (x ∷ xs) l i lt =
    let (least, most, given, rest) = l in
    rw (ne_eqb i (key x) (λ e. absurd (omega arith))) (none_below key at (key x + 1) high xs rest i (omega arith))

-- the numbers of the items pick them out of all
picked : {X : Type 0} (key : X → ℕ) (at : ℕ → X) (p : X → Bool) (xs : List X) (n low high : ℕ) → low + n ≡ high → Lies key at low high xs
    → ((i : ℕ) → low ≤ i → i < high → p (at i) ≡ list_any (λ x. eqb i (key x)) xs) → filter p (map at (range_with_len low n)) ≡ xs
picked key at p [] zero low high e l same = refl
picked key at p (x ∷ xs) zero low high e l same = let (least, most, given, rest) = l in absurd (omega arith)
picked key at p [] (suc n) low high e l same = rw (same low (omega arith) (omega arith)) (picked key at p [] n (low + 1) high (omega arith) tt (λ i above below. same i (omega arith) below))
picked key at p (x ∷ xs) (suc n) low high e l same =
    let (least, most, given, rest) = l in
    elim (cases_eq low (key x)) [
      | inl is ↦ (let passes : p (at low) ≡ true = same low (omega arith) (omega arith) ∙ rw (eq-eqb low (key x) is) refl in
          let first : at low ≡ x = ap at is ∙ given in
          let starts : Lies key at (low + 1) high xs = subst (λ k. Lies key at (k + 1) high xs) (sym is) rest in
          let others = picked key at p xs n (low + 1) high (omega arith) starts (λ i above below. same i (omega arith) below ∙ rw (ne_eqb i (key x) (λ e. absurd (omega arith))) refl) in
          rw (passes, first, others) refl)
      | inr other ↦ (let later : Lies key at (low + 1) high (x ∷ xs) = (omega arith, most, given, rest) in
          let fails : p (at low) ≡ false = same low (omega arith) (omega arith) ∙ none_below key at (low + 1) high (x ∷ xs) later low (omega arith) in
          rw fails (picked key at p (x ∷ xs) n (low + 1) high (omega arith) later (λ i above below. same i (omega arith) below)))
    ]

-- where no place is faulty, each passes
clear : (p : ℕ → Bool) (n : ℕ) → position p (range_with_len 0 n) ≡ None → (k : ℕ) → k < n → p k ≡ false
clear p n none k lt =
    let place : get_or (range_with_len 0 n) k 0 ≡ k = get_or-range_with_len 0 n k 0 lt ∙ omega arith in
    rw place at (fails_where_none p (range_with_len 0 n) k 0 none (omega (arith, length-range_with_len 0 n)))

-- a list of pairs without a fault has edges alone
no_station_fault : {X : Type 0} (b : Bool) (o : Option X) (x : X) → cond b o (Some x) ≡ None → o ≡ None
no_station_fault true o x e = e
no_station_fault false o x e = absurd cc

are_edges : (n : ℕ) (es : List (ℕ × ℕ)) → graph_fault n es ≡ None → All (IsEdge n) es
are_edges n es none =
    let found : position (is_faulty_pair n es) (range_with_len 0 (length es)) ≡ None = map-none (pair_fault n es) _ (no_station_fault (leb 1 n && leb n 256) (first_pair_fault n es) (Stations n) none) in
    All-from_get_or (IsEdge n) es (0, 0) (λ k lt.
    let e = pair_at es k in
    let parts = or_parts (not (joins n e)) (is_listed (take k es) e) (clear (is_faulty_pair n es) (length es) found k lt) in
    let ends = and_parts (ltb e.0 e.1) (ltb e.1 n) (not-false (joins n e) parts.0) in
    record { ends = ltb-true e.0 e.1 ends.0; within = ltb-true e.1 n ends.1 })

-- a list of members without a fault has stations alone
are_stations : (n : ℕ) (ms : List ℕ) → member_fault n ms ≡ None → All (λ m. m < n) ms
are_stations n ms none =
    let found : position (is_faulty_member n ms) (range_with_len 0 (length ms)) ≡ None = map-none (λ (i : ℕ). let fault : MemberFault = record { place = reported_place i } in fault) _ none in
    All-from_get_or (λ (m : ℕ). m < n) ms 0 (λ k lt.
    let parts = or_parts (leb n (get_or ms k 0)) (is_among (take k ms) (get_or ms k 0)) (clear (is_faulty_member n ms) (length ms) found k lt) in
    leb-false n (get_or ms k 0) parts.0)

-- the members of a coalition are the given ones in rising order
pub members_kept : (n : ℕ) (ms kept : List ℕ) → KeepsMembers n ms kept → rising_members n ms ≡ kept
members_kept n ms kept keeps =
    let small = All-permutation (λ (m : ℕ). m < n) ms kept keeps.same_members (are_stations n ms keeps.no_fault) in
    let id : ℕ → ℕ = λ m. m in
    let up : (i : ℕ) → suc i < length kept → get_or kept i 0 < get_or kept (suc i) 0 = λ i lt. subst (λ k. get_or kept i 0 < get_or kept k 0) (add-one i) (keeps.rising.rising i (omega arith)) in
    let lie = lies id id 0 n kept 0 (λ _. omega arith) (λ i lt. (small i 0 lt, refl)) up in
    let all = picked id id (is_among ms) kept n 0 n (omega arith) lie (λ i above below. list_any-IsPermutation (λ m. eqb i m) ms kept keeps.same_members) in
    sym (ap (filter (is_among ms)) (map-id (range_with_len 0 n))) ∙ all

-- two numbers are equal where their quotients and their rests are
same_number : (n i k : ℕ) → (eqb (k / n) (i / n) && eqb (k % n) (i % n)) ≡ eqb i k
same_number n i k = elim (cases_eq i k) [
  | inl is ↦ rw (is, eq-eqb k k refl, eq-eqb (k / n) (k / n) refl, eq-eqb (k % n) (k % n) refl) refl
  | inr other ↦ elim (cases_Bool (eqb (k / n) (i / n) && eqb (k % n) (i % n))) [
    | inl both ↦ (let parts = and_parts (eqb (k / n) (i / n)) (eqb (k % n) (i % n)) both in
        let high = eqb-true (k / n) (i / n) parts.0 in
        let low = eqb-true (k % n) (i % n) parts.1 in
        let whole : n * (i / n) + i % n ≡ n * (k / n) + k % n = rw (high, low) refl in
        absurd (other (sym (div-add-mod i n) ∙ whole ∙ div-add-mod k n)))
    | inr differ ↦ differ ∙ sym (ne_eqb i k other)
  ]
]

-- the number of a pair
abbrev number_of : ℕ → ℕ × ℕ → ℕ
number_of n e = e.0 * n + e.1

-- a pair stands among others where its number does
stands_by_number : (n low : ℕ) (es : List (ℕ × ℕ)) → Lies (number_of n) (pair_number n) low (n * n) es → (i : ℕ) → is_listed es (pair_number n i) ≡ list_any (λ e. eqb i (number_of n e)) es
stands_by_number n low [] l i = refl
stands_by_number n low (e ∷ es) l i =
    let (least, most, given, rest) = l in
    let here : (eqb e.0 (i / n) && eqb e.1 (i % n)) ≡ eqb i (number_of n e) = subst (λ (q : ℕ × ℕ). (eqb q.0 (i / n) && eqb q.1 (i % n)) ≡ eqb i (number_of n e)) given (same_number n i (number_of n e)) in
    rw (here, stands_by_number n (number_of n e + 1) es rest i) refl

-- a pair before another has the smaller number
number_rises : (n : ℕ) (e f : ℕ × ℕ) → e.1 < n → e.0 ≤ f.0 → (e.0 ≡ f.0 → e.1 < f.1) → number_of n e < number_of n f
number_rises n e f within lesser greater = elim (cases_eq e.0 f.0) [
  | inl is ↦ (let up = greater is in rw is (omega arith))
  | inr other ↦ (let next : (e.0 + 1) * n ≤ f.0 * n = mul-le-mul_right n (let differ : e.0 ≢ f.0 = other in omega arith) in
      let split : (e.0 + 1) * n ≡ e.0 * n + n = omega arith in
      omega arith)
]

-- the edges of a key graph are the given ones in rising order
pub edges_kept : (n : ℕ) (es : List (ℕ × ℕ)) (g : PlainGraph) → Keeps n es g → rising_edges n es ≡ g.edges
edges_kept n es g keeps =
    let kept = g.edges in
    let edges = All-permutation (IsEdge n) es kept keeps.same_edges (are_edges n es keeps.no_fault) in
    let each : (i : ℕ) → i < length kept → (number_of n (get_or kept i (0, 0)) < n * n) × (pair_number n (number_of n (get_or kept i (0, 0))) ≡ get_or kept i (0, 0)) = λ i lt.
    let e = get_or kept i (0, 0) in
    let edge = edges i (0, 0) lt in
    let ends = edge.ends in
    let within = edge.within in
    (mul-add-lt e.0 n e.1 n (omega arith) within, rw (div-mul-add e.0 n e.1 within, mod-mul-add e.0 n e.1 within) refl) in
    let up : (i : ℕ) → suc i < length kept → number_of n (get_or kept i (0, 0)) < number_of n (get_or kept (suc i) (0, 0)) = λ i lt.
    let before = subst (λ k. IsEdgeBefore (get_or kept i (0, 0)) (get_or kept k (0, 0))) (add-one i) (keeps.rising i (0, 0) (omega arith)) in
    number_rises n (get_or kept i (0, 0)) (get_or kept (suc i) (0, 0)) (edges i (0, 0) (omega arith)).within before.lesser before.greater in
    let lie = lies (number_of n) (pair_number n) 0 (n * n) kept (0, 0) (λ _. omega arith) each up in
    picked (number_of n) (pair_number n) (is_listed es) kept (n * n) 0 (n * n) (omega arith) lie (λ i above below.
    list_any-IsPermutation (λ (f : ℕ × ℕ). eqb f.0 (i / n) && eqb f.1 (i % n)) es kept keeps.same_edges ∙ stands_by_number n 0 kept lie i)
