-- Sorted lists that name nothing twice rise, and are short.
use Rattle.std.proofs.Common.{◌≡◌, ℕ, zero, suc, ◌+◌, ◌*◌, ◌<◌, ◌≤◌, Bool, true, false, cond, List, [], ◌∷◌, length, get_or, take, refl, sym, ap, subst, ◌∙◌, arith, inl, inr, add-one, true≢false, eq-eqb}
use Rattle.std.specs.List.{list_any, count_by, All}
use Rattle.std.specs.List.Sorted.{IsPermutation, IsSorted}
use Rattle.std.specs.Ordering.{is_lt, nat_cmp, ordering_then}
use Rattle.std.proofs.lemmas.Bool.{cases_Bool, cases_lt, cases_order, le-ltb, lt-ltb}
use Rattle.std.proofs.lemmas.List.{take_all, get_or_default}
use Rattle.std.proofs.lemmas.List.Sorted.{sum_by-IsPermutation}
use Rattle.std.proofs.lemmas.List.Sums.{count_by_more_yes, count_by_more_no, sum_by-take-le}
use Rattle.dc_graph.specs.Graph.{AreRisingEdges, IsEdge, AreMembers}

-- nothing that passes is counted as none
none_counted : {X : Type 0} (p : X → Bool) (xs : List X) → list_any p xs ≡ false → count_by p xs ≡ 0
none_counted p [] h = refl
none_counted p (x ∷ xs) h = elim (cases_Bool (p x)) [
  | inl passes ↦ absurd (true≢false (rw passes at h))
  | inr fails ↦ (let rest : list_any p xs ≡ false = rw fails at h in rw fails (omega (arith, none_counted p xs rest)))
]

-- two neighbours that pass are counted as two
two_counted : {X : Type 0} (p : X → Bool) (xs : List X) (k : ℕ) (d : X) → k + 1 < length xs → p (get_or xs k d) ≡ true → p (get_or xs (k + 1) d) ≡ true → 2 ≤ count_by p xs
two_counted p xs k d lt first second =
    let one = count_by_more_yes p xs k d (omega arith) first in
    let two = count_by_more_yes p xs (k + 1) d lt second in
    omega (arith, one, two, sum_by-take-le (λ x. cond (p x) 1 0) xs (k + 1 + 1))

-- what does not stand before its place is counted at most once
once_counted : {X : Type 0} (same : X → X → Bool) (reads : (y x : X) → same y x ≡ true → y ≡ x) (xs : List X) (d x : X)
    → ((k : ℕ) → k < length xs → list_any (λ y. same y (get_or xs k d)) (take k xs) ≡ false)
    → (i : ℕ) → i ≤ length xs → count_by (λ y. same y x) (take i xs) ≤ 1
once_counted same reads xs d x fresh zero le = omega arith
once_counted same reads xs d x fresh (suc i) le =
    let P : ℕ → Type 0 = λ n. count_by (λ y. same y x) (take n xs) ≤ 1 in
    let so_far : count_by (λ y. same y x) (take i xs) ≤ 1 = once_counted same reads xs d x fresh i (omega arith) in
    let lt : i < length xs = omega arith in
    let here : P (i + 1) = elim (cases_Bool (same (get_or xs i d) x)) [
      | inl passes ↦ (let is : get_or xs i d ≡ x = reads _ _ passes in
          let none : list_any (λ y. same y x) (take i xs) ≡ false = subst (λ z. list_any (λ y. same y z) (take i xs) ≡ false) is (fresh i lt) in
          omega (arith, none_counted (λ y. same y x) (take i xs) none, count_by_more_yes (λ y. same y x) xs i d lt passes))
      | inr fails ↦ omega (arith, so_far, count_by_more_no (λ y. same y x) xs i d lt fails)
    ] in
    subst P (add-one i) here

-- no two neighbours of a rearranged list of different items are the same
pub neighbours_differ : {X : Type 0} (same : X → X → Bool) (reads : (y x : X) → same y x ≡ true → y ≡ x) (itself : (x : X) → same x x ≡ true) (xs ys : List X) (d : X)
    → ((k : ℕ) → k < length xs → list_any (λ y. same y (get_or xs k d)) (take k xs) ≡ false)
    → IsPermutation xs ys → (k : ℕ) → k + 1 < length ys → get_or ys k d ≡ get_or ys (k + 1) d → ⊥
neighbours_differ same reads itself xs ys d fresh moved k lt e =
    let x = get_or ys k d in
    let two = two_counted (λ y. same y (get_or ys k d)) ys k d lt (itself _) (subst (λ z. same z (get_or ys k d) ≡ true) e (itself _)) in
    let once = once_counted same reads xs d (get_or ys k d) fresh (length xs) (omega arith) in
    let whole : take (length xs) xs ≡ xs = take_all (length xs) xs (omega arith) in
    let once_in_all : count_by (λ y. same y (get_or ys k d)) xs ≤ 1 = rw whole at once in
    omega (arith, two, once_in_all, sum_by-IsPermutation (λ y. cond (same y (get_or ys k d)) 1 0) xs ys moved)

-- what the order of pairs says where the second does not come first
pub not_less : (e f : ℕ × ℕ) → is_lt (ordering_then (nat_cmp f.0 e.0) (nat_cmp f.1 e.1)) ≡ false → (e.0 ≤ f.0) × (e.0 ≡ f.0 → e.1 ≤ f.1)
not_less e f h = elim (cases_order f.0 e.0) [
  | inl is ↦ (
    omega arith,
    λ _. elim (cases_lt f.1 e.1) [
      | inl lt ↦ absurd (true≢false (sym (rw (le-ltb f.0 e.0 (omega arith), eq-eqb f.0 e.0 is, lt-ltb f.1 e.1 lt) refl) ∙ h))
      | inr le ↦ le
    ],
  )
  | inr other ↦ elim other [
    | inl lt ↦ absurd (true≢false (sym (rw (lt-ltb f.0 e.0 lt) refl) ∙ h))
    | inr lt ↦ (omega arith, λ is. absurd (omega arith))
  ]
]

-- a sorted list of pairs of which no two neighbours are the same rises
pub AreRisingEdges-from_sort : (es : List (ℕ × ℕ)) → IsSorted (λ e f. ordering_then (nat_cmp e.0 f.0) (nat_cmp e.1 f.1)) es
    → ((k : ℕ) → k + 1 < length es → get_or es k (0, 0) ≡ get_or es (k + 1) (0, 0) → ⊥) → AreRisingEdges es
AreRisingEdges-from_sort es sorted differ i d lt =
    let e = get_or es i d in
    let f = get_or es (i + 1) d in
    let order = not_less (get_or es i d) (get_or es (i + 1) d) (sorted i d (omega arith) lt) in
    record {
      lesser = order.0;
      greater = λ is. elim (cases_lt (get_or es i d).1 (get_or es (i + 1) d).1) [
        | inl less ↦ less
        | inr le ↦ (let second : (get_or es i d).1 ≡ (get_or es (i + 1) d).1 = let up = order.1 is in omega arith in
            let with_second : ℕ → ℕ × ℕ = λ x. (x, (get_or es i d).1) in
            let with_first : ℕ → ℕ × ℕ = λ y. ((get_or es (i + 1) d).0, y) in
            let alike : get_or es i d ≡ get_or es (i + 1) d = ap with_second is ∙ ap with_first second in
            absurd (differ i lt (get_or_default es i (0, 0) d (omega arith) ∙ alike ∙ sym (get_or_default es (i + 1) (0, 0) d lt))))
      ];
    }

-- the edge at a place is at least so far up
rise_at : (es : List (ℕ × ℕ)) (n : ℕ) → n ≤ 256 → All (IsEdge n) es → AreRisingEdges es → (i : ℕ) → i < length es → i ≤ 256 * (get_or es i (0, 0)).0 + (get_or es i (0, 0)).1
rise_at es n le are up zero lt = omega arith
rise_at es n le are up (suc i) lt =
    let P : ℕ → Type 0 = λ k. k ≤ 256 * (get_or es k (0, 0)).0 + (get_or es k (0, 0)).1 in
    let so_far = rise_at es n le are up i (omega arith) in
    let next = up i (0, 0) (omega arith) in
    let edge = are i (0, 0) (omega arith) in
    let here : P (i + 1) = elim (cases_lt (get_or es i (0, 0)).0 (get_or es (i + 1) (0, 0)).0) [
      | inl less ↦ (let within = edge.within in omega arith)
      | inr same ↦ (let greater = next.greater (let lesser = next.lesser in omega arith) in let lesser = next.lesser in omega arith)
    ] in
    subst P (add-one i) here

-- so there are at most 65536
pub edges_are_few : (es : List (ℕ × ℕ)) (n : ℕ) → n ≤ 256 → All (IsEdge n) es → AreRisingEdges es → length es ≤ 65536
edges_are_few es n le are up = elim (cases_lt 65536 (length es)) [
  | inl more ↦ (let at = rise_at es n le are up 65536 more in
      let edge = are 65536 (0, 0) more in
      let ends = edge.ends in let within = edge.within in
      absurd (omega arith))
  | inr few ↦ few
]

-- the member at a place is at least so far up
member_at : (ms : List ℕ) → AreMembers ms → (i : ℕ) → i < length ms → i ≤ get_or ms i 0
member_at ms are zero lt = omega arith
member_at ms are (suc i) lt =
    let P : ℕ → Type 0 = λ k. k ≤ get_or ms k 0 in
    let so_far = member_at ms are i (omega arith) in
    let next = are.rising i (omega arith) in
    subst P (add-one i) (omega arith)

-- so there are at most 256
pub members_are_few : (ms : List ℕ) → AreMembers ms → length ms ≤ 256
members_are_few ms are = elim (cases_lt 256 (length ms)) [
  | inl more ↦ (let at = member_at ms are 256 more in let below = are.stations 256 0 more in absurd (omega arith))
  | inr few ↦ few
]
