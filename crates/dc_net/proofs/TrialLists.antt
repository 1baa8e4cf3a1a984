-- The edges of a trial: they are as many as they should be, and rise.
use Rattle.std.proofs.Common.{◌≡◌, ℕ, zero, suc, ◌+◌, ◌*◌, ◌<◌, ◌≤◌, Bool, cond, ltb, List, [], ◌∷◌, ◌++◌, length, get_or, map, sym, ap, subst, ◌∙◌, arith, inl, inr, Option, Some}
use Rattle.std.specs.List.{All, filter, flat_map, range_with_len}
use Rattle.std.proofs.Math.Nat.{mul-le-mul_right, mul-mul-mul_comm}
use Rattle.std.proofs.lemmas.Bool.{cases_lt, le-ltb, lt-ltb}
use Rattle.std.proofs.lemmas.List.{map-id, append-nil}
use Rattle.std.proofs.lemmas.List.Elements.{filter-append, All-nil, All-cons, All-weaker}
use Rattle.std.proofs.lemmas.List.FromFn.{map-range_with_len_more}
use Rattle.std.proofs.lemmas.Grind.{flat_map-append}
use Rattle.dc_graph.specs.Graph.{IsEdgeBefore, AreRisingEdges, IsEdge, IsGraph}
use Rattle.dc_net.specs.TrialNets.{edges_of, trial_edges}

numbers_more : (n : ℕ) → range_with_len 0 (n + 1) ≡ range_with_len 0 n ++ n ∷ []
numbers_more n =
    sym (map-id (range_with_len 0 (n + 1))) ∙ map-range_with_len_more (λ (k : ℕ). k) 0 n n (omega arith)
    ∙ ap (λ (ks : List ℕ). ks ++ n ∷ []) (map-id (range_with_len 0 n))

-- the edges of one station more
pub edges_more : (p : ℕ × ℕ → Bool) (i : ℕ) (es fs : List (ℕ × ℕ)) → es ≡ filter p (flat_map edges_of (range_with_len 0 i))
    → fs ≡ es ++ filter p (edges_of i) → fs ≡ filter p (flat_map edges_of (range_with_len 0 (i + 1)))
edges_more p i es fs so_far pushed =
    let one : flat_map edges_of (i ∷ []) ≡ edges_of i = append-nil (edges_of i) in
    let all : flat_map edges_of (range_with_len 0 (i + 1)) ≡ flat_map edges_of (range_with_len 0 i) ++ edges_of i =
    ap (flat_map edges_of) (numbers_more i) ∙ flat_map-append edges_of (range_with_len 0 i) (i ∷ [])
    ∙ ap (λ (later : List (ℕ × ℕ)). flat_map edges_of (range_with_len 0 i) ++ later) one in
    pushed ∙ ap (λ (before : List (ℕ × ℕ)). before ++ filter p (edges_of i)) so_far
    ∙ sym (filter-append p (flat_map edges_of (range_with_len 0 i)) (edges_of i)) ∙ sym (ap (filter p) all)

-- one station's more
pub one_more : {X : Type 0} (f : ℕ → X) (i : ℕ) (xs ys : List (Option X)) (x : X) → xs ≡ map (λ k. Some (f k)) (range_with_len 0 i)
    → x ≡ f i → ys ≡ xs ++ Some x ∷ [] → ys ≡ map (λ k. Some (f k)) (range_with_len 0 (i + 1))
one_more f i xs ys x so_far is pushed =
    pushed ∙ ap (λ zs. zs ++ Some x ∷ []) so_far ∙ ap (λ z. map (λ k. Some (f k)) (range_with_len 0 i) ++ Some z ∷ []) is
    ∙ sym (map-range_with_len_more (λ k. Some (f k)) 0 i i (omega arith))

-- ---- rising

-- at most so many edges of n stations, rising, each after this pair
record Up (n : ℕ) (e : ℕ × ℕ) (most : ℕ) (es : List (ℕ × ℕ)) : Type 0 where
  few : length es ≤ most
  are : All (IsEdge n) es
  later : All (IsEdgeBefore e) es
  rising : AreRisingEdges es

before_both : (e d f : ℕ × ℕ) → IsEdgeBefore e d → IsEdgeBefore d f → IsEdgeBefore e f
before_both e d f first second =
    let low = first.lesser in
    let high = second.lesser in
    record {
      lesser = omega arith;
      greater = λ same. let one = first.greater (omega arith) in let two = second.greater (omega arith) in omega arith;
    }

all_after : (e d : ℕ × ℕ) (es : List (ℕ × ℕ)) → IsEdgeBefore e d → All (IsEdgeBefore d) es → All (IsEdgeBefore e) es
all_after e d es first later = All-weaker (IsEdgeBefore d) (IsEdgeBefore e) (λ f second. before_both e d f first second) es later

rising_more : (d : ℕ × ℕ) (es : List (ℕ × ℕ)) → All (IsEdgeBefore d) es → AreRisingEdges es → AreRisingEdges (d ∷ es)
rising_more d es later rising zero x lt = later 0 x (omega arith)
rising_more d es later rising (suc i) x lt =
    let next : suc (i + 1) ≡ suc i + 1 = omega arith in
    subst (λ (k : ℕ). IsEdgeBefore (get_or es i x) (get_or (d ∷ es) k x)) next (rising i x (omega arith))

-- one pair in front, where it is an edge
up_more : (n : ℕ) (e d : ℕ × ℕ) (most : ℕ) (es : List (ℕ × ℕ)) → IsEdgeBefore e d → d.0 < d.1 → Up n d most es
    → Up n e (most + 1) (cond (ltb d.1 n) (d ∷ es) es)
up_more n e d most es first ends up =
    let few = up.few in
    let later = all_after e d es first up.later in
    elim (cases_lt d.1 n) [
      | inl within ↦ rw (lt-ltb d.1 n within) (record {
        few = omega arith;
        are = All-cons (IsEdge n) d es (record { ends = ends; within = within }) up.are;
        later = All-cons (IsEdgeBefore e) d es first later;
        rising = rising_more d es up.later up.rising;
      })
      | inr past ↦ rw (le-ltb d.1 n past) (record { few = omega arith; are = up.are; later = later; rising = up.rising })
    ]

-- the edges of so many stations from one on
edges_up : (n a count : ℕ) → Up n (a, a) (3 * count) (filter (λ e. ltb e.1 n) (flat_map edges_of (range_with_len a count)))
edges_up n a zero = record {
  few = omega arith;
  are = All-nil (IsEdge n);
  later = All-nil (IsEdgeBefore (a, a));
  rising = λ i d lt. absurd (omega arith);
}
edges_up n a (suc count) =
    let rest = filter (λ (e : ℕ × ℕ). ltb e.1 n) (flat_map edges_of (range_with_len (a + 1) count)) in
    let next = edges_up n (a + 1) count in
    let gap : IsEdgeBefore (a, a + 4) (a + 1, a + 1) = record { lesser = omega arith; greater = λ same. absurd (omega arith) } in
    let here : Up n (a, a + 4) (3 * count) rest = record {
      few = next.few;
      are = next.are;
      later = all_after (a, a + 4) (a + 1, a + 1) rest gap next.later;
      rising = next.rising;
    } in
    let third = up_more n (a, a + 2) (a, a + 4) _ _ (record { lesser = omega arith; greater = λ _. omega arith }) (omega arith) here in
    let second = up_more n (a, a + 1) (a, a + 2) _ _ (record { lesser = omega arith; greater = λ _. omega arith }) (omega arith) third in
    let first = up_more n (a, a) (a, a + 1) _ _ (record { lesser = omega arith; greater = λ _. omega arith }) (omega arith) second in
    let few = first.few in
    record { few = omega arith; are = first.are; later = first.later; rising = first.rising }

-- the edges are a key graph's
pub trial_graph : (n : ℕ) → 1 ≤ n → n ≤ 256 → IsGraph (record { stations = n; edges = trial_edges n })
trial_graph n some most =
    let up = edges_up n 0 n in record { some_stations = some; most_stations = most; are_edges = up.are; rising = up.rising }

-- at most three a station
pub few_edges : (n : ℕ) → length (trial_edges n) ≤ 3 * n
few_edges n = let up = edges_up n 0 n in up.few

-- so their pads are within the limit
pub pads_fit : (n words : ℕ) (es : List (ℕ × ℕ)) → es ≡ trial_edges n → n * words ≤ 524288 → length es * (32 * words) ≤ 67108864
pads_fit n words es is fits =
    let few : length es ≤ 3 * n = rw is (few_edges n) in
    let most : length es * (32 * words) ≤ 3 * n * (32 * words) = mul-le-mul_right (32 * words) few in
    let sorted : 3 * n * (32 * words) ≡ 96 * (n * words) = mul-mul-mul_comm 3 n 32 words in
    omega arith
