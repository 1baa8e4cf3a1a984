-- A round of a script that fits a net has no more words than the net can have stations.
use Rattle.std.proofs.Common.{◌≡◌, ℕ, zero, suc, ◌+◌, ◌-◌, ◌<◌, ◌≤◌, true, false, true≢false, nat_eq, List, [], ◌∷◌, ◌++◌, length, get_or, All, refl, sym, subst, arith, inl, inr, eqb-true, ne_eqb}
use Rattle.std.specs.List.{list_any, IsDistinct}
use Rattle.std.specs.List.Sorted.{IsStrictlyIncreasing}
use Rattle.std.proofs.lemmas.Bool.{cases_lt, or_parts}
use Rattle.std.proofs.lemmas.List.{length-append, length-map, get_or_append_left, get_or-append_right}
use Rattle.std.proofs.lemmas.List.Elements.{All-head, All-tail, All-append}
use Rattle.std.proofs.lemmas.List.Kept.{AllPairs-from_increasing}
use Rattle.std.proofs.lemmas.Map.Keys.{IsDistinct-from_apart}
use Rattle.std.proofs.lemmas.Map.Steps.{length-le_from_distinct_below}
use Rattle.dc_spec.specs.Limits as limit
use Rattle.dc_spec.specs.Lists.{is_among}
use Rattle.dc_spec.proofs.Booleans.{or_cases}
use Rattle.dc_spec.specs.Scripts.{Said, delivered_words, stations_of, Turn}
use Rattle.dc_formats.specs.Laws.{FitsNets}

-- a number that is not in a list is none of its items
none_of : (ys : List ℕ) (x : ℕ) → is_among ys x ≡ false → (k d : ℕ) → k < length ys → nat_eq x (get_or ys k d) ≡ false
none_of [] x none k d lt = absurd (omega arith)
none_of (y ∷ ys) x none zero d lt = (or_parts (nat_eq x y) (is_among ys x) none).0
none_of (y ∷ ys) x none (suc k) d lt = none_of ys x (or_parts (nat_eq x y) (is_among ys x) none).1 k d (omega arith)

-- the numbers of two rising lists that share none differ
all_differ : (xs ys : List ℕ) → IsStrictlyIncreasing xs → IsStrictlyIncreasing ys → All (λ x. is_among ys x ≡ false) xs → IsDistinct nat_eq (xs ++ ys)
all_differ xs ys first second apart = IsDistinct-from_apart nat_eq (xs ++ ys) differ
  where
    less : (a b : ℕ) → a < b → nat_eq a b ≡ false
    less a b lt = ne_eqb a b (omega arith)

    differ : (i j d : ℕ) → i < j → j < length (xs ++ ys) → nat_eq (get_or (xs ++ ys) i d) (get_or (xs ++ ys) j d) ≡ false
    differ i j d lt within = elim (cases_lt j (length xs)) [
      | inl low ↦ rw (get_or_append_left xs ys d i (omega arith), get_or_append_left xs ys d j low) (less _ _ (AllPairs-from_increasing xs first i j d lt low))
      | inr high ↦ elim (cases_lt i (length xs)) [
        | inl low ↦ rw (get_or_append_left xs ys d i low, get_or-append_right xs ys (length xs) j d refl high) (none_of ys _ (apart i d low) (j - length xs) d (omega (arith, length-append xs ys)))
        | inr also ↦ rw (get_or-append_right xs ys (length xs) i d refl also, get_or-append_right xs ys (length xs) j d refl high) (less _ _ (AllPairs-from_increasing ys second (i - length xs)
            (j - length xs) d (omega arith) (omega (arith, length-append xs ys))))
      ]
    ]

-- a number in a list whose items are below n is below n
below_in : (n : ℕ) (xs : List ℕ) → All (λ x. x < n) xs → (q : ℕ) → list_any (nat_eq q) xs ≡ true → q < n
below_in n [] below q here = absurd (true≢false (sym here))
below_in n (x ∷ xs) below q here = elim (or_cases (nat_eq q x) (list_any (nat_eq q) xs) here) [
  | inl same ↦ subst (λ i. i < n) (sym (eqb-true q x same)) (All-head (λ i. i < n) x xs below)
  | inr later ↦ below_in n xs (All-tail (λ i. i < n) x xs below) q later
]

-- so many words as stations at most are said and delivered
pub few_words : (turn : Turn) → IsStrictlyIncreasing (stations_of turn.says) → IsStrictlyIncreasing (stations_of (delivered_words turn.delivery)) → FitsNets turn
    → length turn.says + length (delivered_words turn.delivery) ≤ limit.most_stations
few_words turn said dealt fits =
    let xs = stations_of turn.says in
    let ys = stations_of (delivered_words turn.delivery) in
    let few : length (xs ++ ys) ≤ limit.most_stations = length-le_from_distinct_below (xs ++ ys) limit.most_stations (all_differ xs ys said dealt fits.apart)
    (below_in limit.most_stations (xs ++ ys) (All-append (λ i. i < limit.most_stations) xs ys fits.saying fits.receiving)) in
    omega (arith, length-append xs ys, length-map turn.says (λ (said : Said). said.station), length-map (delivered_words turn.delivery) (λ (said : Said). said.station))
