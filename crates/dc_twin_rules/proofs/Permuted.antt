-- Permutations and their inverses; sums in another order.
use Rattle.std.proofs.Common.{◌≡◌, ℕ, suc, ◌+◌, ◌<◌, ◌≤◌, ◌≢◌, ◌&&◌, Bool, true, cond, List, ◌∷◌, length, map, get_or, slice_index, sum_by, nat_eq, refl, sym, ◌∙◌, ap, subst, inl, inr, arith, eq-eqb, eqb-true, true≢false}
use Rattle.std.proofs.Math.Dec.{eqb}
use Rattle.std.specs.List.{list_any, range_with_len, position_or_len}
use Rattle.std.proofs.lemmas.Bool.{cases_Bool, ne_eqb}
use Rattle.std.proofs.lemmas.Bool.Decides.{Decides-eqb}
use Rattle.std.proofs.lemmas.List.FromFn.{fill_by_all, get_or-map-range_with_len, length-map-range_with_len}
use Rattle.std.proofs.lemmas.List.Kept.{AllPairs-cons}
use Rattle.std.proofs.lemmas.List.Sums.{position_or_len_is}
use Rattle.std.proofs.lemmas.Map.Made.{IsDistinct-from_AllPairs}
use Rattle.std.proofs.lemmas.Map.Steps.{length-le_from_distinct_below}
use Rattle.dc_spec.specs.Lists.{is_among}
use Rattle.dc_spec.proofs.Booleans.{or_cases}
use Rattle.dc_spec.proofs.ListLemmas.{below_range}
use Rattle.dc_spec.proofs.SumLemmas.{sum_by-map, sum_by-same}
use Rattle.dc_twin_rules.specs.Twins.{IsPermutationOf, inverse}
use Rattle.dc_twin_rules.proofs.Admitting.{stands, place_in}
use Rattle.dc_twin_rules.proofs.KeyedSums.{sum_by-key}

-- what stands in a permutation is a station
image_below : (n : ℕ) (p : List ℕ) → IsPermutationOf n p → (x : ℕ) → is_among p x ≡ true → x < n
image_below n p is x there = let at = place_in p x there in subst (λ (y : ℕ). y < n) at.2 (is.stations at.0 0 at.1)

-- each station is an image
pub all_there : (n : ℕ) (p : List ℕ) → IsPermutationOf n p → (w : ℕ) → w < n → is_among p w ≡ true
all_there n p is w low = elim (cases_Bool (is_among p w)) [
  | inl there ↦ there
  | inr gone ↦ (
      let apart = IsDistinct-from_AllPairs Decides-eqb (w ∷ p) (AllPairs-cons (λ (x y : ℕ). x ≢ y) w p
      (λ k d within same. true≢false (sym (subst (λ (z : ℕ). is_among p z ≡ true) (sym same) (stands p k d within)) ∙ gone)) is.distinct) in
      let below : (q : ℕ) → is_among (w ∷ p) q ≡ true → q < n = λ q there. elim (or_cases (nat_eq q w) (is_among p q) there) [
        | inl same ↦ subst (λ (z : ℕ). z < n) (sym (eqb-true q w same)) low
        | inr later ↦ image_below n p is q later
      ] in
      let most : suc (length p) ≤ n = length-le_from_distinct_below (w ∷ p) n apart below in
      let count = is.count in
      absurd (omega arith))
]

-- the first place of an image is the place that it is at
place-image : (n : ℕ) (p : List ℕ) → IsPermutationOf n p → (i : ℕ) → i < n → position_or_len (nat_eq (slice_index p i)) p ≡ i
place-image n p is i low =
    let count = is.count in
    position_or_len_is (nat_eq (slice_index p i)) p i 0 (omega arith)
    (λ k less. ne_eqb (slice_index p i) (get_or p k 0) (λ same. is.distinct k i 0 less (omega arith) (sym same)))
    (λ within. eq-eqb (slice_index p i) (get_or p i 0) refl)

pub length-inverse : (n : ℕ) (p : List ℕ) → IsPermutationOf n p → length (inverse p) ≡ n
length-inverse n p is = length-map-range_with_len (λ image. position_or_len (nat_eq image) p) 0 (length p) ∙ is.count

pub inverse-at : (n : ℕ) (p : List ℕ) → IsPermutationOf n p → (w d : ℕ) → w < n → get_or (inverse p) w d ≡ position_or_len (nat_eq w) p
inverse-at n p is w d low = let count = is.count in get_or-map-range_with_len (λ image. position_or_len (nat_eq image) p) 0 (length p) w w d (omega arith) (omega arith)

-- an image is a station
pub image-below : (n : ℕ) (p : List ℕ) → IsPermutationOf n p → (i : ℕ) → i < n → slice_index p i < n
image-below n p is i low = is.stations i 0 (let count = is.count in omega arith)

-- the inverse undoes a permutation
pub back-there : (n : ℕ) (p : List ℕ) → IsPermutationOf n p → (i : ℕ) → i < n → slice_index (inverse p) (slice_index p i) ≡ i
back-there n p is i low = inverse-at n p is (slice_index p i) 0 (image-below n p is i low) ∙ place-image n p is i low

-- where a station is the image of another one, the inverse leads to that one
from-place : (n : ℕ) (p : List ℕ) → IsPermutationOf n p → (w : ℕ) → w < n → (i : ℕ) × (i < n) × (slice_index p i ≡ w)
from-place n p is w low = let at = place_in p w (all_there n p is w low) in let within = at.1 in let count = is.count in (at.0, (omega arith), at.2)

inverse-is : (n : ℕ) (p : List ℕ) → IsPermutationOf n p → (w : ℕ) → w < n → (slice_index (inverse p) w < n) × (slice_index p (slice_index (inverse p) w) ≡ w)
inverse-is n p is w low =
    let at = from-place n p is w low in
    let same : slice_index (inverse p) w ≡ at.0 = ap (λ (z : ℕ). slice_index (inverse p) z) (sym at.2) ∙ back-there n p is at.0 at.1 in
    (subst (λ (z : ℕ). z < n) (sym same) at.1, ap (λ (z : ℕ). slice_index p z) same ∙ at.2)

pub inverse-below : (n : ℕ) (p : List ℕ) → IsPermutationOf n p → (w : ℕ) → w < n → slice_index (inverse p) w < n
inverse-below n p is w low = (inverse-is n p is w low).0

pub there-back : (n : ℕ) (p : List ℕ) → IsPermutationOf n p → (w : ℕ) → w < n → slice_index p (slice_index (inverse p) w) ≡ w
there-back n p is w low = (inverse-is n p is w low).1

-- and is a permutation
pub inverse-permutes : (n : ℕ) (p : List ℕ) → IsPermutationOf n p → IsPermutationOf n (inverse p)
inverse-permutes n p is =
    let count = length-inverse n p is in
    let to_zero : (k d : ℕ) → k < n → get_or (inverse p) k d ≡ slice_index (inverse p) k = λ k d low. inverse-at n p is k d low ∙ sym (inverse-at n p is k 0 low) in
    record {
      count = count;
      stations = λ k d within. (let low : k < n = omega arith in subst (λ (z : ℕ). z < n) (sym (to_zero k d low)) (inverse-below n p is k low));
      distinct = λ i j d less within same.
          (let low_j : j < n = omega arith in let low_i : i < n = omega arith in
          let e : i ≡ j = sym (there-back n p is i low_i) ∙ ap (λ (z : ℕ). slice_index p z) (sym (to_zero i d low_i) ∙ same ∙ to_zero j d low_j) ∙ there-back n p is j low_j in
          absurd (omega arith));
    }

-- the inverse of the inverse
pub inverse-inverse : (n : ℕ) (p : List ℕ) → IsPermutationOf n p → (i : ℕ) → i < n → slice_index (inverse (inverse p)) i ≡ slice_index p i
inverse-inverse n p is i low =
    ap (λ (z : ℕ). slice_index (inverse (inverse p)) z) (sym (back-there n p is i low)) ∙ back-there n (inverse p) (inverse-permutes n p is) (slice_index p i) (image-below n p is i low)

-- a sum over the images of all stations is a sum over all stations
pub sum-permuted : (n : ℕ) (p : List ℕ) → IsPermutationOf n p → (Q : ℕ → ℕ) → sum_by (λ i. Q (slice_index p i)) (range_with_len 0 n) ≡ sum_by Q (range_with_len 0 n)
sum-permuted n p is Q =
    let as_map : p ≡ map (λ i. slice_index p i) (range_with_len 0 n) = fill_by_all (λ i. slice_index p i) p n 0 is.count (λ k low. refl) in
    let images = sum_by-key (λ x. true) (λ x. x) Q n p is.stations (λ i j d less within one other same. is.distinct i j d less within same) in
    let all = sum_by-same (λ w. cond (list_any (λ x. true && nat_eq w x) p) (Q w) 0) Q (range_with_len 0 n)
    (λ w there. (let bound : w < 0 + n = below_range 0 n w there in ap (λ (b : Bool). cond b (Q w) 0) (all_there n p is w (omega arith)))) in
    sym (ap (λ (xs : List ℕ). sum_by Q xs) as_map ∙ sum_by-map Q (λ i. slice_index p i) (range_with_len 0 n)) ∙ images ∙ all
