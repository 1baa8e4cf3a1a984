-- Words as groups, and a group without a part.
use Rattle.std.proofs.Common.{◌≡◌, ℕ, zero, suc, ◌+◌, ◌-◌, ◌*◌, ◌<◌, ◌≤◌, false, ltb, ◌||◌, List, ◌∷◌, length, get_or, take, drop, Option, None, refl, sym, ap, ◌∙◌, arith, inl, inr, map}
use Rattle.std.specs.List.{range_with_len}
use Rattle.std.proofs.lemmas.Bool.{cases_lt, ltb-false, or_parts}
use Rattle.std.proofs.lemmas.Bool.Decides.{nat_tests}
use Rattle.std.proofs.lemmas.List.{length-take, length-drop, get_or-take, get_or-drop, get_or_past, get_or-map, length-map, ext_get_or}
use Rattle.std.proofs.lemmas.List.FromFn.{fill_by_all, length-map-range_with_len, get_or-map-range_with_len}
use Rattle.dc_spec.specs.Values.{number_of, fifteen, word_count, word_limbs}
use Rattle.dc_spec.specs.Groups.{first_limb_where, group_or_fault, group_of}
use Rattle.dc_spec.proofs.GroupLemmas.{first_limb-none}
use Rattle.dc_field.proofs.Digits.{number_of-sum}

-- a word with a count of at most 256 is a group or not by its limbs
judged_by : (w limbs : List ℕ) (place : Option ℕ) → limbs ≡ word_limbs w → ltb 256 (word_count w) ≡ false → place ≡ first_limb_where (λ k. ltb (255 * word_count w) (get_or limbs k 0))
    → group_or_fault (record { count = word_count w; limbs = limbs }) place ≡ group_of w
unfolding group_of
judged_by w limbs place same most is = rw (most, is, same) refl

-- the limbs as a slice
limbs_slice : (w : List ℕ) → length w ≡ 16 → take 15 (drop 1 w) ≡ word_limbs w
unfolding fifteen
limbs_slice w sixteen =
    fill_by_all (λ i. get_or w (i + 1) 0) (take 15 (drop 1 w)) 15 0 (omega (arith, length-take 15 (drop 1 w), length-drop 1 w))
    (λ k lt. rw (get_or-take 15 (drop 1 w) k 0 lt, get_or-drop) (ap (λ (n : ℕ). get_or w n 0) (omega arith)))

-- a word of sixteen symbols with a count of at most 256 is a group or not by the first of the fifteen limbs that is too high
pub judged-group_of : (w : List ℕ) (place : Option ℕ) → length w ≡ 16 → word_count w ≤ 256 → place ≡ first_limb_where (λ k. ltb (255 * word_count w) (get_or (take 15 (drop 1 w)) k 0))
    → group_or_fault (record { count = word_count w; limbs = take 15 (drop 1 w) }) place ≡ group_of w
judged-group_of w place sixteen most is = judged_by w (take 15 (drop 1 w)) place (limbs_slice w sixteen) (grind (arith, nat_tests)) is

-- a list whose first fifteen numbers are within a bound
each_below : (xs : List ℕ) (b : ℕ) → length xs ≤ 15 → ((i : ℕ) → i < 15 → get_or xs i 0 ≤ b) → (i : ℕ) → get_or xs i 0 ≤ b
each_below xs b len each i = elim (cases_lt i 15) [
  | inl lt ↦ each i lt
  | inr le ↦ rw (get_or_past xs i 0 (omega arith)) (omega arith)
]

-- where no limb is above a bound, each is within it
pub limbs_within : (xs : List ℕ) (b : ℕ) → length xs ≡ 15 → None ≡ first_limb_where (λ i. ltb b (get_or xs i 0)) → (i : ℕ) → get_or xs i 0 ≤ b
limbs_within xs b len none = each_below xs b (omega arith) (λ i lt. ltb-false b (get_or xs i 0) (first_limb-none (λ k. ltb b (get_or xs k 0)) (sym none) i lt))

-- where no limb is unfit, no part is above the whole, and no difference above the bound
pub limbs_fit : (xs ys : List ℕ) (b : ℕ) → length xs ≡ 15 → length ys ≡ 15 → None ≡ first_limb_where (λ i. ltb (get_or xs i 0) (get_or ys i 0) || ltb b (get_or xs i 0 - get_or ys i 0))
    → ((i : ℕ) → get_or ys i 0 ≤ get_or xs i 0) × ((i : ℕ) → get_or xs i 0 - get_or ys i 0 ≤ b)
limbs_fit xs ys b lx ly none =
    let at = λ (i : ℕ) (lt : i < 15). or_parts _ _ (first_limb-none (λ k. ltb (get_or xs k 0) (get_or ys k 0) || ltb b (get_or xs k 0 - get_or ys k 0)) (sym none) i lt) in (
      λ i. elim (cases_lt i 15) [
        | inl lt ↦ ltb-false (get_or xs i 0) (get_or ys i 0) (at i lt).0
        | inr le ↦ rw (get_or_past ys i 0 (omega arith)) (omega arith)
      ],
      λ i. elim (cases_lt i 15) [
        | inl lt ↦ ltb-false b (get_or xs i 0 - get_or ys i 0) (at i lt).1
        | inr le ↦ rw (get_or_past xs i 0 (omega arith)) (omega arith)
      ],
    )

-- the differences of fifteen limbs are limbs of the rest, and spell its total
pub differences_within : (xs ys : List ℕ) (b : ℕ) → ((i : ℕ) → get_or xs i 0 - get_or ys i 0 ≤ b) → (i : ℕ) → get_or (map (λ k. get_or xs k 0 - get_or ys k 0) (range_with_len 0 15)) i 0 ≤ b
differences_within xs ys b each =
    let f = λ (k : ℕ). get_or xs k 0 - get_or ys k 0 in
    each_below (map f (range_with_len 0 15)) b (omega (arith, length-map-range_with_len f 0 15)) (λ i lt. rw (get_or-map-range_with_len f 0 15 i i 0 lt (omega arith)) (each i))

-- the differences of fifteen limbs and the limbs of the part spell what the whole does
pub differences_total : (xs ys : List ℕ) → length xs ≡ 15 → length ys ≡ 15 → ((i : ℕ) → get_or ys i 0 ≤ get_or xs i 0)
    → number_of (map (λ k. get_or xs k 0 - get_or ys k 0) (range_with_len 0 15)) + number_of ys ≡ number_of xs
differences_total xs ys lx ly each =
    let f = λ (k : ℕ). get_or xs k 0 - get_or ys k 0 in
    number_of-sum xs (map f (range_with_len 0 15)) ys (length-map-range_with_len f 0 15 ∙ sym lx) (ly ∙ sym lx)
    (λ i lt. rw (get_or-map-range_with_len f 0 15 i i 0 (omega arith) (omega arith)) (omega (arith, each i)))

-- sixteen numbers, a first one and fifteen multiples
limb_at : (w bytes : List ℕ) (first count : ℕ) → length bytes ≡ 15 → get_or w 0 0 ≡ first → ((k : ℕ) → k < 15 → get_or w (k + 1) 0 ≡ count * get_or bytes k 0) → (i : ℕ) → i < 16
    → get_or w i 0 ≡ get_or (first ∷ map (λ byte. count * byte) bytes) i 0
limb_at w bytes first count fifteen start each zero lt = start
limb_at w bytes first count fifteen start each (suc i) lt =
    let here = each i (omega arith) in
    let more : i + 1 ≡ suc i = omega arith in
    (ap (λ n. get_or w n 0) (sym more) ∙ here) ∙ sym (get_or-map (λ byte. count * byte) bytes i 0 0 (omega arith))

-- sixteen numbers whose first stays and whose others are multiples of the bytes
pub limbs_put : (w bytes : List ℕ) (first count : ℕ) → length w ≡ 16 → length bytes ≡ 15 → get_or w 0 0 ≡ first → ((k : ℕ) → k < 15 → get_or w (k + 1) 0 ≡ count * get_or bytes k 0)
    → w ≡ first ∷ map (λ byte. count * byte) bytes
limbs_put w bytes first count sixteen fifteen start each =
    ext_get_or 0 w (first ∷ map (λ byte. count * byte) bytes) (omega (arith, length-map bytes (λ byte. count * byte))) (λ i lt. limb_at w bytes first count fifteen start each i (omega arith))
