-- What it means that a word is a group, and that a group is a part of another.
use Rattle.std.proofs.Common.{◌≡◌, ℕ, zero, suc, ◌+◌, ◌-◌, ◌*◌, ◌/◌, ◌%◌, ◌^◌, ◌<◌, ◌≤◌, Bool, true, false, cond, ◌||◌, ◌==◌, nat_lt, List, [], ◌∷◌, length, get_or, Option, Some, None, Result, Ok, Err, find, refl, sym, ap, ◌∙◌, subst, arith, true≢false, is_err, ltb-false, eqb-true, eq-eqb, pos_of_ne-zero, add-zero, mul-zero, add-mul, mul-add, mul_assoc}
use Rattle.std.specs.List.{range_with_len}
use Rattle.std.proofs.lemmas.Option.{none-some}
use Rattle.std.specs.Result.{result_unwrap_or}
use Rattle.std.proofs.lemmas.Bool.{not-false, or_parts}
use Rattle.std.proofs.Math.Nat.{div-add-mod}
use Rattle.std.proofs.lemmas.List.FromFn.{get_or-map-range_with_len}
use Rattle.dc_spec.specs.Values.{number_of, fifteen, word_count}
use Rattle.dc_spec.specs.Groups.{Group, group_count, split_count, limb, first_limb_where, counted, high_limb, group_or_fault, group_of, group_rest, unfit_limb, rest_or_fault, minus, uneven_limb, divided}

-- the two answers of a result
pub err-ok : {A B : Type 0} {e : B} {x : A} → Err e ≡ Ok x → ⊥
err-ok h = true≢false (ap is_err h)

pub ok-inj : {A B : Type 0} {x y : A} → Path (Result A B) (Ok x) (Ok y) → x ≡ y
ok-inj {x = x} h = ap (λ r. result_unwrap_or r x) h

-- a choice that gives nothing
cond-none : {A : Type 0} (b : Bool) (x : A) (o : Option A) → cond b (Some x) o ≡ None → (b ≡ false) × (o ≡ None)
cond-none true x o e = absurd (none-some x (sym e))
cond-none false x o e = (refl, e)

-- a search of places that finds none
pub find-none : (test : ℕ → Bool) (a n i : ℕ) → find test (range_with_len a n) ≡ None → i < n → test (a + i) ≡ false
find-none test a zero i e lt = absurd (omega arith)
find-none test a (suc n) zero e lt = let place : a ≡ a + 0 = omega arith in subst (λ k. test k ≡ false) place (cond-none (test a) a _ e).0
find-none test a (suc n) (suc i) e lt = let place : a + 1 + i ≡ a + suc i = omega arith in subst (λ k. test k ≡ false) place (find-none test (a + 1) n i (cond-none (test a) a _ e).1 (omega arith))

-- a test that holds at none of the fifteen places
pub first_limb-none : (test : ℕ → Bool) → first_limb_where test ≡ None → (i : ℕ) → i < 15 → test i ≡ false
unfolding first_limb_where
first_limb-none test e i lt = let place : 0 + i ≡ i = omega arith in subst (λ k. test k ≡ false) place (find-none test 0 15 i e lt)

-- a search of places that all fail
pub finds-none : (test : ℕ → Bool) (a n : ℕ) → ((i : ℕ) → i < n → test (a + i) ≡ false) → find test (range_with_len a n) ≡ None
finds-none test a zero each = refl
finds-none test a (suc n) each =
    let here : test a ≡ false = let place : a + 0 ≡ a = omega arith in subst (λ k. test k ≡ false) place (each 0 (omega arith)) in
    rw here (finds-none test (a + 1) n (λ i lt. let place : a + suc i ≡ a + 1 + i = omega arith in subst (λ k. test k ≡ false) place (each (suc i) (omega arith))))

pub first_limb-fails : (test : ℕ → Bool) → ((i : ℕ) → i < 15 → test i ≡ false) → first_limb_where test ≡ None
unfolding first_limb_where
first_limb-fails test each = finds-none test 0 15 (λ i lt. let place : i ≡ 0 + i = omega arith in subst (λ k. test k ≡ false) place (each i lt))

-- fifteen numbers
pub length-fifteen : (f : ℕ → ℕ) → length (fifteen f) ≡ 15
unfolding fifteen
length-fifteen f = refl

pub get_or-fifteen : (f : ℕ → ℕ) (i : ℕ) → i < 15 → get_or (fifteen f) i 0 ≡ f i
unfolding fifteen
get_or-fifteen f i lt = get_or-map-range_with_len f 0 15 i i 0 lt (omega arith)

-- a group: a count up to 256, fifteen limbs, each at most 255 times the count
pub record IsGroup (group : Group) : Type 0 where
  pub count : group.count ≤ 256
  pub fifteen : length group.limbs ≡ 15
  pub limbs : (i : ℕ) → i < 15 → limb group i ≤ 255 * group.count

-- the limbs of a word that is judged as a group
group_of-judged : (word : List ℕ) (group : Group) (o : Option ℕ) → high_limb (counted word) ≡ o → word_count word ≤ 256 → group_or_fault (counted word) o ≡ Ok group → (group ≡ counted word)
    × IsGroup group
group_of-judged word group (Some i) place le e = absurd (err-ok e)
group_of-judged word group None place le e = (sym (ok-inj e), subst IsGroup (ok-inj e) is)
  where
    is : IsGroup (counted word)
    is = record { count = le; fifteen = length-fifteen _; limbs = λ i lt. ltb-false _ _ (first_limb-none _ place i lt) }

-- what a word as a group is
pub group_of-ok : (word : List ℕ) (group : Group) → group_of word ≡ Ok group → (group ≡ counted word) × IsGroup group
unfolding group_of
group_of-ok word group e = by_count (nat_lt 256 (word_count word)) refl e
  where
    by_count : (b : Bool) → nat_lt 256 (word_count word) ≡ b → cond b (Err (group_count (word_count word))) (group_or_fault (counted word) (high_limb (counted word))) ≡ Ok group
        → (group ≡ counted word) × IsGroup group
    by_count true h r = absurd (err-ok r)
    by_count false h r = group_of-judged word group (high_limb (counted word)) refl (ltb-false _ _ h) r

-- what it means that a group is a part of a whole
pub record IsPart (whole part rest : Group) : Type 0 where
  pub is_rest : rest ≡ group_rest whole part
  pub some_count : 0 < part.count
  pub most_count : part.count ≤ whole.count
  pub limbs : (i : ℕ) → i < 15 → limb part i ≤ limb whole i
  pub rests : (i : ℕ) → i < 15 → limb whole i - limb part i ≤ 255 * (whole.count - part.count)

-- a split whose counts fit
minus-judged : (whole part rest : Group) (o : Option ℕ) → unfit_limb whole part ≡ o → 0 < part.count → part.count ≤ whole.count → rest_or_fault whole part o ≡ Ok rest → IsPart whole part rest
minus-judged whole part rest (Some i) place some most e = absurd (err-ok e)
minus-judged whole part rest None place some most e = record {
  is_rest = sym (ok-inj e);
  some_count = some;
  most_count = most;
  limbs = λ i lt. ltb-false _ _ (or_parts _ _ (first_limb-none _ place i lt)).0;
  rests = λ i lt. ltb-false _ _ (or_parts _ _ (first_limb-none _ place i lt)).1;
}

-- what a part of a whole is
pub minus-ok : (whole part rest : Group) → minus whole part ≡ Ok rest → IsPart whole part rest
unfolding minus
minus-ok whole part rest e = by_counts (part.count == 0) (nat_lt whole.count part.count) refl refl e
  where
    by_counts : (a b : Bool) → (part.count == 0) ≡ a → nat_lt whole.count part.count ≡ b → cond (a || b) (Err (split_count whole.count part.count)) (rest_or_fault whole part (unfit_limb whole part))
        ≡ Ok rest → IsPart whole part rest
    by_counts true b h k r = absurd (err-ok r)
    by_counts false true h k r = absurd (err-ok r)
    by_counts false false h k r = minus-judged whole part rest (unfit_limb whole part) refl (pos_of_ne-zero (λ z. true≢false (sym (eq-eqb _ _ z) ∙ h))) (ltb-false _ _ k) r

-- the rest of a group without a part of it is a group
pub rest-IsGroup : (whole part rest : Group) → IsGroup whole → IsPart whole part rest → IsGroup rest
rest-IsGroup whole part rest is part_is = subst IsGroup (sym part_is.is_rest) (record {
  count = let below : whole.count ≤ 256 = is.count in omega arith;
  fifteen = length-fifteen _;
  limbs = λ i lt. let same : limb (group_rest whole part) i ≡ limb whole i - limb part i = get_or-fifteen _ i lt in rw same (part_is.rests i lt);
})

-- where no limb is uneven, each limb is so many times its share
pub divided-exact : (group : Group) → uneven_limb group ≡ None → (i : ℕ) → i < 15 → limb group i ≡ group.count * get_or (divided group) i 0
divided-exact group none i lt =
    let even : limb group i % group.count ≡ 0 = eqb-true _ _ (not-false _ (first_limb-none _ none i lt)) in
    let exact : group.count * (limb group i / group.count) + 0 ≡ limb group i = rw even at (div-add-mod (limb group i) group.count) in
    rw (get_or-fifteen _ i lt) (sym exact ∙ add-zero _)

-- digit by digit, numbers add up
pub number_of-add : (xs ys zs : List ℕ) → length xs ≡ length zs → length ys ≡ length zs → ((i : ℕ) → i < length zs → get_or zs i 0 ≡ get_or xs i 0 + get_or ys i 0) → number_of zs
    ≡ number_of xs + number_of ys
number_of-add [] [] [] h k each = refl
number_of-add (x ∷ xs) (y ∷ ys) (z ∷ zs) h k each =
    let same : length xs ≡ length zs = omega arith in
    let also : length ys ≡ length zs = omega arith in
    let head : z ≡ x + y = each 0 (omega arith) in
    let rest : number_of zs ≡ number_of xs + number_of ys = number_of-add xs ys zs same also (λ i lt. each (suc i) (omega arith)) in
    let both : (x + y) * 256 ^ length zs ≡ x * 256 ^ length zs + y * 256 ^ length zs = add-mul x y (256 ^ length zs) in
    rw (same, also, rest, head, both) (omega arith)
number_of-add [] ys (z ∷ zs) h k each = absurd (omega arith)
number_of-add xs [] (z ∷ zs) h k each = absurd (omega arith)
number_of-add (x ∷ xs) ys [] h k each = absurd (omega arith)
number_of-add xs (y ∷ ys) [] h k each = absurd (omega arith)

-- a number each of whose digits is so many times another's
pub number_of-times : (c : ℕ) (ys zs : List ℕ) → length ys ≡ length zs → ((i : ℕ) → i < length zs → get_or zs i 0 ≡ c * get_or ys i 0) → number_of zs ≡ c * number_of ys
number_of-times c [] [] h each = sym (mul-zero c)
number_of-times c [] (z ∷ zs) h each = absurd (omega arith)
number_of-times c (y ∷ ys) [] h each = absurd (omega arith)
number_of-times c (y ∷ ys) (z ∷ zs) h each =
    let same : length ys ≡ length zs = omega arith in
    let head : z ≡ c * y = each 0 (omega arith) in
    let rest : number_of zs ≡ c * number_of ys = number_of-times c ys zs same (λ i lt. each (suc i) (omega arith)) in
    rw (same, rest, head, mul-add c (y * 256 ^ length zs) (number_of ys), mul_assoc c y (256 ^ length zs))
