-- A group of values without the part of it that sends again, and the mean of a group.
use Rattle.std.proofs.Common.{◌≡◌, ℕ, zero, suc, ◌+◌, ◌-◌, ◌*◌, ◌/◌, ◌%◌, ◌<◌, ◌≤◌, ◌&&◌, ◌||◌, ◌==◌, not, Bool, true, false, cond, nat_lt, nat_le, List, [], ◌∷◌, length, slice_index, sum_by, All, Option, None, Ok, Err, refl, sym, ◌∙◌, ap, ap₂, subst, arith, ◌^◌, mul-zero, mul_comm, add-mul, suc-mul, pow-suc, mul-le-mul_right, true≢false}
use Rattle.std.proofs.lemmas.Nat.{mod_below}
use Rattle.std.proofs.Math.Nat.{div-add-mod, mul-div_cancel_left, mul-mod_right}
use Rattle.std.proofs.lemmas.Bool.{le-ltb, ne_eqb, eq-eqb, leb-false, leb-true}
use Rattle.std.proofs.lemmas.List.Elements.{All-cons, All-head, All-tail, All-nil}
use Rattle.std.proofs.lemmas.List.FromFn.{fill_by_all}
use Rattle.std.proofs.lemmas.List.Sums.{sum_by-cons}
use Rattle.dc_spec.specs.Values.{IsValue, number_of, fifteen}
use Rattle.dc_spec.specs.Groups.{Group, split_count, limb, total, group_rest, unfit_limb, rest_or_fault, minus, uneven_limb, divided}
use Rattle.dc_spec.proofs.GroupLemmas.{first_limb-fails, length-fifteen, get_or-fifteen, number_of-add, number_of-times}
use Rattle.dc_message_rules.specs.Tallies.{tally, values_group}
use Rattle.dc_message_rules.proofs.Tallies.{total-same, total-plus, total-most, tally-constant, Splits, tally-splits}
use Rattle.dc_message_rules.proofs.SentGroups.{fifteen-same, limb-most}

-- limb i of a group of values
pub group-limb : (p : List ℕ → Bool) (values : List (List ℕ)) (i : ℕ) → i < 15 → limb (values_group p values) i ≡ tally p (λ v. slice_index v i) values
group-limb p values i few = get_or-fifteen (λ j. tally p (λ v. slice_index v j) values) i few

-- the group of the values that pass one test, without those that pass another, is that of the rest
pub parted : (q p r : List ℕ → Bool) (values : List (List ℕ)) → All IsValue values → All (Splits q p r) values → 1 ≤ tally p (λ v. 1) values
    → minus (values_group q values) (values_group p values) ≡ Ok (values_group r values)
unfolding minus
parted q p r values are splits some =
    let whole = values_group q values in
    let part = values_group p values in
    let rest = values_group r values in
    let counts = tally-splits q p r (λ v. 1) values splits in
    let limbs : (i : ℕ) → i < 15 → limb whole i ≡ limb part i + limb rest i = λ i few.
    (let a = group-limb q values i few in let b = group-limb p values i few in let c = group-limb r values i few in let s = tally-splits q p r (λ v. slice_index v i) values splits in omega arith) in
    let fits : unfit_limb whole part ≡ None = first_limb-fails (λ i. nat_lt (limb whole i) (limb part i) || nat_lt (255 * (whole.count - part.count)) (limb whole i - limb part i)) (λ i few.
    (let sum = limbs i few in let c = group-limb r values i few in let most = limb-most r values are i in
    ap₂ (λ (a b : Bool). a || b) (le-ltb (limb whole i) (limb part i) (omega arith)) (le-ltb (255 * (whole.count - part.count)) (limb whole i - limb part i) (omega arith)))) in
    let of : ℕ → List ℕ → Group = λ c ls. record { count = c; limbs = ls } in
    let is : group_rest whole part ≡ rest = ap₂ of (let e : whole.count - part.count ≡ rest.count = omega arith in e)
    (fifteen-same _ _ (λ i few. let sum = limbs i few in let c = group-limb r values i few in let e : limb whole i - limb part i ≡ tally r (λ v. slice_index v i) values = omega arith in e)) in
    ap₂ (λ (a b : Bool). cond (a || b) (Err (split_count whole.count part.count)) (rest_or_fault whole part (unfit_limb whole part)))
    (ne_eqb part.count 0 (λ e. absurd (omega arith))) (le-ltb whole.count part.count (omega arith))
    ∙ ap (λ (o : Option ℕ). rest_or_fault whole part o) fits
    ∙ ap Ok is

-- a value is the fifteen numbers that it has
value-fifteen : (v : List ℕ) → length v ≡ 15 → v ≡ fifteen (λ i. slice_index v i)
unfolding fifteen
value-fifteen v size = fill_by_all (λ i. slice_index v i) v 15 0 size (λ i few. refl)

none-fifteen : number_of (fifteen (λ i. 0)) ≡ 0
none-fifteen = number_of-times 0 (fifteen (λ i. 0)) (fifteen (λ i. 0)) refl (λ i within. let at = get_or-fifteen (λ j. 0) i (let size = length-fifteen (λ j. 0) in omega arith) in omega arith)
    ∙ (let e : 0 * number_of (fifteen (λ i. 0)) ≡ 0 = omega arith in e)

number-choice : (b : Bool) (v : List ℕ) → IsValue v → number_of (fifteen (λ i. cond b (slice_index v i) 0)) ≡ cond b (number_of v) 0
number-choice true v is = sym (ap number_of (value-fifteen v is.fifteen))
number-choice false v is = none-fifteen

-- the total of a group of values is the sum of their numbers
pub group-total : (p : List ℕ → Bool) (values : List (List ℕ)) → All IsValue values → total (values_group p values) ≡ tally p number_of values
group-total p [] are = none-fifteen
group-total p (v ∷ vs) are =
    let here : ℕ → ℕ = λ i. cond (p v) (slice_index v i) 0 in
    let rest : ℕ → ℕ = λ i. tally p (λ w. slice_index w i) vs in
    let all : ℕ → ℕ = λ i. tally p (λ w. slice_index w i) (v ∷ vs) in
    number_of-add (fifteen here) (fifteen rest) (fifteen all) (length-fifteen here ∙ sym (length-fifteen all)) (length-fifteen rest ∙ sym (length-fifteen all))
    (λ i within. let few : i < 15 = (let size = length-fifteen all in omega arith) in
    get_or-fifteen all i few ∙ sum_by-cons (λ w. cond (p w) (slice_index w i) 0) v vs ∙ sym (ap₂ (λ a b. a + b) (get_or-fifteen here i few) (get_or-fifteen rest i few)))
    ∙ ap₂ (λ a b. a + b) (number-choice (p v) v (All-head IsValue v vs are)) (group-total p vs (All-tail IsValue v vs are))
    ∙ sym (sum_by-cons (λ w. cond (p w) (number_of w) 0) v vs)

-- what a mean is
pub record IsMean (total count m : ℕ) : Type 0 where
  pub most : m * count ≤ total
  pub next : total < (m + 1) * count

pub is-mean : (t c : ℕ) → 1 ≤ c → IsMean t c (t / c)
is-mean t c some =
    let whole = div-add-mod t c in
    let low = mod_below t c some in
    let turn = mul_comm c (t / c) in
    let more = add-mul (t / c) 1 c in
    record { most = omega arith; next = omega arith }

low_or_more : (q b : Bool) (f m : ℕ) → (b ≡ false → m < f) → cond q (m + 1) 0 ≤ cond q f 0 + cond (q && b) (m + 1) 0
low_or_more false b f m high = omega arith
low_or_more true true f m high = omega arith
low_or_more true false f m high = let above = high refl in omega arith

some_count : (n k c t : ℕ) → k * c ≤ t + k * n → t < k * c → 1 ≤ n
some_count zero k c t most less = let none = mul-zero k in absurd (omega arith)
some_count (suc n) k c t most less = omega arith

-- where the mean is m, an item is at most m
pub some-low : {A : Type 0} (q : A → Bool) (f : A → ℕ) (m : ℕ) (xs : List A) → tally q f xs < (m + 1) * tally q (λ x. 1) xs → 1 ≤ tally (λ x. q x && nat_le (f x) m) (λ x. 1) xs
some-low {A} q f m xs less =
    let low : A → Bool = λ x. q x && nat_le (f x) m in
    let bound = total-most (λ x. cond (q x) (m + 1) 0) (λ x. cond (q x) (f x) 0 + cond (low x) (m + 1) 0) xs
    (λ i d within. low_or_more (q _) (nat_le (f _) m) (f _) m (λ b. leb-false (f _) m b)) in
    let apart = total-plus (λ x. cond (q x) (f x) 0) (λ x. cond (low x) (m + 1) 0) xs in
    let whole = tally-constant q (m + 1) xs in
    let part = tally-constant low (m + 1) xs in
    some_count (tally low (λ x. 1) xs) (m + 1) (tally q (λ x. 1) xs) (tally q f xs) (omega arith) less

-- a sum of numbers that is zero
pub all-zero : {A : Type 0} (f : A → ℕ) (xs : List A) → sum_by f xs ≡ 0 → All (λ x. f x ≡ 0) xs
all-zero f [] none = All-nil (λ x. f x ≡ 0)
all-zero f (x ∷ xs) none = let one = sum_by-cons f x xs in All-cons (λ y. f y ≡ 0) x xs (omega arith) (all-zero f xs (omega arith))

-- items that pass a test are those at or below a bound and those above it
low_high : (q b : Bool) (n : ℕ) → cond q n 0 ≡ cond (q && b) n 0 + cond (q && not b) n 0
low_high false b n = refl
low_high true true n = omega arith
low_high true false n = omega arith

pub splits-low : {A : Type 0} (q : A → Bool) (f : A → ℕ) (m : ℕ) (x : A) → Splits q (λ y. q y && nat_le (f y) m) (λ y. q y && not (nat_le (f y) m)) x
splits-low q f m x n = low_high (q x) (nat_le (f x) m) n

none_high : (q b : Bool) → cond {A = ℕ} (q && not b) 1 0 ≡ 0 → q ≡ true → b ≡ true
none_high false b none is = absurd (true≢false (sym is))
none_high true true none is = refl
none_high true false none is = absurd (omega arith)

-- where all that pass are counted at or below m, each is at most m
pub all-low : {A : Type 0} (q : A → Bool) (f : A → ℕ) (m : ℕ) (xs : List A) → tally (λ x. q x && nat_le (f x) m) (λ x. 1) xs ≡ tally q (λ x. 1) xs → All (λ x. q x ≡ true → f x ≤ m) xs
all-low q f m xs same =
    let parts = tally-splits q (λ y. q y && nat_le (f y) m) (λ y. q y && not (nat_le (f y) m)) (λ x. 1) xs (λ i d within. splits-low q f m _) in
    let none = all-zero (λ x. cond (q x && not (nat_le (f x) m)) 1 0) xs (omega arith) in
    λ i d within. λ passes. leb-true (f _) m (none_high (q _) (nat_le (f _) m) (none i d within) passes)

up_to : (q : Bool) (f m : ℕ) → (q ≡ true → f ≤ m) → cond q f 0 + cond q (m - f) 0 ≡ cond q m 0
up_to false f m low = refl
up_to true f m low = let most = low refl in omega arith

equal_mean : (q : Bool) (f m : ℕ) → cond q (m - f) 0 ≡ 0 → q ≡ true → f ≤ m → f ≡ m
equal_mean false f m none is low = absurd (true≢false (sym is))
equal_mean true f m none is low = omega arith

-- and where they add up to so many times m, each is m
pub all-mean : {A : Type 0} (q : A → Bool) (f : A → ℕ) (m : ℕ) (xs : List A) → All (λ x. q x ≡ true → f x ≤ m) xs → m * tally q (λ x. 1) xs ≤ tally q f xs → All (λ x. q x ≡ true → f x ≡ m) xs
all-mean q f m xs low most =
    let filled = total-same (λ x. cond (q x) (f x) 0 + cond (q x) (m - f x) 0) (λ x. cond (q x) m 0) xs (λ i d within. up_to (q _) (f _) m (low i d within)) in
    let apart = total-plus (λ x. cond (q x) (f x) 0) (λ x. cond (q x) (m - f x) 0) xs in
    let whole = tally-constant q m xs in
    let none = all-zero (λ x. cond (q x) (m - f x) 0) xs (omega arith) in
    λ i d within. λ passes. equal_mean (q _) (f _) m (none i d within) passes (low i d within passes)

-- numbers below 256 and their number
pub number-below : (v : List ℕ) → ((i : ℕ) → slice_index v i < 256) → number_of v < 256 ^ length v
number-below [] bytes = omega arith
number-below (d ∷ ds) bytes =
    let rest = number-below ds (λ i. bytes (suc i)) in
    let digit = bytes 0 in
    let most = mul-le-mul_right (256 ^ length ds) (let e : d ≤ 255 = omega arith in e) in
    omega (arith, pow-suc 256 (length ds))

same_digit : (d e b r s : ℕ) → r < b → s < b → d * b + r ≡ e * b + s → d ≡ e
same_digit zero zero b r s low_r low_s same = refl
same_digit zero (suc e) b r s low_r low_s same = let more = suc-mul e b in absurd (omega arith)
same_digit (suc d) zero b r s low_r low_s same = let more = suc-mul d b in absurd (omega arith)
same_digit (suc d) (suc e) b r s low_r low_s same = let one = suc-mul d b in let two = suc-mul e b in ap suc (same_digit d e b r s low_r low_s (omega arith))

-- lists of bytes with one number are one list
pub same-number : (v w : List ℕ) → length v ≡ length w → ((i : ℕ) → slice_index v i < 256) → ((i : ℕ) → slice_index w i < 256) → number_of v ≡ number_of w → v ≡ w
same-number [] [] size bytes_v bytes_w same = refl
same-number [] (e ∷ es) size bytes_v bytes_w same = absurd (omega arith)
same-number (d ∷ ds) [] size bytes_v bytes_w same = absurd (omega arith)
same-number (d ∷ ds) (e ∷ es) size bytes_v bytes_w same =
    let sizes : length ds ≡ length es = omega arith in
    let b = 256 ^ length es in
    let power : 256 ^ length ds ≡ b = ap (λ n. 256 ^ n) sizes in
    let low_v : number_of ds < b = subst (λ x. number_of ds < x) power (number-below ds (λ i. bytes_v (suc i))) in
    let low_w = number-below es (λ i. bytes_w (suc i)) in
    let is : d * b + number_of ds ≡ e * b + number_of es = ap (λ x. d * x + number_of ds) (sym power) ∙ same in
    let digit = same_digit d e b (number_of ds) (number_of es) low_v low_w is in
    let rest : number_of ds ≡ number_of es = (let times = ap (λ x. x * b) digit in omega arith) in
    ap₂ (λ x xs. x ∷ xs) digit (same-number ds es sizes (λ i. bytes_v (suc i)) (λ i. bytes_w (suc i)) rest)

-- a group of equal values
equal_count : (b : Bool) (x y : ℕ) → (b ≡ true → x ≡ y) → cond b x 0 ≡ cond b y 0
equal_count true x y same = same refl
equal_count false x y same = refl

equal-limb : (q : List ℕ → Bool) (values : List (List ℕ)) (w : List ℕ) → All (λ v. q v ≡ true → v ≡ w) values → (i : ℕ) → i < 15
    → limb (values_group q values) i ≡ tally q (λ v. 1) values * slice_index w i
equal-limb q values w same i few =
    group-limb q values i few
    ∙ total-same (λ v. cond (q v) (slice_index v i) 0) (λ v. cond (q v) (slice_index w i) 0) values
    (λ k d within. equal_count (q _) _ _ (λ passes. ap (λ (u : List ℕ). slice_index u i) (same k d within passes)))
    ∙ tally-constant q (slice_index w i) values
    ∙ mul_comm (slice_index w i) (tally q (λ v. 1) values)

pub equal-even : (q : List ℕ → Bool) (values : List (List ℕ)) (w : List ℕ) → All (λ v. q v ≡ true → v ≡ w) values → uneven_limb (values_group q values) ≡ None
equal-even q values w same =
    let g = values_group q values in
    first_limb-fails (λ i. not (limb g i % g.count == 0)) (λ i few. ap not (eq-eqb (limb g i % g.count) 0
    (ap (λ x. x % g.count) (equal-limb q values w same i few) ∙ mul-mod_right g.count (slice_index w i))))

pub equal-divided : (q : List ℕ → Bool) (values : List (List ℕ)) (w : List ℕ) → IsValue w → All (λ v. q v ≡ true → v ≡ w) values → 1 ≤ tally q (λ v. 1) values
    → divided (values_group q values) ≡ w
equal-divided q values w is same some =
    let g = values_group q values in
    fifteen-same (λ i. limb g i / g.count) (λ i. slice_index w i) (λ i few. ap (λ x. x / g.count) (equal-limb q values w same i few) ∙ mul-div_cancel_left (slice_index w i) some)
    ∙ sym (value-fifteen w is.fifteen)
