-- The tree of an epoch in which each word is what the called stations send: its groups are those of the values in
-- their ranges.
use Rattle.std.proofs.Common.{◌≡◌, ℕ, zero, suc, ◌+◌, ◌/◌, ◌<◌, ◌≤◌, min, max, ◌&&◌, ◌==◌, not, Bool, true, false, cond, nat_le, List, [], ◌∷◌, All, Option, Result, Ok, refl, sym, ◌∙◌, ap, ap₂, subst, inl, inr, arith, true≢false, eq-eqb}
use Rattle.std.proofs.lemmas.Bool.{cases_Bool, and_parts, le-leb, leb-true, leb-false, lt-leb, eqb-true}
use Rattle.std.proofs.lemmas.List.Elements.{All-head, All-tail}
use Rattle.std.proofs.lemmas.List.Sums.{sum_by-cons}
use Rattle.dc_spec.specs.Values.{IsValue, number_of}
use Rattle.dc_spec.specs.Groups.{Group, GroupFault, SplitFault, group_of, uneven_limb}
use Rattle.dc_spec.proofs.Booleans.{test-same}
use Rattle.dc_station_rules.specs.Epochs.{EpochFault, Tree, unsplit, equal_values, parts, leaf_of, mean_of, equal_or_fault, two_parts, split_or_fault, split_by_group, split_by, Ranged}
use Rattle.dc_message_rules.specs.Tallies.{tally, values_group}
use Rattle.dc_message_rules.specs.Shares.{is_within, IsLeaf}
use Rattle.dc_message_rules.proofs.Tallies.{tally-splits}
use Rattle.dc_message_rules.proofs.Parting.{parted, group-total, IsMean, is-mean, some-low, splits-low, all-low, all-mean, same-number, equal-even, equal-divided}

-- an item that passes
pub record Passing (P : List ℕ → Type 0) (q : List ℕ → Bool) (values : List (List ℕ)) : Type 0 where
  pub value : List ℕ
  pub passes : q value ≡ true
  pub holds : P value

pub some-passing : (P : List ℕ → Type 0) (q : List ℕ → Bool) (values : List (List ℕ)) → All P values → 1 ≤ tally q (λ v. 1) values → Passing P q values
some-passing P q [] are some = absurd (omega arith)
some-passing P q (v ∷ vs) are some = elim (cases_Bool (q v)) [
  | inl yes_v ↦ record { value = v; passes = yes_v; holds = All-head P v vs are }
  | inr no_v ↦ (let one = sum_by-cons (λ w. cond (q w) 1 0) v vs in let none : cond {A = ℕ} (q v) 1 0 ≡ 0 = ap (λ (b : Bool). cond {A = ℕ} b 1 0) no_v in
      let later = some-passing P q vs (All-tail P v vs are) (omega arith) in
      record { value = later.value; passes = later.passes; holds = later.holds })
]

-- what a range says
pub within-says : (a b : ℕ) (v : List ℕ) → is_within a b v ≡ true → (a ≤ number_of v) × (number_of v ≤ b)
within-says a b v is = let both = and_parts (nat_le a (number_of v)) (nat_le (number_of v) b) is in (leb-true a (number_of v) both.0, leb-true (number_of v) b both.1)

pub within-is : (a b : ℕ) (v : List ℕ) → a ≤ number_of v → number_of v ≤ b → is_within a b v ≡ true
within-is a b v low high = ap₂ (λ (x y : Bool). x && y) (le-leb a (number_of v) low) (le-leb (number_of v) b high)

-- the values of a range up to a bound are those of a range, and so are those above it
below_same : (a b m : ℕ) → m < b → (v : List ℕ) → (is_within a b v && nat_le (number_of v) m) ≡ is_within a m v
below_same a b m less v = test-same _ _
    (λ is. let both = and_parts (is_within a b v) (nat_le (number_of v) m) is in within-is a m v (within-says a b v both.0).0 (leb-true (number_of v) m both.1))
    (λ is. let both = within-says a m v is in let low = both.0 in let high = both.1 in
    ap₂ (λ (x y : Bool). x && y) (within-is a b v low (omega arith)) (le-leb (number_of v) m high))

above_same : (a b m : ℕ) → a ≤ m → (v : List ℕ) → (is_within a b v && not (nat_le (number_of v) m)) ≡ is_within (m + 1) b v
above_same a b m more v = test-same _ _
    (λ is. let both = and_parts (is_within a b v) (not (nat_le (number_of v) m)) is in let in_range = within-says a b v both.0 in
    let past = leb-false (number_of v) m (not-true (nat_le (number_of v) m) both.1) in
    within-is (m + 1) b v (omega arith) in_range.1)
    (λ is. let both = within-says (m + 1) b v is in let low = both.0 in let high = both.1 in
    ap₂ (λ (x y : Bool). x && y) (within-is a b v (omega arith) high) (ap not (lt-leb (number_of v) m (omega arith))))
  where
    not-true : (b : Bool) → not b ≡ true → b ≡ false
    not-true false is = refl
    not-true true is = absurd (true≢false (sym is))

-- the values that pass and are at most the mean
abbrev pub at_mean : (List ℕ → Bool) → List (List ℕ) → List ℕ → Bool
at_mean q values v = q v && nat_le (number_of v) (mean_of (values_group q values))

-- the mean of a group of values
mean-is : (q : List ℕ → Bool) (values : List (List ℕ)) → All IsValue values → 1 ≤ tally q (λ v. 1) values
    → IsMean (tally q number_of values) (tally q (λ v. 1) values) (mean_of (values_group q values))
mean-is q values are some = subst (λ (t : ℕ). IsMean (tally q number_of values) (tally q (λ v. 1) values) (t / tally q
    (λ v. 1) values)) (sym (group-total q values are)) (is-mean (tally q number_of values)
    (tally q (λ v. 1) values) some)

-- one is at most the mean
pub some-at_mean : (q : List ℕ → Bool) (values : List (List ℕ)) → All IsValue values → 1 ≤ tally q (λ v. 1) values → 1 ≤ tally (at_mean q values) (λ v. 1) values
some-at_mean q values are some = some-low q number_of (mean_of (values_group q values)) values (mean-is q values are some).next

-- a value that all that pass have
pub record OneValue (q : List ℕ → Bool) (values : List (List ℕ)) : Type 0 where
  pub value : List ℕ
  pub is_value : IsValue value
  pub passes : q value ≡ true
  pub all : All (λ v. q v ≡ true → v ≡ value) values

-- where all are at most the mean, they are one value
pub all-at_mean : (q : List ℕ → Bool) (values : List (List ℕ)) → All IsValue values → 1 ≤ tally q (λ v. 1) values → tally (at_mean q values) (λ v. 1) values ≡ tally q (λ v. 1) values
    → OneValue q values
all-at_mean q values are some same =
    let m = mean_of (values_group q values) in
    let low = all-low q number_of m values same in
    let means = all-mean q number_of m values low (mean-is q values are some).most in
    let both : All (λ v. IsValue v × (q v ≡ true → number_of v ≡ m)) values = λ k d within. (are k d within, means k d within) in
    let one = some-passing (λ v. IsValue v × (q v ≡ true → number_of v ≡ m)) q values both some in
    let is : IsValue one.value = one.holds.0 in
    record {
      value = one.value;
      is_value = is;
      passes = one.passes;
      all = λ k d within. λ passes. same-number _ one.value ((are k d within).fifteen ∙ sym is.fifteen) (are k d within).bytes is.bytes (means k d within passes ∙ sym (one.holds.1 one.passes));
    }

-- a leaf of the values in a range that are one value
pub range-leaf : (values : List (List ℕ)) (a b : ℕ) → 1 ≤ tally (is_within a b) (λ v. 1) values → OneValue (is_within a b) values → IsLeaf values (leaf_of (values_group (is_within a b) values) a b)
range-leaf values a b some one =
    let g = values_group (is_within a b) values in
    let is : one.value ≡ (leaf_of g a b).value = sym (equal-divided (is_within a b) values one.value one.is_value one.all some) in
    let inside = within-says a b one.value one.passes in
    record {
      times = refl;
      some = some;
      low = subst (λ (v : List ℕ). a ≤ number_of v) is inside.0;
      high = subst (λ (v : List ℕ). number_of v ≤ b) is inside.1;
      same = λ k d within. λ passes. one.all k d within passes ∙ is;
    }

-- a tree holds the values on a range: each group is that of the values in its range, and no group is empty
abbrev pub Holds : List (List ℕ) → Tree → ℕ → ℕ → Type 0
Holds values (unsplit group low high) a b = (low ≡ a) × (high ≡ b) × (group ≡ values_group (is_within a b) values) × (1 ≤ tally (is_within a b) (λ v. 1) values)
Holds values (equal_values leaf) a b = (leaf.low ≡ a) × (leaf.high ≡ b) × (2 ≤ leaf.times) × IsLeaf values leaf
Holds values (parts left right) a b = (m : ℕ) × (a ≤ m) × (m < b) × Holds values left a m × Holds values right (m + 1) b

-- the word that a group on its range is answered with
abbrev pub IsAnswer : List (List ℕ) → Ranged → List ℕ → Type 0
IsAnswer values place word = group_of word ≡ Ok (values_group (λ v. is_within place.low place.high v && nat_le (number_of v) (mean_of place.group)) values)

-- what a group becomes
pub record Grown (values : List (List ℕ)) (a b : ℕ) (answer : Result Tree EpochFault) : Type 0 where
  pub next : Tree
  pub is : answer ≡ Ok next
  pub holds : Holds values next a b

two-parts : (values : List (List ℕ)) → All IsValue values → (a b : ℕ) → let q = is_within a b in 1 ≤ tally q (λ v. 1) values
    → 1 ≤ tally (λ v. q v && not (nat_le (number_of v) (mean_of (values_group q values)))) (λ v. 1) values
    → Holds values (two_parts (mean_of (values_group q values)) a b (values_group (at_mean q values) values)
    (values_group (λ v. q v && not (nat_le (number_of v) (mean_of (values_group q values)))) values)) a b
two-parts values are a b some more =
    let q = is_within a b in
    let m = mean_of (values_group q values) in
    let p = at_mean q values in
    let r : List ℕ → Bool = λ v. q v && not (nat_le (number_of v) m) in
    let low = some-passing IsValue p values are (some-at_mean q values are some) in
    let high = some-passing IsValue r values are more in
    let low_is = and_parts (q low.value) (nat_le (number_of low.value) m) low.passes in
    let high_is = and_parts (q high.value) (not (nat_le (number_of high.value) m)) high.passes in
    let low_in = within-says a b low.value low_is.0 in
    let high_in = within-says a b high.value high_is.0 in
    let low_m = leb-true (number_of low.value) m low_is.1 in
    let begins : a ≤ m = (let x = low_in.0 in omega arith) in
    let ends : m < b = (let x = high_in.1 in let y = leb-false (number_of high.value) m (not-true (nat_le (number_of high.value) m) high_is.1) in omega arith) in
    let left : values_group p values ≡ values_group (is_within a m) values = λ k. values_group (λ v. below_same a b m ends v k) values in
    let right : values_group r values ≡ values_group (is_within (m + 1) b) values = λ k. values_group (λ v. above_same a b m begins v k) values in (
      m,
      begins,
      ends,
      (refl, (let e : min b m ≡ m = omega arith in e), left, subst (λ (n : ℕ). 1 ≤ n) (ap (λ (g : Group). g.count) left) (some-at_mean q values are some)),
      ((let e : max a (m + 1) ≡ m + 1 = omega arith in e), refl, right, subst (λ (n : ℕ). 1 ≤ n) (ap (λ (g : Group). g.count) right) more),
    )
  where
    not-true : (b : Bool) → not b ≡ true → b ≡ false
    not-true false is = refl
    not-true true is = absurd (true≢false (sym is))

-- a group that is answered
pub split-holds : (values : List (List ℕ)) → All IsValue values → (a b : ℕ) (word : List ℕ) → 2 ≤ tally (is_within a b) (λ v. 1) values
    → group_of word ≡ Ok (values_group (at_mean (is_within a b) values) values) → Grown values a b (split_by (values_group (is_within a b) values) a b word)
unfolding split_by
split-holds values are a b word two is =
    let q = is_within a b in
    let whole = values_group q values in
    let m = mean_of whole in
    let p = at_mean q values in
    let r : List ℕ → Bool = λ v. q v && not (nat_le (number_of v) m) in
    let part = values_group p values in
    let rest = values_group r values in
    let some : 1 ≤ tally q (λ v. 1) values = omega arith in
    let split = parted q p r values are (λ k d within. splits-low q number_of m _) (some-at_mean q values are some) in
    let counts = tally-splits q p r (λ v. 1) values (λ k d within. splits-low q number_of m _) in
    let so_far : split_by_group whole a b (group_of word) ≡ cond (part.count == whole.count) (equal_or_fault whole a b (uneven_limb whole)) (Ok (two_parts m a b part rest))
    = ap (λ (g : Result Group GroupFault). split_by_group whole a b g) is ∙ ap (λ (o : Result Group SplitFault). split_or_fault whole a b part o) split in
    elim (cases_Bool (part.count == whole.count)) [
      | inl all ↦ (let same : part.count ≡ whole.count = eqb-true part.count whole.count all in
          let one = all-at_mean q values are some same in
          record {
            next = equal_values (leaf_of whole a b);
            is = so_far ∙ ap (λ (c : Bool). cond c (equal_or_fault whole a b (uneven_limb whole)) (Ok (two_parts m a b part rest))) all
                ∙ ap (λ (o : Option ℕ). equal_or_fault whole a b o) (equal-even q values one.value one.all);
            holds = (refl, refl, two, range-leaf values a b some one);
          })
      | inr fewer ↦ (let apart : part.count ≡ whole.count → ⊥ = λ e. true≢false (sym (eq-eqb part.count whole.count e) ∙ fewer) in
          record {
            next = two_parts m a b part rest;
            is = so_far ∙ ap (λ (c : Bool). cond c (equal_or_fault whole a b (uneven_limb whole)) (Ok (two_parts m a b part rest))) fewer;
            holds = two-parts values are a b some (some_rest part.count rest.count whole.count counts apart);
          })
    ]
  where
    some_rest : (x y z : ℕ) → z ≡ x + y → (x ≡ z → ⊥) → 1 ≤ y
    some_rest x zero z sum apart = absurd (apart (omega arith))
    some_rest x (suc y) z sum apart = omega arith
