-- How often a value is in right leaves, and which stations have a leaf.
use Rattle.std.proofs.Common.{◌≡◌, ℕ, ◌+◌, ◌*◌, ◌<◌, ◌≤◌, ◌&&◌, ◌||◌, Bool, true, false, cond, nat_lt, nat_le, List, [], ◌∷◌, get_or, sum_by, All, refl, sym, ◌∙◌, ap, ap₂, subst, inl, inr, arith, true≢false, if◌then◌else◌}
use Rattle.std.specs.Str.{bytes_eq}
use Rattle.std.proofs.lemmas.Slice.Eq.{bytes_eq-Decides}
use Rattle.std.specs.List.{list_any}
use Rattle.std.proofs.lemmas.Bool.{cases_Bool, and_parts, le-leb, leb-true, leb-false, ltb-true, lt-ltb}
use Rattle.std.proofs.lemmas.List.Sums.{sum_by-cons}
use Rattle.dc_spec.specs.Values.{number_of}
use Rattle.dc_spec.proofs.Booleans.{test-same, or_cases, or_first, or_second}
use Rattle.dc_station_rules.specs.Epochs.{Leaf}
use Rattle.dc_station_rules.specs.Stations.{is_leaf_of}
use Rattle.dc_message_rules.specs.Tallies.{tally}
use Rattle.dc_message_rules.specs.Shares.{is_within, IsLeaf, Covers}
use Rattle.dc_message_rules.proofs.Tallies.{total-same, total-zero, tally-constant, tally-splits}
use Rattle.dc_message_rules.proofs.Trees.{within-says, within-is}

-- whether a value's number is at least one number and below another
abbrev pub reaches : ℕ → ℕ → List ℕ → Bool
reaches a e v = nat_le a (number_of v) && nat_lt (number_of v) e

pub reaches-says : (a e : ℕ) (v : List ℕ) → reaches a e v ≡ true → (a ≤ number_of v) × (number_of v < e)
reaches-says a e v is = let both = and_parts (nat_le a (number_of v)) (nat_lt (number_of v) e) is in (leb-true a (number_of v) both.0, ltb-true (number_of v) e both.1)

pub reaches-is : (a e : ℕ) (v : List ℕ) → a ≤ number_of v → number_of v < e → reaches a e v ≡ true
reaches-is a e v low less = ap₂ (λ (x y : Bool). x && y) (le-leb a (number_of v) low) (lt-ltb (number_of v) e less)

never : (b : Bool) → (b ≡ true → ⊥) → b ≡ false
never true no_b = absurd (no_b refl)
never false no_b = refl

reaches-none : (a : ℕ) (v : List ℕ) → reaches a a v ≡ false
reaches-none a v = never (reaches a a v) (λ is. let both = reaches-says a a v is in let x = both.0 in let y = both.1 in absurd (omega arith))

-- a range in two
reaches-join : (a h e : ℕ) (v : List ℕ) → a ≤ h + 1 → h + 1 ≤ e → reaches a e v ≡ (is_within a h v || reaches (h + 1) e v)
reaches-join a h e v low high = test-same _ _
    (λ is. let both = reaches-says a e v is in let x = both.0 in let y = both.1 in elim (cases_Bool (nat_le (number_of v) h)) [
      | inl up ↦ or_first (is_within a h v) (reaches (h + 1) e v) (within-is a h v x (leb-true (number_of v) h up))
      | inr past ↦ or_second (is_within a h v) (reaches (h + 1) e v) (reaches-is (h + 1) e v (let z = leb-false (number_of v) h past in omega arith) y)
    ])
    (λ is. elim (or_cases (is_within a h v) (reaches (h + 1) e v) is) [
      | inl here ↦ (let both = within-says a h v here in let y = both.1 in reaches-is a e v both.0 (omega arith))
      | inr there ↦ (let both = reaches-says (h + 1) e v there in let x = both.0 in reaches-is a e v (omega arith) both.1)
    ])

reaches-apart : (a h e : ℕ) (v : List ℕ) → is_within a h v ≡ true → reaches (h + 1) e v ≡ false
reaches-apart a h e v here = never (reaches (h + 1) e v) (λ there. let x = (reaches-says (h + 1) e v there).0 in let y = (within-says a h v here).1 in absurd (omega arith))

either : (b q p r : Bool) (n : ℕ) → q ≡ (p || r) → (p ≡ true → r ≡ false) → cond (b && q) n 0 ≡ cond (b && p) n 0 + cond (b && r) n 0
either false q p r n is apart = refl
either true q true r n is apart = ap (λ (c : Bool). cond c n 0) is ∙ (let none = ap (λ (c : Bool). cond c n 0) (apart refl) in omega arith)
either true q false r n is apart = let same = ap (λ (c : Bool). cond c n 0) is in omega arith

-- leaves cover a range
pub covers-order : (values : List (List ℕ)) (a : ℕ) (out : List Leaf) (e : ℕ) → Covers values a out e → a ≤ e
covers-order values a [] e covers = let same = covers in omega arith
covers-order values a (leaf ∷ out) e covers =
    let begins = covers.0 in let low = covers.1.low in let high = covers.1.high in let rest = covers-order values (leaf.high + 1) out e covers.2 in omega arith

-- how often a value counts in a leaf
leaf_count : (b w : Bool) (c : Bool) → (w ≡ true → b ≡ c) → cond {A = ℕ} (b && w) 1 0 ≡ cond w (cond {A = ℕ} c 1 0) 0
leaf_count true true c same = ap (λ (x : Bool). cond {A = ℕ} x 1 0) (same refl)
leaf_count false true c same = ap (λ (x : Bool). cond {A = ℕ} x 1 0) (same refl)
leaf_count true false c same = refl
leaf_count false false c same = refl

times_one : (c : Bool) (n : ℕ) → cond {A = ℕ} c 1 0 * n ≡ cond c n 0
times_one true n = omega arith
times_one false n = omega arith

leaf-tally : (values : List (List ℕ)) (leaf : Leaf) (x : List ℕ) → IsLeaf values leaf
    → tally (λ v. bytes_eq x v && is_within leaf.low leaf.high v) (λ v. 1) values ≡ cond (bytes_eq x leaf.value) leaf.times 0
leaf-tally values leaf x is =
    let c = bytes_eq x leaf.value in
    let w = is_within leaf.low leaf.high in
    total-same (λ v. cond {A = ℕ} (bytes_eq x v && w v) 1 0) (λ v. cond (w v) (cond {A = ℕ} c 1 0) 0) values
    (λ k d within. leaf_count (bytes_eq x _) (w _) c (λ here. ap (λ (v : List ℕ). bytes_eq x v) (is.same k d within here)))
    ∙ tally-constant w (cond {A = ℕ} c 1 0) values
    ∙ ap (λ n. cond {A = ℕ} c 1 0 * n) (sym is.times)
    ∙ times_one c leaf.times

no_count : (b r : Bool) → r ≡ false → cond {A = ℕ} (b && r) 1 0 ≡ 0
no_count true r none = ap (λ (x : Bool). cond {A = ℕ} x 1 0) none
no_count false r none = refl

-- a value is in right leaves as often as it was sent by a station whose number they cover
pub covers-count : (values : List (List ℕ)) (x : List ℕ) (a : ℕ) (out : List Leaf) (e : ℕ) → Covers values a out e
    → sum_by (λ (leaf : Leaf). if bytes_eq x leaf.value then leaf.times else 0) out ≡ tally (λ v. bytes_eq x v && reaches a e v) (λ v. 1) values
covers-count values x a [] e covers =
    sym (total-same (λ v. cond {A = ℕ} (bytes_eq x v && reaches a e v) 1 0) (λ v. 0) values
    (λ k d within. no_count (bytes_eq x _) (reaches a e _) (subst (λ (n : ℕ). reaches a n (get_or values k d) ≡ false) covers (reaches-none a (get_or values k d)))) ∙ total-zero values)
covers-count values x a (leaf ∷ out) e covers =
    let rest = covers-count values x (leaf.high + 1) out e covers.2 in
    let order = covers-order values (leaf.high + 1) out e covers.2 in
    let low = covers.1.low in
    let high = covers.1.high in
    let own = leaf-tally values leaf x covers.1 in
    let split = tally-splits (λ v. bytes_eq x v && reaches leaf.low e v) (λ v. bytes_eq x v && is_within leaf.low leaf.high v) (λ v. bytes_eq x v && reaches (leaf.high + 1) e v) (λ v. 1) values
    (λ k d within. λ n. either (bytes_eq x _) (reaches leaf.low e _) (is_within leaf.low leaf.high _) (reaches (leaf.high + 1) e _) n
    (reaches-join leaf.low leaf.high e _ (omega arith) order) (reaches-apart leaf.low leaf.high e _)) in
    let cons = sum_by-cons (λ (l : Leaf). if bytes_eq x l.value then l.times else 0) leaf out in
    subst (λ (n : ℕ). sum_by (λ (l : Leaf). if bytes_eq x l.value then l.times else 0) (leaf ∷ out) ≡ tally (λ v. bytes_eq x v && reaches n e v) (λ v. 1) values) covers.0
    (omega arith)

-- a station has a leaf where its number is covered
leaf_or : (values : List (List ℕ)) (leaf : Leaf) → IsLeaf values leaf → All (λ v. is_leaf_of v leaf ≡ is_within leaf.low leaf.high v) values
leaf_or values leaf is k d within = test-same _ _
    (λ here. own (bytes_eq leaf.value _) (nat_le leaf.low (number_of _)) (nat_le (number_of _) leaf.high) here)
    (λ here. all (bytes_eq leaf.value _) (nat_le leaf.low (number_of _)) (nat_le (number_of _) leaf.high) (bytes_eq-same leaf.value _ (sym (is.same k d within here))) here)
  where
    own : (b p q : Bool) → (b && p && q) ≡ true → (p && q) ≡ true
    own true p q h = h
    own false p q h = absurd (true≢false (sym h))

    all : (b p q : Bool) → b ≡ true → (p && q) ≡ true → (b && p && q) ≡ true
    all true p q e h = h
    all false p q e h = absurd (true≢false (sym e))

    bytes_eq-same : (v w : List ℕ) → v ≡ w → bytes_eq v w ≡ true
    bytes_eq-same v w e = (bytes_eq-Decides v w).1 e

pub covers-any : (values : List (List ℕ)) (a : ℕ) (out : List Leaf) (e : ℕ) → Covers values a out e → All (λ v. list_any (is_leaf_of v) out ≡ reaches a e v) values
covers-any values a [] e covers k d within = sym (subst (λ (n : ℕ). reaches a n (get_or values k d) ≡ false) covers (reaches-none a (get_or values k d)))
covers-any values a (leaf ∷ out) e covers k d within =
    let order = covers-order values (leaf.high + 1) out e covers.2 in
    let low = covers.1.low in
    let high = covers.1.high in
    ap₂ (λ (p q : Bool). p || q) (leaf_or values leaf covers.1 k d within) (covers-any values (leaf.high + 1) out e covers.2 k d within)
    ∙ sym (reaches-join leaf.low leaf.high e (get_or values k d) (omega arith) order)
    ∙ ap (λ (n : ℕ). reaches n e (get_or values k d)) covers.0
