-- A word of an epoch that the called stations send: the tree goes on to hold the values, and its leaves are right.
use Rattle.std.proofs.Common.{◌≡◌, ℕ, ◌+◌, ◌≤◌, ◌&&◌, ◌==◌, not, if◌then◌else◌, Bool, true, false, cond, nat_lt, nat_le, List, [], ◌∷◌, ◌++◌, All, Option, Some, None, Result, Ok, option_map, refl, sym, ◌∙◌, ap, ap₂, subst, arith, eq-eqb}
use Rattle.std.specs.Option.{option_or, is_some}
use Rattle.std.proofs.lemmas.Bool.{ne_eqb, ltb-false, ltb-true}
use Rattle.std.proofs.lemmas.Option.{none-some}
use Rattle.dc_spec.specs.Values.{IsValue, number_of}
use Rattle.dc_spec.specs.Groups.{Group}
use Rattle.dc_spec.proofs.Options.{some-inj}
use Rattle.dc_station_rules.specs.Epochs.{Leaf, EpochFault, Tree, unsplit, equal_values, parts, leaf_of, mean_of, split_by, with_left, with_right, put, Ranged, current, come_out}
use Rattle.dc_station_rules.proofs.Putting.{put-closed}
use Rattle.dc_message_rules.specs.Tallies.{tally, values_group}
use Rattle.dc_message_rules.specs.Shares.{is_within, IsLeaf, Covers}
use Rattle.dc_message_rules.proofs.Trees.{at_mean, Holds, IsAnswer, split-holds, some-at_mean, all-at_mean, range-leaf}
use Rattle.dc_message_rules.proofs.Tallies.{tally-splits}
use Rattle.dc_message_rules.proofs.Parting.{splits-low}

-- a tree after a word
pub record GrownTree (values : List (List ℕ)) (a b : ℕ) (answer : Option (Result Tree EpochFault)) : Type 0 where
  pub next : Tree
  pub is : answer ≡ Some (Ok next)
  pub holds : Holds values next a b

-- the answer of its current group is put into a tree
pub put-holds : (values : List (List ℕ)) → All IsValue values → (t : Tree) (a b : ℕ) → Holds values t a b → (place : Ranged) → current t ≡ Some place → (word : List ℕ) → IsAnswer values place word
    → GrownTree values a b (put word t)
unfolding put current
put-holds values are (unsplit group low high) a b holds place is word answer = by_count (nat_lt group.count 2) refl is
  where
    here : Ranged
    here = record { group = group; low = low; high = high }

    there : Ranged
    there = record { group = values_group (is_within a b) values; low = a; high = b }

    same : there ≡ here
    same = λ k. record { group = sym holds.2 k; low = sym holds.0 k; high = sym holds.1 k }

    by_count : (c : Bool) → nat_lt group.count 2 ≡ c → cond c None (Some here) ≡ Some place → GrownTree values a b (cond c None (Some (split_by group low high word)))
    by_count true count e = absurd (none-some _ e)
    by_count false count e =
        let answered : IsAnswer values there word = subst (λ (pl : Ranged). IsAnswer values pl word) (sym (same ∙ some-inj e)) answer in
        let size : group.count ≡ tally (is_within a b) (λ v. 1) values = ap (λ (g : Group). g.count) holds.2 in
        let two = ltb-false group.count 2 count in
        let grown = split-holds values are a b word (omega arith) answered in
        record {
          next = grown.next;
          is = ap Some (ap (λ (pl : Ranged). split_by pl.group pl.low pl.high word) (sym same) ∙ grown.is);
          holds = grown.holds;
        }
put-holds values are (equal_values leaf) a b holds place is word answer = absurd (none-some _ is)
put-holds values are (parts left right) a b holds place is word answer =
    by_left (λ at. put-holds values are left a holds.0 holds.3 place at word answer) (λ at. put-holds values are right (holds.0 + 1) b holds.4 place at word answer) (current left) refl is
  where
    by_left : (current left ≡ Some place → GrownTree values a holds.0 (put word left)) → (current right ≡ Some place → GrownTree values (holds.0 + 1) b (put word right))
        → (o : Option Ranged) → current left ≡ o → option_or o (current right) ≡ Some place
        → GrownTree values a b (option_or (option_map (with_left right) (put word left)) (option_map (with_right left) (put word right)))
    by_left one other (Some pl) at e =
        let grown = one (at ∙ e) in
        record {
          next = parts grown.next right;
          is = ap (λ (o : Option (Result Tree EpochFault)). option_or (option_map (with_left right) o) (option_map (with_right left) (put word right))) grown.is;
          holds = (holds.0, holds.1, holds.2, grown.holds, holds.4);
        }
    by_left one other None at e =
        let grown = other e in
        record {
          next = parts left grown.next;
          is = ap₂ (λ (o p : Option (Result Tree EpochFault)). option_or (option_map (with_left right) o) (option_map (with_right left) p)) (put-closed word left at) grown.is;
          holds = (holds.0, holds.1, holds.2, holds.3, grown.holds);
        }

-- leaves after leaves
pub covers-append : (values : List (List ℕ)) (a : ℕ) (out more : List Leaf) (m b : ℕ) → Covers values a out m → Covers values m more b → Covers values a (out ++ more) b
covers-append values a [] more m b first second = subst (λ (n : ℕ). Covers values n more b) (sym first) second
covers-append values a (leaf ∷ out) more m b first second = (first.0, first.1, covers-append values (leaf.high + 1) out more m b first.2 second)

-- where the leaves that came out end
abbrev pub end_of : ℕ → Option Ranged → ℕ
end_of b None = b + 1
end_of b (Some place) = place.low

-- a group of one value
one-leaf : (values : List (List ℕ)) → All IsValue values → (a b : ℕ) → tally (is_within a b) (λ v. 1) values ≡ 1 → IsLeaf values (leaf_of (values_group (is_within a b) values) a b)
one-leaf values are a b one =
    let q = is_within a b in
    let m = mean_of (values_group q values) in
    let some : 1 ≤ tally q (λ v. 1) values = omega arith in
    let low = some-at_mean q values are some in
    let split = tally-splits q (at_mean q values) (λ v. q v && not (nat_le (number_of v) m)) (λ v. 1) values (λ k d within. splits-low q number_of m _) in
    range-leaf values a b some (all-at_mean q values are some (omega arith))

-- the leaves that came out are right, and cover all numbers up to the current group
pub out-covers : (values : List (List ℕ)) → All IsValue values → (t : Tree) (a b : ℕ) → Holds values t a b → Covers values a (come_out t) (end_of b (current t))
unfolding come_out current
out-covers values are (unsplit group low high) a b holds = by_count (nat_lt group.count 2) refl
  where
    size : group.count ≡ tally (is_within a b) (λ v. 1) values
    size = ap (λ (g : Group). g.count) holds.2

    here : Ranged
    here = record { group = group; low = low; high = high }

    leaf_is : leaf_of (values_group (is_within a b) values) a b ≡ leaf_of group low high
    leaf_is = λ k. leaf_of (sym holds.2 k) (sym holds.0 k) (sym holds.1 k)

    by_count : (c : Bool) → nat_lt group.count 2 ≡ c → Covers values a (if group.count == 1 then leaf_of group low high ∷ [] else []) (end_of b (cond c None (Some here)))
    by_count true count =
        let few = ltb-true group.count 2 count in
        let some = holds.3 in
        let same = size in
        let one : group.count ≡ 1 = omega arith in
        let covers : Covers values a (leaf_of group low high ∷ []) (b + 1) = (holds.0, subst (IsLeaf values) leaf_is (one-leaf values are a b (omega arith)), ap (λ (n : ℕ). n + 1) holds.1) in
        subst (λ (c : Bool). Covers values a (if c then leaf_of group low high ∷ [] else []) (b + 1)) (sym (eq-eqb group.count 1 one)) covers
    by_count false count =
        let two = ltb-false group.count 2 count in
        subst (λ (c : Bool). Covers values a (if c then leaf_of group low high ∷ [] else []) low) (sym (ne_eqb group.count 1 (λ e. absurd (omega arith)))) (sym holds.0)
out-covers values are (equal_values leaf) a b holds = (holds.0, holds.3, ap (λ (n : ℕ). n + 1) holds.1)
out-covers values are (parts left right) a b holds = by_left (current left) refl (out-covers values are left a holds.0 holds.3) (out-covers values are right (holds.0 + 1) b holds.4)
  where
    by_left : (o : Option Ranged) → current left ≡ o → Covers values a (come_out left) (end_of holds.0 (current left)) → Covers values (holds.0 + 1) (come_out right) (end_of b (current right))
        → Covers values a (if is_some (current left) then come_out left else come_out left ++ come_out right) (end_of b (option_or (current left) (current right)))
    by_left o at first second = subst (λ (c : Option Ranged). Covers values a (come_out left) (end_of holds.0 c)
        → Covers values a (if is_some c then come_out left else come_out left ++ come_out right)
        (end_of b (option_or c (current right)))) (sym at) (by_option o) first
      where
        by_option : (c : Option Ranged) → Covers values a (come_out left) (end_of holds.0 c)
            → Covers values a (if is_some c then come_out left else come_out left ++ come_out right) (end_of b (option_or c (current right)))
        by_option (Some pl) one = one
        by_option None one = covers-append values a (come_out left) (come_out right) (holds.0 + 1) (end_of b (current right)) one second
