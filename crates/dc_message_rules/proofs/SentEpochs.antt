-- An epoch that nobody disturbs: it is never void, and its leaves are right.
use Rattle.std.proofs.Common.{◌≡◌, ℕ, zero, suc, ◌+◌, ◌-◌, ◌^◌, ◌<◌, ◌≤◌, ◌⊎◌, ◌&&◌, Bool, true, false, cond, nat_le, nat_eq, List, [], ◌∷◌, ◌++◌, length, get_or, All, Option, Some, None, Result, Ok, refl, sym, ◌∙◌, ap, ap₂, subst, inl, inr, arith, true≢false, append_assoc}
use Rattle.std.specs.Option.{is_none}
use Rattle.std.proofs.lemmas.Bool.{lt-ltb}
use Rattle.std.proofs.lemmas.List.{append-nil}
use Rattle.dc_spec.specs.Values.{IsValue, number_of, last_number}
use Rattle.dc_spec.specs.Groups.{Group, GroupFault}
use Rattle.dc_station_rules.specs.Epochs.{Leaf, leaf_of, EpochFault, Tree, unsplit, Ranged, current, put, come_out, Epoch, unbegun, resolving, void_epoch, root_or_fault, grown_tree, with_word, epoch_of, leaves, is_called, calls, is_over, mean_of}
use Rattle.dc_station_rules.proofs.Pushes.{epoch_of-push}
use Rattle.dc_station_rules.proofs.Putting.{none-is}
use Rattle.dc_message_rules.specs.Tallies.{tally, values_group}
use Rattle.dc_message_rules.specs.Shares.{is_within, Covers}
use Rattle.dc_message_rules.specs.SentEpochs.{AreSent}
use Rattle.dc_message_rules.proofs.Tallies.{total-same, total-ones}
use Rattle.dc_message_rules.proofs.SentGroups.{fifteen-same, sent_sum, sent-group}
use Rattle.dc_message_rules.proofs.Parting.{number-below}
use Rattle.dc_message_rules.proofs.Trees.{within-is, within-says, Holds, IsAnswer}
use Rattle.dc_message_rules.proofs.Growing.{put-holds, out-covers, end_of}

-- every value is in the range of all numbers
below_last : (x n : ℕ) → x < n → x ≤ n - 1
below_last x n less = omega arith

pub all-within : (v : List ℕ) → IsValue v → is_within 0 last_number v ≡ true
all-within v is = within-is 0 last_number v (omega arith) (below_last (number_of v) (256 ^ 15) (subst (λ (n : ℕ). number_of v < 256 ^ n) is.fifteen (number-below v is.bytes)))

-- tests that agree on values give one group
same-group : (p q : List ℕ → Bool) (values : List (List ℕ)) → All (λ v. p v ≡ q v) values → values_group p values ≡ values_group q values
same-group p q values same =
    let of : ℕ → List ℕ → Group = λ c ls. record { count = c; limbs = ls } in
    ap₂ of (total-same (λ v. cond {A = ℕ} (p v) 1 0) (λ v. cond {A = ℕ} (q v) 1 0) values (λ k d within. ap (λ (b : Bool). cond {A = ℕ} b 1 0) (same k d within)))
    (fifteen-same _ _ (λ i few. total-same (λ v. cond (p v) (get_or v i 0) 0) (λ v. cond (q v) (get_or v i 0) 0) values (λ k d within. ap (λ (b : Bool). cond b (get_or
    (get_or values k d) i 0) 0) (same k d within))))

-- what an epoch that nobody disturbs has come to
abbrev pub Sound : List (List ℕ) → Epoch → Type 0
Sound values unbegun = Unit {0}
Sound values (resolving t) = Holds values t 0 last_number ⊎ ((length values ≡ 0) × (group : Group) × (t ≡ unsplit group 0 last_number) × (group.count ≡ 0))
Sound values (void_epoch out fault) = ⊥

-- its root
count-all : (values : List (List ℕ)) → All IsValue values → tally (is_within 0 last_number) (λ v. 1) values ≡ length values
count-all values are = total-same (λ v. cond {A = ℕ} (is_within 0 last_number v) 1 0) (λ v. 1) values (λ k d within. ap (λ (b : Bool). cond {A = ℕ} b 1 0) (all-within
    (get_or values k d) (are k d within))) ∙ total-ones values

root-sound : (values : List (List ℕ)) → All IsValue values → length values ≤ 256 → Sound values (with_word unbegun (sent_sum (λ v. true) values))
root-sound values are few = subst (λ (r : Result Group GroupFault). Sound values (root_or_fault r)) (sym (sent-group (λ v. true) values are few)) (by_size (length values) refl)
  where
    root : Group
    root = values_group (λ v. true) values

    by_size : (n : ℕ) → length values ≡ n → Sound values (resolving (unsplit root 0 last_number))
    by_size zero none = inr (none, root, refl, total-ones values ∙ none)
    by_size (suc n) some = inl (
      refl,
      refl,
      same-group (λ v. true) (is_within 0 last_number) values (λ k d within. sym (all-within (get_or values k d) (are k d within))),
      (let all = count-all values are in omega arith),
    )

-- a later word
called_as : (a b c : Bool) → (a && b && c) ≡ ((a && b) && c)
called_as true b c = refl
called_as false b c = refl

open-is : (o : Option Ranged) → is_none o ≡ false → (place : Ranged) × (o ≡ Some place)
open-is None goes_on = absurd (true≢false goes_on)
open-is (Some place) goes_on = (place, refl)

-- a root of count 0 is closed
closed : (t : Tree) (group : Group) → t ≡ unsplit group 0 last_number → group.count ≡ 0 → is_none (current t) ≡ true
unfolding current
closed t group is zero_is = ap (λ (u : Tree). is_none (current u)) is
    ∙ ap (λ (c : Bool). is_none {T = Ranged} (cond c None (Some (record { group = group; low = 0; high = last_number })))) (lt-ltb group.count 2 (omega arith))

tree-sound : (values : List (List ℕ)) → All IsValue values → length values ≤ 256 → (t : Tree) → Sound values (resolving t) → is_none (current t) ≡ false
    → Sound values (grown_tree t (put (sent_sum (λ v. calls v (resolving t)) values) t))
tree-sound values are few t (inl holds) goes_on =
    let at = open-is (current t) goes_on in
    let place = at.0 in
    let word = sent_sum (λ v. calls v (resolving t)) values in
    let called : (v : List ℕ) → calls v (resolving t) ≡ (is_within place.low place.high v && nat_le (number_of v) (mean_of place.group)) = λ v.
    ap (λ (o : Option Ranged). is_called (number_of v) o) at.1 ∙ called_as (nat_le place.low (number_of v)) (nat_le (number_of v) place.high) (nat_le (number_of v) (mean_of place.group)) in
    let answer : IsAnswer values place word = sent-group (λ v. calls v (resolving t)) values are few ∙ ap Ok (λ k. values_group (λ v. called v k) values) in
    let grown = put-holds values are t 0 last_number holds place at.1 word answer in
    subst (λ (o : Option (Result Tree EpochFault)). Sound values (grown_tree t o)) (sym grown.is) (inl grown.holds)
tree-sound values are few t (inr none) goes_on = absurd (true≢false (sym (closed t none.1 none.2 none.3) ∙ goes_on))

word-sound : (values : List (List ℕ)) → All IsValue values → length values ≤ 256 → (e : Epoch) → Sound values e → is_over e ≡ false → Sound values (with_word e (sent_sum (λ v. calls v e) values))
word-sound values are few unbegun sound goes_on = root-sound values are few
word-sound values are few (resolving t) sound goes_on = tree-sound values are few t sound goes_on
word-sound values are few (void_epoch out fault) sound goes_on = absurd sound

-- word after word
words-sound : (values : List (List ℕ)) → All IsValue values → length values ≤ 256 → (words before : List (List ℕ)) → AreSent values (before ++ words) → Sound values (epoch_of before)
    → Sound values (epoch_of (before ++ words))
words-sound values are few [] before sent sound = subst (λ (ws : List (List ℕ)). Sound values (epoch_of ws)) (sym (append-nil before)) sound
words-sound values are few (word ∷ words) before sent sound =
    let here = sent before word words refl in
    let next : Sound values (epoch_of (before ++ word ∷ [])) = subst (Sound values) (ap (λ (w : List ℕ). with_word (epoch_of before) w) (sym here.1) ∙ sym (epoch_of-push before word))
    (word-sound values are few (epoch_of before) sound here.0) in
    let assoc : (before ++ word ∷ []) ++ words ≡ before ++ word ∷ words = append_assoc before (word ∷ []) words in
    subst (λ (ws : List (List ℕ)). Sound values (epoch_of ws)) assoc
    (words-sound values are few words (before ++ word ∷ []) (subst (AreSent values) (sym assoc) sent) next)

pub sent-sound : (values : List (List ℕ)) → All IsValue values → length values ≤ 256 → (words : List (List ℕ)) → AreSent values words → Sound values (epoch_of words)
unfolding epoch_of
sent-sound values are few words sent = words-sound values are few words [] sent tt

-- so the leaves cover all numbers up to some, and all where the epoch is over
pub record Reached (values : List (List ℕ)) (epoch : Epoch) : Type 0 where
  pub end : ℕ
  pub covers : Covers values 0 (leaves epoch) end
  pub whole : is_over epoch ≡ true → All (λ v. number_of v < end) values

below_end : (v : List ℕ) → number_of v ≤ last_number → number_of v < last_number + 1
below_end v low = le_next (number_of v) last_number low
  where
    le_next : (x n : ℕ) → x ≤ n → x < n + 1
    le_next x n le = omega arith

nothing-came : (group : Group) → group.count ≡ 0 → come_out (unsplit group 0 last_number) ≡ []
unfolding come_out
nothing-came group none = ap (λ (n : ℕ). cond (nat_eq n 1) (leaf_of group 0 last_number ∷ []) []) none

no-values : (values : List (List ℕ)) (P : List ℕ → Type 0) → length values ≡ 0 → All P values
no-values values P none k d within = absurd (omega arith)

pub sound-reached : (values : List (List ℕ)) → All IsValue values → (e : Epoch) → Sound values e → Reached values e
sound-reached values are unbegun sound = record { end = 0; covers = refl; whole = λ over. absurd (true≢false (sym over)) }
sound-reached values are (resolving t) (inl holds) = record {
  end = end_of last_number (current t);
  covers = out-covers values are t 0 last_number holds;
  whole = λ over. subst (λ (o : Option Ranged). All (λ v. number_of v < end_of last_number o) values) (sym (none-is (current t) over))
      (λ k d within. below_end (get_or values k d) (within-says 0 last_number (get_or values k d) (all-within (get_or values k d) (are k d within))).1);
}
sound-reached values are (resolving t) (inr none) = record {
  end = 0;
  covers = subst (λ (out : List Leaf). Covers values 0 out 0) (sym (ap come_out none.2 ∙ nothing-came none.1 none.3)) refl;
  whole = λ over. no-values values (λ v. number_of v < 0) none.0;
}
sound-reached values are (void_epoch out fault) sound = absurd sound
