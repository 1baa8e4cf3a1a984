-- An epoch that nobody disturbs delivers the values that were sent.
use Rattle.std.proofs.Common.{◌≡◌, ℕ, zero, suc, ◌+◌, ◌<◌, ◌≤◌, ◌&&◌, Bool, true, false, cond, List, [], ◌∷◌, length, get_or, All, AllPairs, refl, ◌∙◌, ap, subst, arith}
use Rattle.std.specs.Str.{bytes_eq}
use Rattle.std.proofs.lemmas.List.Elements.{All-cons, All-nil, All-weaker}
use Rattle.dc_spec.specs.Values.{IsValue, number_of}
use Rattle.dc_station_rules.specs.Epochs.{Leaf, EpochFault, void_epoch, epoch_of, leaves, is_over}
use Rattle.dc_message_rules.specs.Shares.{Covers}
use Rattle.dc_message_rules.specs.SentEpochs.{AreSent, Delivers}
use Rattle.dc_message_rules.proofs.Tallies.{total-same}
use Rattle.dc_message_rules.proofs.Counting.{reaches, reaches-is, covers-count}
use Rattle.dc_message_rules.proofs.SentEpochs.{Sound, sent-sound, sound-reached}

-- right leaves are all at or above where they begin
leaves-above : (values : List (List ℕ)) (a : ℕ) (out : List Leaf) (e : ℕ) → Covers values a out e → All (λ (leaf : Leaf). a ≤ number_of leaf.value) out
leaves-above values a [] e covers = All-nil (λ (leaf : Leaf). a ≤ number_of leaf.value)
leaves-above values a (leaf ∷ out) e covers =
    let begins = covers.0 in let low = covers.1.low in let high = covers.1.high in
    All-cons (λ (l : Leaf). a ≤ number_of l.value) leaf out (omega arith)
    (All-weaker (λ (l : Leaf). leaf.high + 1 ≤ number_of l.value) (λ (l : Leaf). a ≤ number_of l.value) (λ l above. omega arith) out (leaves-above values (leaf.high + 1) out e covers.2))

-- and they rise
leaves-rise : (values : List (List ℕ)) (a : ℕ) (out : List Leaf) (e : ℕ) → Covers values a out e → AllPairs (λ (one other : Leaf). number_of one.value < number_of other.value) out
leaves-rise values a [] e covers i j d less within = absurd (omega arith)
leaves-rise values a (leaf ∷ out) e covers zero zero d less within = absurd (omega arith)
leaves-rise values a (leaf ∷ out) e covers zero (suc j) d less within =
    let high = covers.1.high in let above = leaves-above values (leaf.high + 1) out e covers.2 j d (omega arith) in omega arith
leaves-rise values a (leaf ∷ out) e covers (suc i) zero d less within = absurd (omega arith)
leaves-rise values a (leaf ∷ out) e covers (suc i) (suc j) d less within = leaves-rise values (leaf.high + 1) out e covers.2 i j d (omega arith) (omega arith)

-- each is of one station at least
leaves-some : (values : List (List ℕ)) (a : ℕ) (out : List Leaf) (e : ℕ) → Covers values a out e → All (λ (leaf : Leaf). 1 ≤ leaf.times) out
leaves-some values a [] e covers = All-nil (λ (leaf : Leaf). 1 ≤ leaf.times)
leaves-some values a (leaf ∷ out) e covers = All-cons (λ (l : Leaf). 1 ≤ l.times) leaf out covers.1.some (leaves-some values (leaf.high + 1) out e covers.2)

kept : (b r : Bool) → r ≡ true → cond {A = ℕ} (b && r) 1 0 ≡ cond {A = ℕ} b 1 0
kept true r is = ap (λ (c : Bool). cond {A = ℕ} c 1 0) is
kept false r is = refl

-- leaves that cover all values deliver them
covers-deliver : (values : List (List ℕ)) (out : List Leaf) (e : ℕ) → Covers values 0 out e → All (λ v. number_of v < e) values → Delivers values out
covers-deliver values out e covers all = record {
  rising = leaves-rise values 0 out e covers;
  some = leaves-some values 0 out e covers;
  times = λ x. covers-count values x 0 out e covers ∙ total-same (λ v. cond {A = ℕ} (bytes_eq x v && reaches 0 e v) 1 0) (λ v. cond {A = ℕ} (bytes_eq x v) 1 0) values
      (λ k d within. kept (bytes_eq x (get_or values k d)) (reaches 0 e (get_or values k d)) (reaches-is 0 e (get_or values k d) (omega arith) (all k d within)));
}

pub epochs-deliver : (values : List (List ℕ)) → All IsValue values → length values ≤ 256 → (words : List (List ℕ)) → AreSent values words → is_over (epoch_of words) ≡ true
    → Delivers values (leaves (epoch_of words))
epochs-deliver values are few words sent over =
    let reached = sound-reached values are (epoch_of words) (sent-sound values are few words sent) in
    covers-deliver values (leaves (epoch_of words)) reached.end reached.covers (reached.whole over)

pub epochs-stand : (values : List (List ℕ)) → All IsValue values → length values ≤ 256 → (words : List (List ℕ)) → AreSent values words → (out : List Leaf) (fault : EpochFault)
    → epoch_of words ≡ void_epoch out fault → ⊥
epochs-stand values are few words sent out fault is = subst (Sound values) is (sent-sound values are few words sent)
