-- The first pending values of stations: what they send in an epoch, and which of them count as sent.
pub use Rattle.dc_message_rules.specs.Undisturbed.{first_values as firsts}
use Rattle.std.proofs.Common.{◌≡◌, ℕ, ◌+◌, ◌%◌, ◌<◌, ◌≤◌, ◌&&◌, Bool, true, false, cond, List, [], ◌∷◌, length, map, take, get_or, slice_index, sum_by, All, if◌then◌else◌, refl, sym, ◌∙◌, ap, arith, length-append}
use Rattle.std.specs.Str.{bytes_eq}
use Rattle.std.specs.List.{list_any, flat_map}
use Rattle.std.proofs.lemmas.List.Elements.{All-nil, All-head, All-tail, All-append, All-take}
use Rattle.std.proofs.lemmas.List.Sums.{sum_by-cons, sum_by-append}
use Rattle.dc_spec.specs.Words.{zero_word, word_sum}
use Rattle.dc_spec.specs.Entries.{short, Stream}
use Rattle.dc_spec.specs.Values.{IsValue, contended_word}
use Rattle.dc_spec.proofs.SumLemmas.{sum_by-map}
use Rattle.dc_spec.proofs.WordLemmas.{symbol-word_of, word_of-same}
use Rattle.dc_station_rules.specs.Epochs.{Leaf, Epoch, epoch_of, calls}
use Rattle.dc_station_rules.specs.Stations.{leaf_entry, is_leaf_of, first_short, epoch_word}
use Rattle.dc_net_rules.specs.Bags.{Message, value, text, times_in, count_in}
use Rattle.dc_message_rules.specs.Shares.{Covers}
use Rattle.dc_message_rules.specs.SentEpochs.{epoch_sum}
use Rattle.dc_message_rules.proofs.Tallies.{total-same, total-zero}
use Rattle.dc_message_rules.proofs.Counting.{reaches, covers-count, covers-any}

-- a sum over pieces
pub total-flat : {A B : Type 0} (f : B → ℕ) (g : A → List B) (xs : List A) → sum_by f (flat_map g xs) ≡ sum_by (λ x. sum_by f (g x)) xs
total-flat f g [] = refl
total-flat f g (x ∷ xs) =
    let rest = total-flat f g xs in
    let one = sum_by-cons (λ y. sum_by f (g y)) x xs in
    let both = sum_by-append f (g x) (flat_map g xs) in
    omega arith

-- the values are values, and one a station at most
abbrev pub HaveValues : List Stream → Type 0
HaveValues streams = All (λ (s : Stream). All IsValue s.shorts) streams

pub firsts-values : (streams : List Stream) → HaveValues streams → All IsValue (firsts streams)
firsts-values [] are = All-nil IsValue
firsts-values (s ∷ ss) are = All-append IsValue (take 1 s.shorts) (firsts ss) (All-take IsValue 1 s.shorts (All-head (λ (t : Stream). All IsValue t.shorts) s ss are))
    (firsts-values ss (All-tail (λ (t : Stream). All IsValue t.shorts) s ss are))

one_first : (shorts : List (List ℕ)) → length (take 1 shorts) ≤ 1
one_first [] = omega arith
one_first (v ∷ vs) = omega arith

pub firsts-few : (streams : List Stream) → length (firsts streams) ≤ length streams
firsts-few [] = omega arith
firsts-few (s ∷ ss) = let one = one_first s.shorts in let rest = firsts-few ss in let size = length-append (take 1 s.shorts) (firsts ss) in omega arith

-- the words of an epoch
epoch-symbol : (shorts : List (List ℕ)) (e : Epoch) (l : ℕ) → l < 16
    → slice_index (epoch_word shorts e) l ≡ sum_by (λ v. slice_index (if calls v e then contended_word v 1 else zero_word) l) (take 1 shorts)
epoch-symbol [] e l few = symbol-word_of (λ _. 0) l few
epoch-symbol (v ∷ vs) e l few = let one = sum_by-cons (λ u. slice_index (if calls u e then contended_word u 1 else zero_word) l) v [] in omega arith

pub epoch-words : (streams : List Stream) (words : List (List ℕ)) → word_sum (map (λ (s : Stream). epoch_word s.shorts (epoch_of words)) streams) ≡ epoch_sum (firsts streams) words
epoch-words streams words = word_of-same _ _ (λ l few.
    let e = epoch_of words in
    let f : List ℕ → List ℕ = λ v. if calls v e then contended_word v 1 else zero_word in
    ap (λ n. n % 65537) (sum_by-map (λ w. slice_index w l) (λ (s : Stream). epoch_word s.shorts e) streams
    ∙ total-same (λ (s : Stream). slice_index (epoch_word s.shorts e) l) (λ (s : Stream). sum_by (λ v. slice_index (f v) l) (take 1 s.shorts)) streams
    (λ k d within. epoch-symbol (get_or streams k d).shorts e l few)
    ∙ sym (total-flat (λ v. slice_index (f v) l) (λ (s : Stream). take 1 s.shorts) streams)
    ∙ sym (sum_by-map (λ w. slice_index w l) f (firsts streams))))

-- how often a message is among the values of a station that leaves make sent
abbrev pub shorts_count : Message → List Leaf → List (List ℕ) → ℕ
shorts_count x out shorts = count_in x (map (λ v. short v 1) (first_short shorts out))

none-count : (b : List ℕ) (out : List Leaf) (shorts : List (List ℕ)) → shorts_count (text b) out shorts ≡ 0
none-count b out shorts = sum_by-map (times_in (text b)) (λ v. short v 1) (first_short shorts out) ∙ total-zero (first_short shorts out)

first-count : (y : List ℕ) (out : List Leaf) (shorts : List (List ℕ)) → shorts_count (value y) out shorts ≡ sum_by (λ v. cond {A = ℕ} (bytes_eq y v && list_any (is_leaf_of v) out) 1 0) (take 1 shorts)
first-count y out [] = refl
first-count y out (v ∷ vs) = by_leaf (list_any (is_leaf_of v) out) (bytes_eq y v)
    ∙ (let one = sum_by-cons (λ u. cond {A = ℕ} (bytes_eq y u && list_any (is_leaf_of u) out) 1 0) v [] in omega arith)
  where
    by_leaf : (b c : Bool) → count_in (value y) (map (λ u. short u 1) (if b then v ∷ [] else [])) ≡ cond {A = ℕ} (bytes_eq y v && b) 1 0
    by_leaf true c = both (bytes_eq y v)
      where
        both : (e : Bool) → 0 + cond {A = ℕ} e 1 0 ≡ cond {A = ℕ} (e && true) 1 0
        both true = refl
        both false = refl
    by_leaf false c = neither (bytes_eq y v)
      where
        neither : (e : Bool) → 0 ≡ cond {A = ℕ} (e && false) 1 0
        neither true = refl
        neither false = refl

-- the leaves of an epoch hold each message as often as the stations' values count as sent by them
pub leaves-balance : (streams : List Stream) (out : List Leaf) (e : ℕ) → Covers (firsts streams) 0 out e → (x : Message)
    → count_in x (map leaf_entry out) ≡ sum_by (λ (s : Stream). shorts_count x out s.shorts) streams
leaves-balance streams out e covers (text b) =
    sum_by-map (times_in (text b)) leaf_entry out ∙ total-zero out
    ∙ sym (total-same (λ (s : Stream). shorts_count (text b) out s.shorts) (λ (s : Stream). 0) streams (λ k d within. none-count b out (get_or streams k d).shorts) ∙ total-zero streams)
leaves-balance streams out e covers (value y) =
    let values = firsts streams in
    sum_by-map (times_in (value y)) leaf_entry out
    ∙ covers-count values y 0 out e covers
    ∙ total-same (λ v. cond {A = ℕ} (bytes_eq y v && reaches 0 e v) 1 0) (λ v. cond {A = ℕ} (bytes_eq y v && list_any (is_leaf_of v) out) 1 0) values
    (λ k d within. ap (λ (b : Bool). cond {A = ℕ} (bytes_eq y (get_or values k d) && b) 1 0) (sym (covers-any values 0 out e covers k d within)))
    ∙ total-flat (λ v. cond {A = ℕ} (bytes_eq y v && list_any (is_leaf_of v) out) 1 0) (λ (s : Stream). take 1 s.shorts) streams
    ∙ sym (total-same (λ (s : Stream). shorts_count (value y) out s.shorts) (λ (s : Stream). sum_by (λ v. cond {A = ℕ} (bytes_eq y v && list_any (is_leaf_of v) out) 1 0) (take 1 s.shorts)) streams
    (λ k d within. first-count y out (get_or streams k d).shorts))
