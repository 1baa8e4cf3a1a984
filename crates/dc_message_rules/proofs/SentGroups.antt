-- What stations that send their values in one word add up to: the group of these values.
use Rattle.std.proofs.Common.{◌≡◌, ℕ, suc, ◌+◌, ◌*◌, ◌%◌, ◌<◌, ◌≤◌, Bool, true, false, cond, nat_lt, List, length, map, slice_index, sum_by, All, Option, None, Ok, Err, if◌then◌else◌, refl, ◌∙◌, ap, ap₂, arith}
use Rattle.std.proofs.lemmas.Bool.{le-ltb}
use Rattle.std.proofs.lemmas.List.{get_or-map}
use Rattle.std.proofs.lemmas.List.FromFn.{fill_by_all}
use Rattle.dc_spec.specs.Words.{zero_word, word_sum}
use Rattle.dc_spec.specs.Values.{IsValue, fifteen, contended_word, word_count, word_limbs}
use Rattle.dc_spec.specs.Groups.{Group, group_count, limb, counted, high_limb, group_or_fault, group_of}
use Rattle.dc_spec.proofs.GroupLemmas.{first_limb-fails, length-fifteen, get_or-fifteen}
use Rattle.dc_spec.proofs.SumLemmas.{sum_by-map}
use Rattle.dc_spec.proofs.WordLemmas.{symbol-word_of}
use Rattle.dc_message_rules.specs.Tallies.{tally, values_group}
use Rattle.dc_message_rules.proofs.Tallies.{total-same, tally-most, tally-length}

-- the word of a station with this value, where it sends or not
abbrev pub choice_word : Bool → List ℕ → List ℕ
choice_word sends value = if sends then contended_word value 1 else zero_word

choice-count : (b : Bool) (v : List ℕ) → slice_index (choice_word b v) 0 ≡ cond b 1 0
choice-count true v = refl
choice-count false v = symbol-word_of (λ _. 0) 0 (omega arith)

choice-limb : (b : Bool) (v : List ℕ) → IsValue v → (i : ℕ) → i < 15 → slice_index (choice_word b v) (i + 1) ≡ cond b (slice_index v i) 0
choice-limb b v is i few = let next : i + 1 ≡ suc i = omega arith in ap (λ (k : ℕ). slice_index (choice_word b v) k) next ∙ by_choice b
  where
    by_choice : (b : Bool) → slice_index (choice_word b v) (suc i) ≡ cond b (slice_index v i) 0
    by_choice true = get_or-map (λ byte. 1 * byte) v i 0 0 (let size = is.fifteen in omega arith) ∙ (let e : 1 * slice_index v i ≡ slice_index v i = omega arith in e)
    by_choice false = symbol-word_of (λ _. 0) (suc i) (omega arith)

-- lists of fifteen numbers that agree
pub fifteen-same : (f g : ℕ → ℕ) → ((i : ℕ) → i < 15 → f i ≡ g i) → fifteen f ≡ fifteen g
unfolding fifteen
fifteen-same f g same = fill_by_all g (fifteen f) 15 0 (length-fifteen f) (λ i few. get_or-fifteen f i few ∙ same i few)

-- the sum of the words that they send
abbrev pub sent_sum : (List ℕ → Bool) → List (List ℕ) → List ℕ
sent_sum sends values = word_sum (map (λ v. choice_word (sends v) v) values)

small : (x n : ℕ) → x ≤ n → n < 65537 → x % 65537 ≡ x
small x n most few = omega arith

sum-symbol : (sends : List ℕ → Bool) (f : List ℕ → ℕ) (values : List (List ℕ)) (l : ℕ) → l < 16 → All (λ v. slice_index (choice_word (sends v) v) l ≡ cond (sends v) (f v) 0) values
    → tally sends f values < 65537 → slice_index (sent_sum sends values) l ≡ tally sends f values
sum-symbol sends f values l few each most =
    symbol-word_of (λ k. sum_by (λ w. slice_index w k) (map (λ v. choice_word (sends v) v) values) % 65537) l few
    ∙ ap (λ s. s % 65537) (sum_by-map (λ w. slice_index w l) (λ v. choice_word (sends v) v) values
    ∙ total-same (λ v. slice_index (choice_word (sends v) v) l) (λ v. cond (sends v) (f v) 0) values each)
    ∙ small (tally sends f values) (tally sends f values) (omega arith) most

-- bytes of values
bytes : (values : List (List ℕ)) → All IsValue values → (i : ℕ) → All (λ v. slice_index v i ≤ 255) values
bytes values are i k d within = let byte = (are k d within).bytes i in omega arith

-- a sum of bytes
pub limb-most : (p : List ℕ → Bool) (values : List (List ℕ)) → All IsValue values → (i : ℕ) → tally p (λ v. slice_index v i) values ≤ 255 * tally p (λ v. 1) values
limb-most p values are i = tally-most p (λ v. slice_index v i) 255 values (bytes values are i)

sum-count : (sends : List ℕ → Bool) (values : List (List ℕ)) → length values ≤ 256 → word_count (sent_sum sends values) ≡ tally sends (λ v. 1) values
sum-count sends values few =
    sum-symbol sends (λ v. 1) values 0 (omega arith) (λ k d within. choice-count (sends _) _) (let most = tally-length sends values in omega arith)

sum-limbs : (sends : List ℕ → Bool) (values : List (List ℕ)) → All IsValue values → length values ≤ 256
    → word_limbs (sent_sum sends values) ≡ fifteen (λ i. tally sends (λ v. slice_index v i) values)
sum-limbs sends values are few = fifteen-same _ _ (λ i low. sum-symbol sends (λ v. slice_index v i) values (i + 1) (omega arith)
    (λ k d within. choice-limb (sends _) _ (are k d within) i low)
    (let most = tally-length sends values in let each = limb-most sends values are i in omega arith))

-- so the sum is a group, that of the values that are sent
pub sent-group : (sends : List ℕ → Bool) (values : List (List ℕ)) → All IsValue values → length values ≤ 256 → group_of (sent_sum sends values) ≡ Ok (values_group sends values)
unfolding group_of
sent-group sends values are few =
    let w = sent_sum sends values in
    let g = values_group sends values in
    let of : ℕ → List ℕ → Group = λ c ls. record { count = c; limbs = ls } in
    let is : counted w ≡ g = ap₂ of (sum-count sends values few) (sum-limbs sends values are few) in
    let low : word_count w ≤ 256 = (let most = tally-length sends values in let same = sum-count sends values few in omega arith) in
    let fit : high_limb g ≡ None = first_limb-fails (λ i. nat_lt (255 * g.count) (limb g i)) (λ i lt. le-ltb (255 * g.count) (limb g i)
    (let at = get_or-fifteen (λ j. tally sends (λ v. slice_index v j) values) i lt in let most = limb-most sends values are i in omega arith)) in
    ap (λ (b : Bool). cond b (Err (group_count (word_count w))) (group_or_fault (counted w) (high_limb (counted w)))) (le-ltb 256 (word_count w) low)
    ∙ ap (λ (h : Group). group_or_fault h (high_limb h)) is
    ∙ ap (λ (o : Option ℕ). group_or_fault g o) fit
