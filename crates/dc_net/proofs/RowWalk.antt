-- The walk over all stations of a round: members and the others, each in their own list.
use Rattle.std.proofs.Common.{◌≡◌, ℕ, suc, ◌+◌, ◌-◌, ◌<◌, ◌≤◌, Bool, true, false, cond, not, List, [], ◌∷◌, ◌++◌, length, get_or, map, drop, filter, sym, ap, ◌∙◌, arith, append_assoc}
use Rattle.std.specs.List.{range_with_len}
use Rattle.std.proofs.lemmas.List.{drop-drop, get_or-drop, length-drop, length_push}
use Rattle.std.proofs.lemmas.List.FromFn.{map-range_with_len_more}
use Rattle.dc_spec.specs.Words.{zero_word}
use Rattle.dc_spec.specs.Lists.{is_among}
use Rattle.dc_net.proofs.FirstBy.{numbers_left}
use Rattle.dc_net.specs.WordList.{Kept}
use Rattle.dc_net.specs.Rows.{members_of, others_of, AreWordsOf}

-- where the rest of a list is x and more, x is its next item
next_item : (xs rest : List ℕ) (j x : ℕ) → drop j xs ≡ x ∷ rest → (j < length xs) × ((get_or xs j 0 ≡ x) × (drop (j + 1) xs ≡ rest))
next_item xs rest j x is =
    let long : length xs - j ≡ suc (length rest) = sym (length-drop j xs) ∙ ap (λ (ys : List ℕ). length ys) is in
    let first : get_or (drop j xs) 0 0 ≡ get_or xs j 0 = let e : j + 0 ≡ j = omega arith in get_or-drop j xs 0 0 ∙ ap (λ (i : ℕ). get_or xs i 0) e in
    (omega arith, (sym first ∙ ap (λ (ys : List ℕ). get_or ys 0 0) is, sym (drop-drop 1 j xs) ∙ ap (λ (ys : List ℕ). drop 1 ys) is))

-- a station that passes is the next item of the list of those that pass
pub passing : (p : ℕ → Bool) (xs : List ℕ) (n i j : ℕ) → i < n → drop j xs ≡ filter p (range_with_len i (n - i)) → p i ≡ true
    → (j < length xs) × ((get_or xs j 0 ≡ i) × (drop (j + 1) xs ≡ filter p (range_with_len (i + 1) (n - (i + 1)))))
passing p xs n i j below rest passes =
    next_item xs (filter p (range_with_len (i + 1) (n - (i + 1)))) j i (rest ∙ ap (λ (ys : List ℕ). filter p ys) (numbers_left i n below)
    ∙ ap (λ (b : Bool). cond b (i ∷ filter p (range_with_len (i + 1) (n - (i + 1)))) (filter p (range_with_len (i + 1) (n - (i + 1))))) passes)

-- a station that does not pass is passed over
pub passed_over : (p : ℕ → Bool) (xs : List ℕ) (n i j : ℕ) → i < n → drop j xs ≡ filter p (range_with_len i (n - i)) → p i ≡ false
    → drop j xs ≡ filter p (range_with_len (i + 1) (n - (i + 1)))
passed_over p xs n i j below rest fails =
    rest ∙ ap (λ (ys : List ℕ). filter p ys) (numbers_left i n below)
    ∙ ap (λ (b : Bool). cond b (i ∷ filter p (range_with_len (i + 1) (n - (i + 1)))) (filter p (range_with_len (i + 1) (n - (i + 1))))) fails

-- the stations that come after the first i, and the words of the first i
pub record Passed (coalition : List ℕ) (n : ℕ) (honest said : List (List ℕ)) (start : Kept) (words : Kept) (i j k : ℕ) : Type 0 where
  pub others : drop j (others_of coalition n) ≡ filter (λ x. not (is_among coalition x)) (range_with_len i (n - i))
  pub members : drop k (members_of coalition n) ≡ filter (is_among coalition) (range_with_len i (n - i))
  pub few_others : j ≤ i
  pub few_members : k ≤ i
  pub room : words.room ≡ start.room
  pub count : length words.words ≡ length start.words + i
  pub row : (f : ℕ → List ℕ) → AreWordsOf f (others_of coalition n) honest → AreWordsOf f (members_of coalition n) said
      → words.words ≡ start.words ++ map f (range_with_len 0 i)

-- the next word of a row
one_more : (f : ℕ → List ℕ) (start words : List (List ℕ)) (w : List ℕ) (i : ℕ) → words ≡ start ++ map f (range_with_len 0 i) → w ≡ f i
    → words ++ w ∷ [] ≡ start ++ map f (range_with_len 0 (i + 1))
one_more f start words w i so_far is =
    ap (λ (ws : List (List ℕ)). ws ++ w ∷ []) so_far ∙ append_assoc start (map f (range_with_len 0 i)) (w ∷ [])
    ∙ ap (λ (x : List ℕ). start ++ (map f (range_with_len 0 i) ++ x ∷ [])) is
    ∙ ap (λ (ws : List (List ℕ)). start ++ ws) (sym (map-range_with_len_more f 0 i i (omega arith)))

-- a member, with its word
pub Passed-member : (coalition : List ℕ) (n : ℕ) (honest said : List (List ℕ)) (start words more : Kept) (w : List ℕ) (i j k : ℕ)
    → Passed coalition n honest said start words i j k
    → i < n → is_among coalition i ≡ true → w ≡ get_or said k zero_word → more ≡ record { words = words.words ++ w ∷ []; room = words.room }
    → Passed coalition n honest said start more (i + 1) j (k + 1)
Passed-member coalition n honest said start words more w i j k so_far below member is pushed =
    let here = passing (is_among coalition) (members_of coalition n) n i k below so_far.members member in
    let few_others = so_far.few_others in
    let few_members = so_far.few_members in
    record {
      others = passed_over (λ x. not (is_among coalition x)) (others_of coalition n) n i j below so_far.others (ap not member);
      members = here.1.1;
      few_others = omega arith;
      few_members = omega arith;
      room = ap (λ (l : Kept). l.room) pushed ∙ so_far.room;
      count = let e = so_far.count in ap (λ (l : Kept). length l.words) pushed ∙ length_push words.words w ∙ (omega arith);
      row = λ f others members. ap (λ (l : Kept). l.words) pushed
          ∙ one_more f start.words words.words w i (so_far.row f others members) (is ∙ members k here.0 ∙ ap f here.1.0);
    }

-- another station, with its word
pub Passed-other : (coalition : List ℕ) (n : ℕ) (honest said : List (List ℕ)) (start words more : Kept) (w : List ℕ) (i j k : ℕ)
    → Passed coalition n honest said start words i j k
    → i < n → is_among coalition i ≡ false → w ≡ get_or honest j zero_word → more ≡ record { words = words.words ++ w ∷ []; room = words.room }
    → Passed coalition n honest said start more (i + 1) (j + 1) k
Passed-other coalition n honest said start words more w i j k so_far below other is pushed =
    let here = passing (λ x. not (is_among coalition x)) (others_of coalition n) n i j below so_far.others (ap not other) in
    let few_others = so_far.few_others in
    let few_members = so_far.few_members in
    record {
      others = here.1.1;
      members = passed_over (is_among coalition) (members_of coalition n) n i k below so_far.members other;
      few_others = omega arith;
      few_members = omega arith;
      room = ap (λ (l : Kept). l.room) pushed ∙ so_far.room;
      count = let e = so_far.count in ap (λ (l : Kept). length l.words) pushed ∙ length_push words.words w ∙ (omega arith);
      row = λ f others members. ap (λ (l : Kept). l.words) pushed
          ∙ one_more f start.words words.words w i (so_far.row f others members) (is ∙ others j here.0 ∙ ap f here.1.0);
    }
