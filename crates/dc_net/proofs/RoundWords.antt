-- The words of a round: those of the honest stations first, then with the words of the members.
use Rattle.std.proofs.Common.{◌≡◌, ℕ, zero, suc, ◌<◌, ◌≢◌, Bool, true, false, cond, not, if◌then◌else◌, eqb, List, [], ◌∷◌, ◌++◌, length, get_or, map, filter, find, take, Option, Some, refl, sym, ap, subst, ◌∙◌, arith, eq-eqb}
use Rattle.std.specs.List.{All, AllPairs, range_with_len}
use Rattle.std.specs.Option.{option_map_or}
use Rattle.std.proofs.lemmas.Bool.{ne_eqb}
use Rattle.std.proofs.lemmas.List.{length-map, get_or-map, take_at}
use Rattle.std.proofs.lemmas.List.Elements.{All-filter, filter_passes}
use Rattle.std.proofs.lemmas.List.FromFn.{get_or-range_with_len, length-range_with_len, get_or-map-range_with_len}
use Rattle.std.proofs.lemmas.List.Kept.{AllPairs-filter}
use Rattle.dc_spec.specs.Words.{zero_word}
use Rattle.dc_spec.specs.Lists.{is_among}
use Rattle.dc_spec.specs.Scripts.{Said, stations_of, rule_word, word_by_rule}
use Rattle.dc_net_rules.specs.Runs.{word_of_station}
use Rattle.dc_net.specs.Rows.{members_of, others_of, AreWordsOf, rule_words}
use Rattle.dc_net.specs.Run.{first_row, said_row}

-- the numbers of a range rise
range_rises : (n : ℕ) → AllPairs (λ a b. a < b) (range_with_len 0 n)
range_rises n = λ i j d less within.
    let long = length-range_with_len 0 n in
    let first = get_or-range_with_len 0 n i d (omega arith) in
    let second = get_or-range_with_len 0 n j d (omega arith) in
    omega arith

-- so do those of them that pass a test
pub kept_rise : (p : ℕ → Bool) (n : ℕ) → AllPairs (λ a b. a < b) (filter p (range_with_len 0 n))
kept_rise p n = AllPairs-filter (λ a b. a < b) p (range_with_len 0 n) (range_rises n)

-- each of them is below the end of the range, and passes
pub kept_below : (p : ℕ → Bool) (n k : ℕ) → k < length (filter p (range_with_len 0 n)) → get_or (filter p (range_with_len 0 n)) k 0 < n
kept_below p n k within =
    let all : All (λ i. i < n) (range_with_len 0 n) = λ j d low.
    (let long = length-range_with_len 0 n in let is = get_or-range_with_len 0 n j d (omega arith) in omega arith) in
    All-filter p (λ i. i < n) (range_with_len 0 n) all k 0 within

pub kept_pass : (p : ℕ → Bool) (n k : ℕ) → k < length (filter p (range_with_len 0 n)) → p (get_or (filter p (range_with_len 0 n)) k 0) ≡ true
kept_pass p n k within = filter_passes p (range_with_len 0 n) k 0 within

-- what fails a test turned round passes it
pub not_true : (b : Bool) → not b ≡ true → b ≡ false
not_true false h = refl
not_true true h = sym h

-- the rule of a station is found by its number
pub rule_found : (listed : List Said) (k : ℕ) (d : Said) → AllPairs (λ a b. a < b) (stations_of listed) → k < length listed
    → find (λ said. eqb said.station (get_or listed k d).station) listed ≡ Some (get_or listed k d)
rule_found [] k d up within = absurd (omega arith)
rule_found (s ∷ rest) zero d up within = ap (λ (b : Bool). cond b (Some s) (find (λ said. eqb said.station s.station) rest)) (eq-eqb s.station s.station refl)
rule_found (s ∷ rest) (suc k) d up within =
    let item = get_or rest k d in
    let long = length-map rest (λ said. said.station) in
    let less : s.station < get_or (stations_of rest) k 0 = up 0 (suc k) 0 (omega arith) (omega arith) in
    let at = get_or-map (λ said. said.station) rest k d 0 (omega arith) in
    let other : s.station ≢ (get_or rest k d).station = λ e. absurd (omega arith) in
    ap (λ (b : Bool). cond b (Some s) (find (λ said. eqb said.station (get_or rest k d).station) rest)) (ne_eqb s.station (get_or rest k d).station other)
    ∙ rule_found rest k d (λ i j e low high. up (suc i) (suc j) e (omega arith) (omega arith)) (omega arith)

-- so its word is that of its rule
pub word_found : (listed : List Said) (words : List (List ℕ)) (n k : ℕ) (d : Said) → AllPairs (λ a b. a < b) (stations_of listed) → k < length listed
    → word_by_rule listed words n (get_or (stations_of listed) k 0) ≡ rule_word (get_or listed k d) words n
word_found listed words n k d up within =
    let at = get_or-map (λ said. said.station) listed k d 0 within in
    ap (λ (i : ℕ). word_by_rule listed words n i) at
    ∙ ap (λ (o : Option Said). option_map_or (λ said. rule_word said words n) o zero_word) (rule_found listed k d up within)

-- the words of rules are those of their stations
pub rules_of_stations : (listed : List Said) (words : List (List ℕ)) (n : ℕ) (stations : List ℕ) → AllPairs (λ a b. a < b) stations
    → stations_of listed ≡ stations
    → AreWordsOf (word_by_rule listed words n) stations (rule_words listed words n)
rules_of_stations listed words n stations up same = λ k within.
    let rises : AllPairs (λ a b. a < b) (stations_of listed) = subst (λ (xs : List ℕ). AllPairs (λ a b. a < b) xs) (sym same) up in
    let long = sym (length-map listed (λ said. said.station)) ∙ ap (λ (xs : List ℕ). length xs) same in
    let d : Said = record { station = 0; word = []; terms = [] } in
    get_or-map (λ said. rule_word said words n) listed k d zero_word (omega arith)
    ∙ sym (word_found listed words n k d rises (omega arith)) ∙ ap (λ (xs : List ℕ). word_by_rule listed words n (get_or xs k 0)) same

-- without the words of the members
first_others : (coalition : List ℕ) (n : ℕ) (f : ℕ → List ℕ) (honest : List (List ℕ)) → AreWordsOf f (others_of coalition n) honest
    → AreWordsOf (λ i. if is_among coalition i then zero_word else f i) (others_of coalition n) honest
first_others coalition n f honest are = λ k within.
    let i = get_or (others_of coalition n) k 0 in
    let other = not_true _ (kept_pass (λ x. not (is_among coalition x)) n k within) in
    are k within ∙ ap (λ (b : Bool). if b then zero_word else f (get_or (others_of coalition n) k 0)) (sym other)

first_members : (coalition : List ℕ) (n : ℕ) (f : ℕ → List ℕ) → AreWordsOf (λ i. if is_among coalition i then zero_word else f i) (members_of coalition n) []
first_members coalition n f = λ k within.
    let member = kept_pass (is_among coalition) n k within in
    ap (λ (b : Bool). if b then zero_word else f (get_or (members_of coalition n) k 0)) (sym member)

-- with them
second_others : (coalition : List ℕ) (n : ℕ) (says : List Said) (before : List (List ℕ)) (f : ℕ → List ℕ) (honest : List (List ℕ))
    → AreWordsOf f (others_of coalition n) honest
    → AreWordsOf (λ i. if is_among coalition i then word_by_rule says (before ++ first_row coalition n f) n i else word_of_station
    (first_row coalition n f) i) (others_of coalition n) honest
second_others coalition n says before f honest are = λ k within.
    let i = get_or (others_of coalition n) k 0 in
    let other = not_true _ (kept_pass (λ x. not (is_among coalition x)) n k within) in
    let below = kept_below (λ x. not (is_among coalition x)) n k within in
    first_others coalition n f honest are k within
    ∙ sym (get_or-map-range_with_len (λ x. if is_among coalition x then zero_word else f x) 0 n (get_or (others_of coalition n) k 0)
    (get_or (others_of coalition n) k 0) zero_word below (omega arith))
    ∙ ap (λ (b : Bool). if b then word_by_rule says (before ++ first_row coalition n f) n (get_or (others_of coalition n) k 0) else word_of_station
    (first_row coalition n f) (get_or (others_of coalition n) k 0)) (sym other)

second_members : (coalition : List ℕ) (n : ℕ) (says : List Said) (before : List (List ℕ)) (f : ℕ → List ℕ) → stations_of says ≡ members_of coalition n
    → AreWordsOf (λ i. if is_among coalition i then word_by_rule says (before ++ first_row coalition n f) n i else word_of_station
    (first_row coalition n f) i) (members_of coalition n)
    (rule_words says (before ++ first_row coalition n f) n)
second_members coalition n says before f same = λ k within.
    let member = kept_pass (is_among coalition) n k within in
    rules_of_stations says (before ++ first_row coalition n f) n (members_of coalition n) (kept_rise (is_among coalition) n) same k within
    ∙ ap (λ (b : Bool). if b then word_by_rule says (before ++ first_row coalition n f) n (get_or (members_of coalition n) k 0) else word_of_station
    (first_row coalition n f) (get_or (members_of coalition n) k 0)) (sym member)

-- a row put at the end, removed, and put again with the words of the members
pub row_published : (coalition : List ℕ) (n : ℕ) (says : List Said) (before honest first kept said second : List (List ℕ)) (f : ℕ → List ℕ)
    → AreWordsOf f (others_of coalition n) honest
    → stations_of says ≡ members_of coalition n
    → ((g : ℕ → List ℕ) → AreWordsOf g (others_of coalition n) honest → AreWordsOf g (members_of coalition n) [] → first ≡ before ++ map g (range_with_len 0 n))
    → said ≡ rule_words says first n → kept ≡ take (length before) first
    → ((g : ℕ → List ℕ) → AreWordsOf g (others_of coalition n) honest → AreWordsOf g (members_of coalition n) said
    → second ≡ kept ++ map g (range_with_len 0 n))
    → second ≡ before ++ said_row coalition n says before f
row_published coalition n says before honest first kept said second f are same put_first is_said is_kept put_second =
    let one : first ≡ before ++ first_row coalition n f = put_first _ (first_others coalition n f honest are) (first_members coalition n f) in
    let back : kept ≡ before = is_kept ∙ ap (λ (ws : List (List ℕ)). take (length before) ws) one
    ∙ take_at before (first_row coalition n f) (length before) refl in
    let words : rule_words says (before ++ first_row coalition n f) n ≡ said = ap (λ (ws : List (List ℕ)). rule_words says ws n) (sym one) ∙ sym is_said in
    put_second _ (second_others coalition n says before f honest are)
    (subst (λ (ws : List (List ℕ)). AreWordsOf
    (λ i. if is_among coalition i then word_by_rule says (before ++ first_row coalition n f) n i else word_of_station (first_row coalition n f) i)
    (members_of coalition n) ws) words (second_members coalition n says before f same))
    ∙ ap (λ (ws : List (List ℕ)). ws ++ said_row coalition n says before f) back
