-- What is spelled as a script is read as it.
use Rattle.std.proofs.Common.{◌≡◌, ℕ, ◌+◌, ◌-◌, ◌<◌, ◌≤◌, ◌==◌, true, false, List, [], ◌∷◌, ◌++◌, length, get_or, map, All, None, Result, Ok, refl, sym, ◌∙◌, ap, subst, inl, inr, arith, codes, append_assoc}
use Rattle.std.specs.List.Sorted.{IsStrictlyIncreasing}
use Rattle.std.specs.Fmt.{decimal}
use Rattle.std.proofs.Math.Seq.{get_or-append_seam}
use Rattle.std.proofs.Math.ListN.{get_or-append}
use Rattle.std.proofs.lemmas.Bool.{cases_lt, ne_eqb, eq-eqb, lt-ltb, le-ltb, lt-leb}
use Rattle.std.proofs.lemmas.List.{length-append, length-map, map-append, get_or-map, append-nil}
use Rattle.std.proofs.lemmas.List.Sums.{sum_by-append}
use Rattle.std.proofs.lemmas.List.Elements.{All-append, All-nil, All-cons, All-head, All-tail}
use Rattle.dc_spec.specs.Limits.{most_terms}
use Rattle.dc_spec.specs.Text.{line, symbol_text, word_text}
use Rattle.dc_spec.specs.Scripts.{Term, Said, stations_of, Delivery, all_sum, each, Turn, Script}
use Rattle.dc_formats.specs.TextFile.{IsTextLine, text_file, Line, ended, file_lines}
use Rattle.dc_formats.specs.ScriptFile.{IsTerm, is_before, term_order, AreTermsRising, IsSaid, AreSaid, IsTurn, IsScript, turn_terms, script_terms, script_text}
use Rattle.dc_formats.proofs.FileLines.{lines_of_text_file}
use Rattle.dc_formats.proofs.Pieces.{decimal_figures, word_text_figures}
use Rattle.dc_formats.proofs.SpelledLines.{figures_printable, printable_by_test, joined}
use Rattle.dc_field.specs.Answers.{Answers}
use Rattle.dc_field.specs.declared.refusal.Refusal.{Refusal}
use Rattle.dc_text.proofs.LineByLine.{with_texts, lines_of_texts, with_texts-append, texts_spelled}
use Rattle.dc_script.specs.declared.fault.ScriptFault.{ScriptFault}
use Rattle.dc_script.specs.declared.fault.ScriptKind.TheVariants.{NotText}
use Rattle.dc_script.specs.declared.item.Item.{Item}
use Rattle.dc_script.specs.declared.item.Item.TheVariants.{RoundLine, SayLine, AllLine, ToLine, AddLine}
use Rattle.dc_script.specs.Items.{item_text, entry_text, term_text, IsEntry, IsItem, IsTermLine}
use Rattle.dc_script.specs.Turns.{begun_turn, is_undelivered, is_waiting, last_said, is_above_last, is_above_last_term, plain_said, said_with, term_fault, with_round, with_add, with_item, terms_after}
use Rattle.dc_script.specs.Progress.{Progress, no_progress}
use Rattle.dc_script.specs.Reading.{script_fault}
use Rattle.dc_script.specs.TurnReading.{progressed, with_item_in, with_text, after_head, script_by_turns}
use Rattle.dc_script.proofs.Putting.{lines_from}
use Rattle.dc_script.proofs.OneMoreRound.{terms_and_one}
use Rattle.dc_script.proofs.ItemTexts.{item_in-item_text}
use Rattle.dc_script.proofs.LastTurn.{last_or_none, waits, say_at, all_at, to_at, term_after, term_at, says_after, words_after, add_says, add_words}
use Rattle.dc_script.proofs.TurnsSoFar.{AreTurns, Counted, item_counts, said_terms, terms_of_last}
use Rattle.dc_script.proofs.Spelled.{progress_lines, text_lines, first_head, second_head}

-- ---- lines that are text

number_is_text : (n : ℕ) → n < 65536 → IsTextLine (decimal n)
number_is_text n lt = figures_printable (decimal n) (decimal_figures n (omega arith))

blank_is_text : IsTextLine (codes " ")
blank_is_text = printable_by_test (codes " ") refl

-- a word's line is text
entry_is_text : (beginning : List ℕ) (e : ℕ × List ℕ) → IsTextLine beginning → IsEntry e → IsTextLine (entry_text beginning e)
entry_is_text beginning e front is =
    joined _ (word_text e.1) (joined _ (codes " ") (joined beginning (decimal e.0) front (number_is_text e.0 is.0)) blank_is_text) (figures_printable (word_text e.1) (word_text_figures e.1))

-- a blank and one text more
blank_then : (a b : List ℕ) → IsTextLine a → IsTextLine b → IsTextLine ((a ++ codes " ") ++ b)
blank_then a b first second = joined (a ++ codes " ") b (joined a (codes " ") first blank_is_text) second

-- a term's line is text
five_are_text : (a b c d e : List ℕ) → IsTextLine a → IsTextLine b → IsTextLine c → IsTextLine d → IsTextLine e
    → IsTextLine ((((((((a ++ codes " ") ++ b) ++ codes " ") ++ c) ++ codes " ") ++ d) ++ codes " ") ++ e)
five_are_text a b c d e p q r s t =
    let two = blank_then a b p q in
    let three = blank_then ((a ++ codes " ") ++ b) c two r in
    let four = blank_then ((((a ++ codes " ") ++ b) ++ codes " ") ++ c) d three s in
    blank_then ((((((a ++ codes " ") ++ b) ++ codes " ") ++ c) ++ codes " ") ++ d) e four t

term_is_text : (t : Term) → IsTermLine t → IsTextLine (term_text t)
term_is_text t is =
    five_are_text (codes "add " ++ decimal t.to) (symbol_text t.factor) (decimal t.station) (decimal t.round) (decimal t.symbol)
    (joined (codes "add ") (decimal t.to) (printable_by_test (codes "add ") refl) (number_is_text t.to (omega (arith, is.to))))
    (figures_printable (symbol_text t.factor) (word_text_figures (t.factor ∷ [])))
    (number_is_text t.station is.station)
    (number_is_text t.round (omega (arith, is.round)))
    (number_is_text t.symbol (omega (arith, is.symbol)))

-- an item's line is text
item_is_text : (version : ℕ) (item : Item) → IsItem version item → IsTextLine (item_text item)
item_is_text version (RoundLine r) is = joined (codes "round ") (decimal r) (printable_by_test (codes "round ") refl) (figures_printable (decimal r) (decimal_figures r (omega arith)))
item_is_text version (SayLine e) is = entry_is_text (codes "say ") e (printable_by_test (codes "say ") refl) is
item_is_text version AllLine is = printable_by_test (codes "all") refl
item_is_text version (ToLine e) is = entry_is_text (codes "to ") e (printable_by_test (codes "to ") refl) is
item_is_text version (AddLine term) is = term_is_text term is.1

-- ---- turns that texts make

pub record Reached (version : ℕ) (turns : List Turn) : Type 0 where
  pub texts : List (List ℕ)
  pub are_lines : All IsTextLine texts
  pub terms : ℕ
  pub made : with_texts (with_text version) no_progress texts ≡ Ok (record { turns = turns; terms = terms })
  pub counted : Counted version turns terms

-- one more item
one_more_item : (version : ℕ) (turns : List Turn) (item : Item) (new : List Turn) (reached : Reached version turns) → IsItem version item → with_item reached.terms turns item ≡ Ok new
    → Reached version new
one_more_item version turns item new reached is e =
    let so_far : Progress = record { turns = turns; terms = reached.terms } in
    let read : with_text version so_far (item_text item) ≡ Ok (record { turns = new; terms = terms_after reached.terms item }) = ap (with_item_in so_far) (item_in-item_text version item is)
    ∙ ap (progressed (terms_after reached.terms item)) e in
    record {
      texts = reached.texts ++ item_text item ∷ [];
      are_lines = All-append IsTextLine reached.texts (item_text item ∷ []) reached.are_lines (All-cons IsTextLine (item_text item) [] (item_is_text version item is) (All-nil IsTextLine));
      terms = terms_after reached.terms item;
      made = with_texts-append (with_text version) no_progress so_far reached.texts (item_text item ∷ []) reached.made ∙ rw read refl;
      counted = item_counts version reached.terms turns item new reached.counted is e;
    }

-- ---- places for words: those said in a last turn, or those dealt in it

pub record Place (version : ℕ) (done : List Turn) : Type 0 where
  pub with_words : List Said → Turn
  pub line_of : ℕ × List ℕ → Item
  pub base : ℕ
  pub entry : (e : ℕ × List ℕ) → IsEntry e → IsItem version (line_of e)
  pub puts : (c : ℕ) (xs : List Said) (e : ℕ × List ℕ) → is_above_last e.0 xs ≡ true → with_item c (done ++ with_words xs ∷ []) (line_of e) ≡ Ok (done ++ with_words (xs ++ plain_said e ∷ []) ∷ [])
  pub adds : (c : ℕ) (ws : List Said) (w : Said) (t : Term) → term_fault (length done) c w.terms t ≡ None
      → with_add c (done ++ with_words (ws ++ w ∷ []) ∷ []) t ≡ Ok (done ++ with_words (ws ++ said_with w t ∷ []) ∷ [])
  pub total : (xs : List Said) → script_terms (done ++ with_words xs ∷ []) ≡ base + said_terms xs

said_place : (version : ℕ) (done : List Turn) → Place version done
said_place version done = record {
  with_words = λ xs. record { says = xs; delivery = each [] };
  line_of = SayLine;
  base = script_terms done;
  entry = λ e is. is;
  puts = λ c xs e next. say_at done (record { says = xs; delivery = each [] }) e ∙ rw next refl;
  adds = λ c ws w t none. add_says c done (ws ++ w ∷ []) t ∙ ap (says_after done) (term_at (length done) c ws w t ∙ ap (term_after ws w t) none);
  total = λ xs. (let split = terms_and_one done (record { says = xs; delivery = each [] }) in omega (arith, split));
}

dealt_adds : (done : List Turn) (says : List Said) (c : ℕ) (ws : List Said) (w : Said) (t : Term) → term_fault (length done) c w.terms t ≡ None
    → with_add c (done ++ record { says = says; delivery = each (ws ++ w ∷ []) } ∷ []) t ≡ Ok (done ++ record { says = says; delivery = each (ws ++ said_with w t ∷ []) } ∷ [])
dealt_adds done says c [] w t none = add_words c done says w [] t ∙ ap (words_after done says) (term_at (length done) c [] w t ∙ ap (term_after [] w t) none)
dealt_adds done says c (x ∷ ws) w t none = add_words c done says x (ws ++ w ∷ []) t ∙ ap (words_after done says) (term_at (length done) c (x ∷ ws) w t ∙ ap (term_after (x ∷ ws) w t) none)

dealt_place : (version : ℕ) (done : List Turn) (says : List Said) → Place version done
dealt_place version done says = record {
  with_words = λ xs. record { says = says; delivery = each xs };
  line_of = ToLine;
  base = script_terms done + said_terms says;
  entry = λ e is. is;
  puts = λ c xs e next. to_at done says xs e ∙ rw next refl;
  adds = dealt_adds done says;
  total = λ xs. (let split = terms_and_one done (record { says = says; delivery = each xs }) in omega (arith, split));
}

-- ---- term after term

-- a term of a rising list comes next
next_term : (before rest : List Term) (t : Term) → AreTermsRising (before ++ t ∷ rest) → is_above_last_term t before ≡ true
next_term [] rest t up = refl
next_term (b ∷ before) rest t up =
    let front : List Term = b ∷ before in
    let some : (length front == 0) ≡ false = ne_eqb (length front) 0 (λ z. absurd (omega arith)) in
    let next : length front - 1 + 1 ≡ length front = omega arith in
    let left : get_or (front ++ t ∷ rest) (length front - 1) t ≡ get_or front (length front - 1) t = get_or-append front (t ∷ rest) t (length front - 1) (omega arith) in
    let here : get_or (front ++ t ∷ rest) (length front - 1 + 1) t ≡ t = ap (λ (k : ℕ). get_or (front ++ t ∷ rest) k t) next ∙ get_or-append_seam front t rest t in
    let below : is_before (term_order (get_or (front ++ t ∷ rest) (length front - 1) t)) (term_order (get_or (front ++ t ∷ rest) (length front - 1 + 1) t)) ≡ true = up (length front - 1) t
    (omega (arith, length-append front (t ∷ rest))) in
    let told : is_before (term_order (get_or front (length front - 1) t)) (term_order t) ≡ true =
    ap (λ (x : Term). is_before (term_order x) (term_order t)) (sym left)
    ∙ ap (λ (y : Term). is_before (term_order (get_or (front ++ t ∷ rest) (length front - 1) t)) (term_order y)) (sym here) ∙ below in
    rw some told

-- an item in the middle of a list
middle : {X : Type 0} (P : X → Type 0) (xs ys : List X) (y : X) → All P (xs ++ y ∷ ys) → P y
middle P [] ys y are = All-head P y ys are
middle P (x ∷ xs) ys y are = middle P xs ys y (All-tail P x (xs ++ y ∷ ys) are)

-- no fault where a term may be added
no_fault : (r c : ℕ) (terms : List Term) (t : Term) → t.round ≤ r → is_above_last_term t terms ≡ true → c < most_terms → term_fault r c terms t ≡ None
no_fault r c terms t le next room = rw (le-ltb r t.round le, next, lt-leb most_terms c room) refl

-- a version that has terms
second_version : (version n : ℕ) → 1 ≤ version → version ≤ 2 → (version ≡ 1 → n ≡ 0) → 1 ≤ n → version ≡ 2
second_version version n some most first has = elim (cases_lt version 2) [
  | inl less ↦ (let none : n ≡ 0 = first (omega arith) in absurd (omega (arith, none, has)))
  | inr more ↦ omega (arith, most, more)
]

-- what is known of the version and of how many terms there will be
pub record Bound (version n : ℕ) : Type 0 where
  pub some_version : 1 ≤ version
  pub most_version : version ≤ 2
  pub first : version ≡ 1 → n ≡ 0
  pub most : n ≤ most_terms

less_bound : (version m n : ℕ) → m ≤ n → Bound version n → Bound version m
less_bound version m n le b = record {
  some_version = b.some_version;
  most_version = b.most_version;
  first = λ one. (let none : n ≡ 0 = b.first one in omega (arith, none));
  most = omega
      (arith, b.most);
}

-- a word with some of its terms
abbrev part : Said → List Term → Said
part s terms = record { station = s.station; word = s.word; terms = terms }

term_line_of : (r : ℕ) (t : Term) → r < 4096 → IsTerm r t → IsTermLine t
term_line_of r t few is = record { to = is.to; some_factor = is.some_factor; factor = is.factor; station = is.station; round = omega (arith, is.no_later, few); symbol = is.symbol }

-- the terms of a word, one after another
terms_reached : (version : ℕ) (done : List Turn) (place : Place version done) (ws : List Said) (s : Said) (before rest : List Term) → length done < 4096 → IsSaid (length done) s
    → s.terms ≡ before ++ rest
    → Bound version (place.base + said_terms (ws ++ s ∷ [])) → Reached version (done ++ place.with_words (ws ++ part s before ∷ []) ∷ [])
    → Reached version (done ++ place.with_words (ws ++ s ∷ []) ∷ [])
terms_reached version done place ws s before [] few is split bound reached =
    let whole : part s before ≡ s = ap (part s) (sym (split ∙ append-nil before)) in
    subst (λ (w : Said). Reached version (done ++ place.with_words (ws ++ w ∷ []) ∷ [])) whole reached
terms_reached version done place ws s before (t ∷ rest) few is split bound reached =
    let rising : AreTermsRising (before ++ t ∷ rest) = subst AreTermsRising split is.rising in
    let is_term : IsTerm (length done) t = middle (IsTerm (length done)) before rest t (subst (All (IsTerm (length done))) split is.are_terms) in
    let many : length s.terms ≡ length before + length (t ∷ rest) = ap length split ∙ length-append before (t ∷ rest) in
    let total : place.base + said_terms (ws ++ s ∷ []) ≡ place.base + (said_terms ws + length s.terms) = ap (λ (n : ℕ). place.base + n) (terms_of_last ws s) in
    let so_far : script_terms (done ++ place.with_words (ws ++ part s before ∷ []) ∷ []) ≡ place.base + (said_terms ws + length before) = place.total (ws ++ part s before ∷ [])
    ∙ ap (λ (n : ℕ). place.base + n) (terms_of_last ws (part s before)) in
    let room : reached.terms < most_terms = omega (arith, reached.counted.count, so_far, total, many, bound.most) in
    let none : term_fault (length done) reached.terms before t ≡ None = no_fault (length done) reached.terms before t is_term.no_later (next_term before rest t rising) room in
    let two : version ≡ 2 = second_version version (place.base + said_terms (ws ++ s ∷ [])) bound.some_version bound.most_version bound.first (omega (arith, total, many)) in
    let more = one_more_item version (done ++ place.with_words (ws ++ part s before ∷ []) ∷ []) (AddLine t) (done ++ place.with_words (ws ++ part s (before ++ t ∷ []) ∷ []) ∷ []) reached
    (two, term_line_of (length done) t few is_term) (place.adds reached.terms ws (part s before) t none) in
    terms_reached version done place ws s (before ++ t ∷ []) rest few is (split ∙ sym (append_assoc before (t ∷ []) rest)) bound more

-- ---- word after word

-- a station of a rising list comes next
next_is : (xs ys : List Said) (y : Said) → IsStrictlyIncreasing (stations_of (xs ++ y ∷ ys)) → is_above_last y.station xs ≡ true
next_is [] ys y up = refl
next_is (x ∷ xs) ys y up =
    let front : List Said = x ∷ xs in
    let none : Said = record { station = 0; word = []; terms = [] } in
    let all : stations_of (front ++ y ∷ ys) ≡ stations_of front ++ y.station ∷ stations_of ys = map-append (λ (s : Said). s.station) front (y ∷ ys) in
    let long : length (stations_of front) ≡ length front = length-map front (λ (s : Said). s.station) in
    let next : length front - 1 + 1 ≡ length front = omega arith in
    let rising : IsStrictlyIncreasing (stations_of front ++ y.station ∷ stations_of ys) = subst IsStrictlyIncreasing all up in
    let last : get_or (stations_of front) (length front - 1) 0 ≡ (last_said front).station = get_or-map (λ (s : Said). s.station) front (length front - 1) none 0 (omega arith) in
    let left : get_or (stations_of front ++ y.station ∷ stations_of ys) (length front - 1) 0 ≡ get_or (stations_of front) (length front - 1) 0 = get_or-append (stations_of front)
    (y.station ∷ stations_of ys) 0 (length front - 1) (omega (arith, long)) in
    let here : get_or (stations_of front ++ y.station ∷ stations_of ys) (length front - 1 + 1) 0 ≡ y.station = ap (λ (k : ℕ). get_or (stations_of front ++ y.station ∷ stations_of ys) k 0)
    (next ∙ sym long) ∙ get_or-append_seam (stations_of front) y.station (stations_of ys) 0 in
    let below : get_or (stations_of front ++ y.station ∷ stations_of ys) (length front - 1) 0 < get_or (stations_of front ++ y.station ∷ stations_of ys) (length front - 1 + 1) 0 = rising
    (length front - 1) (omega (arith, long, length-append (stations_of front) (y.station ∷ stations_of ys))) in
    let some : (length front == 0) ≡ false = ne_eqb (length front) 0 (λ z. absurd (omega arith)) in
    rw (some, lt-ltb (last_said front).station y.station (omega (arith, last, left, here, below))) refl

said_terms-append : (xs ys : List Said) → said_terms (xs ++ ys) ≡ said_terms xs + said_terms ys
said_terms-append xs ys = sum_by-append (λ (said : Said). length said.terms) xs ys

-- the words of a place, one after another
words_reached : (version : ℕ) (done : List Turn) (place : Place version done) (xs ys : List Said) → length done < 4096 → AreSaid (length done) (xs ++ ys)
    → Bound version (place.base + said_terms (xs ++ ys))
    → Reached version (done ++ place.with_words xs ∷ []) → Reached version (done ++ place.with_words (xs ++ ys) ∷ [])
words_reached version done place xs [] few are bound reached = rw append-nil reached
words_reached version done place xs (y ∷ ys) few are bound reached =
    let is : IsSaid (length done) y = middle (IsSaid (length done)) xs ys y are.are_said in
    let e : ℕ × List ℕ = (y.station, y.word) in
    let said = one_more_item version (done ++ place.with_words xs ∷ []) (place.line_of e) (done ++ place.with_words (xs ++ plain_said e ∷ []) ∷ []) reached
    (place.entry e (is.station, is.is_word)) (place.puts reached.terms xs e (next_is xs ys y are.stations_rise)) in
    let same : (xs ++ y ∷ []) ++ ys ≡ xs ++ y ∷ ys = append_assoc xs (y ∷ []) ys in
    let less : place.base + said_terms (xs ++ y ∷ []) ≤ place.base + said_terms (xs ++ y ∷ ys) = omega (arith, ap said_terms same, said_terms-append (xs ++ y ∷ []) ys) in
    let more = terms_reached version done place xs y [] y.terms few is refl (less_bound version _ _ less bound) said in
    subst (λ (ws : List Said). Reached version (done ++ place.with_words ws ∷ [])) same
    (words_reached version done place (xs ++ y ∷ []) ys few (subst (AreSaid (length done)) (sym same) are)
    (subst (λ (ws : List Said). Bound version (place.base + said_terms ws)) (sym same) bound) more)

-- ---- turn after turn

-- a delivery, whichever
delivery_reached : (version : ℕ) (done : List Turn) (says : List Said) (d : Delivery) → length done < 4096 → IsTurn (length done) (record { says = says; delivery = d })
    → Bound version (script_terms (done ++ record { says = says; delivery = d } ∷ []))
    → Reached version (done ++ record { says = says; delivery = each [] } ∷ []) → Reached version (done ++ record { says = says; delivery = d } ∷ [])
unfolding dealt_place
delivery_reached version done says all_sum few is bound reached =
    one_more_item version (done ++ record { says = says; delivery = each [] } ∷ []) AllLine (done ++ record { says = says; delivery = all_sum } ∷ []) reached tt
    (all_at done (record { says = says; delivery = each [] }))
delivery_reached version done says (each dealt) few is bound reached =
    let place = dealt_place version done says in
    words_reached version done place [] dealt few (is.dealt_words dealt refl) (subst (Bound version) (place.total dealt) bound) reached

-- a turn has a delivery
delivered_turn : (d : Delivery) → ((dealt : List Said) → d ≡ each dealt → 1 ≤ length dealt) → is_undelivered d ≡ false
delivered_turn all_sum some = refl
delivered_turn (each dealt) some = let there : 1 ≤ length dealt = some dealt refl in ne_eqb (length dealt) 0 (λ z. absurd (omega arith))

-- the turns before, and the next one
turns_before : (done rest : List Turn) → AreTurns (done ++ rest) → AreTurns done
turns_before done rest are r d lt = rw (← get_or-append done rest d r lt) (are r d (omega (arith, lt, length-append done rest)))

turn_at : (done rest : List Turn) (t : Turn) → AreTurns (done ++ t ∷ rest) → IsTurn (length done) t
turn_at done rest t are = rw (get_or-append_seam done t rest t) at (are (length done) t (omega (arith, length-append done (t ∷ rest))))

-- turns do not wait
pub turns_done : (turns : List Turn) → AreTurns turns → is_waiting turns ≡ false
turns_done turns are = elim (last_or_none turns) [
  | inl none ↦ rw none refl
  | inr some ↦ (
      let last : IsTurn (length some.done) some.last = turn_at some.done [] some.last (subst AreTurns some.is are) in
      rw some.is (waits some.done some.last ∙ delivered_turn some.last.delivery last.some_dealt))
]

-- a round begins
begun_reached : (version : ℕ) (done : List Turn) → AreTurns done → length done < 4096 → Reached version done → Reached version (done ++ begun_turn ∷ [])
begun_reached version done are few reached =
    let begun : with_round done (length done) ≡ Ok (done ++ begun_turn ∷ []) = rw (turns_done done are, eq-eqb (length done) (length done) refl, lt-leb 4096 (length done) few) refl in
    one_more_item version done (RoundLine (length done)) (done ++ begun_turn ∷ []) reached (omega arith) begun

-- one more turn
turn_reached : (version : ℕ) (done : List Turn) (t : Turn) → AreTurns done → IsTurn (length done) t → length done < 4096 → Bound version (script_terms (done ++ t ∷ []))
    → Reached version done → Reached version (done ++ t ∷ [])
unfolding said_place
turn_reached version done t are is few bound reached =
    let place = said_place version done in
    let less : script_terms done + said_terms t.says ≤ script_terms (done ++ t ∷ []) = omega (arith, terms_and_one done t) in
    delivery_reached version done t.says t.delivery few is bound
    (words_reached version done place [] t.says few is.said (less_bound version (script_terms done + said_terms t.says) (script_terms (done ++ t ∷ [])) less bound)
    (begun_reached version done are few reached))

script_terms-append : (xs ys : List Turn) → script_terms (xs ++ ys) ≡ script_terms xs + script_terms ys
script_terms-append xs ys = sum_by-append turn_terms xs ys

-- turn after turn
turns_reached : (version : ℕ) (done rest : List Turn) → AreTurns (done ++ rest) → length done + length rest ≤ 4096 → Bound version (script_terms (done ++ rest)) → Reached version done
    → Reached version (done ++ rest)
turns_reached version done [] are few bound reached = rw append-nil reached
turns_reached version done (t ∷ rest) are few bound reached =
    let same : (done ++ t ∷ []) ++ rest ≡ done ++ t ∷ rest = append_assoc done (t ∷ []) rest in
    let less : script_terms (done ++ t ∷ []) ≤ script_terms (done ++ t ∷ rest) = omega (arith, ap script_terms same, script_terms-append (done ++ t ∷ []) rest) in
    let more = turn_reached version done t (turns_before done (t ∷ rest) are) (turn_at done rest t are) (omega arith) (less_bound version _ _ less bound) reached in
    subst (Reached version) same (turns_reached version (done ++ t ∷ []) rest (subst AreTurns (sym same) are) (omega (arith, length-append done (t ∷ [])))
    (subst (λ (ts : List Turn). Bound version (script_terms ts)) (sym same) bound) more)

script_reached : (s : Script) → IsScript s → Reached s.version s.rounds
script_reached s is =
    turns_reached s.version [] s.rounds is.are_turns (omega (arith, is.most_rounds))
    (record { some_version = is.some_version; most_version = is.most_version; first = is.first_version; most = is.most_terms })
    (record { texts = []; are_lines = All-nil IsTextLine; terms = 0; made = refl; counted = record { count = refl; most = omega arith; first = λ _. refl } })

-- ---- the head line

head_is_text : (version : ℕ) → version ≤ 2 → IsTextLine (codes "dcscript " ++ decimal version)
head_is_text version most = joined (codes "dcscript ") (decimal version) (printable_by_test (codes "dcscript ") refl) (number_is_text version (omega arith))

-- a file of a head line and other lines is read by its version
read_first : (bytes : List ℕ) (rounds : List Turn) (lines : List Line) → file_lines bytes ≡ ended (codes "dcscript 1") ∷ lines
    → after_head 1 lines ≡ Ok (record { version = 1; rounds = rounds }) → script_by_turns bytes ≡ Ok (record { version = 1; rounds = rounds })
unfolding script_by_turns
read_first bytes rounds lines whole body = rw whole body

read_second : (bytes : List ℕ) (rounds : List Turn) (lines : List Line) → file_lines bytes ≡ ended (codes "dcscript 2") ∷ lines
    → after_head 2 lines ≡ Ok (record { version = 2; rounds = rounds }) → script_by_turns bytes ≡ Ok (record { version = 2; rounds = rounds })
unfolding script_by_turns
read_second bytes rounds lines whole body = rw whole body

-- reading by a head line of this version
abbrev Reads : ℕ → List ℕ → List Turn → List Line → Type 0
Reads version bytes rounds lines = file_lines bytes ≡ ended (codes "dcscript " ++ decimal version) ∷ lines → after_head version lines ≡ Ok (record { version = version; rounds = rounds })
    → script_by_turns bytes ≡ Ok (record { version = version; rounds = rounds })

read_one : (bytes : List ℕ) (rounds : List Turn) (lines : List Line) → Reads 1 bytes rounds lines
read_one bytes rounds lines whole body = read_first bytes rounds lines (whole ∙ ap (λ (h : List ℕ). ended h ∷ lines) (sym first_head)) body

read_two : (bytes : List ℕ) (rounds : List Turn) (lines : List Line) → Reads 2 bytes rounds lines
read_two bytes rounds lines whole body = read_second bytes rounds lines (whole ∙ ap (λ (h : List ℕ). ended h ∷ lines) (sym second_head)) body

by_version : (v w : ℕ) → v ≡ w → (bytes : List ℕ) (rounds : List Turn) (lines : List Line) → file_lines bytes ≡ ended (codes "dcscript " ++ decimal v) ∷ lines
    → after_head v lines ≡ Ok (record { version = v; rounds = rounds }) → Reads w bytes rounds lines
    → script_by_turns bytes ≡ Ok (record { version = v; rounds = rounds })
by_version v w same bytes rounds lines whole body reads = (subst (λ (n : ℕ). Reads n bytes rounds lines) (sym same) reads) whole body

-- the spelling of a script is read as it
pub script_read : (bytes : List ℕ) (s : Script) → IsScript s → bytes ≡ script_text s → script_by_turns bytes ≡ Ok s
script_read bytes s is e =
    let reached = script_reached s is in
    let so_far : Progress = record { turns = s.rounds; terms = reached.terms } in
    let head : List ℕ = codes "dcscript " ++ decimal s.version in
    let body : lines_from 0 s.rounds ≡ text_file reached.texts = texts_spelled (with_text s.version) progress_lines (text_lines s.version) no_progress so_far reached.texts reached.made in
    let whole : file_lines bytes ≡ ended head ∷ map ended reached.texts =
    ap file_lines (e ∙ ap (λ (ls : List ℕ). line head ++ ls) body)
    ∙ lines_of_text_file (head ∷ reached.texts) (All-cons IsTextLine head reached.texts (head_is_text s.version is.most_version) reached.are_lines) in
    let read = lines_of_texts script_fault NotText (with_text s.version) 2 no_progress so_far reached.texts reached.are_lines reached.made in
    let rounds : after_head s.version (map ended reached.texts) ≡ Ok (record { version = s.version; rounds = s.rounds }) = rw (read, turns_done s.rounds is.are_turns) refl in
    elim (cases_lt s.version 2) [
      | inl less ↦ by_version s.version 1 (omega (arith, is.some_version, less)) bytes s.rounds (map ended reached.texts) whole rounds (read_one bytes s.rounds (map ended reached.texts))
      | inr more ↦ by_version s.version 2 (omega (arith, is.most_version, more)) bytes s.rounds (map ended reached.texts) whole rounds (read_two bytes s.rounds (map ended reached.texts))
    ]

-- what is spelled so is read
pub answer_only : (bytes : List ℕ) (r : Result Script (Refusal ScriptFault)) → Answers r (script_by_turns bytes) → (s : Script) → IsScript s → bytes ≡ script_text s → Answers r (Ok s)
answer_only bytes r h s is e = subst (λ (due : Result Script ScriptFault). Answers r due) (script_read bytes s is e) h
