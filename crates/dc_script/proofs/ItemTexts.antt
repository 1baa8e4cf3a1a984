-- Items are read as they are written.
use Rattle.std.proofs.Common.{◌≡◌, ℕ, ◌+◌, ◌-◌, ◌*◌, ◌≤◌, ◌==◌, Bool, true, false, cond, List, [], ◌∷◌, ◌++◌, length, take, drop, get_or, Option, Some, None, Result, Ok, Err, map, refl, sym, ◌∙◌, ap, subst, arith, codes, append_assoc, inl, inr, is_none}
use Rattle.std.specs.Prelude.{bytes_eq, nat_eq, nat_lt, option_map, position}
use Rattle.std.specs.List.{starts_with}
use Rattle.std.specs.Fmt.{decimal}
use Rattle.std.proofs.Math.Seq.{take-append_seam, get_or-append_seam, drop-append-add}
use Rattle.std.proofs.lemmas.Bool.{ltb-false, le-ltb, eqb-true}
use Rattle.std.proofs.lemmas.Slice.Eq.{bytes_eq-Decides}
use Rattle.std.proofs.lemmas.List.{length-append, take-append-drop, drop_more}
use Rattle.std.proofs.lemmas.Bool.{cases_Bool}
use Rattle.dc_spec.specs.Words.{IsWord}
use Rattle.dc_spec.proofs.WordLemmas.{length-word_of}
use Rattle.dc_spec.proofs.ByteLemmas.{length_of_pieces}
use Rattle.dc_spec.specs.Text.{symbol_text, word_text}
use Rattle.dc_field.specs.NumberInText.{number_in}
use Rattle.dc_field.specs.WordInBytes.{judged, word_of_numbers}
use Rattle.dc_field.specs.WordInText.{digit_in, count_of, symbol_at, numbers_of, told_in_text, word_of_digits, word_of_text}
use Rattle.dc_field.specs.declared.word_from_bytes.SymFault.{SymFault}
use Rattle.dc_field.specs.declared.word_from_text.WordFault.{WordFault}
use Rattle.dc_field.specs.declared.word_from_text.WordFault.TheVariants.{Length}
use Rattle.dc_field.proofs.NumberText.{number_in-decimal, written_so}
use Rattle.dc_field.proofs.FirstAbove.{IsWord-from_position}
use Rattle.dc_field.proofs.WordText.{word_text-word_of_text, word_of_text-word_text}
use Rattle.dc_script.specs.declared.item.Item.{Item}
use Rattle.dc_script.specs.declared.item.Item.TheVariants.{RoundLine, SayLine, AllLine, ToLine, AddLine}
use Rattle.dc_script.specs.Items.{station_with_word, entry_in, term_in, item_in, item_text, IsEntry, IsItem}
use Rattle.dc_script.proofs.TermTexts.{term_in-spelled, term_found, tail_of}

-- an entry, cut where its blank stands
entry_of_parts : (number w : List ℕ) → length w ≡ 80 → entry_in ((number ++ codes " ") ++ w) ≡ station_with_word (number_in number) (word_of_text w)
entry_of_parts number w eighty =
    let apart : (number ++ 32 ∷ []) ++ w ≡ number ++ 32 ∷ w = append_assoc number (32 ∷ []) w in
    let blank : length ((number ++ 32 ∷ []) ++ w) - 81 ≡ length number = omega (arith, length-append (number ++ 32 ∷ []) w, length-append number (32 ∷ [])) in
    let long : nat_lt (length ((number ++ 32 ∷ []) ++ w)) 81 ≡ false = le-ltb _ _ (omega (arith, length-append (number ++ 32 ∷ []) w, length-append number (32 ∷ []))) in
    let there : get_or ((number ++ 32 ∷ []) ++ w) (length number) 0 ≡ 32 = ap (λ (t : List ℕ). get_or t (length number) 0) apart ∙ get_or-append_seam number 32 w 0 in
    let front : take (length number) ((number ++ 32 ∷ []) ++ w) ≡ number = ap (take (length number)) apart ∙ take-append_seam number (32 ∷ w) in
    let rest : drop (length number + 1) ((number ++ 32 ∷ []) ++ w) ≡ w = ap (drop (length number + 1)) apart ∙ drop-append-add number (32 ∷ w) 1 in
    rw (long, blank, there, front, rest) refl

-- an entry that is written is read
entry_in-spelled : (e : ℕ × List ℕ) → IsEntry e → entry_in ((decimal e.0 ++ codes " ") ++ word_text e.1) ≡ Some e
entry_in-spelled e is =
    let eighty : length (word_text e.1) ≡ 80 = omega (arith, length_of_pieces symbol_text 5 e.1 (λ _ _ _. refl), is.1.sixteen) in
    let small : nat_lt 65535 e.0 ≡ false = le-ltb _ _ (omega arith) in
    entry_of_parts (decimal e.0) (word_text e.1) eighty ∙ rw (number_in-decimal e.0 (omega arith), word_of_text-word_text e.1 is.1, small) refl

-- an item that is written is read
pub item_in-item_text : (version : ℕ) (item : Item) → IsItem version item → item_in version (item_text item) ≡ Some item
item_in-item_text version (RoundLine r) is = rw (number_in-decimal r is) refl
item_in-item_text version (SayLine e) is = ap (option_map SayLine) (entry_in-spelled e is)
item_in-item_text version AllLine is = refl
item_in-item_text version (ToLine e) is = ap (option_map ToLine) (entry_in-spelled e is)
item_in-item_text version (AddLine term) is = rw (is.0) (ap (option_map AddLine) (term_in-spelled term is.1))

-- ---- and back

-- a choice that gave something
chosen : {X : Type 0} (b : Bool) (o : Option X) (x : X) → cond b o None ≡ Some x → (b ≡ true) × (o ≡ Some x)
chosen true o x e = (refl, e)
chosen false o x e = absurd cc

-- a choice of nothing that gave something
not_chosen : {X : Type 0} (b : Bool) (o : Option X) (x : X) → cond b None o ≡ Some x → (b ≡ false) × (o ≡ Some x)
not_chosen true o x e = absurd cc
not_chosen false o x e = (refl, e)

-- the numbers that were judged are the word, and none of them is too great
judged_ok : (numbers w : List ℕ) (o : Option ℕ) → judged numbers o ≡ Ok w → (o ≡ None) × (numbers ≡ w)
judged_ok numbers w None e = (refl, cc)
judged_ok numbers w (Some l) e = absurd cc

told_ok : (r : Result (List ℕ) SymFault) (w : List ℕ) → told_in_text r ≡ Ok w → r ≡ Ok w
told_ok (Ok v) w e = cc
told_ok (Err fault) w e = absurd cc

digits_ok : (text w : List ℕ) (o : Option ℕ) → word_of_digits text o ≡ Ok w → word_of_numbers (numbers_of (map count_of text)) ≡ Ok w
digits_ok text w None e = told_ok _ w e
digits_ok text w (Some place) e = absurd cc

chosen_ok : {X F : Type 0} (b : Bool) (r : Result X F) (f : F) (x : X) → cond b r (Err f) ≡ Ok x → r ≡ Ok x
chosen_ok true r f x e = e
chosen_ok false r f x e = absurd cc

-- what is read is a word
word_is_word : (text w : List ℕ) → word_of_text text ≡ Ok w → IsWord w
word_is_word text w e =
    let read = digits_ok text w (position (λ c. is_none (digit_in c)) text)
    (chosen_ok (length text == 80) (word_of_digits text (position (λ c. is_none (digit_in c)) text)) (Length (length text)) w e) in
    let judged = judged_ok (numbers_of (map count_of text)) w (position (λ x. nat_lt 65536 x) (numbers_of (map count_of text))) read in
    IsWord-from_position w (ap length (sym judged.1) ∙ length-word_of (λ l. symbol_at (map count_of text) (5 * l))) (sym (ap (position (λ x. nat_lt 65536 x)) (sym judged.1) ∙ judged.0))

-- the parts of an entry
parts_found : (number word : List ℕ) (n : Option ℕ) (r : Result (List ℕ) WordFault) (e : ℕ × List ℕ) → number_in number ≡ n → word_of_text word ≡ r
    → station_with_word n r ≡ Some e → (number ≡ decimal e.0) × (word ≡ word_text e.1) × IsEntry e
parts_found number word None r e m s h = absurd cc
parts_found number word (Some i) (Err fault) e m s h = absurd cc
parts_found number word (Some i) (Ok w) e m s h =
    let small = not_chosen (nat_lt 65535 i) (Some (i, w)) e h in
    let pair : (i, w) ≡ e = cc in
    let first : i ≡ e.0 = ap (λ (d : ℕ × List ℕ). d.0) pair in
    let second : w ≡ e.1 = ap (λ (d : ℕ × List ℕ). d.1) pair in
    ((written_so number i m).1 ∙ ap decimal first, word_text-word_of_text word w s ∙ ap word_text second, (omega (arith, ltb-false _ _ small.0, first), subst IsWord second (word_is_word word w s)))

-- an entry that is read is written so
entry_found : (text : List ℕ) (e : ℕ × List ℕ) → entry_in text ≡ Some e → (text ≡ (decimal e.0 ++ codes " ") ++ word_text e.1) × IsEntry e
entry_found text e h =
    let long = not_chosen (nat_lt (length text) 81) (cond (get_or text (length text - 81) 0 == 32)
    (station_with_word (number_in (take (length text - 81) text)) (word_of_text (drop (length text - 81 + 1) text))) None) e h in
    let blank = chosen (get_or text (length text - 81) 0 == 32) (station_with_word (number_in (take (length text - 81) text)) (word_of_text (drop (length text - 81 + 1) text))) e long.1 in
    let parts = parts_found (take (length text - 81) text) (drop (length text - 81 + 1) text) (number_in (take (length text - 81) text))
    (word_of_text (drop (length text - 81 + 1) text)) e refl refl blank.1 in
    let room : 81 ≤ length text = ltb-false _ _ long.0 in
    let rest : drop (length text - 81) text ≡ 32 ∷ word_text e.1 = drop_more text (length text - 81) 0 (omega arith)
    ∙ ap (λ (c : ℕ). c ∷ drop (length text - 81 + 1) text) (eqb-true _ _ blank.0) ∙ ap (λ (w : List ℕ). 32 ∷ w) parts.1 in
    (sym (take-append-drop (length text - 81) text) ∙ rw (parts.0, rest) (sym (append_assoc (decimal e.0) (32 ∷ []) (word_text e.1))), parts.2)

-- a text with a beginning
begins : (text p : List ℕ) → starts_with nat_eq text p ≡ true → text ≡ p ++ drop (length p) text
begins text p h = sym (take-append-drop (length p) text) ∙ ap (λ (front : List ℕ). front ++ drop (length p) text) (sym ((bytes_eq-Decides p (take (length p) text)).0 h))

-- what was made of something
mapped : {X Y : Type 0} (f : X → Y) (o : Option X) (y : Y) → option_map f o ≡ Some y → (x : X) × (o ≡ Some x) × (f x ≡ y)
mapped f None y e = absurd cc
mapped f (Some x) y e = (x, refl, cc)

-- an item is written so
abbrev pub IsSpelled : ℕ → List ℕ → Item → Type 0
IsSpelled version text item = (text ≡ item_text item) × IsItem version item

say_found : (version : ℕ) (text : List ℕ) (item : Item) → starts_with nat_eq text (codes "say ") ≡ true → option_map SayLine (entry_in (drop 4 text)) ≡ Some item → IsSpelled version text item
say_found version text item has e =
    let made = mapped SayLine (entry_in (drop 4 text)) item e in
    let found = entry_found (drop 4 text) made.0 made.1 in
    subst (IsSpelled version text) made.2 (begins text (codes "say ") has ∙ ap (λ (rest : List ℕ). codes "say " ++ rest) found.0, found.1)

to_found : (version : ℕ) (text : List ℕ) (item : Item) → starts_with nat_eq text (codes "to ") ≡ true → option_map ToLine (entry_in (drop 3 text)) ≡ Some item → IsSpelled version text item
to_found version text item has e =
    let made = mapped ToLine (entry_in (drop 3 text)) item e in
    let found = entry_found (drop 3 text) made.0 made.1 in
    subst (IsSpelled version text) made.2 (begins text (codes "to ") has ∙ ap (λ (rest : List ℕ). codes "to " ++ rest) found.0, found.1)

round_found : (version : ℕ) (text : List ℕ) (item : Item) → starts_with nat_eq text (codes "round ") ≡ true → option_map RoundLine (number_in (drop 6 text)) ≡ Some item → IsSpelled version text item
round_found version text item has e =
    let made = mapped RoundLine (number_in (drop 6 text)) item e in
    let found = written_so (drop 6 text) made.0 made.1 in
    subst (IsSpelled version text) made.2 (begins text (codes "round ") has ∙ ap (λ (rest : List ℕ). codes "round " ++ rest) found.1, found.0)

add_found : (version : ℕ) (text : List ℕ) (item : Item) → starts_with nat_eq text (codes "add ") ≡ true → cond (version == 2) (option_map AddLine (term_in (drop 4 text))) None ≡ Some item
    → IsSpelled version text item
add_found version text item has e =
    let second = chosen (version == 2) (option_map AddLine (term_in (drop 4 text))) item e in
    let made = mapped AddLine (term_in (drop 4 text)) item second.1 in
    let found = term_found (drop 4 text) made.0 made.1 in
    subst (IsSpelled version text) made.2 (begins text (codes "add ") has ∙ ap (λ (rest : List ℕ). codes "add " ++ rest) (found.0 ∙ sym (tail_of made.0)), (eqb-true _ _ second.0, found.1))

all_found : (version : ℕ) (text : List ℕ) (item : Item) → cond (bytes_eq text (codes "all")) (Some AllLine) None ≡ Some item → IsSpelled version text item
all_found version text item e =
    let made = chosen (bytes_eq text (codes "all")) (Some AllLine) item e in
    let same : AllLine ≡ item = cc in
    subst (IsSpelled version text) same ((bytes_eq-Decides text (codes "all")).0 made.0, tt)

-- what is read of a text that begins as none of the forms before
abbrev last_form : List ℕ → Option Item
last_form text = cond (bytes_eq text (codes "all")) (Some AllLine) None

abbrev from_add : ℕ → List ℕ → Option Item
from_add version text = cond (starts_with nat_eq text (codes "add ")) (cond (version == 2) (option_map AddLine (term_in (drop 4 text))) None) (last_form text)

abbrev from_round : ℕ → List ℕ → Option Item
from_round version text = cond (starts_with nat_eq text (codes "round ")) (option_map RoundLine (number_in (drop 6 text))) (from_add version text)

abbrev from_to : ℕ → List ℕ → Option Item
from_to version text = cond (starts_with nat_eq text (codes "to ")) (option_map ToLine (entry_in (drop 3 text))) (from_round version text)

not_round : (version : ℕ) (text : List ℕ) (item : Item) → from_add version text ≡ Some item → IsSpelled version text item
not_round version text item e = elim (cases_Bool (starts_with nat_eq text (codes "add "))) [
  | inl has ↦ add_found version text item has (rw has at e)
  | inr lacks ↦ all_found version text item (rw lacks at e)
]

not_to : (version : ℕ) (text : List ℕ) (item : Item) → from_round version text ≡ Some item → IsSpelled version text item
not_to version text item e = elim (cases_Bool (starts_with nat_eq text (codes "round "))) [
  | inl has ↦ round_found version text item has (rw has at e)
  | inr lacks ↦ not_round version text item (rw lacks at e)
]

not_say : (version : ℕ) (text : List ℕ) (item : Item) → from_to version text ≡ Some item → IsSpelled version text item
not_say version text item e = elim (cases_Bool (starts_with nat_eq text (codes "to "))) [
  | inl has ↦ to_found version text item has (rw has at e)
  | inr lacks ↦ not_to version text item (rw lacks at e)
]

-- an item that is read is written so
pub item_found : (version : ℕ) (text : List ℕ) (item : Item) → item_in version text ≡ Some item → IsSpelled version text item
item_found version text item e = elim (cases_Bool (starts_with nat_eq text (codes "say "))) [
  | inl has ↦ say_found version text item has (rw has at e)
  | inr lacks ↦ not_say version text item (rw lacks at e)
]
