-- One more line keeps lines in order, and the line of a term makes of the lines what it makes of their turns.
use Rattle.std.proofs.Common.{◌≡◌, ℕ, ◌+◌, ◌-◌, ◌<◌, ◌==◌, Bool, true, false, not, ◌||◌, cond, List, [], ◌∷◌, ◌++◌, length, map, Option, Some, None, Err, refl, sym, ◌∙◌, ap, subst, inl, inr, arith, append_assoc}
use Rattle.std.specs.Prelude.{nat_le, nat_lt}
use Rattle.std.specs.List.{list_any}
use Rattle.std.proofs.lemmas.Bool.{leb-false, or_parts, not-true}
use Rattle.std.proofs.lemmas.List.{length-append, length-map}
use Rattle.dc_spec.specs.Limits.{most_terms}
use Rattle.dc_spec.specs.Scripts.{Term, Said, each, Turn}
use Rattle.dc_script.specs.declared.fault.ScriptKind.{ScriptKind}
use Rattle.dc_script.specs.declared.fault.ScriptKind.TheVariants.{Misplaced, Late, Unordered, Terms}
use Rattle.dc_script.specs.declared.item.Item.{Item}
use Rattle.dc_script.specs.declared.item.Item.TheVariants.{RoundLine, SayLine, AllLine, ToLine, AddLine}
use Rattle.dc_script.specs.Turns.{reported_round, said_with, term_fault, with_add}
use Rattle.dc_script.specs.Lines.{is_round, rounds_in, round_count, since_round, said, dealt, has_all, has_delivery, lacks_delivery, order_fault, last_item, may_be_added_to, is_above_before, term_count, item_fault, turn_of_items, turns_of_items}
use Rattle.dc_script.proofs.LastTurn.{term_after, term_at, says_after, words_after, add_sum, add_says, add_words}
use Rattle.dc_script.proofs.LinesAndTurns.{any_more, turns_last, since_last, lacks_at, more_all, made, Made}
use Rattle.dc_script.proofs.LinesInOrder.{adds, says_at, deals_at, word_of_lines, says_turn, deals_turn, longer, last_item_is, Follows, follows, round_after, Shape, begun, summed, saying, dealing, InRound, InOrder, rounds_are}

-- ---- one more line in order

-- a line that begins no round
grown : (items : List Item) (at : InRound items) (x : Item) → is_round x ≡ false → Shape (at.part ++ x ∷ []) → InOrder (items ++ x ∷ [])
grown items at x other shape = inr (record {
  front = at.front;
  number = at.number;
  part = at.part ++ x ∷ [];
  is = ap (λ (ls : List Item). ls ++ x ∷ []) at.is ∙ append_assoc at.front (RoundLine at.number ∷ at.part) (x ∷ []);
  no_round = any_more is_round at.part x ∙ rw (at.no_round, other) refl;
  shape = shape;
})

-- a choice without a fault
first_passed : (a : Bool) (f : ScriptKind) (o : Option ScriptKind) → cond (not a) (Some f) o ≡ None → a ≡ true
first_passed true f o e = refl
first_passed false f o e = absurd cc

first_failed : (a : Bool) (f : ScriptKind) (o : Option ScriptKind) → cond a (Some f) o ≡ None → a ≡ false
first_failed true f o e = absurd cc
first_failed false f o e = refl

nothing : (xs : List Said) → nat_le 1 (length xs) ≡ false → xs ≡ []
nothing [] e = refl
nothing (x ∷ xs) e = absurd (let short : length (x ∷ xs) < 1 = leb-false _ _ e in omega arith)

-- where a delivery is lacking, the part has none
lacking : (items : List Item) (at : InRound items) → lacks_delivery items ≡ true → (has_all at.part ≡ false) × (dealt at.part ≡ [])
lacking items at lacks =
    let none : has_delivery at.part ≡ false = not-true _ (sym (lacks_at items (rounds_in at.front) at.part (rounds_are items at)) ∙ lacks) in
    let parts = or_parts (has_all at.part) (nat_le 1 (length (dealt at.part))) none in
    (parts.0, nothing (dealt at.part) parts.1)

no_lines : {X : Type 0} (items : List Item) → items ≡ [] → lacks_delivery items ≡ true → X
no_lines items none lacks = absurd (let no : false ≡ true = rw none at lacks in cc)

say_in_order : (items : List Item) (e : ℕ × List ℕ) → InOrder items → item_fault items (SayLine e) ≡ None → InOrder (items ++ SayLine e ∷ [])
say_in_order items e (inl none) passed = no_lines items none (first_passed (lacks_delivery items) Misplaced (order_fault e.0 (said (since_round items))) passed)
say_in_order items e (inr at) passed =
    let parts = lacking items at (first_passed (lacks_delivery items) Misplaced (order_fault e.0 (said (since_round items))) passed) in
    grown items at (SayLine e) refl (saying at.part e [] parts.0 parts.1 refl)

all_in_order : (items : List Item) → InOrder items → item_fault items AllLine ≡ None → InOrder (items ++ AllLine ∷ [])
all_in_order items (inl none) passed = no_lines items none (first_passed (lacks_delivery items) Misplaced None passed)
all_in_order items (inr at) passed = grown items at AllLine refl (summed at.part refl)

to_in_order : (items : List Item) (e : ℕ × List ℕ) → InOrder items → item_fault items (ToLine e) ≡ None → InOrder (items ++ ToLine e ∷ [])
to_in_order items e (inl none) passed = absurd (let no : Some Misplaced ≡ None = rw none at passed in cc)
to_in_order items e (inr at) passed =
    let parts = or_parts (round_count items == 0) (has_all (since_round items))
    (first_failed (round_count items == 0 || has_all (since_round items)) Misplaced (order_fault e.0 (dealt (since_round items))) passed) in
    let free : has_all at.part ≡ false = ap has_all (sym (since_last items (rounds_in at.front) at.part (rounds_are items at))) ∙ parts.1 in
    grown items at (ToLine e) refl (dealing at.part e [] free refl)

-- where lines of this shape may have one more term
more_shape : (front p : List Item) (r : ℕ) (t : Term) → Shape p → may_be_added_to (last_item (front ++ RoundLine r ∷ p)) ≡ true → Shape (p ++ AddLine t ∷ [])
more_shape front p r t (begun is) may = absurd (let no : false ≡ true = rw (is, last_item_is front (RoundLine r)) at may in cc)
more_shape front p r t (summed q is) may =
    let last : last_item (front ++ RoundLine r ∷ p) ≡ Some AllLine = ap (λ (ls : List Item). last_item (front ++ RoundLine r ∷ ls)) is
    ∙ ap last_item (sym (append_assoc front (RoundLine r ∷ q) (AllLine ∷ []))) ∙ last_item_is (front ++ RoundLine r ∷ q) AllLine in
    absurd (let no : false ≡ true = rw last at may in cc)
more_shape front p r t (saying q e terms none free is) may = saying q e (terms ++ t ∷ []) none free (ap (λ (ls : List Item). ls ++ AddLine t ∷ []) is ∙ longer q (SayLine e) terms t)
more_shape front p r t (dealing q e terms none is) may = dealing q e (terms ++ t ∷ []) none (ap (λ (ls : List Item). ls ++ AddLine t ∷ []) is ∙ longer q (ToLine e) terms t)

add_in_order : (items : List Item) (t : Term) → InOrder items → item_fault items (AddLine t) ≡ None → InOrder (items ++ AddLine t ∷ [])
add_in_order items t (inl none) passed = absurd (let no : Some Misplaced ≡ None = rw none at passed in cc)
add_in_order items t (inr at) passed =
    let may : may_be_added_to (last_item items) ≡ true = first_passed (may_be_added_to (last_item items)) Misplaced
    (cond (nat_lt (round_count items - 1) t.round) (Some (Late t.round (reported_round (round_count items - 1))))
    (cond (not (is_above_before t (last_item items))) (Some Unordered) (cond (nat_le most_terms (term_count items)) (Some Terms) None))) passed in
    grown items at (AddLine t) refl (more_shape at.front at.part at.number t at.shape (ap (λ (ls : List Item). may_be_added_to (last_item ls)) (sym at.is) ∙ may))

pub item_in_order : (items : List Item) (x : Item) → InOrder items → item_fault items x ≡ None → InOrder (items ++ x ∷ [])
item_in_order items (RoundLine r) in_order passed = inr (record { front = items; number = r; part = []; is = refl; no_round = refl; shape = begun refl })
item_in_order items (SayLine e) in_order passed = say_in_order items e in_order passed
item_in_order items AllLine in_order passed = all_in_order items in_order passed
item_in_order items (ToLine e) in_order passed = to_in_order items e in_order passed
item_in_order items (AddLine t) in_order passed = add_in_order items t in_order passed

-- ---- one more term

-- the fault of a term that may follow
fault_is : (items : List Item) (k c : ℕ) (terms : List Term) (t : Term) → Follows items terms t → round_count items - 1 ≡ k → nat_le most_terms (term_count items) ≡ nat_le most_terms c
    → item_fault items (AddLine t) ≡ term_fault k c terms t
fault_is items k c terms t after number room = rw (after.may, number, after.above, room) refl

-- the turns before the last round
abbrev turns_before : List Item → List Turn
turns_before front = map turn_of_items (rounds_in front)

-- lines of a round
abbrev in_round : List Item → ℕ → List Item → List Item
in_round front r p = front ++ RoundLine r ∷ p

number_is : (front p : List Item) (r : ℕ) → list_any is_round p ≡ false → round_count (in_round front r p) - 1 ≡ length (turns_before front)
number_is front p r none =
    let rounds : length (rounds_in (in_round front r p)) ≡ length (rounds_in front) + 1 = ap length (round_after front p r none) ∙ length-append (rounds_in front) (p ∷ []) in
    omega (arith, rounds, length-map (rounds_in front) turn_of_items)

turns_are : (front p : List Item) (r : ℕ) → list_any is_round p ≡ false → turns_of_items (in_round front r p) ≡ turns_before front ++ turn_of_items p ∷ []
turns_are front p r none = turns_last (in_round front r p) (rounds_in front) p (round_after front p r none)

-- the turns with one more line
turns_then : (front p p_more : List Item) (r : ℕ) (t : Term) → list_any is_round p ≡ false → p ++ AddLine t ∷ [] ≡ p_more
    → turns_of_items (in_round front r p ++ AddLine t ∷ []) ≡ turns_before front ++ turn_of_items p_more ∷ []
turns_then front p p_more r t none longer_is =
    let lines : in_round front r p ++ AddLine t ∷ [] ≡ in_round front r p_more = append_assoc front (RoundLine r ∷ p) (AddLine t ∷ []) ∙ ap (in_round front r) longer_is in
    let free : list_any is_round p_more ≡ false = ap (list_any is_round) (sym longer_is) ∙ any_more is_round p (AddLine t) ∙ rw none refl in
    ap turns_of_items lines ∙ turns_are front p_more r free

says_made : (done : List Turn) (ws : List Said) (w : Said) (t : Term) (o : Option ScriptKind)
    → says_after done (term_after ws w t o) ≡ made (done ++ record { says = ws ++ said_with w t ∷ []; delivery = each [] } ∷ []) o
unfolding made
says_made done ws w t None = refl
says_made done ws w t (Some kind) = refl

words_made : (done : List Turn) (says ws : List Said) (w : Said) (t : Term) (o : Option ScriptKind)
    → words_after done says (term_after ws w t o) ≡ made (done ++ record { says = says; delivery = each (ws ++ said_with w t ∷ []) } ∷ []) o
unfolding made
words_made done says ws w t None = refl
words_made done says ws w t (Some kind) = refl

-- of a word that is dealt
dealt_add : (c : ℕ) (done : List Turn) (says ws : List Said) (w : Said) (t : Term)
    → with_add c (done ++ record { says = says; delivery = each (ws ++ w ∷ []) } ∷ []) t ≡ words_after done says (term_after ws w t (term_fault (length done) c w.terms t))
dealt_add c done says [] w t = add_words c done says w [] t ∙ ap (words_after done says) (term_at (length done) c [] w t)
dealt_add c done says (x ∷ ws) w t = add_words c done says x (ws ++ w ∷ []) t ∙ ap (words_after done says) (term_at (length done) c (x ∷ ws) w t)

-- where no term may follow
made_misplaced : (c : ℕ) (items : List Item) (t : Term) → may_be_added_to (last_item items) ≡ false → with_add c (turns_of_items items) t ≡ Err Misplaced → Made c items (AddLine t)
unfolding made
made_misplaced c items t may_not e = e ∙ rw may_not refl

begun_made : (c : ℕ) (front : List Item) (r : ℕ) (t : Term) → Made c (in_round front r []) (AddLine t)
begun_made c front r t =
    made_misplaced c (in_round front r []) t (rw (last_item_is front (RoundLine r)) refl)
    (ap (λ (ts : List Turn). with_add c ts t) (turns_are front [] r refl) ∙ add_says c (turns_before front) [] t)

summed_made : (c : ℕ) (front q : List Item) (r : ℕ) (t : Term) → list_any is_round (q ++ AllLine ∷ []) ≡ false → Made c (in_round front r (q ++ AllLine ∷ [])) (AddLine t)
summed_made c front q r t none =
    made_misplaced c (in_round front r (q ++ AllLine ∷ [])) t
    (ap (λ (ls : List Item). may_be_added_to (last_item ls)) (sym (append_assoc front (RoundLine r ∷ q) (AllLine ∷ []))) ∙ rw (last_item_is (front ++ RoundLine r ∷ q) AllLine) refl)
    (ap (λ (ts : List Turn). with_add c ts t) (turns_are front (q ++ AllLine ∷ []) r none ∙ ap (λ (u : Turn). turns_before front ++ u ∷ []) (more_all q)) ∙ add_sum c (turns_before front) (said q) t)

-- the line right before is of the last word
follows_in : (front q : List Item) (r : ℕ) (x : Item) (terms : List Term) (t : Term) → may_be_added_to (Some x) ≡ true → is_above_before t (Some x) ≡ true
    → Follows (in_round front r (q ++ x ∷ adds terms)) terms t
follows_in front q r x terms t may above =
    subst (λ (ls : List Item). Follows ls terms t) (append_assoc front (RoundLine r ∷ q) (x ∷ adds terms)) (follows (front ++ RoundLine r ∷ q) x terms t may above)

saying_made : (c : ℕ) (front q : List Item) (r : ℕ) (e : ℕ × List ℕ) (terms : List Term) (t : Term) → has_all q ≡ false → dealt q ≡ [] → list_any is_round (says_at q e terms) ≡ false
    → nat_le most_terms (term_count (in_round front r (says_at q e terms))) ≡ nat_le most_terms c → Made c (in_round front r (says_at q e terms)) (AddLine t)
saying_made c front q r e terms t none free no_round room =
    let done : List Turn = turns_before front in
    let w : Said = word_of_lines e terms in
    let o : Option ScriptKind = term_fault (length done) c terms t in
    let fault = fault_is (in_round front r (says_at q e terms)) (length done) c terms t (follows_in front q r (SayLine e) terms t refl refl) (number_is front (says_at q e terms) r no_round) room in
    let before = turns_are front (says_at q e terms) r no_round ∙ ap (λ (u : Turn). done ++ u ∷ []) (says_turn q e terms none free) in
    let after = turns_then front (says_at q e terms) (says_at q e (terms ++ t ∷ [])) r t no_round (longer q (SayLine e) terms t)
    ∙ ap (λ (u : Turn). done ++ u ∷ []) (says_turn q e (terms ++ t ∷ []) none free) in
    ap (λ (ts : List Turn). with_add c ts t) before
    ∙ add_says c done (said q ++ w ∷ []) t ∙ ap (says_after done) (term_at (length done) c (said q) w t)
    ∙ says_made done (said q) w t o
    ∙ ap (λ (ts : List Turn). made ts o) (sym after)
    ∙ ap (made (turns_of_items (in_round front r (says_at q e terms) ++ AddLine t ∷ []))) (sym fault)

dealing_made : (c : ℕ) (front q : List Item) (r : ℕ) (e : ℕ × List ℕ) (terms : List Term) (t : Term) → has_all q ≡ false → list_any is_round (deals_at q e terms) ≡ false
    → nat_le most_terms (term_count (in_round front r (deals_at q e terms))) ≡ nat_le most_terms c → Made c (in_round front r (deals_at q e terms)) (AddLine t)
dealing_made c front q r e terms t none no_round room =
    let done : List Turn = turns_before front in
    let w : Said = word_of_lines e terms in
    let o : Option ScriptKind = term_fault (length done) c terms t in
    let fault = fault_is (in_round front r (deals_at q e terms)) (length done) c terms t (follows_in front q r (ToLine e) terms t refl refl) (number_is front (deals_at q e terms) r no_round) room in
    let before = turns_are front (deals_at q e terms) r no_round ∙ ap (λ (u : Turn). done ++ u ∷ []) (deals_turn q e terms none) in
    let after = turns_then front (deals_at q e terms) (deals_at q e (terms ++ t ∷ [])) r t no_round (longer q (ToLine e) terms t)
    ∙ ap (λ (u : Turn). done ++ u ∷ []) (deals_turn q e (terms ++ t ∷ []) none) in
    ap (λ (ts : List Turn). with_add c ts t) before
    ∙ dealt_add c done (said q) (dealt q) w t
    ∙ words_made done (said q) (dealt q) w t o
    ∙ ap (λ (ts : List Turn). made ts o) (sym after)
    ∙ ap (made (turns_of_items (in_round front r (deals_at q e terms) ++ AddLine t ∷ []))) (sym fault)

-- what holds of lines of a round
abbrev MadeIn : ℕ → List Item → ℕ → Term → List Item → Type 0
MadeIn c front r t p = list_any is_round p ≡ false → nat_le most_terms (term_count (in_round front r p)) ≡ nat_le most_terms c → Made c (in_round front r p) (AddLine t)

made_in_round : (c : ℕ) (front p : List Item) (r : ℕ) (t : Term) → Shape p → MadeIn c front r t p
made_in_round c front p r t (begun is) = subst (MadeIn c front r t) (sym is) (λ no_round room. begun_made c front r t)
made_in_round c front p r t (summed q is) = subst (MadeIn c front r t) (sym is) (λ no_round room. summed_made c front q r t no_round)
made_in_round c front p r t (saying q e terms none free is) = subst (MadeIn c front r t) (sym is) (λ no_round room. saying_made c front q r e terms t none free no_round room)
made_in_round c front p r t (dealing q e terms none is) = subst (MadeIn c front r t) (sym is) (λ no_round room. dealing_made c front q r e terms t none no_round room)

-- the line of a term, after lines in order
pub made_add : (c : ℕ) (items : List Item) (t : Term) → InOrder items → nat_le most_terms (term_count items) ≡ nat_le most_terms c → Made c items (AddLine t)
made_add c items t (inl none) room = subst (λ (ls : List Item). Made c ls (AddLine t)) (sym none) (no_lines_made c t)
  where
    no_lines_made : (c : ℕ) (t : Term) → Made c [] (AddLine t)
    no_lines_made c t = made_misplaced c [] t refl refl
made_add c items t (inr at) room =
    subst (λ (ls : List Item). Made c ls (AddLine t)) (sym at.is)
    (made_in_round c at.front at.part at.number t at.shape at.no_round (ap (λ (ls : List Item). nat_le most_terms (term_count ls)) (sym at.is) ∙ room))
