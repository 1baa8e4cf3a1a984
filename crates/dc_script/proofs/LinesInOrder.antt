-- Lines without a fault, as they stand in a round: the last word with its terms stands last.
use Rattle.std.proofs.Common.{◌≡◌, ℕ, Bool, true, false, ◌||◌, cond, List, [], ◌∷◌, ◌++◌, map, Some, refl, sym, ◌∙◌, ap, subst, inl, inr, ◌⊎◌, append_assoc}
use Rattle.std.specs.List.{list_any}
use Rattle.std.proofs.Math.Seq.{get_or-append_seam}
use Rattle.std.proofs.lemmas.Bool.{cases_Bool, or_parts}
use Rattle.std.proofs.lemmas.List.{map-append, append-nil}
use Rattle.dc_spec.specs.Scripts.{Term, Said, each}
use Rattle.dc_formats.specs.ScriptFile.{is_before, term_order}
use Rattle.dc_script.specs.declared.item.Item.{Item}
use Rattle.dc_script.specs.declared.item.Item.TheVariants.{RoundLine, SayLine, AllLine, ToLine, AddLine}
use Rattle.dc_script.specs.Turns.{is_above_last_term}
use Rattle.dc_script.specs.Lines.{is_round, until_round, rounds_in, terms_at_front, said, dealt, is_all, has_all, last_item, may_be_added_to, is_above_before, turn_of_items}
use Rattle.dc_script.proofs.LastTurn.{last_or_none, last_place, not_none}
use Rattle.dc_script.proofs.LinesAndTurns.{or_assoc, said-append, dealt-append}

-- ---- terms as lines

abbrev pub adds : List Term → List Item
adds terms = map AddLine terms

pub adds_front : (terms : List Term) → terms_at_front (adds terms) ≡ terms
adds_front [] = refl
adds_front (t ∷ terms) = ap (λ (ts : List Term). t ∷ ts) (adds_front terms)

no_said : (terms : List Term) → said (adds terms) ≡ []
no_said [] = refl
no_said (t ∷ terms) = no_said terms

no_dealt : (terms : List Term) → dealt (adds terms) ≡ []
no_dealt [] = refl
no_dealt (t ∷ terms) = no_dealt terms

no_all : (terms : List Term) → has_all (adds terms) ≡ false
no_all [] = refl
no_all (t ∷ terms) = no_all terms

no_round_in : (terms : List Term) → list_any is_round (adds terms) ≡ false
no_round_in [] = refl
no_round_in (t ∷ terms) = no_round_in terms

-- tests of two parts
pub any-append : (f : Item → Bool) (p q : List Item) → list_any f (p ++ q) ≡ (list_any f p || list_any f q)
any-append f [] q = refl
any-append f (y ∷ p) q = ap (λ (b : Bool). f y || b) (any-append f p q) ∙ or_assoc (f y) (list_any f p) (list_any f q)

neither : (a b : Bool) → a ≡ false → b ≡ false → (a || b) ≡ false
neither a b e h = rw (e, h) refl

-- ---- a word with its terms at the end of a part

-- a word that is said
abbrev pub says_at : List Item → ℕ × List ℕ → List Term → List Item
says_at q e terms = q ++ SayLine e ∷ adds terms

-- a word that is dealt
abbrev pub deals_at : List Item → ℕ × List ℕ → List Term → List Item
deals_at q e terms = q ++ ToLine e ∷ adds terms

abbrev pub word_of_lines : ℕ × List ℕ → List Term → Said
word_of_lines e terms = record { station = e.0; word = e.1; terms = terms }

pub says_turn : (q : List Item) (e : ℕ × List ℕ) (terms : List Term) → has_all q ≡ false → dealt q ≡ []
    → turn_of_items (says_at q e terms) ≡ record { says = said q ++ word_of_lines e terms ∷ []; delivery = each [] }
says_turn q e terms none nothing =
    let says : said (says_at q e terms) ≡ said q ++ word_of_lines e terms ∷ [] = said-append q (SayLine e) (adds terms) refl ∙ rw (adds_front terms, no_said terms) refl in
    let words : dealt (says_at q e terms) ≡ [] = dealt-append q (SayLine e) (adds terms) refl ∙ rw (nothing, no_dealt terms) refl in
    let all : has_all (says_at q e terms) ≡ false = any-append is_all q (SayLine e ∷ adds terms) ∙ neither (has_all q) (has_all (SayLine e ∷ adds terms)) none (no_all terms) in
    rw (says, words, all) refl

pub deals_turn : (q : List Item) (e : ℕ × List ℕ) (terms : List Term) → has_all q ≡ false
    → turn_of_items (deals_at q e terms) ≡ record { says = said q; delivery = each (dealt q ++ word_of_lines e terms ∷ []) }
deals_turn q e terms none =
    let says : said (deals_at q e terms) ≡ said q = said-append q (ToLine e) (adds terms) refl ∙ rw (no_said terms) (append-nil (said q)) in
    let words : dealt (deals_at q e terms) ≡ dealt q ++ word_of_lines e terms ∷ [] = dealt-append q (ToLine e) (adds terms) refl ∙ rw (adds_front terms, no_dealt terms) refl in
    let all : has_all (deals_at q e terms) ≡ false = any-append is_all q (ToLine e ∷ adds terms) ∙ neither (has_all q) (has_all (ToLine e ∷ adds terms)) none (no_all terms) in
    rw (says, words, all) refl

-- one term more
pub longer : (q : List Item) (x : Item) (terms : List Term) (t : Term) → (q ++ x ∷ adds terms) ++ AddLine t ∷ [] ≡ q ++ x ∷ adds (terms ++ t ∷ [])
longer q x terms t = append_assoc q (x ∷ adds terms) (AddLine t ∷ []) ∙ ap (λ (ls : List Item). q ++ x ∷ ls) (sym (map-append AddLine terms (t ∷ [])))

-- ---- the line right before

pub last_item_is : (q : List Item) (x : Item) → last_item (q ++ x ∷ []) ≡ Some x
last_item_is [] x = refl
last_item_is (y ∷ []) x = refl
last_item_is (y ∷ z ∷ q) x = last_item_is (z ∷ q) x

-- a term may follow, where it is greater than the last one
pub record Follows (items : List Item) (terms : List Term) (t : Term) : Type 0 where
  pub may : may_be_added_to (last_item items) ≡ true
  pub above : is_above_before t (last_item items) ≡ is_above_last_term t terms

after_word : (q : List Item) (x : Item) (t : Term) → may_be_added_to (Some x) ≡ true → is_above_before t (Some x) ≡ true → Follows (q ++ x ∷ []) [] t
after_word q x t may above = record { may = rw (last_item_is q x) may; above = rw (last_item_is q x) above }

after_term : (q : List Item) (terms : List Term) (u t : Term) → Follows (q ++ AddLine u ∷ []) (terms ++ u ∷ []) t
after_term q terms u t =
    let last : is_above_last_term t (terms ++ u ∷ []) ≡ is_before (term_order u) (term_order t) = rw (not_none terms u, last_place terms u, get_or-append_seam terms u [] t) refl in
    record { may = rw (last_item_is q (AddLine u)) refl; above = rw (last_item_is q (AddLine u)) (sym last) }

pub follows : (q : List Item) (x : Item) (terms : List Term) (t : Term) → may_be_added_to (Some x) ≡ true → is_above_before t (Some x) ≡ true → Follows (q ++ x ∷ adds terms) terms t
follows q x terms t may above = elim (last_or_none terms) [
  | inl none ↦ subst (λ (ts : List Term). Follows (q ++ x ∷ adds ts) ts t) (sym none) (after_word q x t may above)
  | inr some ↦ subst (λ (ts : List Term). Follows (q ++ x ∷ adds ts) ts t) (sym some.is)
      (subst (λ (ls : List Item). Follows ls (some.done ++ some.last ∷ []) t) (longer q x some.done some.last) (after_term (q ++ x ∷ adds some.done) some.done some.last t))
]

-- ---- a round's line and the lines of that round

no_rounds : (p : List Item) → list_any is_round p ≡ false → rounds_in p ≡ []
no_rounds [] e = refl
no_rounds (y ∷ p) e =
    let parts = or_parts (is_round y) (list_any is_round p) e in
    rw (parts.0) (no_rounds p parts.1)

until_none : (p : List Item) → list_any is_round p ≡ false → until_round p ≡ p
until_none [] e = refl
until_none (y ∷ p) e =
    let parts = or_parts (is_round y) (list_any is_round p) e in
    rw (parts.0) (ap (λ (ls : List Item). y ∷ ls) (until_none p parts.1))

until_front : (front p : List Item) (r : ℕ) → until_round (front ++ RoundLine r ∷ p) ≡ until_round front
until_front [] p r = refl
until_front (y ∷ front) p r = ap (λ (ls : List Item). cond (is_round y) [] (y ∷ ls)) (until_front front p r)

pub round_after : (front p : List Item) (r : ℕ) → list_any is_round p ≡ false → rounds_in (front ++ RoundLine r ∷ p) ≡ rounds_in front ++ p ∷ []
round_after [] p r none = rw (until_none p none, no_rounds p none) refl
round_after (y ∷ front) p r none = elim (cases_Bool (is_round y)) [
  | inl round ↦ rw (round, until_front front p r, round_after front p r none) refl
  | inr goes ↦ rw goes (round_after front p r none)
]

-- what the lines of a round may be
pub data Shape (p : List Item) : Type 0 where
  begun : p ≡ [] → Shape p
  summed : (q : List Item) → p ≡ q ++ AllLine ∷ [] → Shape p
  saying : (q : List Item) (e : ℕ × List ℕ) (terms : List Term) → has_all q ≡ false → dealt q ≡ [] → p ≡ says_at q e terms → Shape p
  dealing : (q : List Item) (e : ℕ × List ℕ) (terms : List Term) → has_all q ≡ false → p ≡ deals_at q e terms → Shape p

pub record InRound (items : List Item) : Type 0 where
  pub front : List Item
  pub number : ℕ
  pub part : List Item
  pub is : items ≡ front ++ RoundLine number ∷ part
  pub no_round : list_any is_round part ≡ false
  pub shape : Shape part

-- lines without a fault: none, or a last round
abbrev pub InOrder : List Item → Type 0
InOrder items = (items ≡ []) ⊎ InRound items

-- the rounds of lines in a round
pub rounds_are : (items : List Item) (at : InRound items) → rounds_in items ≡ rounds_in at.front ++ at.part ∷ []
rounds_are items at = ap rounds_in at.is ∙ round_after at.front at.part at.number at.no_round
