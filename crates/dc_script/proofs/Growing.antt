-- The turns that lines make are those that the lines spell.
use Rattle.std.proofs.Common.{◌≡◌, ℕ, ◌+◌, ◌==◌, Bool, true, false, not, cond, List, [], ◌∷◌, ◌++◌, length, Ok, Err, refl, sym, ◌∙◌, ap, inl, inr, arith, codes, append_assoc}
use Rattle.std.specs.Prelude.{nat_le}
use Rattle.std.specs.List.{flat_map}
use Rattle.std.specs.Fmt.{decimal}
use Rattle.std.proofs.lemmas.Bool.{eqb-true, not-false}
use Rattle.std.proofs.lemmas.List.{append-nil}
use Rattle.std.proofs.lemmas.Grind.{flat_map-append}
use Rattle.dc_spec.specs.Text.{line}
use Rattle.dc_spec.specs.Scripts.{Term, Said, Delivery, all_sum, each, Turn}
use Rattle.dc_formats.specs.WordLines.{station_word_line}
use Rattle.dc_formats.specs.ScriptFile.{term_line, said_lines, turn_lines}
use Rattle.dc_script.specs.declared.fault.ScriptKind.{ScriptKind}
use Rattle.dc_script.specs.declared.fault.ScriptKind.TheVariants.{Round, TooMany, Misplaced, Order, Missing}
use Rattle.dc_script.specs.declared.item.Item.{Item}
use Rattle.dc_script.specs.declared.item.Item.TheVariants.{RoundLine, SayLine, AllLine, ToLine, AddLine}
use Rattle.dc_script.specs.Items.{item_text, entry_text, term_text}
use Rattle.dc_script.specs.Turns.{begun_turn, is_undelivered, is_waiting, is_above_last, reported_count, plain_said, said_with, with_round, with_say, with_all, with_to, with_add, with_item}
use Rattle.dc_script.proofs.Putting.{lines_from, lines_from-append}
use Rattle.dc_script.proofs.LastTurn.{say_at, all_at, to_at, to_sum, last_or_none, AddedTo, added}

-- ---- the lines of turns

-- the lines of turns with a last one
pub last_lines : (done : List Turn) (t : Turn) → lines_from 0 (done ++ t ∷ []) ≡ lines_from 0 done ++ turn_lines (length done) t
last_lines done t =
    let place : 0 + length done ≡ length done = omega arith in
    lines_from-append 0 done (t ∷ []) ∙ rw place (ap (λ (ls : List ℕ). lines_from 0 done ++ ls) (append-nil (turn_lines (length done) t)))

-- a last turn of which more lines are known
grown_lines : (done : List Turn) (t u : Turn) (more : List ℕ) → turn_lines (length done) u ≡ turn_lines (length done) t ++ more → lines_from 0 (done ++ u ∷ []) ≡ lines_from 0 (done ++ t ∷ []) ++ more
grown_lines done t u more e =
    last_lines done u ∙ ap (λ (ls : List ℕ). lines_from 0 done ++ ls) e ∙ sym (append_assoc (lines_from 0 done) (turn_lines (length done) t) more)
    ∙ ap (λ (ls : List ℕ). ls ++ more) (sym (last_lines done t))

-- one more piece
one_piece : {X : Type 0} (f : X → List ℕ) (xs : List X) (x : X) → flat_map f (xs ++ x ∷ []) ≡ flat_map f xs ++ f x
one_piece f xs x = flat_map-append f xs (x ∷ []) ∙ ap (λ (ls : List ℕ). flat_map f xs ++ ls) (append-nil (f x))

-- the lines of words with a beginning
abbrev pub listed_lines : List ℕ → List Said → List ℕ
listed_lines beginning ws = flat_map (said_lines beginning) ws

-- one more word without terms, and one more term of the last word
plain_lines : (beginning : List ℕ) (ws : List Said) (e : ℕ × List ℕ) → listed_lines beginning (ws ++ plain_said e ∷ []) ≡ listed_lines beginning ws ++ line (entry_text beginning e)
plain_lines beginning ws e = one_piece (said_lines beginning) ws (plain_said e) ∙ ap (λ (ls : List ℕ). listed_lines beginning ws ++ ls) (append-nil (line (entry_text beginning e)))

term_lines : (beginning : List ℕ) (ws : List Said) (w : Said) (term : Term) → listed_lines beginning (ws ++ said_with w term ∷ []) ≡ listed_lines beginning (ws ++ w ∷ []) ++ line (term_text term)
term_lines beginning ws w term =
    let head : List ℕ = station_word_line beginning w.station w.word in
    let one : said_lines beginning (said_with w term) ≡ said_lines beginning w ++ term_line term = ap (λ (ls : List ℕ). head ++ ls) (one_piece term_line w.terms term)
    ∙ sym (append_assoc head (flat_map term_line w.terms) (term_line term)) in
    one_piece (said_lines beginning) ws (said_with w term) ∙ ap (λ (ls : List ℕ). listed_lines beginning ws ++ ls) one
    ∙ sym (append_assoc (listed_lines beginning ws) (said_lines beginning w) (term_line term))
    ∙ ap (λ (ls : List ℕ). ls ++ term_line term) (sym (one_piece (said_lines beginning) ws w))

-- where the lines of the words said grow, and where those of the words dealt do
says_grow : (head a b more : List ℕ) → b ≡ a ++ more → (head ++ b) ++ [] ≡ ((head ++ a) ++ []) ++ more
says_grow head a b more e = rw e (simp (append_assoc, append-nil))

words_grow : (head a b more : List ℕ) → b ≡ a ++ more → head ++ b ≡ (head ++ a) ++ more
words_grow head a b more e = rw e (sym (append_assoc head a more))

all_lines : (head end : List ℕ) → head ++ end ≡ (head ++ []) ++ end
all_lines head end = ap (λ (ls : List ℕ). ls ++ end) (sym (append-nil head))

-- what is delivered is told
pub told_each : (d : Delivery) → is_undelivered d ≡ true → d ≡ each []
told_each all_sum e = absurd cc
told_each (each []) e = refl
told_each (each (x ∷ xs)) e = absurd (let zero_long : length (x ∷ xs) ≡ 0 = eqb-true _ _ e in omega arith)

-- the lines of the beginning of a turn
abbrev round_line : List Turn → List ℕ
round_line done = line (codes "round " ++ decimal (length done))

-- what choices tell that gave an answer
pub after_three : (a b c : Bool) (f g h : ScriptKind) (x new : List Turn) → cond a (Err f) (cond b (Err g) (cond c (Err h) (Ok x))) ≡ Ok new → (a ≡ false) × (b ≡ false) × (c ≡ false) × (x ≡ new)
after_three true b c f g h x new e = absurd cc
after_three false true c f g h x new e = absurd cc
after_three false false true f g h x new e = absurd cc
after_three false false false f g h x new e = (refl, refl, refl, cc)

pub after_two : (a b : Bool) (f g : ScriptKind) (x new : List Turn) → cond a (cond b (Err f) (Ok x)) (Err g) ≡ Ok new → (a ≡ true) × (b ≡ false) × (x ≡ new)
after_two true true f g x new e = absurd cc
after_two true false f g x new e = (refl, refl, cc)
after_two false b f g x new e = absurd cc

pub after_one : (a : Bool) (f : ScriptKind) (x new : List Turn) → cond a (Err f) (Ok x) ≡ Ok new → (a ≡ false) × (x ≡ new)
after_one true f x new e = absurd cc
after_one false f x new e = (refl, cc)

pub one_chosen : (a : Bool) (f : ScriptKind) (x new : List Turn) → cond a (Ok x) (Err f) ≡ Ok new → (a ≡ true) × (x ≡ new)
one_chosen true f x new e = (refl, cc)
one_chosen false f x new e = absurd cc

-- a round's line
round_lines : (turns : List Turn) (r : ℕ) (new : List Turn) → with_round turns r ≡ Ok new → lines_from 0 new ≡ lines_from 0 turns ++ line (codes "round " ++ decimal r)
round_lines turns r new e =
    let told = after_three (is_waiting turns) (not (r == length turns)) (nat_le 4096 (length turns)) Missing (Round r (reported_count (length turns))) TooMany (turns ++ begun_turn ∷ []) new e in
    let number : r ≡ length turns = eqb-true _ _ (not-false _ told.1) in
    ap (lines_from 0) (sym told.3) ∙ last_lines turns begun_turn ∙ rw (← number) (ap (λ (ls : List ℕ). lines_from 0 turns ++ ls) (append-nil _ ∙ append-nil _))

-- the lines of a last turn in progress, and one that is said
say_lines : (done : List Turn) (t : Turn) (e : ℕ × List ℕ) (new : List Turn) → with_say (done ++ t ∷ []) e ≡ Ok new
    → lines_from 0 new ≡ lines_from 0 (done ++ t ∷ []) ++ line (entry_text (codes "say ") e)
say_lines done t e new h =
    let told = after_two (is_undelivered t.delivery) (not (is_above_last e.0 t.says)) (Order e.0) Misplaced
    (done ++ record { says = t.says ++ plain_said e ∷ []; delivery = t.delivery } ∷ []) new (sym (say_at done t e) ∙ h) in
    let none : t.delivery ≡ each [] = told_each t.delivery told.0 in
    ap (lines_from 0) (sym told.2) ∙ grown_lines done t (record { says = t.says ++ plain_said e ∷ []; delivery = t.delivery }) (line (entry_text (codes "say ") e))
    (ap (λ (d : Delivery). turn_lines (length done) (record { says = t.says ++ plain_said e ∷ []; delivery = d })) none
    ∙ says_grow (round_line done) (listed_lines (codes "say ") t.says) (listed_lines (codes "say ") (t.says ++ plain_said e ∷ [])) (line (entry_text (codes "say ") e))
    (plain_lines (codes "say ") t.says e)
    ∙ ap (λ (d : Delivery). turn_lines (length done) (record { says = t.says; delivery = d }) ++ line (entry_text (codes "say ") e)) (sym none))

-- all receive the sum
sum_lines : (done : List Turn) (t : Turn) (new : List Turn) → with_all (done ++ t ∷ []) ≡ Ok new → lines_from 0 new ≡ lines_from 0 (done ++ t ∷ []) ++ line (codes "all")
sum_lines done t new h =
    let told = one_chosen (is_undelivered t.delivery) Misplaced (done ++ record { says = t.says; delivery = all_sum } ∷ []) new (sym (all_at done t) ∙ h) in
    let none : t.delivery ≡ each [] = told_each t.delivery told.0 in
    ap (lines_from 0) (sym told.1) ∙ grown_lines done t (record { says = t.says; delivery = all_sum }) (line (codes "all"))
    (all_lines (round_line done ++ listed_lines (codes "say ") t.says) (line (codes "all"))
    ∙ ap (λ (d : Delivery). turn_lines (length done) (record { says = t.says; delivery = d }) ++ line (codes "all")) (sym none))

-- one more word dealt
to_lines : (done : List Turn) (says : List Said) (d : Delivery) (e : ℕ × List ℕ) (new : List Turn) → with_to (done ++ record { says = says; delivery = d } ∷ []) e ≡ Ok new
    → lines_from 0 new ≡ lines_from 0 (done ++ record { says = says; delivery = d } ∷ []) ++ line (entry_text (codes "to ") e)
to_lines done says all_sum e new h = let no : Err Misplaced ≡ Ok new = sym (to_sum done says e) ∙ h in absurd cc
to_lines done says (each dealt) e new h =
    let told = after_one (not (is_above_last e.0 dealt)) (Order e.0) (done ++ record { says = says; delivery = each (dealt ++ plain_said e ∷ []) } ∷ []) new (sym (to_at done says dealt e) ∙ h) in
    ap (lines_from 0) (sym told.1) ∙ grown_lines done (record { says = says; delivery = each dealt }) (record { says = says; delivery = each (dealt ++ plain_said e ∷ []) })
    (line (entry_text (codes "to ") e))
    (words_grow (round_line done ++ listed_lines (codes "say ") says) (listed_lines (codes "to ") dealt) (listed_lines (codes "to ") (dealt ++ plain_said e ∷ []))
    (line (entry_text (codes "to ") e)) (plain_lines (codes "to ") dealt e))

-- the words before and after a term that is added
added_lines : (r c : ℕ) (beginning : List ℕ) (listed new : List Said) (term : Term) → AddedTo r c listed new term → listed_lines beginning new ≡ listed_lines beginning listed ++ line (term_text term)
added_lines r c beginning listed new term to = rw (to.new_is, to.is) (term_lines beginning to.ws to.w term)

-- one more term
add_lines : (c : ℕ) (done : List Turn) (says : List Said) (d : Delivery) (term : Term) (new : List Turn) → with_add c (done ++ record { says = says; delivery = d } ∷ []) term ≡ Ok new
    → lines_from 0 new ≡ lines_from 0 (done ++ record { says = says; delivery = d } ∷ []) ++ line (term_text term)
add_lines c done says d term new h = elim (added c done says d term new h) [
  | inl said ↦ ap (lines_from 0) said.is ∙ grown_lines done (record { says = says; delivery = d }) (record { says = said.listed; delivery = each [] }) (line (term_text term))
      (says_grow (round_line done) (listed_lines (codes "say ") says) (listed_lines (codes "say ") said.listed) (line (term_text term))
      (added_lines (length done) c (codes "say ") says said.listed term said.to)
      ∙ ap (λ (dd : Delivery). turn_lines (length done) (record { says = says; delivery = dd }) ++ line (term_text term)) (sym said.delivery))
  | inr dealt ↦ ap (lines_from 0) dealt.is ∙ grown_lines done (record { says = says; delivery = d }) (record { says = says; delivery = each dealt.listed }) (line (term_text term))
      (words_grow (round_line done ++ listed_lines (codes "say ") says) (listed_lines (codes "to ") dealt.before) (listed_lines (codes "to ") dealt.listed) (line (term_text term))
      (added_lines (length done) c (codes "to ") dealt.before dealt.listed term dealt.to)
      ∙ ap (λ (dd : Delivery). turn_lines (length done) (record { says = says; delivery = dd }) ++ line (term_text term)) (sym dealt.delivery))
]

-- an item's line is spelled by the turns with it
pub item_lines : (c : ℕ) (turns : List Turn) (item : Item) (new : List Turn) → with_item c turns item ≡ Ok new → lines_from 0 new ≡ lines_from 0 turns ++ line (item_text item)
item_lines c turns (RoundLine r) new h = round_lines turns r new h
item_lines c turns (SayLine e) new h = elim (last_or_none turns) [
  | inl none ↦ (let no : with_say [] e ≡ Ok new = rw none at h in absurd cc)
  | inr some ↦ rw some.is (say_lines some.done some.last e new (rw some.is at h))
]
item_lines c turns AllLine new h = elim (last_or_none turns) [
  | inl none ↦ (let no : with_all [] ≡ Ok new = rw none at h in absurd cc)
  | inr some ↦ rw some.is (sum_lines some.done some.last new (rw some.is at h))
]
item_lines c turns (ToLine e) new h = elim (last_or_none turns) [
  | inl none ↦ (let no : with_to [] e ≡ Ok new = rw none at h in absurd cc)
  | inr some ↦ rw some.is (to_lines some.done some.last.says some.last.delivery e new (rw some.is at h))
]
item_lines c turns (AddLine term) new h = elim (last_or_none turns) [
  | inl none ↦ (let no : with_add c [] term ≡ Ok new = rw none at h in absurd cc)
  | inr some ↦ rw some.is (add_lines c some.done some.last.says some.last.delivery term new (rw some.is at h))
]
