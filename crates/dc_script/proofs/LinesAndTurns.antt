-- What lines make of a list of items is what they make of its turns.
use Rattle.std.proofs.Common.{◌≡◌, ℕ, zero, suc, ◌-◌, ◌==◌, Bool, true, false, not, ◌&&◌, ◌||◌, cond, List, [], ◌∷◌, ◌++◌, length, map, Option, Some, None, Result, Ok, Err, refl, sym, ◌∙◌, ap, inl, inr, ◌⊎◌, arith}
use Rattle.std.specs.Prelude.{nat_le}
use Rattle.std.specs.List.{list_any}
use Rattle.std.proofs.Math.Seq.{get_or-append_seam}
use Rattle.std.proofs.lemmas.Bool.{ne_eqb, le-leb}
use Rattle.std.proofs.lemmas.Bool.Decides.{nat_tests}
use Rattle.std.proofs.lemmas.List.{length-append, length-map, map-append, append-nil}
use Rattle.std.proofs.Math.Bool.{or-true, or-false}
use Rattle.std.proofs.lemmas.Bool.{cases_Bool}
use Rattle.dc_spec.specs.Scripts.{Term, all_sum, each, Turn}
use Rattle.dc_script.specs.declared.fault.ScriptKind.{ScriptKind}
use Rattle.dc_script.specs.declared.fault.ScriptKind.TheVariants.{Round, TooMany, Misplaced, Order, Missing}
use Rattle.dc_script.specs.declared.item.Item.{Item}
use Rattle.dc_script.specs.declared.item.Item.TheVariants.{RoundLine, SayLine, AllLine, ToLine, AddLine}
use Rattle.dc_script.specs.Turns.{begun_turn, is_undelivered, is_waiting, is_above_last, reported_count, plain_said, with_say, with_all, with_to, with_item}
use Rattle.dc_script.specs.Lines.{is_round, until_round, rounds_in, round_count, since_round, terms_at_front, said, dealt, is_all, has_all, has_delivery, lacks_delivery, order_fault, item_fault, turn_of_items, turns_of_items}
use Rattle.dc_script.proofs.LastTurn.{waits, say_at, all_at, to_at, to_sum}

pub or_assoc : (a b c : Bool) → (a || (b || c)) ≡ ((a || b) || c)
or_assoc true b c = refl
or_assoc false b c = refl

-- ---- one more line

-- one more item in the last round
put_last : Item → List (List Item) → List (List Item)
put_last x [] = []
put_last x (p ∷ []) = (p ++ x ∷ []) ∷ []
put_last x (p ∷ q ∷ ps) = p ∷ put_last x (q ∷ ps)

put_last_is : (x : Item) (ps : List (List Item)) (p : List Item) → put_last x (ps ++ p ∷ []) ≡ ps ++ (p ++ x ∷ []) ∷ []
unfolding put_last
put_last_is x [] p = refl
put_last_is x (q ∷ []) p = refl
put_last_is x (q ∷ r ∷ ps) p = ap (λ (rs : List (List Item)). q ∷ rs) (put_last_is x (r ∷ ps) p)

-- where no round has begun, the first lines go on
until_open : (x : Item) (ys : List Item) → is_round x ≡ false → rounds_in ys ≡ [] → until_round (ys ++ x ∷ []) ≡ until_round ys ++ x ∷ []
until_open x [] other none = rw other refl
until_open x (y ∷ ys) other none = elim (cases_Bool (is_round y)) [
  | inl round ↦ absurd (let no : until_round ys ∷ rounds_in ys ≡ [] = rw round at none in cc)
  | inr goes ↦ (let rest : rounds_in ys ≡ [] = rw goes at none in rw (goes, until_open x ys other rest) refl)
]

-- where one has, they have ended
until_closed : (x : Item) (ys : List Item) (q : List Item) (qs : List (List Item)) → rounds_in ys ≡ q ∷ qs → until_round (ys ++ x ∷ []) ≡ until_round ys
until_closed x [] q qs some = absurd cc
until_closed x (y ∷ ys) q qs some = elim (cases_Bool (is_round y)) [
  | inl round ↦ rw round refl
  | inr goes ↦ (let rest : rounds_in ys ≡ q ∷ qs = rw goes at some in rw (goes, until_closed x ys q qs rest) refl)
]

first_round : (x : Item) (ys : List Item) (rs : List (List Item)) → is_round x ≡ false → rounds_in ys ≡ rs → until_round (ys ++ x ∷ []) ∷ put_last x rs ≡ put_last x (until_round ys ∷ rs)
unfolding put_last
first_round x ys [] other is = ap (λ (p : List Item). p ∷ []) (until_open x ys other is)
first_round x ys (q ∷ qs) other is = ap (λ (p : List Item). p ∷ put_last x (q ∷ qs)) (until_closed x ys q qs is)

-- a line that begins no round
rounds_other : (x : Item) (ys : List Item) → is_round x ≡ false → rounds_in (ys ++ x ∷ []) ≡ put_last x (rounds_in ys)
unfolding put_last
rounds_other x [] other = rw other refl
rounds_other x (y ∷ ys) other = elim (cases_Bool (is_round y)) [
  | inl round ↦ rw (round, rounds_other x ys other) (first_round x ys (rounds_in ys) other refl)
  | inr goes ↦ rw goes (rounds_other x ys other)
]

-- a round's line ends the lines before it
until_round_line : (r : ℕ) (ys : List Item) → until_round (ys ++ RoundLine r ∷ []) ≡ until_round ys
until_round_line r [] = refl
until_round_line r (y ∷ ys) = elim (cases_Bool (is_round y)) [
  | inl round ↦ rw round refl
  | inr goes ↦ rw (goes, until_round_line r ys) refl
]

-- a line that begins one
pub rounds_round : (r : ℕ) (ys : List Item) → rounds_in (ys ++ RoundLine r ∷ []) ≡ rounds_in ys ++ [] ∷ []
rounds_round r [] = refl
rounds_round r (y ∷ ys) = elim (cases_Bool (is_round y)) [
  | inl round ↦ rw (round, rounds_round r ys, until_round_line r ys) refl
  | inr goes ↦ rw goes (rounds_round r ys)
]

-- ---- rounds and their turns

-- the rounds have a last one, or there is none
pub record HasLastRound (rs : List (List Item)) : Type 0 where
  pub before : List (List Item)
  pub part : List Item
  pub is : rs ≡ before ++ part ∷ []

pub last_round : (rs : List (List Item)) → (rs ≡ []) ⊎ HasLastRound rs
last_round [] = inl refl
last_round (p ∷ rs) = inr (elim (last_round rs) [
  | inl none ↦ record { before = []; part = p; is = rw none refl }
  | inr more ↦ record { before = p ∷ more.before; part = more.part; is = ap (λ (qs : List (List Item)). p ∷ qs) more.is }
])

-- turns with a last one
pub turns_last : (items : List Item) (ps : List (List Item)) (p : List Item) → rounds_in items ≡ ps ++ p ∷ [] → turns_of_items items ≡ map turn_of_items ps ++ turn_of_items p ∷ []
turns_last items ps p is = ap (map turn_of_items) is ∙ map-append turn_of_items ps (p ∷ [])

pub since_last : (items : List Item) (ps : List (List Item)) (p : List Item) → rounds_in items ≡ ps ++ p ∷ [] → since_round items ≡ p
since_last items ps p is =
    let place : length (ps ++ p ∷ []) - 1 ≡ length ps = omega (arith, length-append ps (p ∷ [])) in
    rw (is, place) (get_or-append_seam ps p [] [])

-- no words are dealt where there is none
none_or_one : (n : ℕ) → (n == 0) ≡ not (nat_le 1 n)
none_or_one zero = refl
none_or_one (suc n) = grind (arith, nat_tests)

undelivered_part : (p : List Item) → is_undelivered (turn_of_items p).delivery ≡ not (has_delivery p)
undelivered_part p = elim (cases_Bool (has_all p)) [
  | inl all ↦ rw all refl
  | inr words ↦ rw words (none_or_one (length (dealt p)))
]

pub some_count : (ps : List (List Item)) (p : List Item) → nat_le 1 (length (ps ++ p ∷ [])) ≡ true
some_count ps p = le-leb 1 _ (omega (arith, length-append ps (p ∷ [])))

pub lacks_at : (items : List Item) (ps : List (List Item)) (p : List Item) → rounds_in items ≡ ps ++ p ∷ [] → lacks_delivery items ≡ not (has_delivery p)
lacks_at items ps p is = ap (λ (part : List Item). nat_le 1 (round_count items) && not (has_delivery part)) (since_last items ps p is) ∙ rw (is, some_count ps p) refl

-- turns wait where items lack a delivery
pub same_waiting : (items : List Item) → is_waiting (turns_of_items items) ≡ lacks_delivery items
same_waiting items = elim (last_round (rounds_in items)) [
  | inl none ↦ rw none refl
  | inr some ↦ ap is_waiting (turns_last items some.before some.part some.is) ∙ waits (map turn_of_items some.before) (turn_of_items some.part) ∙ undelivered_part some.part
      ∙ sym (lacks_at items some.before some.part some.is)
]

-- what is made of a fault, or of none
unfoldable pub made : List Turn → Option ScriptKind → Result (List Turn) ScriptKind
made turns None = Ok turns
made turns (Some kind) = Err kind

-- what a list of items with one more makes
abbrev pub Made : ℕ → List Item → Item → Type 0
Made c items x = with_item c (turns_of_items items) x ≡ made (turns_of_items (items ++ x ∷ [])) (item_fault items x)

made_of_two : (a b : Bool) (f g : ScriptKind) (ts : List Turn) → cond a (cond (not b) (Err f) (Ok ts)) (Err g) ≡ made ts (cond (not a) (Some g) (cond b None (Some f)))
unfolding made
made_of_two true true f g ts = refl
made_of_two true false f g ts = refl
made_of_two false b f g ts = refl

made_of_one : (a : Bool) (g : ScriptKind) (ts : List Turn) → cond a (Ok ts) (Err g) ≡ made ts (cond (not a) (Some g) None)
unfolding made
made_of_one true g ts = refl
made_of_one false g ts = refl

made_of_three : (a b c : Bool) (f g h : ScriptKind) (ts : List Turn) → cond a (Err f) (cond b (Err g) (cond c (Err h) (Ok ts))) ≡ made ts (cond a (Some f) (cond b (Some g) (cond c (Some h) None)))
unfolding made
made_of_three true b c f g h ts = refl
made_of_three false true c f g h ts = refl
made_of_three false false true f g h ts = refl
made_of_three false false false f g h ts = refl

made_of_next : (b : Bool) (f : ScriptKind) (ts : List Turn) → cond (not b) (Err f) (Ok ts) ≡ made ts (cond b None (Some f))
unfolding made
made_of_next true f ts = refl
made_of_next false f ts = refl

-- a test of one more item
pub any_more : (f : Item → Bool) (p : List Item) (x : Item) → list_any f (p ++ x ∷ []) ≡ (list_any f p || f x)
any_more f [] x = or-false (f x)
any_more f (y ∷ p) x = ap (λ (b : Bool). f y || b) (any_more f p x) ∙ or_assoc (f y) (list_any f p) (f x)

-- ---- words with their terms, in two parts of a list of lines

-- whether a line is a term
abbrev pub is_term : Item → Bool
is_term (AddLine term) = true
is_term _ = false

-- a line that is no term ends the terms before it
terms_end : (q : List Item) (x : Item) (rest : List Item) → is_term x ≡ false → terms_at_front (q ++ x ∷ rest) ≡ terms_at_front q
terms_end [] (RoundLine r) rest e = refl
terms_end [] (SayLine d) rest e = refl
terms_end [] AllLine rest e = refl
terms_end [] (ToLine d) rest e = refl
terms_end [] (AddLine t) rest e = absurd cc
terms_end (RoundLine r ∷ q) x rest e = refl
terms_end (SayLine d ∷ q) x rest e = refl
terms_end (AllLine ∷ q) x rest e = refl
terms_end (ToLine d ∷ q) x rest e = refl
terms_end (AddLine t ∷ q) x rest e = ap (λ (ts : List Term). t ∷ ts) (terms_end q x rest e)

-- so the words said, and those dealt, are those of both parts
pub said-append : (q : List Item) (x : Item) (rest : List Item) → is_term x ≡ false → said (q ++ x ∷ rest) ≡ said q ++ said (x ∷ rest)
said-append [] x rest e = refl
said-append (RoundLine r ∷ q) x rest e = said-append q x rest e
said-append (SayLine d ∷ q) x rest e = rw (terms_end q x rest e, said-append q x rest e) refl
said-append (AllLine ∷ q) x rest e = said-append q x rest e
said-append (ToLine d ∷ q) x rest e = said-append q x rest e
said-append (AddLine t ∷ q) x rest e = said-append q x rest e

pub dealt-append : (q : List Item) (x : Item) (rest : List Item) → is_term x ≡ false → dealt (q ++ x ∷ rest) ≡ dealt q ++ dealt (x ∷ rest)
dealt-append [] x rest e = refl
dealt-append (RoundLine r ∷ q) x rest e = dealt-append q x rest e
dealt-append (SayLine d ∷ q) x rest e = dealt-append q x rest e
dealt-append (AllLine ∷ q) x rest e = dealt-append q x rest e
dealt-append (ToLine d ∷ q) x rest e = rw (terms_end q x rest e, dealt-append q x rest e) refl
dealt-append (AddLine t ∷ q) x rest e = dealt-append q x rest e

-- ---- a part with one more line that is no term

more_said : (p : List Item) (e : ℕ × List ℕ) → turn_of_items (p ++ SayLine e ∷ []) ≡ record { says = said p ++ plain_said e ∷ []; delivery = (turn_of_items p).delivery }
more_said p e =
    let says : said (p ++ SayLine e ∷ []) ≡ said p ++ plain_said e ∷ [] = said-append p (SayLine e) [] refl in
    let all : has_all (p ++ SayLine e ∷ []) ≡ has_all p = any_more is_all p (SayLine e) ∙ or-false (has_all p) in
    let words : dealt (p ++ SayLine e ∷ []) ≡ dealt p = dealt-append p (SayLine e) [] refl ∙ append-nil (dealt p) in
    rw (says, all, words) refl

pub more_all : (p : List Item) → turn_of_items (p ++ AllLine ∷ []) ≡ record { says = said p; delivery = all_sum }
more_all p =
    let says : said (p ++ AllLine ∷ []) ≡ said p = said-append p AllLine [] refl ∙ append-nil (said p) in
    let all : has_all (p ++ AllLine ∷ []) ≡ true = any_more is_all p AllLine ∙ or-true (has_all p) in
    rw (says, all) refl

more_dealt : (p : List Item) (e : ℕ × List ℕ) → has_all p ≡ false → turn_of_items (p ++ ToLine e ∷ []) ≡ record { says = said p; delivery = each (dealt p ++ plain_said e ∷ []) }
more_dealt p e none =
    let says : said (p ++ ToLine e ∷ []) ≡ said p = said-append p (ToLine e) [] refl ∙ append-nil (said p) in
    let all : has_all (p ++ ToLine e ∷ []) ≡ false = any_more is_all p (ToLine e) ∙ or-false (has_all p) ∙ none in
    let words : dealt (p ++ ToLine e ∷ []) ≡ dealt p ++ plain_said e ∷ [] = dealt-append p (ToLine e) [] refl in
    rw (says, all, words) refl

-- the turns of items with one more that begins no round
pub turns_more : (items : List Item) (x : Item) (ps : List (List Item)) (p : List Item) → is_round x ≡ false → rounds_in items ≡ ps ++ p ∷ []
    → turns_of_items (items ++ x ∷ []) ≡ map turn_of_items ps ++ turn_of_items (p ++ x ∷ []) ∷ []
turns_more items x ps p other is = turns_last (items ++ x ∷ []) ps (p ++ x ∷ []) (rounds_other x items other ∙ ap (put_last x) is ∙ put_last_is x ps p)

-- a round's line
pub made_round : (c : ℕ) (items : List Item) (r : ℕ) → Made c items (RoundLine r)
made_round c items r =
    let count : length (turns_of_items items) ≡ round_count items = length-map (rounds_in items) turn_of_items in
    let turns : turns_of_items (items ++ RoundLine r ∷ []) ≡ turns_of_items items ++ begun_turn ∷ [] = ap (map turn_of_items) (rounds_round r items)
    ∙ map-append turn_of_items (rounds_in items) ([] ∷ []) in
    rw (same_waiting items, count, turns) (made_of_three (lacks_delivery items) (not (r == round_count items)) (nat_le 4096 (round_count items)) Missing
    (Round r (reported_count (round_count items))) TooMany (turns_of_items items ++ begun_turn ∷ []))

-- a word said
pub made_say : (c : ℕ) (items : List Item) (e : ℕ × List ℕ) → Made c items (SayLine e)
unfolding made
made_say c items e = elim (last_round (rounds_in items)) [
  | inl none ↦ rw none refl
  | inr some ↦ (
      let waiting : is_undelivered (turn_of_items some.part).delivery ≡ lacks_delivery items = undelivered_part some.part ∙ sym (lacks_at items some.before some.part some.is) in
      let before : with_say (turns_of_items items) e ≡ cond (is_undelivered (turn_of_items some.part).delivery)
      (cond (not (is_above_last e.0 (said some.part))) (Err (Order e.0))
      (Ok (map turn_of_items some.before ++ record { says = said some.part ++ plain_said e ∷ []; delivery = (turn_of_items some.part).delivery } ∷ []))) (Err Misplaced)
      = ap (λ (ts : List Turn). with_say ts e) (turns_last items some.before some.part some.is) ∙ say_at (map turn_of_items some.before) (turn_of_items some.part) e in
      let after : turns_of_items (items ++ SayLine e ∷ []) ≡ map turn_of_items some.before ++ record { says = said some.part ++ plain_said e ∷ []; delivery = (turn_of_items some.part).delivery } ∷ []
      = turns_more items (SayLine e) some.before some.part refl some.is ∙ ap (λ (t : Turn). map turn_of_items some.before ++ t ∷ []) (more_said some.part e) in
      before ∙ ap (λ (b : Bool). cond b (cond (not (is_above_last e.0 (said some.part))) (Err (Order e.0))
      (Ok (map turn_of_items some.before ++ record { says = said some.part ++ plain_said e ∷ []; delivery = (turn_of_items some.part).delivery } ∷ []))) (Err Misplaced)) waiting
      ∙ made_of_two (lacks_delivery items) (is_above_last e.0 (said some.part)) (Order e.0) Misplaced _
      ∙ ap (λ (ts : List Turn). made ts (cond (not (lacks_delivery items)) (Some Misplaced) (order_fault e.0 (said some.part)))) (sym after)
      ∙ ap (λ (part : List Item). made (turns_of_items (items ++ SayLine e ∷ [])) (cond (not (lacks_delivery items)) (Some Misplaced) (order_fault e.0 (said part))))
      (sym (since_last items some.before some.part some.is)))
]

-- all receive the sum
pub made_all : (c : ℕ) (items : List Item) → Made c items AllLine
unfolding made
made_all c items = elim (last_round (rounds_in items)) [
  | inl none ↦ rw none refl
  | inr some ↦ (
      let waiting : is_undelivered (turn_of_items some.part).delivery ≡ lacks_delivery items = undelivered_part some.part ∙ sym (lacks_at items some.before some.part some.is) in
      let before : with_all (turns_of_items items) ≡ cond (is_undelivered (turn_of_items some.part).delivery)
      (Ok (map turn_of_items some.before ++ record { says = said some.part; delivery = all_sum } ∷ [])) (Err Misplaced)
      = ap with_all (turns_last items some.before some.part some.is) ∙ all_at (map turn_of_items some.before) (turn_of_items some.part) in
      let after : turns_of_items (items ++ AllLine ∷ []) ≡ map turn_of_items some.before ++ record { says = said some.part; delivery = all_sum } ∷ []
      = turns_more items AllLine some.before some.part refl some.is ∙ ap (λ (t : Turn). map turn_of_items some.before ++ t ∷ []) (more_all some.part) in
      before ∙ ap (λ (b : Bool). cond b (Ok (map turn_of_items some.before ++ record { says = said some.part; delivery = all_sum } ∷ [])) (Err Misplaced)) waiting
      ∙ made_of_one (lacks_delivery items) Misplaced _
      ∙ ap (λ (ts : List Turn). made ts (cond (not (lacks_delivery items)) (Some Misplaced) None)) (sym after))
]

-- some rounds
pub not_zero : (ps : List (List Item)) (p : List Item) → (length (ps ++ p ∷ []) == 0) ≡ false
not_zero ps p = ne_eqb _ 0 (λ z. absurd (omega (arith, length-append ps (p ∷ []))))

-- a word dealt
pub made_to : (c : ℕ) (items : List Item) (e : ℕ × List ℕ) → Made c items (ToLine e)
unfolding made
made_to c items e = elim (last_round (rounds_in items)) [
  | inl none ↦ rw none refl
  | inr some ↦ (
      let turns = turns_last items some.before some.part some.is in
      let since = since_last items some.before some.part some.is in
      let count : (round_count items == 0) ≡ false = ap (λ (rs : List (List Item)). length rs == 0) some.is ∙ not_zero some.before some.part in
      elim (cases_Bool (has_all some.part)) [
        | inl all ↦ (
            let part : turn_of_items some.part ≡ record { says = said some.part; delivery = all_sum } = rw all refl in
            let before : with_to (turns_of_items items) e ≡ Err Misplaced = ap (λ (ts : List Turn). with_to ts e) (turns ∙ ap (λ (t : Turn). map turn_of_items some.before ++ t ∷ []) part)
            ∙ to_sum (map turn_of_items some.before) (said some.part) e in
            before ∙ rw (count, since, all) refl)
        | inr words ↦ (
            let part : turn_of_items some.part ≡ record { says = said some.part; delivery = each (dealt some.part) } = rw words refl in
            let before : with_to (turns_of_items items) e ≡ cond (not (is_above_last e.0 (dealt some.part))) (Err (Order e.0))
            (Ok (map turn_of_items some.before ++ record { says = said some.part; delivery = each (dealt some.part ++ plain_said e ∷ []) } ∷ []))
            = ap (λ (ts : List Turn). with_to ts e) (turns ∙ ap (λ (t : Turn). map turn_of_items some.before ++ t ∷ []) part)
            ∙ to_at (map turn_of_items some.before) (said some.part) (dealt some.part) e in
            let after : turns_of_items (items ++ ToLine e ∷ []) ≡ map turn_of_items some.before ++ record { says = said some.part; delivery = each (dealt some.part ++ plain_said e ∷ []) } ∷ []
            = turns_more items (ToLine e) some.before some.part refl some.is ∙ ap (λ (t : Turn). map turn_of_items some.before ++ t ∷ []) (more_dealt some.part e words) in
            before ∙ made_of_next (is_above_last e.0 (dealt some.part)) (Order e.0) _ ∙ rw (after, count, since, words) refl)
      ])
]
