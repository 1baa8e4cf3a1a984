-- What turns so far are: all but the last are turns, the last one may still lack its delivery, and their terms are counted.
use Rattle.std.proofs.Common.{◌≡◌, ℕ, ◌+◌, ◌<◌, ◌≤◌, ◌==◌, false, not, List, [], ◌∷◌, ◌++◌, length, get_or, Ok, Err, refl, sym, ◌∙◌, ap, subst, inl, inr, ◌⊎◌, arith}
use Rattle.std.specs.Prelude.{nat_le, sum_by}
use Rattle.std.proofs.lemmas.Bool.{leb-false, lt-ltb, not-false}
use Rattle.std.proofs.lemmas.List.{length-append}
use Rattle.std.proofs.lemmas.List.Sums.{sum_by-append, sum_by-cons}
use Rattle.dc_spec.specs.Limits.{most_terms}
use Rattle.dc_spec.specs.Scripts.{Term, Said, Delivery, all_sum, each, delivered_words, Turn}
use Rattle.dc_formats.specs.ScriptFile.{AreSaid, IsTurn, IsScript, turn_terms, script_terms}
use Rattle.dc_script.specs.declared.fault.ScriptKind.TheVariants.{Round, TooMany, Misplaced, Order, Missing}
use Rattle.dc_script.specs.declared.item.Item.{Item}
use Rattle.dc_script.specs.declared.item.Item.TheVariants.{RoundLine, SayLine, AllLine, ToLine, AddLine}
use Rattle.dc_script.specs.Items.{IsEntry, IsItem, IsTermLine}
use Rattle.dc_script.specs.Turns.{begun_turn, is_undelivered, is_waiting, is_above_last, reported_count, plain_said, said_with, with_round, with_say, with_all, with_to, with_add, with_item, terms_after}
use Rattle.dc_script.proofs.OneMoreRound.{turns_and_one, terms_and_one}
use Rattle.dc_script.proofs.LastTurn.{waits, say_at, all_at, to_at, to_sum, last_or_none, AddedTo, added}
use Rattle.dc_script.proofs.Entries.{one_more_entry, no_entries, one_more_term, may_follow}
use Rattle.dc_script.proofs.Growing.{told_each, after_three, after_two, after_one, one_chosen}

-- turn r is one of round r, but that its delivery may still come
pub record IsPart (r : ℕ) (turn : Turn) : Type 0 where
  pub said : AreSaid r turn.says
  pub dealt_words : (dealt : List Said) → turn.delivery ≡ each dealt → AreSaid r dealt

abbrev pub AreTurns : List Turn → Type 0
AreTurns turns = (r : ℕ) (d : Turn) → r < length turns → IsTurn r (get_or turns r d)

-- at most 4096 turns, of which the last may still be without a delivery
pub record Ends (turns : List Turn) : Type 0 where
  pub done : List Turn
  pub last : Turn
  pub is : turns ≡ done ++ last ∷ []
  pub few : length done < 4096
  pub are_turns : AreTurns done
  pub is_part : IsPart (length done) last

abbrev pub SoFar : List Turn → Type 0
SoFar turns = (turns ≡ []) ⊎ Ends turns

-- how many terms the turns of a file of this version have
pub record Counted (version : ℕ) (turns : List Turn) (c : ℕ) : Type 0 where
  pub count : script_terms turns ≡ c
  pub most : c ≤ most_terms
  pub first : version ≡ 1 → c ≡ 0

-- ---- turns that do not wait are a script

-- a part with a delivery is a turn
part_done : (r : ℕ) (t : Turn) → IsPart r t → is_undelivered t.delivery ≡ false → IsTurn r t
part_done r t is done = record { said = is.said; some_dealt = some; dealt_words = is.dealt_words }
  where
    there : (dealt : List Said) → (length dealt == 0) ≡ false → 1 ≤ length dealt
    there [] e = absurd cc
    there (x ∷ xs) e = omega arith

    some : (dealt : List Said) → t.delivery ≡ each dealt → 1 ≤ length dealt
    some dealt e = there dealt (ap is_undelivered (sym e) ∙ done)

pub no_turns : AreTurns []
no_turns r d lt = absurd (omega arith)

-- turns that do not wait are turns
pub all_done : (turns : List Turn) → SoFar turns → is_waiting turns ≡ false → AreTurns turns
all_done turns (inl none) e = subst AreTurns (sym none) no_turns
all_done turns (inr ends) e =
    let done : is_undelivered ends.last.delivery ≡ false = sym (waits ends.done ends.last) ∙ ap is_waiting (sym ends.is) ∙ e in
    subst AreTurns (sym ends.is) (turns_and_one ends.done ends.last ends.are_turns (part_done (length ends.done) ends.last ends.is_part done))

few_turns : (turns : List Turn) → SoFar turns → length turns ≤ 4096
few_turns turns (inl none) = rw none (omega arith)
few_turns turns (inr ends) = rw ends.is (omega (arith, ends.few, length-append ends.done (ends.last ∷ [])))

-- and a script
pub script_done : (version : ℕ) (turns : List Turn) (c : ℕ) → 1 ≤ version → version ≤ 2 → SoFar turns → Counted version turns c → is_waiting turns ≡ false
    → IsScript (record { version = version; rounds = turns })
script_done version turns c some most so counted e = record {
  some_version = some;
  most_version = most;
  first_version = λ one. counted.count ∙ counted.first one;
  most_rounds = few_turns turns so;
  most_terms = omega (arith, counted.count, counted.most);
  are_turns = all_done turns so e;
}

-- ---- one more line keeps what turns so far are

-- a part of which only the round's number is known
begun_part : (r : ℕ) → IsPart r begun_turn
begun_part r = record { said = no_entries r; dealt_words = λ dealt e. let same : [] ≡ dealt = cc in subst (AreSaid r) same (no_entries r) }

round_so_far : (turns : List Turn) (r : ℕ) (new : List Turn) → SoFar turns → with_round turns r ≡ Ok new → SoFar new
round_so_far turns r new so e =
    let told = after_three (is_waiting turns) (not (r == length turns)) (nat_le 4096 (length turns)) Missing (Round r (reported_count (length turns))) TooMany (turns ++ begun_turn ∷ []) new e in
    inr (record { done = turns; last = begun_turn; is = sym told.3; few = leb-false _ _ told.2; are_turns = all_done turns so told.0; is_part = begun_part (length turns) })

-- the turns with another last one
other_last : (turns : List Turn) (ends : Ends turns) (t : Turn) (new : List Turn) → new ≡ ends.done ++ t ∷ [] → IsPart (length ends.done) t → SoFar new
other_last turns ends t new is part = inr (record { done = ends.done; last = t; is = is; few = ends.few; are_turns = ends.are_turns; is_part = part })

say_so_far : (turns : List Turn) (ends : Ends turns) (e : ℕ × List ℕ) (new : List Turn) → IsEntry e → with_say (ends.done ++ ends.last ∷ []) e ≡ Ok new → SoFar new
say_so_far turns ends e new is h =
    let t : Turn = record { says = ends.last.says ++ plain_said e ∷ []; delivery = ends.last.delivery } in
    let told = after_two (is_undelivered ends.last.delivery) (not (is_above_last e.0 ends.last.says)) (Order e.0) Misplaced
    (ends.done ++ record { says = ends.last.says ++ plain_said e ∷ []; delivery = ends.last.delivery } ∷ []) new (sym (say_at ends.done ends.last e) ∙ h) in
    other_last turns ends t new (sym told.2) (record { said = one_more_entry (length ends.done) ends.last.says e ends.is_part.said (not-false _ told.1) is; dealt_words = ends.is_part.dealt_words })

sum_so_far : (turns : List Turn) (ends : Ends turns) (new : List Turn) → with_all (ends.done ++ ends.last ∷ []) ≡ Ok new → SoFar new
sum_so_far turns ends new h =
    let t : Turn = record { says = ends.last.says; delivery = all_sum } in
    let told = one_chosen (is_undelivered ends.last.delivery) Misplaced (ends.done ++ record { says = ends.last.says; delivery = all_sum } ∷ []) new (sym (all_at ends.done ends.last) ∙ h) in
    other_last turns ends t new (sym told.1) (record { said = ends.is_part.said; dealt_words = λ ds same. absurd cc })

-- other words dealt
words_part : (r : ℕ) (says dealt : List Said) → AreSaid r says → AreSaid r dealt → IsPart r (record { says = says; delivery = each dealt })
words_part r says dealt said are = record { said = said; dealt_words = λ ds same. let is_that : dealt ≡ ds = cc in subst (AreSaid r) is_that are }

to_so_far : (turns : List Turn) (ends : Ends turns) (d : Delivery) (e : ℕ × List ℕ) (new : List Turn) → ends.last.delivery ≡ d → IsEntry e
    → with_to (ends.done ++ record { says = ends.last.says; delivery = d } ∷ []) e ≡ Ok new → SoFar new
to_so_far turns ends all_sum e new there is h = let no : Err Misplaced ≡ Ok new = sym (to_sum ends.done ends.last.says e) ∙ h in absurd cc
to_so_far turns ends (each dealt) e new there is h =
    let t : Turn = record { says = ends.last.says; delivery = each (dealt ++ plain_said e ∷ []) } in
    let told = after_one (not (is_above_last e.0 dealt)) (Order e.0) (ends.done ++ record { says = ends.last.says; delivery = each (dealt ++ plain_said e ∷ []) } ∷ []) new
    (sym (to_at ends.done ends.last.says dealt e) ∙ h) in
    other_last turns ends t new (sym told.1) (words_part (length ends.done) ends.last.says (dealt ++ plain_said e ∷ []) ends.is_part.said
    (one_more_entry (length ends.done) dealt e (ends.is_part.dealt_words dealt there) (not-false _ told.0) is))

-- words of which the last one has one more term
term_so_far : (r c : ℕ) (listed new : List Said) (term : Term) → AreSaid r listed → AddedTo r c listed new term → IsTermLine term → AreSaid r new
term_so_far r c listed new term are to line =
    subst (AreSaid r) (sym to.new_is) (one_more_term r c to.ws to.w term (subst (AreSaid r) to.is are) (may_follow r c to.w.terms term to.no_fault) line)

add_so_far : (c : ℕ) (turns : List Turn) (ends : Ends turns) (term : Term) (new : List Turn) → IsTermLine term → with_add c (ends.done ++ ends.last ∷ []) term ≡ Ok new → SoFar new
add_so_far c turns ends term new line h = elim (added c ends.done ends.last.says ends.last.delivery term new h) [
  | inl said ↦ other_last turns ends (record { says = said.listed; delivery = each [] }) new said.is
      (words_part (length ends.done) said.listed [] (term_so_far (length ends.done) c ends.last.says said.listed term ends.is_part.said said.to line) (no_entries (length ends.done)))
  | inr dealt ↦ other_last turns ends (record { says = ends.last.says; delivery = each dealt.listed }) new dealt.is
      (words_part (length ends.done) ends.last.says dealt.listed ends.is_part.said
      (term_so_far (length ends.done) c dealt.before dealt.listed term (ends.is_part.dealt_words dealt.before dealt.delivery) dealt.to line))
]

-- one more item keeps what turns so far are
pub item_so_far : (version c : ℕ) (turns : List Turn) (item : Item) (new : List Turn) → SoFar turns → IsItem version item → with_item c turns item ≡ Ok new → SoFar new
item_so_far version c turns (RoundLine r) new so is h = round_so_far turns r new so h
item_so_far version c turns (SayLine e) new (inl none) is h = let no : with_say [] e ≡ Ok new = rw none at h in absurd cc
item_so_far version c turns (SayLine e) new (inr ends) is h = say_so_far turns ends e new is (rw ends.is at h)
item_so_far version c turns AllLine new (inl none) is h = let no : with_all [] ≡ Ok new = rw none at h in absurd cc
item_so_far version c turns AllLine new (inr ends) is h = sum_so_far turns ends new (rw ends.is at h)
item_so_far version c turns (ToLine e) new (inl none) is h = let no : with_to [] e ≡ Ok new = rw none at h in absurd cc
item_so_far version c turns (ToLine e) new (inr ends) is h = to_so_far turns ends ends.last.delivery e new refl is (rw ends.is at h)
item_so_far version c turns (AddLine term) new (inl none) is h = let no : with_add c [] term ≡ Ok new = rw none at h in absurd cc
item_so_far version c turns (AddLine term) new (inr ends) is h = add_so_far c turns ends term new is.1 (rw ends.is at h)

-- ---- one more line, and the count

abbrev pub said_terms : List Said → ℕ
said_terms ws = sum_by (λ said. length said.terms) ws

pub terms_of_last : (ws : List Said) (w : Said) → said_terms (ws ++ w ∷ []) ≡ said_terms ws + length w.terms
terms_of_last ws w =
    let split : said_terms (ws ++ w ∷ []) ≡ said_terms ws + said_terms (w ∷ []) = sum_by-append (λ (said : Said). length said.terms) ws (w ∷ []) in
    let one : said_terms (w ∷ []) ≡ length w.terms + 0 = sum_by-cons (λ (said : Said). length said.terms) w [] in
    omega (arith, split, one)

-- a last turn with so many terms more
more_terms : (done : List Turn) (t u : Turn) (n : ℕ) → turn_terms u ≡ turn_terms t + n → script_terms (done ++ u ∷ []) ≡ script_terms (done ++ t ∷ []) + n
more_terms done t u n e = omega (arith, e, terms_and_one done t, terms_and_one done u)

-- as many terms as before
counts_on : (version : ℕ) (turns new : List Turn) (c : ℕ) → Counted version turns c → script_terms new ≡ script_terms turns + 0 → Counted version new c
counts_on version turns new c counted same = record { count = omega (arith, same, counted.count); most = counted.most; first = counted.first }

round_counts : (turns : List Turn) (r : ℕ) (new : List Turn) → with_round turns r ≡ Ok new → script_terms new ≡ script_terms turns + 0
round_counts turns r new e =
    let told = after_three (is_waiting turns) (not (r == length turns)) (nat_le 4096 (length turns)) Missing (Round r (reported_count (length turns))) TooMany (turns ++ begun_turn ∷ []) new e in
    ap script_terms (sym told.3) ∙ terms_and_one turns begun_turn

say_counts : (done : List Turn) (t : Turn) (e : ℕ × List ℕ) (new : List Turn) → with_say (done ++ t ∷ []) e ≡ Ok new → script_terms new ≡ script_terms (done ++ t ∷ []) + 0
say_counts done t e new h =
    let u : Turn = record { says = t.says ++ plain_said e ∷ []; delivery = t.delivery } in
    let told = after_two (is_undelivered t.delivery) (not (is_above_last e.0 t.says)) (Order e.0) Misplaced
    (done ++ record { says = t.says ++ plain_said e ∷ []; delivery = t.delivery } ∷ []) new (sym (say_at done t e) ∙ h) in
    ap script_terms (sym told.2) ∙ more_terms done t u 0 (omega (arith, terms_of_last t.says (plain_said e)))

sum_counts : (done : List Turn) (t : Turn) (new : List Turn) → with_all (done ++ t ∷ []) ≡ Ok new → script_terms new ≡ script_terms (done ++ t ∷ []) + 0
sum_counts done t new h =
    let u : Turn = record { says = t.says; delivery = all_sum } in
    let told = one_chosen (is_undelivered t.delivery) Misplaced (done ++ record { says = t.says; delivery = all_sum } ∷ []) new (sym (all_at done t) ∙ h) in
    let same : said_terms (delivered_words t.delivery) ≡ 0 = ap (λ (d : Delivery). said_terms (delivered_words d)) (told_each t.delivery told.0) in
    ap script_terms (sym told.1) ∙ more_terms done t u 0 (omega (arith, same))

to_counts : (done : List Turn) (says : List Said) (d : Delivery) (e : ℕ × List ℕ) (new : List Turn) → with_to (done ++ record { says = says; delivery = d } ∷ []) e ≡ Ok new
    → script_terms new ≡ script_terms (done ++ record { says = says; delivery = d } ∷ []) + 0
to_counts done says all_sum e new h = let no : Err Misplaced ≡ Ok new = sym (to_sum done says e) ∙ h in absurd cc
to_counts done says (each dealt) e new h =
    let told = after_one (not (is_above_last e.0 dealt)) (Order e.0) (done ++ record { says = says; delivery = each (dealt ++ plain_said e ∷ []) } ∷ []) new (sym (to_at done says dealt e) ∙ h) in
    ap script_terms (sym told.1) ∙ more_terms done (record { says = says; delivery = each dealt }) (record { says = says; delivery = each (dealt ++ plain_said e ∷ []) }) 0
    (omega (arith, terms_of_last dealt (plain_said e)))

added_terms : (r c : ℕ) (listed new : List Said) (term : Term) → AddedTo r c listed new term → said_terms new ≡ said_terms listed + 1
added_terms r c listed new term to =
    let before : said_terms listed ≡ said_terms to.ws + length to.w.terms = ap said_terms to.is ∙ terms_of_last to.ws to.w in
    let after : said_terms new ≡ said_terms to.ws + length (to.w.terms ++ term ∷ []) = ap said_terms to.new_is ∙ terms_of_last to.ws (said_with to.w term) in
    omega (arith, before, after, length-append to.w.terms (term ∷ []))

-- one term more, below the limit
pub record CountsTerm (c : ℕ) (turns new : List Turn) : Type 0 where
  pub more : script_terms new ≡ script_terms turns + 1
  pub room : c < most_terms

add_counts : (c : ℕ) (done : List Turn) (says : List Said) (d : Delivery) (term : Term) (new : List Turn) → with_add c (done ++ record { says = says; delivery = d } ∷ []) term ≡ Ok new
    → CountsTerm c (done ++ record { says = says; delivery = d } ∷ []) new
add_counts c done says d term new h = elim (added c done says d term new h) [
  | inl said ↦ (
      let none : said_terms (delivered_words d) ≡ 0 = ap (λ (dd : Delivery). said_terms (delivered_words dd)) said.delivery in
      record {
        more = ap script_terms said.is ∙ more_terms done (record { says = says; delivery = d }) (record { says = said.listed; delivery = each [] }) 1
            (omega (arith, none, added_terms (length done) c says said.listed term said.to));
        room = (may_follow (length done) c said.to.w.terms term said.to.no_fault).room;
      })
  | inr dealt ↦ (
      let before : said_terms (delivered_words d) ≡ said_terms dealt.before = ap (λ (dd : Delivery). said_terms (delivered_words dd)) dealt.delivery in
      record {
        more = ap script_terms dealt.is ∙ more_terms done (record { says = says; delivery = d }) (record { says = says; delivery = each dealt.listed }) 1
            (omega (arith, before, added_terms (length done) c dealt.before dealt.listed term dealt.to));
        room = (may_follow (length done) c dealt.to.w.terms term dealt.to.no_fault).room;
      })
]

-- one term more of a file of version 2
counts_term : (version : ℕ) (turns new : List Turn) (c : ℕ) (term : Term) → version ≡ 2 → Counted version turns c → CountsTerm c turns new → Counted version new (terms_after c (AddLine term))
counts_term version turns new c term two counted one =
    let next : terms_after c (AddLine term) ≡ c + 1 = rw (lt-ltb c most_terms one.room) refl in
    rw next (record { count = omega (arith, one.more, counted.count); most = omega (arith, one.room); first = λ first. absurd (omega (arith, two, first)) })

-- one more item keeps the count
pub item_counts : (version c : ℕ) (turns : List Turn) (item : Item) (new : List Turn) → Counted version turns c → IsItem version item → with_item c turns item ≡ Ok new
    → Counted version new (terms_after c item)
item_counts version c turns (RoundLine r) new counted is h = counts_on version turns new c counted (round_counts turns r new h)
item_counts version c turns (SayLine e) new counted is h = elim (last_or_none turns) [
  | inl none ↦ (let no : with_say [] e ≡ Ok new = rw none at h in absurd cc)
  | inr some ↦ counts_on version turns new c counted (rw some.is (say_counts some.done some.last e new (rw some.is at h)))
]
item_counts version c turns AllLine new counted is h = elim (last_or_none turns) [
  | inl none ↦ (let no : with_all [] ≡ Ok new = rw none at h in absurd cc)
  | inr some ↦ counts_on version turns new c counted (rw some.is (sum_counts some.done some.last new (rw some.is at h)))
]
item_counts version c turns (ToLine e) new counted is h = elim (last_or_none turns) [
  | inl none ↦ (let no : with_to [] e ≡ Ok new = rw none at h in absurd cc)
  | inr some ↦ counts_on version turns new c counted (rw some.is (to_counts some.done some.last.says some.last.delivery e new (rw some.is at h)))
]
item_counts version c turns (AddLine term) new counted is h = elim (last_or_none turns) [
  | inl none ↦ (let no : with_add c [] term ≡ Ok new = rw none at h in absurd cc)
  | inr some ↦ counts_term version turns new c term is.0 counted
      (subst (λ (ts : List Turn). CountsTerm c ts new) (sym some.is) (add_counts c some.done some.last.says some.last.delivery term new (rw some.is at h)))
]
