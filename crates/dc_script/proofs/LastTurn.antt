-- Lists that have a last item, and what one more line makes of turns that have a last one.
use Rattle.std.proofs.Common.{◌≡◌, ℕ, ◌-◌, ◌==◌, Bool, true, false, not, cond, List, [], ◌∷◌, ◌++◌, length, Option, Some, None, Result, Ok, Err, refl, sym, ◌∙◌, ap, inl, inr, ◌⊎◌, arith}
use Rattle.std.specs.Prelude.{nat_le}
use Rattle.std.proofs.Math.Seq.{take-append_seam, get_or-append_seam}
use Rattle.std.proofs.lemmas.Bool.{le-leb, ne_eqb}
use Rattle.std.proofs.lemmas.List.{length-append}
use Rattle.dc_spec.specs.Scripts.{Term, Said, Delivery, all_sum, each, Turn}
use Rattle.dc_script.specs.declared.fault.ScriptKind.{ScriptKind}
use Rattle.dc_script.specs.declared.fault.ScriptKind.TheVariants.{Misplaced, Order}
use Rattle.dc_script.specs.Turns.{begun_turn, last_turn, with_last, is_undelivered, is_waiting, is_above_last, plain_said, last_said, said_with, term_fault, term_put, with_term, with_says, with_words, with_add, with_say, with_all, with_to}

-- ---- a list with a last item

-- a list has a last item or none
pub record HasLast {X : Type 0} (xs : List X) : Type 0 where
  pub done : List X
  pub last : X
  pub is : xs ≡ done ++ last ∷ []

pub last_or_none : {X : Type 0} (xs : List X) → (xs ≡ []) ⊎ HasLast xs
last_or_none [] = inl refl
last_or_none {X = X} (x ∷ xs) = inr (elim (last_or_none xs) [
  | inl none ↦ record { done = []; last = x; is = rw none refl }
  | inr more ↦ record { done = x ∷ more.done; last = more.last; is = ap (λ (ys : List X). x ∷ ys) more.is }
])

-- where the last one stands
pub last_place : {X : Type 0} (xs : List X) (x : X) → length (xs ++ x ∷ []) - 1 ≡ length xs
last_place xs x = omega (arith, length-append xs (x ∷ []))

pub not_none : {X : Type 0} (xs : List X) (x : X) → (length (xs ++ x ∷ []) == 0) ≡ false
not_none xs x = ne_eqb _ 0 (λ z. absurd (omega (arith, length-append xs (x ∷ []))))

pub last_said_is : (ws : List Said) (w : Said) → last_said (ws ++ w ∷ []) ≡ w
last_said_is ws w = rw (last_place ws w) (get_or-append_seam ws w [] (record { station = 0; word = []; terms = [] }))

-- ---- turns

pub last_is : (done : List Turn) (t : Turn) → last_turn (done ++ t ∷ []) ≡ t
last_is done t = rw (last_place done t) (get_or-append_seam done t [] begun_turn)

pub with_last_is : (done : List Turn) (t u : Turn) → with_last (done ++ t ∷ []) u ≡ done ++ u ∷ []
with_last_is done t u = rw (last_place done t) (ap (λ (ts : List Turn). ts ++ u ∷ []) (take-append_seam done (t ∷ [])))

-- there is one
some_there : (done : List Turn) (t : Turn) → nat_le 1 (length (done ++ t ∷ [])) ≡ true
some_there done t = le-leb 1 _ (omega (arith, length-append done (t ∷ [])))

-- whether it waits
pub waits : (done : List Turn) (t : Turn) → is_waiting (done ++ t ∷ []) ≡ is_undelivered t.delivery
waits done t = rw (some_there done t, last_is done t) refl

-- one more word said
pub say_at : (done : List Turn) (t : Turn) (e : ℕ × List ℕ)
    → with_say (done ++ t ∷ []) e ≡ cond (is_undelivered t.delivery)
    (cond (not (is_above_last e.0 t.says)) (Err (Order e.0)) (Ok (done ++ record { says = t.says ++ plain_said e ∷ []; delivery = t.delivery } ∷ []))) (Err Misplaced)
say_at done t e = rw (waits done t, last_is done t, with_last_is done t (record { says = t.says ++ plain_said e ∷ []; delivery = t.delivery })) refl

-- all receive the sum
pub all_at : (done : List Turn) (t : Turn) → with_all (done ++ t ∷ []) ≡ cond (is_undelivered t.delivery) (Ok (done ++ record { says = t.says; delivery = all_sum } ∷ [])) (Err Misplaced)
all_at done t = rw (waits done t, last_is done t, with_last_is done t (record { says = t.says; delivery = all_sum })) refl

-- one more word dealt
pub to_at : (done : List Turn) (says dealt : List Said) (e : ℕ × List ℕ)
    → with_to (done ++ record { says = says; delivery = each dealt } ∷ []) e ≡ cond (not (is_above_last e.0 dealt)) (Err (Order e.0))
    (Ok (done ++ record { says = says; delivery = each (dealt ++ plain_said e ∷ []) } ∷ []))
to_at done says dealt e =
    let t : Turn = record { says = says; delivery = each dealt } in
    rw (not_none done t, last_is done t, with_last_is done t (record { says = says; delivery = each (dealt ++ plain_said e ∷ []) })) refl

pub to_sum : (done : List Turn) (says : List Said) (e : ℕ × List ℕ) → with_to (done ++ record { says = says; delivery = all_sum } ∷ []) e ≡ Err Misplaced
to_sum done says e =
    let t : Turn = record { says = says; delivery = all_sum } in
    rw (not_none done t, last_is done t) refl

-- ---- one more term

-- of a last word
abbrev pub term_after : List Said → Said → Term → Option ScriptKind → Result (List Said) ScriptKind
term_after ws w term (Some kind) = Err kind
term_after ws w term None = Ok (ws ++ said_with w term ∷ [])

put_is : (ws : List Said) (w : Said) (term : Term) (o : Option ScriptKind) → term_put (ws ++ w ∷ []) term o ≡ term_after ws w term o
put_is ws w term (Some kind) = refl
put_is ws w term None = rw (last_said_is ws w, last_place ws w) (ap (λ (front : List Said). Ok (front ++ said_with w term ∷ [])) (take-append_seam ws (w ∷ [])))

pub term_at : (r c : ℕ) (ws : List Said) (w : Said) (term : Term) → with_term r c (ws ++ w ∷ []) term ≡ term_after ws w term (term_fault r c w.terms term)
term_at r c ws w term =
    rw (not_none ws w) (ap (λ (s : Said). term_put (ws ++ w ∷ []) term (term_fault r c s.terms term)) (last_said_is ws w) ∙ put_is ws w term (term_fault r c w.terms term))

-- of the words said, or of the words dealt, of a last turn
abbrev pub says_after : List Turn → Result (List Said) ScriptKind → Result (List Turn) ScriptKind
says_after done (Err kind) = Err kind
says_after done (Ok listed) = Ok (done ++ record { says = listed; delivery = each [] } ∷ [])

abbrev pub words_after : List Turn → List Said → Result (List Said) ScriptKind → Result (List Turn) ScriptKind
words_after done says (Err kind) = Err kind
words_after done says (Ok listed) = Ok (done ++ record { says = says; delivery = each listed } ∷ [])

with_says_is : (done : List Turn) (says : List Said) (r : Result (List Said) ScriptKind)
    → with_says (done ++ record { says = says; delivery = each [] } ∷ []) (record { says = says; delivery = each [] }) r ≡ says_after done r
with_says_is done says (Err kind) = refl
with_says_is done says (Ok listed) = ap Ok (with_last_is done (record { says = says; delivery = each [] }) (record { says = listed; delivery = each [] }))

with_words_is : (done : List Turn) (says dealt : List Said) (r : Result (List Said) ScriptKind)
    → with_words (done ++ record { says = says; delivery = each dealt } ∷ []) (record { says = says; delivery = each dealt }) r ≡ words_after done says r
with_words_is done says dealt (Err kind) = refl
with_words_is done says dealt (Ok listed) = ap Ok (with_last_is done (record { says = says; delivery = each dealt }) (record { says = says; delivery = each listed }))

pub add_sum : (c : ℕ) (done : List Turn) (says : List Said) (term : Term) → with_add c (done ++ record { says = says; delivery = all_sum } ∷ []) term ≡ Err Misplaced
add_sum c done says term =
    let t : Turn = record { says = says; delivery = all_sum } in
    rw (not_none done t, last_is done t) refl

pub add_says : (c : ℕ) (done : List Turn) (says : List Said) (term : Term)
    → with_add c (done ++ record { says = says; delivery = each [] } ∷ []) term ≡ says_after done (with_term (length done) c says term)
add_says c done says term =
    let t : Turn = record { says = says; delivery = each [] } in
    rw (not_none done t, last_is done t, last_place done t) (with_says_is done says (with_term (length done) c says term))

pub add_words : (c : ℕ) (done : List Turn) (says : List Said) (d : Said) (ds : List Said) (term : Term)
    → with_add c (done ++ record { says = says; delivery = each (d ∷ ds) } ∷ []) term ≡ words_after done says (with_term (length done) c (d ∷ ds) term)
add_words c done says d ds term =
    let t : Turn = record { says = says; delivery = each (d ∷ ds) } in
    let some : (length (d ∷ ds) == 0) ≡ false = ne_eqb (length (d ∷ ds)) 0 (λ z. absurd (omega arith)) in
    let whole : List Turn = done ++ t ∷ [] in
    rw (not_none done t, last_is done t, last_place done t)
    (ap (λ (b : Bool). cond b (with_says whole t (with_term (length done) c says term)) (with_words whole t (with_term (length done) c (d ∷ ds) term))) some
    ∙ with_words_is done says (d ∷ ds) (with_term (length done) c (d ∷ ds) term))

-- ---- what a term that was added tells

pub record AddedTo (r c : ℕ) (listed new : List Said) (term : Term) : Type 0 where
  pub ws : List Said
  pub w : Said
  pub is : listed ≡ ws ++ w ∷ []
  pub new_is : new ≡ ws ++ said_with w term ∷ []
  pub no_fault : term_fault r c w.terms term ≡ None

after_found : (ws : List Said) (w : Said) (term : Term) (o : Option ScriptKind) (new : List Said) → term_after ws w term o ≡ Ok new → (o ≡ None) × (new ≡ ws ++ said_with w term ∷ [])
after_found ws w term (Some kind) new e = absurd cc
after_found ws w term None new e = (refl, cc)

term_added : (r c : ℕ) (listed new : List Said) (term : Term) → with_term r c listed term ≡ Ok new → AddedTo r c listed new term
term_added r c listed new term e = elim (last_or_none listed) [
  | inl none ↦ (let no : with_term r c [] term ≡ Ok new = rw none at e in absurd cc)
  | inr some ↦ (
      let found = after_found some.done some.last term (term_fault r c some.last.terms term) new (sym (term_at r c some.done some.last term) ∙ (rw some.is at e)) in
      record { ws = some.done; w = some.last; is = some.is; new_is = found.1; no_fault = found.0 })
]

pub record SaysAdded (c : ℕ) (done : List Turn) (says : List Said) (d : Delivery) (term : Term) (new : List Turn) : Type 0 where
  pub delivery : d ≡ each []
  pub listed : List Said
  pub to : AddedTo (length done) c says listed term
  pub is : new ≡ done ++ record { says = listed; delivery = each [] } ∷ []

pub record WordsAdded (c : ℕ) (done : List Turn) (says : List Said) (d : Delivery) (term : Term) (new : List Turn) : Type 0 where
  pub before : List Said
  pub delivery : d ≡ each before
  pub listed : List Said
  pub to : AddedTo (length done) c before listed term
  pub is : new ≡ done ++ record { says = says; delivery = each listed } ∷ []

says_found : (done : List Turn) (r : Result (List Said) ScriptKind) (new : List Turn) → says_after done r ≡ Ok new
    → (listed : List Said) × (r ≡ Ok listed) × (new ≡ done ++ record { says = listed; delivery = each [] } ∷ [])
says_found done (Err kind) new e = absurd cc
says_found done (Ok listed) new e = (listed, refl, cc)

words_found : (done : List Turn) (says : List Said) (r : Result (List Said) ScriptKind) (new : List Turn) → words_after done says r ≡ Ok new
    → (listed : List Said) × (r ≡ Ok listed) × (new ≡ done ++ record { says = says; delivery = each listed } ∷ [])
words_found done says (Err kind) new e = absurd cc
words_found done says (Ok listed) new e = (listed, refl, cc)

pub added : (c : ℕ) (done : List Turn) (says : List Said) (d : Delivery) (term : Term) (new : List Turn) → with_add c (done ++ record { says = says; delivery = d } ∷ []) term ≡ Ok new
    → SaysAdded c done says d term new ⊎ WordsAdded c done says d term new
added c done says all_sum term new e = absurd (let no : Err Misplaced ≡ Ok new = sym (add_sum c done says term) ∙ e in cc)
added c done says (each []) term new e =
    let found = says_found done (with_term (length done) c says term) new (sym (add_says c done says term) ∙ e) in
    inl (record { delivery = refl; listed = found.0; to = term_added (length done) c says found.0 term found.1; is = found.2 })
added c done says (each (x ∷ xs)) term new e =
    let found = words_found done says (with_term (length done) c (x ∷ xs) term) new (sym (add_words c done says x xs term) ∙ e) in
    inr (record { before = x ∷ xs; delivery = refl; listed = found.0; to = term_added (length done) c (x ∷ xs) found.0 term found.1; is = found.2 })
