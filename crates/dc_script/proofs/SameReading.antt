-- Reading by lines and reading by turns are the same.
use Rattle.std.proofs.Common.{◌≡◌, ℕ, ◌+◌, cond, List, [], ◌∷◌, ◌++◌, length, Option, Some, None, Result, Ok, Err, refl, ◌∙◌, ap, subst, inl, inr, arith}
use Rattle.std.specs.Prelude.{nat_le, nat_lt, min}
use Rattle.std.proofs.lemmas.Bool.{cases_lt, lt-ltb, le-ltb, le-leb, lt-leb}
use Rattle.std.proofs.lemmas.List.Sums.{sum_by-append, sum_by-cons}
use Rattle.dc_spec.specs.Limits.{most_terms}
use Rattle.dc_formats.specs.TextFile.{Line, file_lines}
use Rattle.dc_text.specs.Lines.{text_in, reported_line, with_line, and_then, with_lines}
use Rattle.dc_text.proofs.LineByLine.{made_into}
use Rattle.dc_script.specs.declared.fault.ScriptFault.{ScriptFault}
use Rattle.dc_script.specs.declared.fault.ScriptKind.{ScriptKind}
use Rattle.dc_script.specs.declared.fault.ScriptKind.TheVariants.{NotText}
use Rattle.dc_script.specs.declared.item.Item.{Item}
use Rattle.dc_script.specs.declared.item.Item.TheVariants.{RoundLine, SayLine, AllLine, ToLine, AddLine}
use Rattle.dc_script.specs.Items.{item_in}
use Rattle.dc_script.specs.Lines.{terms_of, term_count, item_fault, turns_of_items}
use Rattle.dc_script.specs.Turns.{terms_after}
use Rattle.dc_script.specs.Progress.{Progress}
use Rattle.dc_script.specs.Reading.{script_fault, item_added, item_after, items_with_line, ended_at, lines_after_head, script_in, script_from_bytes}
use Rattle.dc_script.specs.TurnReading.{progressed, with_item_in, with_text, closed, after_head, script_by_turns}
use Rattle.dc_script.proofs.LinesAndTurns.{made, Made, made_round, made_say, made_all, made_to, same_waiting}
use Rattle.dc_script.proofs.LinesInOrder.{InOrder}
use Rattle.dc_script.proofs.AddedLines.{item_in_order, made_add}

-- ---- two contents that lines make alike, while something is kept

text_step : {C D F K : Type 0} (fault : K → F) (into : C → D) (rest : C → Result C F) (other : D → Result D F) (P : C → Type 0) (r : Result C K) (d : Result D K)
    → d ≡ made_into into r → ((next : C) → r ≡ Ok next → P next) → ((next : C) → P next → other (into next) ≡ made_into into (rest next))
    → and_then fault other d ≡ made_into into (and_then fault rest r)
text_step fault into rest other P (Ok next) d same kept goes = ap (and_then fault other) same ∙ goes next (kept next refl)
text_step fault into rest other P (Err kind) d same kept goes = ap (and_then fault other) same

line_step : {C D F K : Type 0} (fault : K → F) (not_text : K) (into : C → D) (rest : C → Result C F) (other : D → Result D F) (P : C → Type 0) (by_text : C → List ℕ → Result C K)
    (other_text : D → List ℕ → Result D K) (content : C) (o : Option (List ℕ))
    → ((text : List ℕ) → other_text (into content) text ≡ made_into into (by_text content text)) → ((text : List ℕ) (next : C) → by_text content text ≡ Ok next → P next)
    → ((next : C) → P next → other (into next) ≡ made_into into (rest next))
    → and_then fault other (with_line not_text other_text (into content) o) ≡ made_into into (and_then fault rest (with_line not_text by_text content o))
line_step fault not_text into rest other P by_text other_text content None same kept goes = refl
line_step fault not_text into rest other P by_text other_text content (Some text) same kept goes =
    text_step fault into rest other P (by_text content text) (other_text (into content) text) (same text) (λ next e. kept text next e) goes

same_while : {C D F K : Type 0} (fault : ℕ → K → F) (not_text : K) (into : C → D) (P : C → Type 0) (by_text : C → List ℕ → Result C K) (other_text : D → List ℕ → Result D K)
    → ((content next : C) (text : List ℕ) → P content → by_text content text ≡ Ok next → P next)
    → ((content : C) (text : List ℕ) → P content → other_text (into content) text ≡ made_into into (by_text content text))
    → (number : ℕ) (content : C) (lines : List Line) → P content
    → with_lines fault not_text other_text number (into content) lines ≡ made_into into (with_lines fault not_text by_text number content lines)
same_while fault not_text into P by_text other_text kept same number content [] is = refl
same_while fault not_text into P by_text other_text kept same number content (l ∷ lines) is =
    line_step (fault (reported_line number)) not_text into (λ next. with_lines fault not_text by_text (number + 1) next lines)
    (λ next. with_lines fault not_text other_text (number + 1) next lines) P by_text other_text content (text_in l)
    (λ text. same content text is) (λ text next e. kept content next text is e) (λ next p. same_while fault not_text into P by_text other_text kept same (number + 1) next lines p)

-- ---- one more line

-- how many terms there are, up to the limit
abbrev counted : List Item → ℕ
counted items = min (term_count items) most_terms

-- the progress that lines make
abbrev progress_of : List Item → Progress
progress_of items = record { turns = turns_of_items items; terms = counted items }

-- the test of the limit
same_room : (items : List Item) → nat_le most_terms (term_count items) ≡ nat_le most_terms (counted items)
same_room items = elim (cases_lt (term_count items) most_terms) [
  | inl less ↦ rw (lt-leb most_terms (term_count items) less, lt-leb most_terms (counted items) (omega (arith, less))) refl
  | inr more ↦ rw (le-leb most_terms (term_count items) more, le-leb most_terms (counted items) (omega (arith, more))) refl
]

made_item : (items : List Item) (x : Item) → InOrder items → Made (counted items) items x
made_item items (RoundLine r) is = made_round (counted items) items r
made_item items (SayLine e) is = made_say (counted items) items e
made_item items AllLine is = made_all (counted items) items
made_item items (ToLine e) is = made_to (counted items) items e
made_item items (AddLine t) is = made_add (counted items) items t is (same_room items)

-- the count with one more line
count_more : (items : List Item) (x : Item) → term_count (items ++ x ∷ []) ≡ term_count items + (terms_of x + 0)
count_more items x = sum_by-append terms_of items (x ∷ []) ∙ ap (λ (n : ℕ). term_count items + n) (sum_by-cons terms_of x [])

limited_more : (n : ℕ) → cond (nat_lt (min n most_terms) most_terms) (min n most_terms + 1) (min n most_terms) ≡ min (n + 1) most_terms
limited_more n = elim (cases_lt n most_terms) [
  | inl less ↦ rw (lt-ltb (min n most_terms) most_terms (omega (arith, less))) (omega (arith, less))
  | inr more ↦ rw (le-ltb (min n most_terms) most_terms (omega (arith, more))) (omega (arith, more))
]

counted_more : (items : List Item) (x : Item) → terms_after (counted items) x ≡ counted (items ++ x ∷ [])
counted_more items (RoundLine r) = omega (arith, count_more items (RoundLine r))
counted_more items (SayLine e) = omega (arith, count_more items (SayLine e))
counted_more items AllLine = omega (arith, count_more items AllLine)
counted_more items (ToLine e) = omega (arith, count_more items (ToLine e))
counted_more items (AddLine t) = limited_more (term_count items) ∙ omega (arith, count_more items (AddLine t))

progressed_added : (items : List Item) (x : Item) (o : Option ScriptKind)
    → progressed (terms_after (counted items) x) (made (turns_of_items (items ++ x ∷ [])) o) ≡ made_into progress_of (item_added items x o)
unfolding made
progressed_added items x None = ap (λ (n : ℕ). Ok (record { turns = turns_of_items (items ++ x ∷ []); terms = n })) (counted_more items x)
progressed_added items x (Some kind) = refl

same_text : (items : List Item) (o : Option Item) → InOrder items → with_item_in (progress_of items) o ≡ made_into progress_of (item_after items o)
same_text items None is = refl
same_text items (Some x) is = ap (progressed (terms_after (counted items) x)) (made_item items x is) ∙ progressed_added items x (item_fault items x)

-- lines stay in order
added_in_order : (items : List Item) (x : Item) (o : Option ScriptKind) (next : List Item) → InOrder items → item_fault items x ≡ o → item_added items x o ≡ Ok next → InOrder next
added_in_order items x None next is passed e = let same : items ++ x ∷ [] ≡ next = cc in subst InOrder same (item_in_order items x is passed)
added_in_order items x (Some kind) next is passed e = absurd cc

text_in_order : (items : List Item) (o : Option Item) (next : List Item) → InOrder items → item_after items o ≡ Ok next → InOrder next
text_in_order items None next is e = absurd cc
text_in_order items (Some x) next is e = added_in_order items x (item_fault items x) next is refl e

-- ---- the end

same_end : (version number : ℕ) (r : Result (List Item) ScriptFault)
    → and_then (λ (f : ScriptFault). f) (closed version) (and_then (λ (f : ScriptFault). f) (λ so_far. Ok (so_far, number)) (made_into progress_of r)) ≡ and_then (λ (f : ScriptFault). f)
    (ended_at version number) r
same_end version number (Ok items) = rw (same_waiting items) refl
same_end version number (Err fault) = refl

same_body : (version : ℕ) (lines : List Line) → after_head version lines ≡ lines_after_head version lines
same_body version lines =
    ap (λ (r : Result Progress ScriptFault). and_then (λ (f : ScriptFault). f) (closed version) (and_then (λ (f : ScriptFault). f) (λ so_far. Ok (so_far, reported_line (2 + length lines))) r))
    (same_while script_fault NotText progress_of InOrder (items_with_line version) (with_text version)
    (λ items next text is e. text_in_order items (item_in version text) next is e) (λ items text is. same_text items (item_in version text) is) 2 [] lines (inl refl))
    ∙ same_end version (reported_line (2 + length lines)) (with_lines script_fault NotText (items_with_line version) 2 [] lines)

-- whole files
pub same_reading : (bytes : List ℕ) → script_by_turns bytes ≡ script_from_bytes bytes
unfolding script_from_bytes script_by_turns
same_reading bytes = λ i. script_in (λ version lines. same_body version lines i) (file_lines bytes)
