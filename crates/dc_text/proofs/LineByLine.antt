-- What lines make of a content, for any format: line after line, and all lines of a file at once.
use Rattle.std.proofs.Common.{◌≡◌, ℕ, ◌+◌, Bool, true, false, cond, List, [], ◌∷◌, ◌++◌, map, All, Option, Some, None, Result, Ok, Err, refl, sym, ◌∙◌, ap, subst, arith, append-nil, append_assoc}
use Rattle.std.specs.List.{list_all}
use Rattle.std.proofs.lemmas.Bool.Decides.{nat_tests}
use Rattle.std.proofs.lemmas.List.Elements.{All-nil, All-cons, All-head, All-tail, All-weaker}
use Rattle.std.proofs.lemmas.List.Sums.{AllPass-from_list_all, list_all-from_AllPass}
use Rattle.dc_spec.specs.Text.{line}
use Rattle.dc_formats.specs.TextFile.{IsPrintable, IsTextLine, text_file, Line, ended, cut_off, file_lines}
use Rattle.dc_formats.proofs.FileLines.{lines_of_text_file, text_file_of_lines}
use Rattle.dc_text.specs.Lines.{is_printable, text_in, reported_line, with_line, and_then, with_lines}
use Rattle.dc_text.proofs.FirstLine.{printable}

-- ---- a line as text

passes : (c : ℕ) → IsPrintable c → is_printable c ≡ true
passes c is = grind (arith, nat_tests)

-- printable characters and their end are text
pub text_in-ended : (text : List ℕ) → IsTextLine text → text_in (ended text) ≡ Some text
text_in-ended text is = rw (list_all-from_AllPass is_printable text (All-weaker IsPrintable (λ c. is_printable c ≡ true) passes text is)) refl

tested : (b : Bool) (t text : List ℕ) → cond b (Some t) None ≡ Some text → (b ≡ true) × (t ≡ text)
tested true t text e = (refl, cc)
tested false t text e = absurd cc

-- a line that is text has its end and printable characters alone
pub ended_text : (l : Line) (text : List ℕ) → text_in l ≡ Some text → (l ≡ ended text) × IsTextLine text
ended_text (ended t) text e =
    let parts = tested (list_all is_printable t) t text e in
    let is : IsTextLine t = All-weaker (λ c. is_printable c ≡ true) IsPrintable printable t (AllPass-from_list_all is_printable t parts.0) in
    (ap ended parts.1, subst IsTextLine parts.1 is)
ended_text (cut_off t) text e = absurd cc

-- ---- all lines of a file

-- what texts make of a content one after another
abbrev pub with_texts : {C K : Type 0} → (C → List ℕ → Result C K) → C → List (List ℕ) → Result C K
with_texts with_text content [] = Ok content
with_texts with_text content (text ∷ texts) = and_then (λ kind. kind) (λ next. with_texts with_text next texts) (with_text content text)

-- a step that went on
pub went_on : {C D F K : Type 0} (fault : K → F) (rest : C → Result D F) (r : Result C K) (d : D) → and_then fault rest r ≡ Ok d → (c : C) × (r ≡ Ok c) × (rest c ≡ Ok d)
went_on fault rest (Ok c) d e = (c, refl, e)
went_on fault rest (Err kind) d e = absurd cc

-- a line that was text
was_text : {C K : Type 0} (not_text : K) (with_text : C → List ℕ → Result C K) (content next : C) (o : Option (List ℕ)) → with_line not_text with_text content o ≡ Ok next
    → (text : List ℕ) × (o ≡ Some text) × (with_text content text ≡ Ok next)
was_text not_text with_text content next None e = absurd cc
was_text not_text with_text content next (Some text) e = (text, refl, e)

-- the texts of lines that were all read
pub record AreRead {C K : Type 0} (with_text : C → List ℕ → Result C K) (content end : C) (lines : List Line) : Type 0 where
  pub texts : List (List ℕ)
  pub are_lines : All IsTextLine texts
  pub are_ended : lines ≡ map ended texts
  pub made : with_texts with_text content texts ≡ Ok end

-- lines that are read without a fault are texts with their ends
pub texts_of_lines : {C F K : Type 0} (fault : ℕ → K → F) (not_text : K) (with_text : C → List ℕ → Result C K) (number : ℕ) (content end : C) (lines : List Line)
    → with_lines fault not_text with_text number content lines ≡ Ok end → AreRead with_text content end lines
texts_of_lines fault not_text with_text number content end [] e = record { texts = []; are_lines = All-nil IsTextLine; are_ended = refl; made = cc }
texts_of_lines fault not_text with_text number content end (l ∷ lines) e =
    let step = went_on (fault (reported_line number)) (λ next. with_lines fault not_text with_text (number + 1) next lines) (with_line not_text with_text content (text_in l)) end e in
    let here = was_text not_text with_text content step.0 (text_in l) step.1 in
    let is = ended_text l here.0 here.1 in
    let rest = texts_of_lines fault not_text with_text (number + 1) step.0 end lines step.2 in
    record {
      texts = here.0 ∷ rest.texts;
      are_lines = All-cons IsTextLine here.0 rest.texts is.1 rest.are_lines;
      are_ended = cc (is.0, rest.are_ended);
      made = rw here.2 rest.made;
    }

-- texts that make a content are read from their lines
pub lines_of_texts : {C F K : Type 0} (fault : ℕ → K → F) (not_text : K) (with_text : C → List ℕ → Result C K) (number : ℕ) (content end : C) (texts : List (List ℕ))
    → All IsTextLine texts → with_texts with_text content texts ≡ Ok end
    → with_lines fault not_text with_text number content (map ended texts) ≡ Ok end
lines_of_texts {K = K} fault not_text with_text number content end [] are e = cc
lines_of_texts {K = K} fault not_text with_text number content end (text ∷ texts) are e =
    let step = went_on (λ (kind : K). kind) (λ next. with_texts with_text next texts) (with_text content text) end e in
    rw (text_in-ended text (All-head IsTextLine text texts are), step.1)
    (lines_of_texts fault not_text with_text (number + 1) step.0 end texts (All-tail IsTextLine text texts are) step.2)

-- a file of such texts is read
pub file_is_read : {C F K : Type 0} (fault : ℕ → K → F) (not_text : K) (with_text : C → List ℕ → Result C K) (number : ℕ) (content end : C) (texts : List (List ℕ))
    → All IsTextLine texts → with_texts with_text content texts ≡ Ok end
    → with_lines fault not_text with_text number content (file_lines (text_file texts)) ≡ Ok end
file_is_read fault not_text with_text number content end texts are e =
    ap (with_lines fault not_text with_text number content) (lines_of_text_file texts are) ∙ lines_of_texts fault not_text with_text number content end texts are e

-- texts after others
pub with_texts-append : {C K : Type 0} (with_text : C → List ℕ → Result C K) (content next : C) (texts others : List (List ℕ)) → with_texts with_text content texts ≡ Ok next
    → with_texts with_text content (texts ++ others) ≡ with_texts with_text next others
with_texts-append {K = K} with_text content next [] others e = let same : content ≡ next = cc in rw same refl
with_texts-append {K = K} with_text content next (text ∷ texts) others e =
    let step = went_on (λ (kind : K). kind) (λ after. with_texts with_text after texts) (with_text content text) next e in
    rw step.1 (with_texts-append with_text step.0 next texts others step.2)

-- where each text puts its line at the end of a content's spelling, all of them put their file there
pub texts_spelled : {C K : Type 0} (with_text : C → List ℕ → Result C K) (spelled : C → List ℕ)
    → ((content next : C) (text : List ℕ) → with_text content text ≡ Ok next → spelled next ≡ spelled content ++ line text)
    → (content end : C) (texts : List (List ℕ)) → with_texts with_text content texts ≡ Ok end → spelled end ≡ spelled content ++ text_file texts
texts_spelled {K = K} with_text spelled each content end [] e =
    let same : content ≡ end = cc in
    rw (← same) (sym (append-nil (spelled content)))
texts_spelled {K = K} with_text spelled each content end (text ∷ texts) e =
    let step = went_on (λ (kind : K). kind) (λ next. with_texts with_text next texts) (with_text content text) end e in
    texts_spelled with_text spelled each step.0 end texts step.2 ∙ ap (λ (xs : List ℕ). xs ++ text_file texts) (each content step.0 text step.1) ∙ append_assoc (spelled content) (line text) (text_file texts)

-- so bytes that are read, from a content that is spelled by nothing, are the spelling of what is read
pub file_is_spelled : {C F K : Type 0} (fault : ℕ → K → F) (not_text : K) (with_text : C → List ℕ → Result C K) (spelled : C → List ℕ)
    → ((content next : C) (text : List ℕ) → with_text content text ≡ Ok next → spelled next ≡ spelled content ++ line text)
    → (number : ℕ) (content end : C) (bytes : List ℕ) → spelled content ≡ [] → with_lines fault not_text with_text number content (file_lines bytes) ≡ Ok end → bytes ≡ spelled end
file_is_spelled fault not_text with_text spelled each number content end bytes nothing e =
    let read = texts_of_lines fault not_text with_text number content end (file_lines bytes) e in
    text_file_of_lines bytes read.texts read.are_ended ∙ sym (texts_spelled with_text spelled each content end read.texts read.made ∙ ap (λ (xs : List ℕ). xs ++ text_file read.texts) nothing)

-- what each text keeps of a content holds of what they all make of it
pub texts_keep : {C K : Type 0} (with_text : C → List ℕ → Result C K) (P : C → Type 0) → ((content next : C) (text : List ℕ) → P content → with_text content text ≡ Ok next → P next)
    → (content end : C) (texts : List (List ℕ)) → P content → with_texts with_text content texts ≡ Ok end → P end
texts_keep {K = K} with_text P each content end [] is e = let same : content ≡ end = cc in subst P same is
texts_keep {K = K} with_text P each content end (text ∷ texts) is e =
    let step = went_on (λ (kind : K). kind) (λ next. with_texts with_text next texts) (with_text content text) end e in
    texts_keep with_text P each step.0 end texts (each content step.0 text is step.1) step.2

-- ---- two contents that lines make alike

-- a content that is made by reading is made into another
abbrev pub made_into : {C D F : Type 0} → (C → D) → Result C F → Result D F
made_into into (Ok content) = Ok (into content)
made_into into (Err fault) = Err fault

after_step : {C D K F : Type 0} (fault : K → F) (into : C → D) (rest : C → Result C F) (other : D → Result D F)
    → ((content : C) → other (into content) ≡ made_into into (rest content)) → (r : Result C K)
    → and_then fault other (made_into into r) ≡ made_into into (and_then fault rest r)
after_step fault into rest other each (Ok content) = each content
after_step fault into rest other each (Err kind) = refl

same_line : {C D K : Type 0} (not_text : K) (into : C → D) (with_text : C → List ℕ → Result C K) (other_text : D → List ℕ → Result D K)
    → ((content : C) (text : List ℕ) → other_text (into content) text ≡ made_into into (with_text content text))
    → (content : C) (o : Option (List ℕ)) → with_line not_text other_text (into content) o ≡ made_into into (with_line not_text with_text content o)
same_line not_text into with_text other_text each content None = refl
same_line not_text into with_text other_text each content (Some text) = each content text

-- where each text makes them alike, all lines do
pub same_lines : {C D F K : Type 0} (fault : ℕ → K → F) (not_text : K) (into : C → D) (with_text : C → List ℕ → Result C K) (other_text : D → List ℕ → Result D K)
    → ((content : C) (text : List ℕ) → other_text (into content) text ≡ made_into into (with_text content text))
    → (number : ℕ) (content : C) (lines : List Line) → with_lines fault not_text other_text number (into content) lines ≡ made_into into (with_lines fault not_text with_text number content lines)
same_lines fault not_text into with_text other_text each number content [] = refl
same_lines fault not_text into with_text other_text each number content (l ∷ lines) =
    ap (and_then (fault (reported_line number)) (λ next. with_lines fault not_text other_text (number + 1) next lines)) (same_line not_text into with_text other_text each content (text_in l))
    ∙ after_step (fault (reported_line number)) into (λ next. with_lines fault not_text with_text (number + 1) next lines) (λ next. with_lines fault not_text other_text (number + 1) next lines)
    (λ next. same_lines fault not_text into with_text other_text each (number + 1) next lines) (with_line not_text with_text content (text_in l))
