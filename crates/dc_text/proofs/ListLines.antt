-- A file of one list that is read is the lines of its items' texts, and such lines are read as those items.
use Rattle.std.proofs.Common.{◌≡◌, ℕ, ◌+◌, ◌<◌, ◌≤◌, Bool, true, false, cond, leb, List, [], ◌∷◌, ◌++◌, length, map, All, Option, Some, None, Result, Ok, Err, IfOk, refl, sym, ◌∙◌, ap, subst, arith, append-nil, append_assoc}
use Rattle.std.proofs.lemmas.Bool.{leb-false, lt-leb}
use Rattle.std.proofs.lemmas.List.{length_push}
use Rattle.std.proofs.lemmas.List.Elements.{All-nil, All-map, All-weaker, All-push, All-head, All-tail}
use Rattle.std.proofs.lemmas.List.Concat.{flat_map-append}
use Rattle.std.proofs.lemmas.List.Folds.{flat_map-map}
use Rattle.dc_spec.specs.Text.{line}
use Rattle.dc_formats.specs.TextFile.{IsTextLine, text_file, file_lines}
use Rattle.dc_field.specs.Answers.{Answers}
use Rattle.dc_field.specs.declared.refusal.Refusal.{Refusal}
use Rattle.dc_field.specs.declared.list_fault.ListFault.{ListFault}
use Rattle.dc_field.specs.declared.list_fault.ListKind.{ListKind}
use Rattle.dc_field.specs.declared.list_fault.ListKind.TheVariants.{NotText, TooMany}
use Rattle.dc_text.specs.ListFiles.{AreListed, HasTexts, list_fault, list_from_bytes, list_text, list_with_line, with_item}
use Rattle.dc_text.proofs.LineByLine.{with_texts, file_is_read, file_is_spelled, texts_of_lines, texts_keep}

-- ---- what a line that is read adds

-- there was room
passed : {X : Type 0} (b : Bool) (r : Result (List X) ListKind) (next : List X) → cond b (Err TooMany) r ≡ Ok next → (b ≡ false) × (r ≡ Ok next)
passed true r next e = absurd cc
passed false r next e = (refl, e)

-- and there was an item
added : {X : Type 0} (bad : ListKind) (items next : List X) (o : Option X) → with_item bad items o ≡ Ok next → (x : X) × (o ≡ Some x) × (items ++ x ∷ [] ≡ next)
added bad items next None e = absurd cc
added bad items next (Some x) e = (x, refl, cc)

record AddsItem {X : Type 0} (item : List ℕ → Option X) (most : ℕ) (items next : List X) (text : List ℕ) : Type 0 where
  pub one : X
  pub read : item text ≡ Some one
  pub room : length items < most
  pub is : items ++ one ∷ [] ≡ next

adds : {X : Type 0} (item : List ℕ → Option X) (bad : ListKind) (most : ℕ) (items next : List X) (text : List ℕ) → list_with_line item bad most items text ≡ Ok next → AddsItem item most items next text
adds item bad most items next text e =
    let first = passed (leb most (length items)) (with_item bad items (item text)) next e in
    let here = added bad items next (item text) first.1 in
    record { one = here.0; read = here.1; room = leb-false _ _ first.0; is = here.2 }

-- the items are kept within what may be
kept : {X : Type 0} (item : List ℕ → Option X) (IsItem : X → Type 0) (text_of : X → List ℕ) (bad : ListKind) (most : ℕ) → HasTexts item IsItem text_of
    → (items next : List X) (text : List ℕ) → AreListed IsItem most items → list_with_line item bad most items text ≡ Ok next → AreListed IsItem most next
kept item IsItem text_of bad most texts items next text are e =
    let more = adds item bad most items next text e in
    subst (AreListed IsItem most) more.is (record {
      most_items = omega (arith, length_push items more.one, more.room);
      are_items = All-push IsItem items more.one are.are_items (texts.found text more.one more.read).0;
    })

-- and its line comes at the end of their lines
spelled : {X : Type 0} (item : List ℕ → Option X) (IsItem : X → Type 0) (text_of : X → List ℕ) (bad : ListKind) (most : ℕ) → HasTexts item IsItem text_of
    → (items next : List X) (text : List ℕ) → list_with_line item bad most items text ≡ Ok next → list_text text_of next ≡ list_text text_of items ++ line text
spelled item IsItem text_of bad most texts items next text e =
    let more = adds item bad most items next text e in
    ap (list_text text_of) (sym more.is) ∙ flat_map-append (λ x. line (text_of x)) items (more.one ∷ [])
    ∙ ap (λ (xs : List ℕ). list_text text_of items ++ xs) (append-nil (line (text_of more.one)) ∙ ap line (sym (texts.found text more.one more.read).1))

-- ---- a whole file

listed : {X : Type 0} (item : List ℕ → Option X) (IsItem : X → Type 0) (text_of : X → List ℕ) (bad : ListKind) (most : ℕ) → HasTexts item IsItem text_of
    → (bytes : List ℕ) (items : List X) → list_from_bytes item bad most bytes ≡ Ok items → AreListed IsItem most items × (bytes ≡ list_text text_of items)
listed item IsItem text_of bad most texts bytes items e =
    let read = texts_of_lines list_fault NotText (list_with_line item bad most) 1 [] items (file_lines bytes) e in (
      texts_keep (list_with_line item bad most) (AreListed IsItem most) (kept item IsItem text_of bad most texts) [] items read.texts
          (record { most_items = omega arith; are_items = All-nil IsItem }) read.made,
      file_is_spelled list_fault NotText (list_with_line item bad most) (list_text text_of) (spelled item IsItem text_of bad most texts) 1 [] items bytes refl e,
    )

-- what is read are items, and the file is their lines
pub is_found : {X : Type 0} (item : List ℕ → Option X) (IsItem : X → Type 0) (text_of : X → List ℕ) (bad : ListKind) (most : ℕ) → HasTexts item IsItem text_of
    → (bytes : List ℕ) (r : Result (List X) (Refusal ListFault)) → Answers r (list_from_bytes item bad most bytes)
    → IfOk r (λ items. AreListed IsItem most items × (bytes ≡ list_text text_of items))
is_found item IsItem text_of bad most texts bytes (Ok items) given = listed item IsItem text_of bad most texts bytes items given
is_found item IsItem text_of bad most texts bytes (Err refusal) given = tt

-- the line of an item is read after others
line_read : {X : Type 0} (item : List ℕ → Option X) (IsItem : X → Type 0) (text_of : X → List ℕ) (bad : ListKind) (most : ℕ) → HasTexts item IsItem text_of
    → (before : List X) (x : X) → IsItem x → length before < most → list_with_line item bad most before (text_of x) ≡ Ok (before ++ x ∷ [])
line_read item IsItem text_of bad most texts before x is room = rw (lt-leb most (length before) room, texts.only x is) refl

-- so are those of all items
lines_read : {X : Type 0} (item : List ℕ → Option X) (IsItem : X → Type 0) (text_of : X → List ℕ) (bad : ListKind) (most : ℕ) → HasTexts item IsItem text_of
    → (before items : List X) → All IsItem items → length before + length items ≤ most → with_texts (list_with_line item bad most) before (map text_of items) ≡ Ok (before ++ items)
lines_read item IsItem text_of bad most texts before [] are room = rw (append-nil before) refl
lines_read item IsItem text_of bad most texts before (x ∷ items) are room =
    rw (line_read item IsItem text_of bad most texts before x (All-head IsItem x items are) (omega arith), ← append_assoc before (x ∷ []) items)
    (lines_read item IsItem text_of bad most texts (before ++ x ∷ []) items (All-tail IsItem x items are) (omega (arith, length_push before x)))

-- the lines of the texts of items are read as these items
pub read_again : {X : Type 0} (item : List ℕ → Option X) (IsItem : X → Type 0) (text_of : X → List ℕ) (bad : ListKind) (most : ℕ) → HasTexts item IsItem text_of
    → (items : List X) → AreListed IsItem most items → list_from_bytes item bad most (list_text text_of items) ≡ Ok items
read_again item IsItem text_of bad most texts items are =
    let lines : text_file (map text_of items) ≡ list_text text_of items = flat_map-map line text_of items in
    let are_lines : All IsTextLine (map text_of items) = All-map IsTextLine text_of items (All-weaker IsItem (λ x. IsTextLine (text_of x)) (λ x is. texts.is_line x is) items are.are_items) in
    ap (list_from_bytes item bad most) (sym lines)
    ∙ file_is_read list_fault NotText (list_with_line item bad most) 1 [] items (map text_of items) are_lines (lines_read item IsItem text_of bad most texts [] items are.are_items (omega (arith, are.most_items)))
