-- Files that are one list, one item a line: what is read of them, or their first fault.
use Rattle.std.specs.Prelude.{◌≡◌, ◌≤◌, ℕ, List, [], ◌∷◌, ◌++◌, length, All, Option, Some, None, Result, Ok, Err, nat_le, if◌then◌else◌}
use Rattle.std.specs.List.{flat_map}
use Rattle.dc_spec.specs.Text.{line}
use Rattle.dc_formats.specs.TextFile.{IsTextLine, file_lines}
use Rattle.dc_field.specs.declared.list_fault.ListFault.{ListFault}
use Rattle.dc_field.specs.declared.list_fault.ListKind.{ListKind}
use Rattle.dc_field.specs.declared.list_fault.ListKind.TheVariants.{NotText, TooMany}
use Rattle.dc_text.specs.Lines.{with_lines}

-- what is wrong with the line of this number
abbrev pub list_fault : ℕ → ListKind → ListFault
list_fault number kind = record { line = number; kind = kind }

-- the items with this one after them, where the line spells one
abbrev pub with_item : {X : Type 0} → ListKind → List X → Option X → Result (List X) ListKind
with_item bad items None = Err bad
with_item bad items (Some x) = Ok (items ++ x ∷ [])

-- the items with that of one more line, where there may be one more and the line spells it
abbrev pub list_with_line : {X : Type 0} → (List ℕ → Option X) → ListKind → ℕ → List X → List ℕ → Result (List X) ListKind
list_with_line item bad most items text = if nat_le most (length items) then Err TooMany else with_item bad items (item text)

-- the items with those of further lines, the first of them having this number, or the first fault
abbrev pub list_with_lines : {X : Type 0} → (List ℕ → Option X) → ListKind → ℕ → ℕ → List X → List ℕ → Result (List X) ListFault
list_with_lines item bad most number items bytes = with_lines list_fault NotText (list_with_line item bad most) number items (file_lines bytes)

-- the items of a file, at most so many, or its first fault
abbrev pub list_from_bytes : {X : Type 0} → (List ℕ → Option X) → ListKind → ℕ → List ℕ → Result (List X) ListFault
list_from_bytes item bad most bytes = list_with_lines item bad most 1 [] bytes

-- a line with the text of each item
abbrev pub list_text : {X : Type 0} → (X → List ℕ) → List X → List ℕ
list_text text_of items = flat_map (λ x. line (text_of x)) items

-- each item has one text, which is read as that item, and no other text is
pub record HasTexts {X : Type 0} (item : List ℕ → Option X) (IsItem : X → Type 0) (text_of : X → List ℕ) : Type 0 where
  pub found : (text : List ℕ) (x : X) → item text ≡ Some x → IsItem x × (text ≡ text_of x)
  pub is_line : (x : X) → IsItem x → IsTextLine (text_of x)
  pub only : (x : X) → IsItem x → item (text_of x) ≡ Some x

-- items of a file, no more than there may be
pub record AreListed {X : Type 0} (IsItem : X → Type 0) (most : ℕ) (items : List X) : Type 0 where
  pub most_items : length items ≤ most
  pub are_items : All IsItem items
