-- Reading a script: the head line, then line after line, then the end.
use Rattle.std.specs.Prelude.{ℕ, ◌+◌, List, [], ◌∷◌, ◌++◌, length, Option, Some, None, Result, Ok, Err, bytes_eq, if◌then◌else◌, codes}
use Rattle.dc_spec.specs.Scripts.{Script}
use Rattle.dc_formats.specs.TextFile.{Line, file_lines}
use Rattle.dc_text.specs.Lines.{text_in, reported_line, and_then, with_lines}
use Rattle.dc_script.specs.declared.fault.ScriptFault.{ScriptFault}
use Rattle.dc_script.specs.declared.fault.ScriptKind.{ScriptKind}
use Rattle.dc_script.specs.declared.fault.ScriptKind.TheVariants.{NotText, Header, Form, Missing}
use Rattle.dc_script.specs.declared.item.Item.{Item}
use Rattle.dc_script.specs.Items.{item_in}
use Rattle.dc_script.specs.Lines.{lacks_delivery, item_fault, turns_of_items}

-- what is wrong with the line of this number
abbrev pub script_fault : ℕ → ScriptKind → ScriptFault
script_fault number kind = record { line = number; kind = kind }

-- the items with one more, or its fault
abbrev pub item_added : List Item → Item → Option ScriptKind → Result (List Item) ScriptKind
item_added before item None = Ok (before ++ item ∷ [])
item_added before item (Some kind) = Err kind

-- a line has to spell an item
abbrev pub item_after : List Item → Option Item → Result (List Item) ScriptKind
item_after before None = Err Form
item_after before (Some item) = item_added before item (item_fault before item)

-- the items with one more line, in a file of this version
abbrev pub items_with_line : ℕ → List Item → List ℕ → Result (List Item) ScriptKind
items_with_line version before text = item_after before (item_in version text)

-- the script of this version
abbrev pub script_of_items : ℕ → List Item → Script
script_of_items version items = record { version = version; rounds = turns_of_items items }

-- at the end the last round has to have a delivery; the number is that of the line past the last
abbrev pub ended_at : ℕ → ℕ → List Item → Result Script ScriptFault
ended_at version number items =
    if lacks_delivery items then Err (script_fault number Missing) else Ok (script_of_items version items)

-- the lines after the first
abbrev pub lines_after_head : ℕ → List Line → Result Script ScriptFault
lines_after_head version lines = and_then (λ fault. fault) (ended_at version (reported_line (2 + length lines)))
    (with_lines script_fault NotText (items_with_line version) 2 [] lines)

-- the first line is tested, then a body of its version is read
abbrev pub headed : (ℕ → List Line → Result Script ScriptFault) → Option (List ℕ) → List Line
    → Result Script ScriptFault
headed body None lines = Err (script_fault 1 NotText)
headed body (Some text) lines =
    if bytes_eq text (codes "dcscript 1") then body 1 lines
    else if bytes_eq text (codes "dcscript 2") then body 2 lines
    else Err (script_fault 1 Header)

-- the first line and the body of a file
abbrev pub script_in : (ℕ → List Line → Result Script ScriptFault) → List Line → Result Script ScriptFault
script_in body [] = Err (script_fault 1 Header)
script_in body (first ∷ lines) = headed body (text_in first) lines

-- the script that bytes spell, or their first fault
unfoldable pub script_from_bytes : List ℕ → Result Script ScriptFault
script_from_bytes bytes = script_in lines_after_head (file_lines bytes)
