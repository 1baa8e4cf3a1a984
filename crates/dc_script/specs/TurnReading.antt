-- Reading a script with the turns and terms so far in place of the lines so far, which is as good.
use Rattle.std.specs.Prelude.{ℕ, ◌+◌, List, length, Option, Some, None, Result, Ok, Err, if◌then◌else◌}
use Rattle.dc_spec.specs.Scripts.{Turn, Script}
use Rattle.dc_formats.specs.TextFile.{Line, file_lines}
use Rattle.dc_text.specs.Lines.{reported_line, and_then, with_lines}
use Rattle.dc_script.specs.declared.fault.ScriptFault.{ScriptFault}
use Rattle.dc_script.specs.declared.fault.ScriptKind.{ScriptKind}
use Rattle.dc_script.specs.declared.fault.ScriptKind.TheVariants.{NotText, Form, Missing}
use Rattle.dc_script.specs.declared.item.Item.{Item}
use Rattle.dc_script.specs.Items.{item_in}
use Rattle.dc_script.specs.Turns.{is_waiting, with_item, terms_after}
use Rattle.dc_script.specs.Progress.{Progress, no_progress}
use Rattle.dc_script.specs.Reading.{script_fault, script_in}

-- other turns, after so many terms
abbrev pub progressed : ℕ → Result (List Turn) ScriptKind → Result Progress ScriptKind
progressed terms (Err kind) = Err kind
progressed terms (Ok turns) = Ok (record { turns = turns; terms = terms })

-- the progress with what a line says
abbrev pub with_item_in : Progress → Option Item → Result Progress ScriptKind
with_item_in so_far None = Err Form
with_item_in so_far (Some item) = progressed (terms_after so_far.terms item) (with_item so_far.terms so_far.turns item)

-- the progress with one more line, in a file of this version
abbrev pub with_text : ℕ → Progress → List ℕ → Result Progress ScriptKind
with_text version so_far text = with_item_in so_far (item_in version text)

-- the progress that the lines after the first make, and the number of the line past the last
abbrev pub progress_in : ℕ → List Line → Result (Progress × ℕ) ScriptFault
progress_in version lines = and_then (λ fault. fault) (λ so_far. Ok (so_far, reported_line (2 + length lines)))
    (with_lines script_fault NotText (with_text version) 2 no_progress lines)

-- the script, where the last turn has a delivery
abbrev pub closed : ℕ → Progress × ℕ → Result Script ScriptFault
closed version p =
    if is_waiting p.0.turns then Err (script_fault p.1 Missing)
    else Ok (record { version = version; rounds = p.0.turns })

-- the lines after the first are read, then the end is tested
abbrev pub after_head : ℕ → List Line → Result Script ScriptFault
after_head version lines = and_then (λ fault. fault) (closed version) (progress_in version lines)

-- the script that bytes spell, or their first fault
unfoldable pub script_by_turns : List ℕ → Result Script ScriptFault
script_by_turns bytes = script_in after_head (file_lines bytes)
