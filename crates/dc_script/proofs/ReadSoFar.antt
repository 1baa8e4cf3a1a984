-- One line after another is read, and the others are left.
use Rattle.std.proofs.Common.{◌≡◌, ℕ, ◌+◌, List, length}
use Rattle.dc_formats.specs.TextFile.{file_lines}
use Rattle.dc_text.specs.Lines.{with_lines, LinesLeft}
use Rattle.dc_script.specs.declared.fault.ScriptKind.TheVariants.{NotText}
use Rattle.dc_script.specs.Progress.{Progress, no_progress}
use Rattle.dc_script.specs.Reading.{script_fault}
use Rattle.dc_script.specs.TurnReading.{with_text}

-- the lines before those that are left make this
pub record ReadSoFar (version : ℕ) (bytes : List ℕ) (left : LinesLeft) (so_far : Progress) : Type 0 where
  pub made : with_lines script_fault NotText (with_text version) 2 no_progress (file_lines bytes) ≡ with_lines script_fault NotText (with_text version) (left.before + 1) so_far (file_lines left.bytes)
  pub count : left.before + 1 + length (file_lines left.bytes) ≡ 2 + length (file_lines bytes)
