-- The outcome of a command line that is not available as text.
use Rattle.std.specs.declared.io.ErrorKind.{ErrorKind}
use Rattle.std.specs.declared.io.ErrorKind.TheVariants.{OutOfMemory}
use Rattle.dc_cli.specs.declared.outcome.Outcome.{Outcome}
use Rattle.dc_cli.specs.declared.outcome.Outcome.TheVariants.{Usage, NoMemory}

-- memory ran out, or a word is not UTF-8: then no beginning of the words begins a form
abbrev pub outcome_without_words : ErrorKind → Outcome
outcome_without_words OutOfMemory = NoMemory
outcome_without_words _ = Usage 0
