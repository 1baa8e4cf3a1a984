-- The summary of a trial: its numbers, how many values and messages are in the first station's log
-- and pending, the sum of all sums.
use Rattle.std.specs.Prelude.{ℕ, List, [], ◌++◌, sum_by, slice_index_or, codes}
use Rattle.std.specs.Fmt.{decimal}
use Rattle.dc_spec.specs.Words.{word_sum}
use Rattle.dc_spec.specs.Text.{line, word_text}
use Rattle.dc_spec.specs.Entries.{Entry, short, long}
use Rattle.dc_spec.specs.Net.{Run}
use Rattle.dc_run_texts.specs.Logs.{pending_line}

-- how many values an entry counts for
abbrev pub shorts_in : Entry → ℕ
shorts_in (short value times) = times
shorts_in (long message) = 0

-- how many messages an entry counts for
abbrev pub longs_in : Entry → ℕ
longs_in (short value times) = 0
longs_in (long message) = 1

-- the first station's log
abbrev pub first_log : Run → List Entry
first_log run = slice_index_or run.logs 0 []

-- the seed and the numbers of stations and words
abbrev pub trial_line : ℕ → ℕ → ℕ → List ℕ
trial_line seed stations words =
    line (codes "trial " ++ decimal seed ++ codes " " ++ decimal stations ++ codes " "
    ++ decimal words)

-- five lines
unfoldable pub trial_text : ℕ → ℕ → ℕ → Run → List ℕ
trial_text seed stations words run = trial_line seed stations words
    ++ line (codes "short " ++ decimal (sum_by shorts_in (first_log run)))
    ++ line (codes "long " ++ decimal (sum_by longs_in (first_log run)))
    ++ pending_line (sum_by (λ p. p.0) run.pending) (sum_by (λ p. p.1) run.pending)
    ++ line (codes "sum " ++ word_text (word_sum run.sums))
