-- Numbered calls, some of which fail, and the count of faults.
use Rattle.std.specs.Prelude.{ℕ, ◌+◌, ◌-◌, ◌^◌, ◌==◌, min, Bool, List}
use Rattle.std.specs.List.{list_any}

-- the numbers of the calls that fail, the calls and the faults so far
pub record CallBook : Type 0 where
  pub fails : List ℕ
  pub calls : ℕ
  pub faults : ℕ

-- whether the next call fails
abbrev pub is_failing : CallBook → Bool
is_failing book = list_any (λ n. n == book.calls) book.fails

-- one more fault
abbrev pub more_faults : CallBook → CallBook
more_faults book = record { fails = book.fails; calls = book.calls; faults = min (book.faults + 1) (2 ^ 64 - 1) }

-- one more call
abbrev pub more_calls : CallBook → CallBook
more_calls book = record { fails = book.fails; calls = min (book.calls + 1) (2 ^ 32 - 1); faults = book.faults }
