-- Reading a number in text.
use Rattle.std.specs.Prelude.{ℕ, ◌^◌, ◌&&◌, List, Option, Some, None, nat_lt, bytes_eq, if◌then◌else◌}
use Rattle.std.specs.Fmt.{decimal}
use Rattle.std.specs.Str.Parse.{digits_value}

-- a number, where it is below 2^32 and written so
abbrev pub where_written : List ℕ → ℕ → Option ℕ
where_written text n = if nat_lt n (2 ^ 32) && bytes_eq (decimal n) text then Some n else None

-- the number below 2^32 whose decimal text this is
abbrev pub number_in : List ℕ → Option ℕ
number_in text = where_written text (digits_value 10 text)
