-- Sets of fields as sixteen flags.
use Rattle.std.specs.Prelude.{ℕ, Bool, false, List, filter, slice_index_or}
use Rattle.std.specs.List.{range_with_len}

-- whether a field is one of them
abbrev pub has_field : List Bool → ℕ → Bool
has_field flags field = slice_index_or flags field false

-- the fields, rising
unfoldable pub fields_of : List Bool → List ℕ
fields_of flags = filter (has_field flags) (range_with_len 0 16)
