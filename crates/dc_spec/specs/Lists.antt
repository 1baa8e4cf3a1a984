-- Lists of numbers.
use Rattle.std.specs.Prelude.{ℕ, Bool, List, nat_eq}
use Rattle.std.specs.List.{list_any}

-- whether a number is in a list
abbrev pub is_among : List ℕ → ℕ → Bool
is_among xs x = list_any (λ y. nat_eq x y) xs
