-- What is found along two rising lists.
use Rattle.std.specs.Prelude.{ℕ, Bool, not, ◌&&◌, ◌==◌, List, [], ◌∷◌, find, min, Option, Some, None, if◌then◌else◌}
use Rattle.std.specs.List.{list_any}

-- whether two pairs of stations are the same
abbrev pub are_same_ends : ℕ × ℕ → ℕ × ℕ → Bool
are_same_ends e f = e.0 == f.0 && e.1 == f.1

-- the first of the pairs of stations that is not in another list
abbrev pub first_absent : List (ℕ × ℕ) → List (ℕ × ℕ) → Option (ℕ × ℕ)
first_absent es fs = find (λ e. not (list_any (λ f. are_same_ends f e) fs)) es

-- where two lists of numbers first differ, the lesser of the two numbers there, or the one that is there
abbrev pub first_difference : List ℕ → List ℕ → Option ℕ
first_difference [] [] = None
first_difference (x ∷ xs) [] = Some x
first_difference [] (y ∷ ys) = Some y
first_difference (x ∷ xs) (y ∷ ys) =
    if x == y then first_difference xs ys else Some (min x y)
