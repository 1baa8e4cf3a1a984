-- The lines of a steering, in the pieces in which they are gathered.
use Rattle.std.proofs.Common.{◌≡◌, ◌≢◌, ℕ, ◌+◌, ◌<◌, Bool, if◌then◌else◌, List, [], ◌∷◌, ◌++◌, length, get_or, ap, ◌∙◌, arith, append_assoc}
use Rattle.std.specs.Prelude.{codes, decimal}
use Rattle.std.specs.List.{enumerate_from}
use Rattle.std.proofs.lemmas.List.FromFn.{get_or-enumerate_from}
use Rattle.std.proofs.lemmas.Bool.{ne_eqb}
use Rattle.dc_spec.specs.Text.{line, symbol_text}
use Rattle.dc_steering_rules.specs.SteeringText.{change_line}

-- a beginning, and the rest of a line
pub line-parts : (a b t : List ℕ) → line (a ++ b ++ t) ≡ a ++ line (b ++ t)
line-parts a b t = ap (λ (z : List ℕ). z ++ 10 ∷ []) (append_assoc a b t) ∙ append_assoc a (b ++ t) (10 ∷ [])

-- the line of a change that is not 0
pub change-parts : (beginning : List ℕ) (n x : ℕ) → x ≢ 0 → change_line beginning n x ≡ (beginning ++ decimal n) ++ line (codes " " ++ symbol_text x)
change-parts beginning n x some =
    ap (λ (b : Bool). if b then [] else line (beginning ++ decimal n ++ codes " " ++ symbol_text x)) (ne_eqb x 0 some) ∙ line-parts (beginning ++ decimal n) (codes " ") (symbol_text x)

-- no line where it is 0
pub change-none : (beginning : List ℕ) (n x : ℕ) → x ≡ 0 → change_line beginning n x ≡ []
change-none beginning n x none = ap (λ (z : ℕ). change_line beginning n z) none

-- an item with its number
pub numbered : (xs : List ℕ) (i : ℕ) → i < length xs → get_or (enumerate_from 0 xs) i (0, 0) ≡ (i, get_or xs i 0)
numbered xs i low =
    let same : 0 + i ≡ i = omega arith in
    get_or-enumerate_from 0 xs i (0, 0) low ∙ ap (λ (n : ℕ). (n, get_or xs i 0)) same
