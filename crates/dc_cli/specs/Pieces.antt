-- The pieces of a fault's text.
use Rattle.std.specs.Prelude.{ℕ, List, ◌++◌, decimal}

-- a text and a number after it, in decimal
abbrev pub numbered : List ℕ → ℕ → List ℕ
numbered text n = text ++ decimal n
