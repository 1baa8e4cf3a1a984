-- What is read up to one byte past a limit is all that was left, where it is within the limit.
use Rattle.std.proofs.Common.{◌≡◌, ℕ, ◌+◌, ◌-◌, ◌^◌, ◌<◌, ◌≤◌, min, List, [], ◌++◌, length, take, Option, None, Some, Ok, IfSome, ◌∙◌, ap, arith}
use Rattle.std.specs.Prelude.{option_map}
use Rattle.std.proofs.lemmas.List.{take_all, length-take}
use Rattle.dc_edge.specs.Opened.{GivesRest}

pub rest_whole : (remaining : Option (List ℕ)) (limit n : ℕ) (bytes : List ℕ) → n ≡ min (limit + 1) (2 ^ 64 - 1) → IfSome (option_map (take n) remaining) (λ xs. bytes ≡ [] ++ xs)
    → length bytes ≤ limit → length bytes < 2 ^ 64 - 1 → IfSome remaining (λ left. GivesRest left limit (Ok bytes))
rest_whole None limit n bytes count read within small = tt
rest_whole (Some left) limit n bytes count read within small =
    let size : length bytes ≡ min n (length left) = ap length read ∙ length-take n left in
    read ∙ take_all n left (omega arith)
