-- Lists of symbols and their pieces.
use Rattle.std.proofs.Common.{ℕ, ◌+◌, ◌-◌, List, ◌++◌, length, take, drop, refl, arith, inl, inr}
use Rattle.std.proofs.lemmas.Bool.{cases_lt}
use Rattle.std.proofs.lemmas.List.{length-take, get_or-take, get_or-drop, get_or_append_left, get_or-append_right, get_or_past}
use Rattle.dc_spec.specs.Symbols.{AreSymbols}

pub symbols-drop : (n : ℕ) (a : List ℕ) → AreSymbols a → AreSymbols (drop n a)
symbols-drop n a symbols i = (let place = get_or-drop n a i 0 in let small = symbols (n + i) in omega arith)

pub symbols-take : (k : ℕ) (a : List ℕ) → AreSymbols a → AreSymbols (take k a)
symbols-take k a symbols i = elim (cases_lt i k) [
  | inl lt ↦ (let same = get_or-take k a i 0 lt in let small = symbols i in omega arith)
  | inr past ↦ (let long = length-take k a in let none = get_or_past (take k a) i 0 (omega arith) in omega arith)
]

pub symbols-append : (l r : List ℕ) → AreSymbols l → AreSymbols r → AreSymbols (l ++ r)
symbols-append l r left right i = elim (cases_lt i (length l)) [
  | inl lt ↦ (let same = get_or_append_left l r 0 i lt in let small = left i in omega arith)
  | inr le ↦ (let same = get_or-append_right l r (length l) i 0 refl le in let small = right (i - length l) in omega arith)
]
