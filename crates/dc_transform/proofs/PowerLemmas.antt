-- The table of powers, one after another.
use Rattle.std.proofs.Common.{◌≡◌, ℕ, ◌+◌, ◌<◌, List, [], ◌∷◌, ◌++◌, length, get_or, sym, ap, ◌∙◌, arith, inl, inr}
use Rattle.std.proofs.lemmas.Bool.{cases_lt}
use Rattle.std.proofs.lemmas.List.{get_or_append_left, get_or_push}
use Rattle.dc_transform_rules.specs.Residues.{root}
use Rattle.dc_transform.specs.Roots.{ArePowers}

-- a list of powers with the next one at its end
pub powers-more : (xs : List ℕ) (count power : ℕ) → length xs ≡ count → ArePowers xs count → power ≡ root count → ArePowers (xs ++ power ∷ []) (count + 1)
powers-more xs count power long powers next x lt = elim (cases_lt x count) [
  | inl before ↦ (let within : x < length xs = omega arith in get_or_append_left xs (power ∷ []) 0 x within ∙ powers x before)
  | inr le ↦ (let at : x ≡ count = omega arith in
      ap (λ (k : ℕ). get_or (xs ++ power ∷ []) k 0) at ∙ get_or_push xs power 0 count long ∙ next ∙ ap root (sym at))
]
