-- Places of columns, and writes to them.
use Rattle.std.proofs.Common.{◌≡◌, ◌≢◌, ℕ, ◌+◌, ◌*◌, ◌<◌, ◌≤◌, List, length, get_or, set, get_or-set_same, get_or-set_other, sym, ap, ◌∙◌, arith, inl, inr}
use Rattle.std.proofs.Math.Nat.{mul-le-mul_left}
use Rattle.std.proofs.lemmas.Bool.{cases_lt, cases_eq}
use Rattle.std.proofs.lemmas.List.{set_past}
use Rattle.std.proofs.lemmas.Nat.{same_from_place}
use Rattle.dc_spec.specs.Symbols.{AreSymbols}

-- places of two columns differ, and so do places of two rows
pub other_column : (width k l s column : ℕ) → s < width → column < width → s ≢ column → width * k + s ≢ width * l + column
other_column width k l s column in_s in_column ne same =
    let e : k * width + s ≡ l * width + column = omega arith in
    ne (same_from_place k s l column width in_s in_column e).1

pub other_row : (width k l column : ℕ) → column < width → k ≢ l → width * k + column ≢ width * l + column
other_row width k l column within ne same =
    let e : k * width + column ≡ l * width + column = omega arith in
    ne (same_from_place k column l column width within within e).0

-- a place within some rows
pub row_within : (width l rows column : ℕ) → column < width → l < rows → width * l + column < width * rows
row_within width l rows column within lt =
    let h : width * (l + 1) ≤ width * rows = mul-le-mul_left width (omega arith) in
    let e : width * (l + 1) ≡ width * l + width = omega arith in
    omega arith

-- a symbol written to a list of symbols
pub symbols-set : (xs : List ℕ) (i y : ℕ) → AreSymbols xs → y < 65537 → AreSymbols (set xs i y)
symbols-set xs i y symbols small k = elim (cases_eq k i) [
  | inl same ↦ elim (cases_lt i (length xs)) [
    | inl lt ↦ (let h = get_or-set_same xs i y 0 lt in let e = ap (λ j. get_or (set xs i y) j 0) same in omega arith)
    | inr past ↦ (let h = ap (λ l. get_or l k 0) (set_past xs i y past) in let g = symbols k in omega arith)
  ]
  | inr other ↦ (let h = get_or-set_other xs i k y 0 other in let g = symbols k in omega arith)
]

-- a column with one number more
pub column_more : (f : ℕ → ℕ) (width column rows i y l : ℕ) (xs : List ℕ) → column < width → length xs ≡ width * rows → l < rows → i ≡ width * l + column
    → ((k : ℕ) → k < l → get_or xs (width * k + column) 0 ≡ f k) → y ≡ f l → (k : ℕ) → k < l + 1 → get_or (set xs i y) (width * k + column) 0 ≡ f k
column_more f width column rows i y l xs within long lt place so_far here k le = elim (cases_eq k l) [
  | inl same ↦
      let inside = row_within width l rows column within lt in
      let at : width * k + column ≡ i = (let e = ap (λ n. width * n) same in omega arith) in
      ap (λ j. get_or (set xs i y) j 0) at ∙ get_or-set_same xs i y 0 (omega arith) ∙ here ∙ ap f (sym same)
  | inr other ↦
      let ne : width * k + column ≢ i = λ e. other_row width k l column within other (e ∙ place) in
      get_or-set_other xs i (width * k + column) y 0 ne ∙ so_far k (omega arith)
]

-- the places that are done, with one more
pub done_more : (f : ℕ → ℕ) (xs : List ℕ) (i y : ℕ) → i < length xs → ((k : ℕ) → k < i → get_or xs k 0 ≡ f k) → y ≡ f i
    → (k : ℕ) → k < i + 1 → get_or (set xs i y) k 0 ≡ f k
done_more f xs i y within done here k lt = elim (cases_lt k i) [
  | inl before ↦ (let ne : k ≢ i = omega arith in get_or-set_other xs i k y 0 ne ∙ done k before)
  | inr le ↦ (let at : k ≡ i = omega arith in ap (λ j. get_or (set xs i y) j 0) at ∙ get_or-set_same xs i y 0 within ∙ here ∙ ap f (sym at))
]
