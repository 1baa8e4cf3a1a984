-- The files that a reader needs, where it goes on as another one.
use Rattle.std.proofs.Common.{◌≡◌, ℕ, List, [], ◌∷◌, ◌++◌, sym, subst}
use Rattle.dc_net_files.specs.Steps.{File, Step, needs, refuses, differs, makes, Reader, ◌>>=◌, bytes_of}
use Rattle.dc_net_files.specs.Reading.{Meets, AreNeeded}

Meets-same : {A : Type 0} (step other : Step A) (file : File) → step ≡ other → Meets other file → Meets step file
Meets-same {A} step other file e m = let P : Step A → Type 0 = λ s. Meets s file in subst P (sym e) m

-- readers with the same steps need the same files
pub AreNeeded-same : {A : Type 0} (reader next : Reader A) (files : List File)
    → ((more : List (List ℕ)) → reader more ≡ next more) → AreNeeded next files → AreNeeded reader files
AreNeeded-same reader next [] same needed = tt
AreNeeded-same reader next (file ∷ files) same needed = (
  Meets-same (reader []) (next []) file (same []) needed.0,
  AreNeeded-same (λ more. reader (file.bytes ∷ more)) (λ more. next (file.bytes ∷ more)) files (λ more. same (file.bytes ∷ more)) needed.1,
)

-- after the first files the reader goes on as the next one
pub AreNeeded-append : {A : Type 0} (reader next : Reader A) (front files : List File)
    → AreNeeded reader front → ((more : List (List ℕ)) → reader (bytes_of front ++ more) ≡ next more) → AreNeeded next files
    → AreNeeded reader (front ++ files)
AreNeeded-append reader next [] files first goes_on needed = AreNeeded-same reader next files goes_on needed
AreNeeded-append reader next (file ∷ front) files first goes_on needed =
    (first.0, AreNeeded-append (λ more. reader (file.bytes ∷ more)) next front files first.1 goes_on needed)

Meets-first : {A B : Type 0} (step : Step A) (next : A → Reader B) (file : File) → Meets step file → Meets (step >>= next) file
Meets-first (needs name limit) next file m = m
Meets-first (refuses name fault) next file m = absurd m
Meets-first (differs found) next file m = absurd m
Meets-first (makes x left) next file m = absurd m

-- what the first of two readers needs, both need
pub AreNeeded-first : {A B : Type 0} (reader : Reader A) (next : A → Reader B) (files : List File)
    → AreNeeded reader files → AreNeeded (λ given. reader given >>= next) files
AreNeeded-first reader next [] needed = tt
AreNeeded-first reader next (file ∷ files) needed =
    (Meets-first (reader []) next file needed.0, AreNeeded-first (λ more. reader (file.bytes ∷ more)) next files needed.1)
