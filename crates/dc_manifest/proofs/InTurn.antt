-- Items of a list read in turn.
use Rattle.std.proofs.Common.{◌≡◌, ℕ, ◌+◌, ◌<◌, List, [], ◌∷◌, ◌++◌, length, get_or, drop, Result, Ok, Err, refl, append_assoc}
use Rattle.std.proofs.lemmas.List.{drop_more}
use Rattle.dc_manifest.specs.declared.fault.ManifestFault.{ManifestFault}
use Rattle.dc_manifest.specs.Fields.{◌>>=◌}
use Rattle.dc_manifest.specs.Reading.{each}

moved : {Y : Type 0} (front : List Y) (y : Y) (rest : Result (List Y) ManifestFault)
    → ((rest >>= λ ys. Ok (y ∷ ys)) >>= λ ys. Ok (front ++ ys)) ≡ (rest >>= λ ys. Ok ((front ++ y ∷ []) ++ ys))
moved front y (Ok ys) = simp append_assoc
moved front y (Err fault) = refl

-- the item at an index is read: it stands between those before it and those after it
pub each_goes_on : {X Y : Type 0} (read : X → Result Y ManifestFault) (front : List Y) (xs : List X) (i : ℕ) (d : X) (y : Y) → i < length xs → read (get_or xs i d) ≡ Ok y
    → (each read (drop i xs) >>= λ rest. Ok (front ++ rest)) ≡ (each read (drop (i + 1) xs) >>= λ rest. Ok ((front ++ y ∷ []) ++ rest))
each_goes_on read front xs i d y h is = rw (drop_more xs i d h, is) (moved front y (each read (drop (i + 1) xs)))
