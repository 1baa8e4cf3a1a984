-- Tests that a reader makes, one before another.
use Rattle.std.proofs.Common.{◌≡◌, Bool, true, false, cond, Result, Ok, Err, refl}

-- a test that was passed
pub passed : {X F : Type 0} (c : Bool) (fault : F) (r : Result X F) (x : X) → cond c (Err fault) r ≡ Ok x → (c ≡ false) × (r ≡ Ok x)
passed true fault r x e = absurd cc
passed false fault r x e = (refl, e)
