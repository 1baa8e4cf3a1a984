-- Tests that a reader makes, one before another.
use Rattle.std.proofs.Common.{◌≡◌, ℕ, zero, suc, ◌≤◌, Bool, true, false, cond, ◌||◌, ltb, eqb, Result, Ok, Err, refl, arith}
use Rattle.std.proofs.lemmas.Bool.{ltb-false, le-ltb, ne_eqb, or_parts}

-- a test that was passed
pub passed : {X F : Type 0} (c : Bool) (fault : F) (r : Result X F) (x : X) → cond c (Err fault) r ≡ Ok x → (c ≡ false) × (r ≡ Ok x)
passed true fault r x e = absurd cc
passed false fault r x e = (refl, e)

-- a number within its limits passes its test, and the other way round
pub within : (n most : ℕ) → 1 ≤ n → n ≤ most → (eqb n 0 || ltb most n) ≡ false
within n most some le = let not_zero : eqb n 0 ≡ false = ne_eqb n 0 (λ e. omega arith) in let small : ltb most n ≡ false = le-ltb most n le in rw (not_zero, small) refl

pub limits : (n most : ℕ) → (eqb n 0 || ltb most n) ≡ false → (1 ≤ n) × (n ≤ most)
limits zero most e = absurd cc
limits (suc n) most e = let small : ltb most (suc n) ≡ false = (or_parts (eqb (suc n) 0) (ltb most (suc n)) e).1 in (omega arith, ltb-false most (suc n) small)
