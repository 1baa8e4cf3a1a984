-- Options: what gives nothing, and equal values.
use Rattle.std.proofs.Common.{◌≡◌, Bool, true, false, cond, Option, Some, None, option_map, refl, sym, ap}
use Rattle.std.specs.Option.{option_or, unwrap_or}
use Rattle.std.proofs.lemmas.Option.{none-some}

-- none of two is there
pub or-none : {A : Type 0} (a b : Option A) → option_or a b ≡ None → (a ≡ None) × (b ≡ None)
or-none None b e = (refl, e)
or-none (Some x) b e = absurd (none-some x (sym e))

pub map-none : {A B : Type 0} (f : A → B) (o : Option A) → option_map f o ≡ None → o ≡ None
map-none f None e = refl
map-none f (Some x) e = absurd (none-some (f x) (sym e))

-- a choice between nothing and something that gives nothing
pub if-none : {A : Type 0} (b : Bool) (x : A) → cond b None (Some x) ≡ None → b ≡ true
if-none true x e = refl
if-none false x e = absurd (none-some x (sym e))

-- the values of two equal options (std's `some-injective`, which does not find its arguments)
pub some-inj : {A : Type 0} {x y : A} → Path (Option A) (Some x) (Some y) → x ≡ y
some-inj {x = x} e = ap (λ o. unwrap_or o x) e
