-- Text that is filled in piece by piece.
use Rattle.std.proofs.Common.{◌≡◌, ℕ, List, [], ◌∷◌, ◌++◌, take, sym, ◌∙◌, append_assoc, arith, length-append}
use Rattle.std.specs.List.{flat_map}
use Rattle.std.proofs.lemmas.List.{append-nil, flat_map_more}
use Rattle.dc_print.specs.Filling.{Fills}

-- nothing is filled in
pub Fills-nothing : (at : ℕ) (buffer : List ℕ) → Fills [] at buffer buffer at
Fills-nothing at buffer = record { place = omega arith; filled = sym (append-nil (take at buffer)) }

-- one text after another
pub Fills-then : (a b : List ℕ) (at mid end : ℕ) (x y z : List ℕ) → Fills a at x y mid → Fills b mid y z end → Fills (a ++ b) at x z end
Fills-then a b at mid end x y z p q = record {
  place = omega (arith, p.place, q.place, length-append a b);
  filled = q.filled ∙ rw (p.filled, append_assoc);
}

-- the text of one more item
pub Fills-more : {X : Type 0} (f : X → List ℕ) (xs : List X) (x : X) (at mid end : ℕ) (a b c : List ℕ)
    → Fills (flat_map f xs) at a b mid → Fills (f x) mid b c end → Fills (flat_map f (xs ++ x ∷ [])) at a c end
Fills-more f xs x at mid end a b c p q =
    let text : flat_map f (xs ++ x ∷ []) ≡ flat_map f xs ++ f x = sym (flat_map_more f [] xs x) in
    rw text (Fills-then (flat_map f xs) (f x) at mid end a b c p q)
