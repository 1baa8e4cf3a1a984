-- Laws of sums and products of lists, place by place.
use Rattle.std.proofs.Common.{◌≡◌, ℕ, zero, suc, List, [], ◌∷◌, ◌++◌, length, replicate, refl, sym, ap, ◌∙◌, arith}
use Rattle.dc_transform_rules.specs.Residues.{plus, times}
use Rattle.dc_transform_rules.specs.Polynomials.{sums, products, scaled}
use Rattle.dc_transform_rules.proofs.ResidueLemmas.{plus-comm, plus-assoc, times-comm, times-assoc, times-plus, plus-times, times_one-plus, times_one-times, zero-plus-plus}

pub sums-comm : (a b : List ℕ) → sums a b ≡ sums b a
sums-comm [] [] = refl
sums-comm [] (y ∷ b) = refl
sums-comm (x ∷ a) [] = refl
sums-comm (x ∷ a) (y ∷ b) = let h = plus-comm x y in let t = sums-comm a b in cc

pub sums-assoc : (a b c : List ℕ) → sums (sums a b) c ≡ sums a (sums b c)
sums-assoc [] b c = refl
sums-assoc (x ∷ a) [] c = refl
sums-assoc (x ∷ a) (y ∷ b) [] = refl
sums-assoc (x ∷ a) (y ∷ b) (z ∷ c) = let h = plus-assoc x y z in let t = sums-assoc a b c in cc

-- four lists in another order
pub sums-swap : (a b c d : List ℕ) → sums (sums a b) (sums c d) ≡ sums (sums a c) (sums b d)
sums-swap a b c d =
    sums-assoc a b (sums c d) ∙ ap (sums a) (sym (sums-assoc b c d) ∙ ap (λ l. sums l d) (sums-comm b c) ∙ sums-assoc c b d)
    ∙ sym (sums-assoc a c (sums b d))

pub scaled-sums : (c : ℕ) (a b : List ℕ) → scaled c (sums a b) ≡ sums (scaled c a) (scaled c b)
scaled-sums c [] b = refl
scaled-sums c (x ∷ a) [] = refl
scaled-sums c (x ∷ a) (y ∷ b) = let h = times-plus c x y in let t = scaled-sums c a b in cc

pub scaled-scaled : (c d : ℕ) (a : List ℕ) → scaled c (scaled d a) ≡ scaled (times c d) a
scaled-scaled c d [] = refl
scaled-scaled c d (x ∷ a) = let h = times-assoc c d x in let t = scaled-scaled c d a in cc

pub scaled-plus : (c d : ℕ) (a : List ℕ) → scaled (plus c d) a ≡ sums (scaled c a) (scaled d a)
scaled-plus c d [] = refl
scaled-plus c d (x ∷ a) = let h = plus-times c d x in let t = scaled-plus c d a in cc

-- sums are reduced
pub scaled_one-sums : (a b : List ℕ) → scaled 1 (sums a b) ≡ sums a b
scaled_one-sums [] b = refl
scaled_one-sums (x ∷ a) [] = refl
scaled_one-sums (x ∷ a) (y ∷ b) = let h = times_one-plus x y in let t = scaled_one-sums a b in cc

pub scaled_one-scaled : (c : ℕ) (a : List ℕ) → scaled 1 (scaled c a) ≡ scaled c a
scaled_one-scaled c [] = refl
scaled_one-scaled c (x ∷ a) = let h = times_one-times c x in let t = scaled_one-scaled c a in cc

pub length-sums : (a b : List ℕ) → length a ≡ length b → length (sums a b) ≡ length a
length-sums [] b e = refl
length-sums (x ∷ a) [] e = absurd (omega arith)
length-sums (x ∷ a) (y ∷ b) e = let t = length-sums a b (omega arith) in omega arith

pub sums-append : (a b c d : List ℕ) → length a ≡ length c → sums (a ++ b) (c ++ d) ≡ sums a c ++ sums b d
sums-append [] b [] d e = refl
sums-append [] b (z ∷ c) d e = absurd (omega arith)
sums-append (x ∷ a) b [] d e = absurd (omega arith)
sums-append (x ∷ a) b (z ∷ c) d e = let t = sums-append a b c d (omega arith) in ap (λ l. plus x z ∷ l) t

-- zeros add nothing to a list of sums
pub zeros-sums : (n : ℕ) (a b : List ℕ) → n ≡ length (sums a b) → sums (replicate n 0) (sums a b) ≡ sums a b
zeros-sums zero [] b e = refl
zeros-sums zero (x ∷ a) [] e = refl
zeros-sums zero (x ∷ a) (y ∷ b) e = absurd (omega arith)
zeros-sums (suc n) [] b e = refl
zeros-sums (suc n) (x ∷ a) [] e = refl
zeros-sums (suc n) (x ∷ a) (y ∷ b) e = let h = zero-plus-plus x y in let t = zeros-sums n a b (omega arith) in cc

-- products, place by place
pub products-append : (a b c d : List ℕ) → length a ≡ length c → products (a ++ b) (c ++ d) ≡ products a c ++ products b d
products-append [] b [] d e = refl
products-append [] b (z ∷ c) d e = absurd (omega arith)
products-append (x ∷ a) b [] d e = absurd (omega arith)
products-append (x ∷ a) b (z ∷ c) d e = ap (λ l. times x z ∷ l) (products-append a b c d (omega arith))

pub products-scaled : (c : ℕ) (a b : List ℕ) → products (scaled c a) b ≡ scaled c (products a b)
products-scaled c [] b = refl
products-scaled c (x ∷ a) [] = refl
products-scaled c (x ∷ a) (y ∷ b) = let h = times-assoc c x y in let t = products-scaled c a b in cc

pub scaled_one-products : (a b : List ℕ) → scaled 1 (products a b) ≡ products a b
scaled_one-products [] b = refl
scaled_one-products (x ∷ a) [] = refl
scaled_one-products (x ∷ a) (y ∷ b) = let h = times_one-times x y in let t = scaled_one-products a b in cc

pub length-products : (a b : List ℕ) → length a ≡ length b → length (products a b) ≡ length a
length-products [] b e = refl
length-products (x ∷ a) [] e = absurd (omega arith)
length-products (x ∷ a) (y ∷ b) e = let t = length-products a b (omega arith) in omega arith

-- a constant and its inverse
pub scaled-inverse : (c d : ℕ) (a : List ℕ) → times c d ≡ 1 → scaled 1 a ≡ a → scaled c (scaled d a) ≡ a
scaled-inverse c d a one reduced = scaled-scaled c d a ∙ ap (λ n. scaled n a) one ∙ reduced

pub scaled-cancel : (c d : ℕ) (a b : List ℕ) → times c d ≡ 1 → scaled 1 a ≡ a → scaled 1 b ≡ b → scaled c a ≡ scaled c b → a ≡ b
scaled-cancel c d a b one reduced_a reduced_b same =
    let other : times d c ≡ 1 = times-comm d c ∙ one in
    sym (scaled-inverse d c a other reduced_a) ∙ ap (scaled d) same ∙ scaled-inverse d c b other reduced_b

pub products-comm : (a b : List ℕ) → products a b ≡ products b a
products-comm [] [] = refl
products-comm [] (y ∷ b) = refl
products-comm (x ∷ a) [] = refl
products-comm (x ∷ a) (y ∷ b) = let h = times-comm x y in let t = products-comm a b in cc
