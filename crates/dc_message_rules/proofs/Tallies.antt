-- Sums over the items of a list that pass a test.
use Rattle.std.proofs.Common.{◌≡◌, ℕ, ◌+◌, ◌*◌, ◌≤◌, Bool, true, false, cond, List, [], ◌∷◌, length, sum_by, All, refl, sym, ◌∙◌, ap, arith, mul-add}
use Rattle.std.proofs.lemmas.List.Elements.{All-head, All-tail}
use Rattle.std.proofs.lemmas.List.Sums.{sum_by-cons}
use Rattle.dc_message_rules.specs.Tallies.{tally}

-- a sum of numbers that agree
pub total-same : {A : Type 0} (f g : A → ℕ) (xs : List A) → All (λ x. f x ≡ g x) xs → sum_by f xs ≡ sum_by g xs
total-same f g [] same = refl
total-same f g (x ∷ xs) same =
    let here = All-head (λ y. f y ≡ g y) x xs same in
    let rest = total-same f g xs (All-tail (λ y. f y ≡ g y) x xs same) in
    let one = sum_by-cons f x xs in
    let two = sum_by-cons g x xs in
    omega arith

-- a sum of sums
pub total-plus : {A : Type 0} (f g : A → ℕ) (xs : List A) → sum_by (λ x. f x + g x) xs ≡ sum_by f xs + sum_by g xs
total-plus f g [] = refl
total-plus f g (x ∷ xs) =
    let rest = total-plus f g xs in
    let one = sum_by-cons f x xs in
    let two = sum_by-cons g x xs in
    let both = sum_by-cons (λ y. f y + g y) x xs in
    omega arith

-- a sum of zeros
pub total-zero : {A : Type 0} (xs : List A) → sum_by (λ x. 0) xs ≡ 0
total-zero [] = refl
total-zero (x ∷ xs) = let rest = total-zero xs in let one = sum_by-cons (λ y. 0) x xs in omega arith

-- a sum of numbers of which each is at most another
pub total-most : {A : Type 0} (f g : A → ℕ) (xs : List A) → All (λ x. f x ≤ g x) xs → sum_by f xs ≤ sum_by g xs
total-most f g [] most = omega arith
total-most f g (x ∷ xs) most =
    let here = All-head (λ y. f y ≤ g y) x xs most in
    let rest = total-most f g xs (All-tail (λ y. f y ≤ g y) x xs most) in
    let one = sum_by-cons f x xs in
    let two = sum_by-cons g x xs in
    omega arith

-- so many times each number
pub total-times : {A : Type 0} (k : ℕ) (f : A → ℕ) (xs : List A) → sum_by (λ x. k * f x) xs ≡ k * sum_by f xs
total-times k f [] = omega arith
total-times k f (x ∷ xs) =
    let rest = total-times k f xs in
    let one = sum_by-cons f x xs in
    let two = sum_by-cons (λ y. k * f y) x xs in
    two ∙ ap (λ s. k * f x + s) rest ∙ sym (mul-add k (f x) (sum_by f xs)) ∙ ap (λ s. k * s) (sym one)

-- a sum of ones is a length
pub total-ones : {A : Type 0} (xs : List A) → sum_by (λ x. 1) xs ≡ length xs
total-ones [] = refl
total-ones (x ∷ xs) = let rest = total-ones xs in let one = sum_by-cons (λ y. 1) x xs in omega arith

-- a number that counts where a test passes
cond-most : (b : Bool) (x y : ℕ) → x ≤ y → cond b x 0 ≤ cond b y 0
cond-most true x y most = most
cond-most false x y most = omega arith

cond-times : (b : Bool) (k : ℕ) → cond b k 0 ≡ k * cond b 1 0
cond-times true k = omega arith
cond-times false k = omega arith

pub cond-one : (b : Bool) → cond {A = ℕ} b 1 0 ≤ 1
cond-one true = omega arith
cond-one false = omega arith

-- a tally of numbers that are at most k is at most k for each item that passes
pub tally-constant : {A : Type 0} (p : A → Bool) (k : ℕ) (xs : List A) → tally p (λ x. k) xs ≡ k * tally p (λ x. 1) xs
tally-constant p k xs = total-same (λ x. cond (p x) k 0) (λ x. k * cond (p x) 1 0) xs (λ i d within. cond-times (p _) k) ∙ total-times k (λ x. cond (p x) 1 0) xs

pub tally-most : {A : Type 0} (p : A → Bool) (f : A → ℕ) (k : ℕ) (xs : List A) → All (λ x. f x ≤ k) xs → tally p f xs ≤ k * tally p (λ x. 1) xs
tally-most p f k xs most =
    let bound = total-most (λ x. cond (p x) (f x) 0) (λ x. cond (p x) k 0) xs (λ i d within. cond-most (p _) (f _) k (most i d within)) in
    let each = tally-constant p k xs in
    omega arith

-- no more items pass than there are
pub tally-length : {A : Type 0} (p : A → Bool) (xs : List A) → tally p (λ x. 1) xs ≤ length xs
tally-length p xs =
    let bound = total-most (λ x. cond (p x) 1 0) (λ x. 1) xs (λ i d within. cond-one (p _)) in
    let all = total-ones xs in
    omega arith

-- a test that splits in two: each item that passes one passes just one of two others
abbrev pub Splits : {A : Type 0} → (A → Bool) → (A → Bool) → (A → Bool) → A → Type 0
Splits q p r x = (n : ℕ) → cond (q x) n 0 ≡ cond (p x) n 0 + cond (r x) n 0

pub tally-splits : {A : Type 0} (q p r : A → Bool) (f : A → ℕ) (xs : List A) → All (Splits q p r) xs → tally q f xs ≡ tally p f xs + tally r f xs
tally-splits q p r f xs splits =
    total-same (λ x. cond (q x) (f x) 0) (λ x. cond (p x) (f x) 0 + cond (r x) (f x) 0) xs (λ i d within. splits i d within (f _))
    ∙ total-plus (λ x. cond (p x) (f x) 0) (λ x. cond (r x) (f x) 0) xs
