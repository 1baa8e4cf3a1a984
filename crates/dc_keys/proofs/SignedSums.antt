-- Sums of products, modulo a number and with signs.
use Rattle.std.proofs.Common.{◌≡◌, ℕ, ◌+◌, ◌-◌, ◌*◌, ◌/◌, ◌%◌, ◌<◌, ◌≤◌, List, [], ◌∷◌, length, sum_by, refl, sym, ap, ◌∙◌, arith}
use Rattle.std.specs.List.{All}
use Rattle.std.proofs.Math.Nat.{add-mod, mod-add-div, add-mul-mod_self_left, mod-lt}
use Rattle.std.proofs.lemmas.List.Sums.{sum_by-cons}
use Rattle.std.proofs.lemmas.List.Elements.{All-head, All-tail}

-- the same items, the same sum
pub sum_same : {X : Type 0} (f g : X → ℕ) → ((x : X) → f x ≡ g x) → (xs : List X) → sum_by f xs ≡ sum_by g xs
sum_same f g same [] = refl
sum_same f g same (x ∷ xs) = omega (arith, sum_by-cons f x xs, sum_by-cons g x xs, same x, sum_same f g same xs)

-- the same items modulo m, the same sum modulo m
pub sum_same_mod : {X : Type 0} (m : ℕ) (f g : X → ℕ) → ((x : X) → f x % m ≡ g x % m) → (xs : List X) → sum_by f xs % m ≡ sum_by g xs % m
sum_same_mod m f g same [] = refl
sum_same_mod m f g same (x ∷ xs) =
    rw (sum_by-cons f x xs, sum_by-cons g x xs) (add-mod (f x) (sum_by f xs) m ∙ ap (λ (n : ℕ). (n + sum_by f xs % m) % m) (same x) ∙ ap (λ (n : ℕ). (g x % m + n) % m) (sum_same_mod m f g same xs) ∙ sym (add-mod (g x) (sum_by g xs) m))

-- the sum of two sums
sum_of_sums : {X : Type 0} (f g : X → ℕ) (xs : List X) → sum_by (λ x. f x + g x) xs ≡ sum_by f xs + sum_by g xs
sum_of_sums f g [] = refl
sum_of_sums f g (x ∷ xs) = omega (arith, sum_by-cons (λ x. f x + g x) x xs, sum_by-cons f x xs, sum_by-cons g x xs, sum_of_sums f g xs)

-- products with a sum
pub products_of_sums : (x y c : ℕ → ℕ) (ks : List ℕ) → sum_by (λ k. (x k + y k) * c k) ks ≡ sum_by (λ k. x k * c k) ks + sum_by (λ k. y k * c k) ks
products_of_sums x y c ks =
    sum_same (λ k. (x k + y k) * c k) (λ k. x k * c k + y k * c k) (λ k. omega arith) ks ∙ sum_of_sums (λ k. x k * c k) (λ k. y k * c k) ks

-- products with one number
products_of_one : (m : ℕ) (c : ℕ → ℕ) (ks : List ℕ) → sum_by (λ k. m * c k) ks ≡ m * sum_by c ks
products_of_one m c [] = omega arith
products_of_one m c (k ∷ ks) = rw (sum_by-cons (λ k. m * c k) k ks, sum_by-cons c k ks, products_of_one m c ks) (omega arith)

-- products with nothing
products_of_none : (c : ℕ → ℕ) (ks : List ℕ) → sum_by (λ k. 0 * c k) ks ≡ 0
products_of_none c ks = products_of_one 0 c ks ∙ omega arith

-- the sums of products of all items are the products with the sums of all items
pub sums_of_products : {X : Type 0} (a : X → ℕ) (b : X → ℕ → ℕ) (c : ℕ → ℕ) (ks : List ℕ) (xs : List X)
    → sum_by (λ x. a x + sum_by (λ k. b x k * c k) ks) xs ≡ sum_by a xs + sum_by (λ k. sum_by (λ x. b x k) xs * c k) ks
sums_of_products a b c ks [] =
    let none : sum_by (λ k. sum_by (λ x. b x k) [] * c k) ks ≡ 0 = products_of_none c ks in
    omega (arith, none)
sums_of_products a b c ks (x ∷ xs) =
    let apart = products_of_sums (b x) (λ k. sum_by (λ y. b y k) xs) c ks in
    let more = sum_same (λ k. sum_by (λ y. b y k) (x ∷ xs) * c k) (λ k. (b x k + sum_by (λ y. b y k) xs) * c k) (λ k. ap (λ (n : ℕ). n * c k) (sum_by-cons (λ y. b y k) x xs)) ks in
    omega (arith, sum_by-cons (λ y. a y + sum_by (λ k. b y k * c k) ks) x xs, sum_by-cons a x xs, apart, more, sums_of_products a b c ks xs)

-- what each item lacks of m, and the items
pub lacks : {X : Type 0} (m : ℕ) (f : X → ℕ) (xs : List X) → All (λ x. f x ≤ m) xs → sum_by (λ x. m - f x) xs + sum_by f xs ≡ m * length xs
lacks m f [] small = omega arith
lacks m f (x ∷ xs) small =
    let here : f x ≤ m = All-head (λ x. f x ≤ m) x xs small in
    omega (arith, sum_by-cons (λ x. m - f x) x xs, sum_by-cons f x xs, lacks m f xs (All-tail (λ x. f x ≤ m) x xs small))

-- two sums of products whose first factors make up one number
pub products_make_up : (x y c : ℕ → ℕ) (m : ℕ) → ((k : ℕ) → x k + y k ≡ m) → (ks : List ℕ) → sum_by (λ k. x k * c k) ks + sum_by (λ k. y k * c k) ks ≡ m * sum_by c ks
products_make_up x y c m make ks =
    sym (products_of_sums x y c ks) ∙ sum_same (λ k. (x k + y k) * c k) (λ k. m * c k) (λ k. ap (λ (n : ℕ). n * c k) (make k)) ks ∙ products_of_one m c ks

-- a number that makes up a multiple of m with s is minus s modulo m
pub minus_mod : (m p u s q : ℕ) → 0 < m → u + s ≡ m * q → (p + u) % m ≡ (p % m + (m - s % m)) % m
minus_mod m p u s q some make =
    let below : s % m < m = mod-lt s some in
    let of_p = mod-add-div p m in
    let of_s = mod-add-div s m in
    let whole : p % m + (m - s % m) + m * (p / m + q) ≡ p + u + m * (s / m + 1) = omega arith in
    sym (add-mul-mod_self_left (p + u) m (s / m + 1)) ∙ ap (λ (n : ℕ). n % m) (sym whole) ∙ add-mul-mod_self_left (p % m + (m - s % m)) m (p / m + q)
