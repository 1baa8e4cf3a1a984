-- Lists of rows of one length: by number of row and place in it.
use Rattle.std.proofs.Common.{◌≡◌, ℕ, zero, suc, ◌+◌, ◌*◌, ◌<◌, ◌≤◌, true, List, [], ◌∷◌, ◌++◌, length, map, take, drop, get_or, filter_map, nat_eq, Option, Some, unwrap_or, refl, sym, ◌∙◌, ap, inl, inr, arith, eq-eqb, length-append, eq-or-lt_of_le}
use Rattle.std.specs.List.{range_with_len, flat_map}
use Rattle.std.proofs.Math.ListN.{get_or-append}
use Rattle.std.proofs.Math.Nat.{mul-le-mul_right}
use Rattle.std.proofs.lemmas.List.{get_or-append-add, get_or-take, get_or-drop, length-take-le, length-drop, same_lists, append-nil}
use Rattle.std.proofs.lemmas.List.Concat.{flat_map-append}
use Rattle.std.proofs.lemmas.List.FromFn.{length-map-range_with_len, get_or-map-range_with_len}
use Rattle.dc_spec.specs.Lists.{is_among}
use Rattle.dc_spec.proofs.Booleans.{or_first, or_second}

-- functions that agree on the items give the same
pub map-same : {X : Type 0} (f g : ℕ → X) (xs : List ℕ) → ((x : ℕ) → is_among xs x ≡ true → f x ≡ g x) → map f xs ≡ map g xs
map-same f g [] same = refl
map-same f g (x ∷ xs) same =
    let here = same x (or_first (nat_eq x x) (is_among xs x) (eq-eqb x x refl)) in
    let ih = map-same f g xs (λ y there. same y (or_second (nat_eq y x) (is_among xs y) there)) in
    rw here (rw ih refl)

-- where each item gives something, that is all
pub filter_map-all : {X : Type 0} (h : ℕ → Option X) (d : X) (xs : List ℕ) → ((x : ℕ) → is_among xs x ≡ true → h x ≡ Some (unwrap_or (h x) d)) → filter_map h xs ≡ map (λ x. unwrap_or (h x) d) xs
filter_map-all h d [] some = refl
filter_map-all h d (x ∷ xs) some =
    let here = some x (or_first (nat_eq x x) (is_among xs x) (eq-eqb x x refl)) in
    let ih = filter_map-all h d xs (λ y there. some y (or_second (nat_eq y x) (is_among xs y) there)) in
    rw here (ap (λ ys. unwrap_or (h x) d ∷ ys) ih)

-- one number more
range_more : (a n : ℕ) → range_with_len a (suc n) ≡ range_with_len a n ++ (a + n) ∷ []
range_more a zero = ap (λ (k : ℕ). k ∷ []) (let e : a ≡ a + 0 = omega arith in e)
range_more a (suc n) = ap (λ (ks : List ℕ). a ∷ ks) (range_more (a + 1) n ∙ ap (λ (k : ℕ). range_with_len (a + 1) n ++ k ∷ []) (let e : a + 1 + n ≡ a + suc n = omega arith in e))

-- and one piece more
pub pieces_more : {X : Type 0} (f : ℕ → List X) (t : ℕ) → flat_map f (range_with_len 0 (suc t)) ≡ flat_map f (range_with_len 0 t) ++ f t
pieces_more f t =
    ap (flat_map f) (range_more 0 t ∙ ap (λ (k : ℕ). range_with_len 0 t ++ k ∷ []) (let e : 0 + t ≡ t = omega arith in e))
    ∙ flat_map-append f (range_with_len 0 t) (t ∷ []) ∙ ap (λ ys. flat_map f (range_with_len 0 t) ++ ys) (append-nil (f t))

pub map_more : {X : Type 0} (f : ℕ → X) (t : ℕ) → map f (range_with_len 0 (suc t)) ≡ map f (range_with_len 0 t) ++ f t ∷ []
map_more f t = ap (map f) (range_more 0 t ∙ ap (λ (k : ℕ). range_with_len 0 t ++ k ∷ []) (let e : 0 + t ≡ t = omega arith in e)) ∙ map-end f (range_with_len 0 t) t
  where
    map-end : {X : Type 0} (f : ℕ → X) (ks : List ℕ) (t : ℕ) → map f (ks ++ t ∷ []) ≡ map f ks ++ f t ∷ []
    map-end f [] t = refl
    map-end f (k ∷ ks) t = ap (λ ys. f k ∷ ys) (map-end f ks t)

-- rows of n items each, the item at place i of row t by a function
abbrev pub rows : {X : Type 0} → (ℕ → ℕ → X) → ℕ → ℕ → List X
rows g n total = flat_map (λ t. map (λ i. g i t) (range_with_len 0 n)) (range_with_len 0 total)

pub length-rows : {X : Type 0} (g : ℕ → ℕ → X) (n total : ℕ) → length (rows g n total) ≡ total * n
length-rows g n zero = let e : 0 ≡ 0 * n = omega arith in e
length-rows g n (suc t) =
    ap length (pieces_more (λ r. map (λ i. g i r) (range_with_len 0 n)) t)
    ∙ length-append (rows g n t) (map (λ i. g i t) (range_with_len 0 n))
    ∙ (let before = length-rows g n t in let here = length-map-range_with_len (λ i. g i t) 0 n in let e : t * n + n ≡ suc t * n = omega arith in omega arith)

-- the item at a place
pub row_item : {X : Type 0} (g : ℕ → ℕ → X) (n total i t : ℕ) (d : X) → i < n → t < total → get_or (rows g n total) (t * n + i) d ≡ g i t
row_item g n zero i t d low less = absurd (omega arith)
row_item g n (suc m) i t d low less =
    let last = map (λ k. g k m) (range_with_len 0 n) in
    let size = length-rows g n m in
    ap (λ ws. get_or ws (t * n + i) d) (pieces_more (λ r. map (λ k. g k r) (range_with_len 0 n)) m)
    ∙ elim (eq-or-lt_of_le (let e : t ≤ m = omega arith in e)) [
      | inl same ↦ ap (λ (k : ℕ). get_or (rows g n m ++ last) k d) (let e : t * n ≡ m * n = ap (λ (k : ℕ). k * n) same in let at : t * n + i ≡ length (rows g n m) + i = omega arith in at)
          ∙ get_or-append-add (rows g n m) last i d
          ∙ get_or-map-range_with_len (λ k. g k m) 0 n i i d low (omega arith)
          ∙ ap (g i) (sym same)
      | inr before ↦ (let e : suc t * n ≤ m * n = mul-le-mul_right n before in let split : suc t * n ≡ t * n + n = omega arith in
          get_or-append (rows g n m) last d (t * n + i) (omega arith) ∙ row_item g n m i t d low before)
    ]

-- the items of one row
pub row : {X : Type 0} (g : ℕ → ℕ → X) (n total t : ℕ) → t < total → take n (drop (t * n) (rows g n total)) ≡ map (λ i. g i t) (range_with_len 0 n)
row g n total t less =
    let size = length-rows g n total in
    let e : suc t * n ≤ total * n = mul-le-mul_right n less in
    let split : suc t * n ≡ t * n + n = omega arith in
    let cut = length-drop (t * n) (rows g n total) in
    let long = length-take-le n (drop (t * n) (rows g n total)) (omega arith) in
    let short = length-map-range_with_len (λ i. g i t) 0 n in
    same_lists (take n (drop (t * n) (rows g n total))) (map (λ i. g i t) (range_with_len 0 n)) (omega arith) (λ i d within.
    get_or-take n (drop (t * n) (rows g n total)) i d (omega arith) ∙ get_or-drop (t * n) (rows g n total) i d
    ∙ row_item g n total i t d (omega arith) less ∙ sym (get_or-map-range_with_len (λ k. g k t) 0 n i i d (omega arith) (omega arith)))
