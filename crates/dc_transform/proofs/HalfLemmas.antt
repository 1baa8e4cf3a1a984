-- Writes to a list, one place after another.
use Rattle.std.proofs.Common.{◌≡◌, ◌≢◌, ℕ, suc, ◌+◌, ◌-◌, ◌*◌, ◌<◌, ◌≤◌, List, [], ◌∷◌, ◌++◌, length, get_or, set, take, drop, get_or-set_same, get_or-set_other, refl, sym, ap, subst, ◌∙◌, arith, inl, inr}
use Rattle.std.proofs.Math.Nat.{mul-le-mul_left}
use Rattle.std.proofs.lemmas.Bool.{cases_lt}
use Rattle.std.proofs.lemmas.List.{append-nil, append_assoc, ext_get_or, length-take, length-drop, get_or-take, get_or-drop, get_or_append_left, get_or-append_right, get_or_past, take_more, take_all, drop-drop}
use Rattle.std.proofs.lemmas.Slice.{take-put_mid, drop-put_mid}
use borrow.Rule.Slice.PartMut.{put_mid}
use Rattle.dc_spec.specs.Symbols.{AreSymbols}
use Rattle.dc_transform_rules.specs.Residues.{plus, times}
use Rattle.dc_transform_rules.specs.Polynomials.{sums, products, scaled, rows_scaled}
use Rattle.dc_transform_rules.proofs.ResidueLemmas.{times-assoc, plus-below, times-below}
use Rattle.dc_transform_rules.proofs.ListLemmas.{length-sums, length-products}
use Rattle.dc_transform_rules.proofs.ProductLemmas.{length-scaled}
use Rattle.dc_transform_rules.proofs.CoefficientLemmas.{get_or-sums, get_or-scaled, get_or-products}

-- the places that are done, with one more
pub done_more : (f : ℕ → ℕ) (xs : List ℕ) (i y : ℕ) → i < length xs → ((k : ℕ) → k < i → get_or xs k 0 ≡ f k) → y ≡ f i
    → (k : ℕ) → k < i + 1 → get_or (set xs i y) k 0 ≡ f k
done_more f xs i y within done here k lt = elim (cases_lt k i) [
  | inl before ↦ (let ne : k ≢ i = omega arith in get_or-set_other xs i k y 0 ne ∙ done k before)
  | inr le ↦ (let at : k ≡ i = omega arith in ap (λ j. get_or (set xs i y) j 0) at ∙ get_or-set_same xs i y 0 within ∙ here ∙ ap f (sym at))
]

-- the places that are as they were
pub rest_more : (was xs : List ℕ) (i y : ℕ) → ((k : ℕ) → i ≤ k → get_or xs k 0 ≡ get_or was k 0) → (k : ℕ) → i + 1 ≤ k → get_or (set xs i y) k 0 ≡ get_or was k 0
rest_more was xs i y rest k le = (let ne : k ≢ i = omega arith in get_or-set_other xs i k y 0 ne ∙ rest k (omega arith))

-- lists whose places are all done
pub all_sums : (xs a b : List ℕ) → length xs ≡ length a → length a ≡ length b → ((k : ℕ) → k < length a → get_or xs k 0 ≡ plus (get_or a k 0) (get_or b k 0)) → xs ≡ sums a b
all_sums xs a b long same each = ext_get_or 0 xs (sums a b) (long ∙ sym (length-sums a b same)) (λ k lt. each k (omega arith) ∙ sym (get_or-sums a b k same))

pub all_scaled : (c : ℕ) (xs a : List ℕ) → length xs ≡ length a → ((k : ℕ) → k < length a → get_or xs k 0 ≡ times c (get_or a k 0)) → xs ≡ scaled c a
all_scaled c xs a long each = ext_get_or 0 xs (scaled c a) (long ∙ sym (length-scaled c a)) (λ k lt. each k (omega arith) ∙ sym (get_or-scaled c a k))

pub all_folded : (c : ℕ) (xs l r : List ℕ) → length xs ≡ length l → length l ≡ length r
    → ((k : ℕ) → k < length l → get_or xs k 0 ≡ plus (get_or l k 0) (times c (get_or r k 0))) → xs ≡ sums l (scaled c r)
all_folded c xs l r long same each =
    all_sums xs l (scaled c r) long (same ∙ sym (length-scaled c r)) (λ k lt. each k lt ∙ ap (plus (get_or l k 0)) (sym (get_or-scaled c r k)))

pub all_opposite : (c : ℕ) (xs l r : List ℕ) → length xs ≡ length r → length l ≡ length r
    → ((k : ℕ) → k < length l → get_or xs k 0 ≡ plus (get_or l k 0) (times 65536 (times c (get_or r k 0)))) → xs ≡ sums l (scaled (times 65536 c) r)
all_opposite c xs l r long same each =
    all_folded (times 65536 c) xs l r (long ∙ sym same) same (λ k lt. each k lt ∙ ap (plus (get_or l k 0)) (sym (times-assoc 65536 c (get_or r k 0))))

pub all_differences : (c : ℕ) (xs l r : List ℕ) → length xs ≡ length r → length l ≡ length r
    → ((k : ℕ) → k < length l → get_or xs k 0 ≡ times c (plus (get_or l k 0) (times 65536 (get_or r k 0)))) → xs ≡ scaled c (sums l (scaled 65536 r))
all_differences c xs l r long same each =
    let same_scaled : length l ≡ length (scaled 65536 r) = same ∙ sym (length-scaled 65536 r) in
    let whole = length-sums l (scaled 65536 r) same_scaled in
    all_scaled c xs (sums l (scaled 65536 r)) (long ∙ sym same ∙ sym whole)
    (λ k lt. each k (omega arith) ∙ ap (times c) (ap (plus (get_or l k 0)) (sym (get_or-scaled 65536 r k)) ∙ sym (get_or-sums l (scaled 65536 r) k same_scaled)))

-- sums and multiples are symbols
pub symbols-sums : (a b : List ℕ) → length a ≡ length b → AreSymbols (sums a b)
symbols-sums a b same = λ k. (let h = plus-below (get_or a k 0) (get_or b k 0) in let e = get_or-sums a b k same in omega arith)

pub symbols-scaled : (c : ℕ) (a : List ℕ) → AreSymbols (scaled c a)
symbols-scaled c a = λ k. (let h = times-below c (get_or a k 0) in let e = get_or-scaled c a k in omega arith)

-- a list that is made so has symbols
pub symbols-made : (xs ys : List ℕ) → xs ≡ ys → AreSymbols ys → AreSymbols xs
symbols-made xs ys same symbols = subst AreSymbols (sym same) symbols

-- the front of a list of symbols
pub symbols-front : (a l r : List ℕ) → a ≡ l ++ r → AreSymbols a → AreSymbols l
symbols-front a l r is symbols k = elim (cases_lt k (length l)) [
  | inl lt ↦ (let same = get_or_append_left l r 0 k lt in let whole = ap (λ t. get_or t k 0) is in let small = symbols k in omega arith)
  | inr past ↦ (let none = get_or_past l k 0 past in omega arith)
]

pub symbols-part : (k n : ℕ) (a : List ℕ) → AreSymbols a → AreSymbols (take k (drop n a))
symbols-part k n a symbols i = elim (cases_lt i k) [
  | inl lt ↦ (let same = get_or-take k (drop n a) i 0 lt in let place = get_or-drop n a i 0 in let small = symbols (n + i) in omega arith)
  | inr past ↦ (let long = length-take k (drop n a) in let none = get_or_past (take k (drop n a)) i 0 (omega arith) in omega arith)
]

pub symbols-append : (l r : List ℕ) → AreSymbols l → AreSymbols r → AreSymbols (l ++ r)
symbols-append l r left right i = elim (cases_lt i (length l)) [
  | inl lt ↦ (let same = get_or_append_left l r 0 i lt in let small = left i in omega arith)
  | inr le ↦ (let same = get_or-append_right l r (length l) i 0 refl le in let small = right (i - length l) in omega arith)
]

pub symbols-products : (a b : List ℕ) → length a ≡ length b → AreSymbols (products a b)
symbols-products a b same = λ k. (let h = times-below (get_or a k 0) (get_or b k 0) in let e = get_or-products a b k same in omega arith)

pub symbols-rows : (width : ℕ) (a f : List ℕ) → AreSymbols (rows_scaled width a f)
symbols-rows width a [] = λ k. omega arith
symbols-rows width a (x ∷ f) = symbols-append (scaled x (take width a)) (rows_scaled width (drop width a) f) (symbols-scaled x (take width a)) (symbols-rows width (drop width a) f)

pub all_products : (xs a b : List ℕ) → length xs ≡ length a → length a ≡ length b → ((k : ℕ) → k < length a → get_or xs k 0 ≡ times (get_or a k 0) (get_or b k 0)) → xs ≡ products a b
all_products xs a b long same each = ext_get_or 0 xs (products a b) (long ∙ sym (length-products a b same)) (λ k lt. each k (omega arith) ∙ sym (get_or-products a b k same))

-- one row more
rows_scaled-push : (width : ℕ) (a f : List ℕ) (x : ℕ) → rows_scaled width a (f ++ x ∷ []) ≡ rows_scaled width a f ++ scaled x (take width (drop (width * length f) a))
rows_scaled-push width a [] x =
    let none : width * 0 ≡ 0 = omega arith in
    append-nil (scaled x (take width a)) ∙ ap (λ n. scaled x (take width (drop n a))) (sym none)
rows_scaled-push width a (y ∷ f) x =
    let place : width + width * length f ≡ width * suc (length f) = omega arith in
    ap (λ t. scaled y (take width a) ++ t) (rows_scaled-push width (drop width a) f x
    ∙ ap (λ t. rows_scaled width (drop width a) f ++ scaled x (take width t)) (drop-drop (width * length f) width a ∙ ap (λ n. drop n a) place))
    ∙ sym (append_assoc (scaled y (take width a)) (rows_scaled width (drop width a) f) (scaled x (take width (drop (width * suc (length f)) a))))

-- the rows that are multiplied, with one more: k is the width as it is printed after a write to a part
pub rows_more : (width i k x : ℕ) (was rows part f : List ℕ) → k ≡ width → length rows ≡ width * length f → i < length f → x ≡ get_or f i 0
    → part ≡ scaled x (take k (drop (width * i) rows))
    → take (width * i) rows ≡ rows_scaled width was (take i f) → drop (width * i) rows ≡ drop (width * i) was
    → take (width * (i + 1)) (put_mid (width * i) k rows part) ≡ rows_scaled width was (take (i + 1) f)
rows_more width i k x was rows part f same long lt at is so_far rest =
    let within : width * (i + 1) ≤ width * length f = mul-le-mul_left width (omega arith) in
    let next : width * (i + 1) ≡ width * i + width = omega arith in
    let long_part : length part ≡ k = (let e = ap (λ l. length l) is in let h = length-scaled x (take k (drop (width * i) rows)) in
    let g = length-take k (drop (width * i) rows) in let d = length-drop (width * i) rows in omega arith) in
    let front : length (take i f) ≡ i = (let h = length-take i f in omega arith) in
    let row : take k (drop (width * i) rows) ≡ take width (drop (width * length (take i f)) was) =
    ap (λ l. take k l) rest ∙ ap (λ n. take n (drop (width * i) was)) same ∙ ap (λ n. take width (drop (width * n) was)) (sym front) in
    take-put_mid (width * i) k rows part (width * (i + 1)) (omega arith) (omega arith)
    ∙ ap (λ l. l ++ part) so_far ∙ ap (λ l. rows_scaled width was (take i f) ++ l) (is ∙ ap (scaled x) row)
    ∙ sym (rows_scaled-push width was (take i f) x) ∙ ap (λ n. rows_scaled width was (take i f ++ n ∷ [])) at ∙ ap (rows_scaled width was) (sym (take_more f i 0 lt))

-- the rows after it are as they were
pub rows_rest : (width i k n : ℕ) (was rows part : List ℕ) → k ≡ width → length rows ≡ width * n → i < n → length part ≡ k → drop (width * i) rows ≡ drop (width * i) was
    → drop (width * (i + 1)) (put_mid (width * i) k rows part) ≡ drop (width * (i + 1)) was
rows_rest width i k n was rows part same long lt long_part rest =
    let next : width * i + width ≡ width * (i + 1) = omega arith in
    let within : width * (i + 1) ≤ width * n = mul-le-mul_left width (omega arith) in
    drop-put_mid (width * i) k rows part (width * (i + 1)) (omega arith) (omega arith) long_part
    ∙ ap (λ n. drop n rows) (sym next) ∙ sym (drop-drop width (width * i) rows) ∙ ap (drop width) rest ∙ drop-drop width (width * i) was ∙ ap (λ n. drop n was) next

-- all rows are multiplied
pub rows_all : (width n i : ℕ) (was rows f : List ℕ) → n ≡ length f → i ≡ n → length rows ≡ width * n → take (width * i) rows ≡ rows_scaled width was (take i f)
    → rows ≡ rows_scaled width was f
rows_all width n i was rows f count end long so_far =
    let place : width * i ≡ length rows = ap (λ k. width * k) end ∙ sym long in
    sym (take_all (width * i) rows (omega arith)) ∙ so_far ∙ ap (rows_scaled width was) (take_all i f (omega arith))
