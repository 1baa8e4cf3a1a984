-- The least number that is in one of two rising lists only.
use Rattle.std.proofs.Common.{◌≡◌, ◌≢◌, ℕ, suc, ◌+◌, ◌<◌, ◌≤◌, true, false, cond, not, ltb, List, [], ◌∷◌, ◌++◌, length, get_or, drop, min, Some, None, refl, sym, ap, subst, ◌∙◌, arith, add-one, drop-cons, inl, inr}
use Rattle.std.specs.Prelude.{⊤}
use Rattle.std.specs.List.{filter, reduce, fold}
use Rattle.std.specs.List.Sorted.{IsStrictlyIncreasing}
use Rattle.std.proofs.lemmas.Bool.{cases_order, eq-eqb, ne_eqb, lt-ltb, le-ltb}
use Rattle.std.proofs.lemmas.List.{drop_all}
use native.Mathlib.Numerals.{unary_clauses}
use Rattle.dc_spec.specs.Lists.{is_among}
use Rattle.dc_net_rules.specs.Agreement.{least_in_one}
use Rattle.dc_net.specs.Walks.{first_difference}

-- all of a list are at least this number
abbrev AreAbove : ℕ → List ℕ → Type 0
AreAbove x [] = ⊤
AreAbove x (y ∷ ys) = (x < y) × AreAbove x ys

abbrev Rises : List ℕ → Type 0
Rises [] = ⊤
Rises (x ∷ xs) = AreAbove x xs × Rises xs

above_less : (x y : ℕ) (zs : List ℕ) → x < y → AreAbove y zs → AreAbove x zs
above_less x y [] h a = tt
above_less x y (z ∷ zs) h a = (omega arith, above_less x y zs h a.1)

above_all : (x : ℕ) (xs : List ℕ) → (0 < length xs → x < get_or xs 0 0) → Rises xs → AreAbove x xs
above_all x [] h r = tt
above_all x (y ∷ ys) h r = let first : x < y = h (omega arith) in (first, above_less x y ys first r.0)

rises : (xs : List ℕ) → IsStrictlyIncreasing xs → Rises xs
rises [] up = tt
rises (x ∷ xs) up =
    let rest : Rises xs = rises xs (λ i lt. let more : suc i + 1 < suc (length xs) = omega arith in rw add-one (simp unary_clauses at (up (suc i) more))) in
    (above_all x xs (λ some. up 0 (omega arith)) rest, rest)

not_among : (x : ℕ) (xs : List ℕ) → AreAbove x xs → is_among xs x ≡ false
not_among x [] a = refl
not_among x (y ∷ ys) a = rw (ne_eqb x y (λ e. absurd (omega arith))) (not_among x ys a.1)

-- those of a list that are not in another one
abbrev outside : List ℕ → List ℕ → List ℕ
outside xs ys = filter (λ x. not (is_among ys x)) xs

-- a number below all of them changes nothing
outside_more : (x : ℕ) (xs ys : List ℕ) → AreAbove x xs → outside xs (x ∷ ys) ≡ outside xs ys
outside_more x [] ys a = refl
outside_more x (z ∷ zs) ys a = rw (ne_eqb z x (λ e. absurd (omega arith)), outside_more x zs ys a.1) refl

outside_above : (x : ℕ) (xs ys : List ℕ) → AreAbove x xs → AreAbove x (outside xs ys)
outside_above x [] ys a = tt
outside_above x (z ∷ zs) ys a = elim (is_among ys z) as (λ b. AreAbove x (cond (not b) (z ∷ outside zs ys) (outside zs ys))) [
  | true ↦ outside_above x zs ys a.1
  | false ↦ (a.0, outside_above x zs ys a.1)
]

above_append : (x : ℕ) (xs ys : List ℕ) → AreAbove x xs → AreAbove x ys → AreAbove x (xs ++ ys)
above_append x [] ys a b = b
above_append x (z ∷ zs) ys a b = (a.0, above_append x zs ys a.1 b)

-- the lesser of two numbers
abbrev lesser : ℕ → ℕ → ℕ
lesser x y = cond (ltb y x) y x

fold_stays : (x : ℕ) (xs : List ℕ) → AreAbove x xs → fold lesser x xs ≡ x
fold_stays x [] a = refl
fold_stays x (y ∷ ys) a = rw (le-ltb y x (omega arith)) (fold_stays x ys a.1)

fold_starts : (m a : ℕ) (ys : List ℕ) → m < a → AreAbove m ys → fold lesser a (m ∷ ys) ≡ m
fold_starts m a ys lt down = rw (lt-ltb m a lt) (fold_stays m ys down)

-- a number that stands among greater ones is the least
fold_finds : (m a : ℕ) (xs ys : List ℕ) → m < a → AreAbove m xs → AreAbove m ys → fold lesser a (xs ++ m ∷ ys) ≡ m
fold_finds m a [] ys lt up down = fold_starts m a ys lt down
fold_finds m a (x ∷ xs) ys lt up down = elim (ltb x a) as (λ b. fold lesser (cond b x a) (xs ++ m ∷ ys) ≡ m) [
  | true ↦ fold_finds m x xs ys up.0 up.1 down
  | false ↦ fold_finds m a xs ys lt up.1 down
]

reduce_finds : (m : ℕ) (xs ys : List ℕ) → AreAbove m xs → AreAbove m ys → reduce lesser (xs ++ m ∷ ys) ≡ Some m
reduce_finds m [] ys up down = ap Some (fold_stays m ys down)
reduce_finds m (x ∷ xs) ys up down = ap Some (fold_finds m x xs ys up.0 up.1 down)

outside_in : (x : ℕ) (xs ys : List ℕ) → is_among ys x ≡ true → outside (x ∷ xs) ys ≡ outside xs ys
outside_in x xs ys h = rw h refl

outside_out : (x : ℕ) (xs ys : List ℕ) → is_among ys x ≡ false → outside (x ∷ xs) ys ≡ x ∷ outside xs ys
outside_out x xs ys h = rw h refl

along : (a a' b b' : List ℕ) → a ≡ a' → b ≡ b' → reduce lesser (a ++ b) ≡ reduce lesser (a' ++ b')
along a a' b b' p q = ap (λ z. reduce lesser (z ++ b)) p ∙ ap (λ z. reduce lesser (a' ++ z)) q

-- the same number begins both lists
least_same : (x y : ℕ) (xs ys : List ℕ) → x ≡ y → AreAbove x xs → AreAbove y ys → least_in_one (x ∷ xs) (y ∷ ys) ≡ least_in_one xs ys
least_same x y xs ys is up down =
    let first : AreAbove y xs = subst (λ z. AreAbove z xs) is up in
    let second : AreAbove x ys = subst (λ z. AreAbove z ys) (sym is) down in
    along (outside (x ∷ xs) (y ∷ ys)) (outside xs ys) (outside (y ∷ ys) (x ∷ xs)) (outside ys xs)
    (outside_in x xs (y ∷ ys) (rw (eq-eqb x y is) refl) ∙ outside_more y xs ys first)
    (outside_in y ys (x ∷ xs) (rw (eq-eqb y x (sym is)) refl) ∙ outside_more x ys xs second)

-- the first list begins with a lesser number
least_first : (x : ℕ) (xs ys : List ℕ) → AreAbove x xs → AreAbove x ys → least_in_one (x ∷ xs) ys ≡ Some x
least_first x xs ys up down =
    along (outside (x ∷ xs) ys) (x ∷ outside xs ys) (outside ys (x ∷ xs)) (outside ys (x ∷ xs)) (outside_out x xs ys (not_among x ys down)) refl
    ∙ reduce_finds x [] (outside xs ys ++ outside ys (x ∷ xs)) tt (above_append x (outside xs ys) (outside ys (x ∷ xs)) (outside_above x xs ys up) (outside_above x ys (x ∷ xs) down))

-- the second list does
least_second : (y : ℕ) (xs ys : List ℕ) → AreAbove y xs → AreAbove y ys → least_in_one xs (y ∷ ys) ≡ Some y
least_second y xs ys up down =
    along (outside xs (y ∷ ys)) (outside xs (y ∷ ys)) (outside (y ∷ ys) xs) (y ∷ outside ys xs) refl (outside_out y ys xs (not_among y xs up))
    ∙ reduce_finds y (outside xs (y ∷ ys)) (outside ys xs) (outside_above y xs (y ∷ ys) up) (outside_above y ys xs down)

lesser_first : (x y : ℕ) → x < y → min x y ≡ x
lesser_first x y lt = omega arith

lesser_second : (x y : ℕ) → y < x → min x y ≡ y
lesser_second x y lt = omega arith

least_of_rising : (xs ys : List ℕ) → Rises xs → Rises ys → least_in_one xs ys ≡ first_difference xs ys
least_of_rising [] [] p q = refl
least_of_rising (x ∷ xs) [] p q = least_first x xs [] p.0 tt
least_of_rising [] (y ∷ ys) p q = least_second y [] ys tt q.0
least_of_rising (x ∷ xs) (y ∷ ys) p q = elim (cases_order x y) [
  | inl is ↦ least_same x y xs ys is p.0 q.0 ∙ least_of_rising xs ys p.1 q.1 ∙ sym (rw (eq-eqb x y is) refl)
  | inr differ ↦ elim differ [
    | inl lt ↦ least_first x xs (y ∷ ys) p.0 (lt, above_less x y ys lt q.0) ∙ sym (rw (ne_eqb x y (λ e. absurd (omega arith))) (ap Some (lesser_first x y lt)))
    | inr gt ↦ least_second y (x ∷ xs) ys (gt, above_less y x xs gt p.0) q.0 ∙ sym (rw (ne_eqb x y (λ e. absurd (omega arith))) (ap Some (lesser_second x y gt)))
  ]
]

-- the least number in one of two rising lists only is found where they first differ
pub least_is_first : (xs ys : List ℕ) → IsStrictlyIncreasing xs → IsStrictlyIncreasing ys → least_in_one xs ys ≡ first_difference xs ys
least_is_first xs ys p q = least_of_rising xs ys (rises xs p) (rises ys q)

number_at : (xs : List ℕ) (i x : ℕ) → i < length xs → get_or xs i 0 ≡ x → drop i xs ≡ x ∷ drop (i + 1) xs
number_at xs i x lt at = rw add-one (drop-cons xs i 0 lt ∙ ap (λ z. z ∷ drop (suc i) xs) at)

both : (xs xs' ys ys' : List ℕ) → xs ≡ xs' → ys ≡ ys' → first_difference xs ys ≡ first_difference xs' ys'
both xs xs' ys ys' p q = ap (λ z. first_difference z ys) p ∙ ap (λ z. first_difference xs' z) q

-- the lists agree at a place
pub goes_on : (xs ys : List ℕ) (i x y : ℕ) → i < length xs → i < length ys → get_or xs i 0 ≡ x → get_or ys i 0 ≡ y → x ≡ y
    → first_difference (drop i xs) (drop i ys) ≡ first_difference (drop (i + 1) xs) (drop (i + 1) ys)
goes_on xs ys i x y lt below at there is =
    both (drop i xs) (x ∷ drop (i + 1) xs) (drop i ys) (y ∷ drop (i + 1) ys) (number_at xs i x lt at) (number_at ys i y below there)
    ∙ rw (eq-eqb x y is) refl

pub finds_lesser : (xs ys : List ℕ) (i x y m : ℕ) → i < length xs → i < length ys → get_or xs i 0 ≡ x → get_or ys i 0 ≡ y → x ≢ y → m ≡ min x y
    → first_difference (drop i xs) (drop i ys) ≡ Some m
finds_lesser xs ys i x y m lt below at there differ is =
    both (drop i xs) (x ∷ drop (i + 1) xs) (drop i ys) (y ∷ drop (i + 1) ys) (number_at xs i x lt at) (number_at ys i y below there)
    ∙ rw (ne_eqb x y differ) (ap Some (sym is))

pub finds_first : (xs ys : List ℕ) (i x : ℕ) → i < length xs → length ys ≤ i → get_or xs i 0 ≡ x → first_difference (drop i xs) (drop i ys) ≡ Some x
finds_first xs ys i x lt le at = both (drop i xs) (x ∷ drop (i + 1) xs) (drop i ys) [] (number_at xs i x lt at) (drop_all i ys le)

pub finds_second : (xs ys : List ℕ) (i y : ℕ) → length xs ≤ i → i < length ys → get_or ys i 0 ≡ y → first_difference (drop i xs) (drop i ys) ≡ Some y
finds_second xs ys i y le lt at = both (drop i xs) [] (drop i ys) (y ∷ drop (i + 1) ys) (drop_all i xs le) (number_at ys i y lt at)

pub finds_none : (xs ys : List ℕ) (i : ℕ) → length xs ≤ i → length ys ≤ i → first_difference (drop i xs) (drop i ys) ≡ None
finds_none xs ys i le less = both (drop i xs) [] (drop i ys) [] (drop_all i xs le) (drop_all i ys less)
