-- The shift of a pair is that of its edge, and adds to its first pads alone.
use Rattle.std.proofs.Common.{◌≡◌, ℕ, ◌+◌, ◌-◌, ◌*◌, ◌%◌, ◌<◌, ◌==◌, ◌&&◌, ◌||◌, Bool, true, false, cond, List, [], ◌∷◌, length, map, find, get_or, slice_index, Option, Some, None, option_map, refl, sym, ◌∙◌, ap, inl, inr, arith, eqb-true, eq-eqb}
use Rattle.std.specs.List.{All, list_any, filter_map, cons_option}
use Rattle.std.specs.Option.{option_map_or}
use Rattle.std.proofs.Math.ListN.{get_or-eq_default}
use Rattle.std.proofs.lemmas.Bool.{and_from, and_parts, cases_lt, ne_eqb}
use Rattle.std.proofs.lemmas.List.{get_or-map, length-map, get_or_default}
use Rattle.std.proofs.lemmas.List.Elements.{All-map, All-weaker}
use Rattle.std.proofs.lemmas.List.Folds.{list_any-from_Any}
use Rattle.std.proofs.lemmas.Option.{none-some}
use Rattle.dc_spec.specs.Pads.{Pair}
use Rattle.dc_spec.specs.Words.{zero_word, word_sub}
use Rattle.dc_spec.proofs.Options.{some-inj}
use Rattle.dc_spec.proofs.WordLemmas.{symbol-word_of, length-word_of}
use Rattle.dc_key_rules.specs.PairKeys.{symbols, pads_add}
use Rattle.dc_net_rules.specs.Runs.{word_of_station}
use Rattle.dc_twin_rules.specs.Twins.{Shift, child_end, tree_shift, shifted_pair}
use Rattle.dc_twin_rules.proofs.PadSums.{pads_add-at, length-symbols, symbols-at}

-- the shift of an edge with these ends, if it has one
abbrev pub shift_of : List (Option ℕ) → List (List (List ℕ)) → Pair → Option Shift
shift_of ps sums pair = option_map (tree_shift sums pair) (child_end ps pair)

-- a pair with a shift
abbrev pub with_shift : Option Shift → Pair → Pair
with_shift o pair = option_map_or (λ (s : Shift). record pair { a = pads_add pair.a (symbols s.words) }) o pair

-- pairs with the same ends have the same shift
pub shift-same : (ps : List (Option ℕ)) (sums : List (List (List ℕ))) (x y : Pair) → x.u ≡ y.u → x.v ≡ y.v → shift_of ps sums x ≡ shift_of ps sums y
shift-same ps sums x y same_u same_v =
    ap (λ (a : ℕ). shift_of ps sums (record { u = a; v = x.v; a = []; b = [] })) same_u ∙ ap (λ (b : ℕ). shift_of ps sums (record { u = y.u; v = b; a = []; b = [] })) same_v

-- one shift more to search
find_step : (T : Shift → Bool) (H : Option Shift) (R : List Shift) (m any : Bool) (F : Option Shift) → ((s : Shift) → H ≡ Some s → T s ≡ m) → (m ≡ true → H ≡ F) → find T R ≡ cond any F None →
    find T (cons_option H R) ≡ cond (m || any) F None
find_step T None R true true F tests same rest = rest
find_step T None R true false F tests same rest = rest ∙ same refl
find_step T None R false any F tests same rest = rest
find_step T (Some s) R true any F tests same rest = ap (λ (b : Bool). cond b (Some s) (find T R)) (tests s refl) ∙ same refl
find_step T (Some s) R false any F tests same rest = ap (λ (b : Bool). cond b (Some s) (find T R)) (tests s refl) ∙ rest

shift_tests : (sums : List (List (List ℕ))) (x : Pair) (o : Option ℕ) (T : Shift → Bool) (m : Bool) → ((c : ℕ) → T (tree_shift sums x c) ≡ m) → (s : Shift) → option_map (tree_shift sums x) o
    ≡ Some s → T s ≡ m
shift_tests sums x None T m tests s e = absurd (none-some s e)
shift_tests sums x (Some c) T m tests s e = ap T (sym (some-inj e)) ∙ tests c

-- the search for the shift of a pair finds that of its edge
find-shift : (ps : List (Option ℕ)) (sums : List (List (List ℕ))) (q : Pair) (xs : List Pair) → find (λ (s : Shift). (s.u == q.u) && (s.v == q.v)) (filter_map (shift_of ps sums) xs)
    ≡ cond (list_any (λ (x : Pair). (x.u == q.u) && (x.v == q.v)) xs) (shift_of ps sums q) None
find-shift ps sums q [] = refl
find-shift ps sums q (x ∷ xs) =
    let T : Shift → Bool = λ s. (s.u == q.u) && (s.v == q.v) in
    find_step T (shift_of ps sums x) (filter_map (shift_of ps sums) xs) ((x.u == q.u) && (x.v == q.v)) (list_any (λ (x : Pair). (x.u == q.u) && (x.v == q.v)) xs) (shift_of ps sums q)
    (shift_tests sums x (child_end ps x) T ((x.u == q.u) && (x.v == q.v)) (λ c. refl))
    (λ same. (let parts = and_parts (x.u == q.u) (x.v == q.v) same in shift-same ps sums x q (eqb-true x.u q.u parts.0) (eqb-true x.v q.v parts.1)))
    (find-shift ps sums q xs)

-- so a pair of the list is shifted by the shift of its edge
pub shifted-at : (ps : List (Option ℕ)) (sums : List (List (List ℕ))) (xs : List Pair) → All (λ q. shifted_pair (filter_map (shift_of ps sums) xs) q ≡ with_shift (shift_of ps sums q) q) xs
shifted-at ps sums xs k d within =
    let q = get_or xs k d in
    let there = list_any-from_Any (λ (x : Pair). (x.u == q.u) && (x.v == q.v)) xs (
      k,
      q,
      within,
      get_or_default xs k q d within,
      and_from (q.u == q.u) (q.v == q.v) (eq-eqb q.u q.u refl)
          (eq-eqb q.v q.v refl),
    ) in
    ap (λ (o : Option Shift). with_shift o q) (find-shift ps sums q xs ∙ ap (λ (b : Bool). cond b (shift_of ps sums q) None) there)

-- a shift leaves the ends and the second pads
pub kept-u : (o : Option Shift) (q : Pair) → (with_shift o q).u ≡ q.u
kept-u None q = refl
kept-u (Some s) q = refl

pub kept-v : (o : Option Shift) (q : Pair) → (with_shift o q).v ≡ q.v
kept-v None q = refl
kept-v (Some s) q = refl

pub kept-b : (o : Option Shift) (q : Pair) → (with_shift o q).b ≡ q.b
kept-b None q = refl
kept-b (Some s) q = refl

-- each word has sixteen numbers
abbrev pub AreSixteens : List (List ℕ) → Type 0
AreSixteens ws = All (λ w. length w ≡ 16) ws

pub sixteen-at : (below : List (List ℕ)) → AreSixteens below → (c : ℕ) → length (word_of_station below c) ≡ 16
sixteen-at below are c = elim (cases_lt c (length below)) [
  | inl low ↦ are c zero_word low
  | inr high ↦ ap (λ (w : List ℕ). length w) (get_or-eq_default below zero_word high) ∙ length-word_of (λ _. 0)
]

-- the word of a shift in a round
abbrev pub shift_word : ℕ → ℕ → List (List ℕ) → List ℕ
shift_word u child below = cond (child == u) (word_of_station below child) (word_sub zero_word (word_of_station below child))

pub sixteen-shift : (u child : ℕ) (below : List (List ℕ)) → AreSixteens below → length (shift_word u child below) ≡ 16
sixteen-shift u child below are = by_case (child == u)
  where
    by_case : (b : Bool) → length (cond b (word_of_station below child) (word_sub zero_word (word_of_station below child))) ≡ 16
    by_case true = sixteen-at below are child
    by_case false = length-word_of (λ l. (slice_index zero_word l + (65537 - slice_index (word_of_station below child) l)) % 65537)

pub sixteen-shifts : (u child : ℕ) (sums : List (List (List ℕ))) → All AreSixteens sums → AreSixteens (map (shift_word u child) sums)
sixteen-shifts u child sums are = All-map (λ (w : List ℕ). length w ≡ 16) (shift_word u child) sums (All-weaker AreSixteens (λ (below : List (List ℕ)). length (shift_word u child below)
    ≡ 16) (sixteen-shift u child) sums are)

pub length-shift : (u child : ℕ) (sums : List (List (List ℕ))) → All AreSixteens sums → length (symbols (map (shift_word u child) sums)) ≡ 16 * length sums
length-shift u child sums are = length-symbols (map (shift_word u child) sums) (sixteen-shifts u child sums are) ∙ ap (λ (n : ℕ). 16 * n) (length-map sums (shift_word u child))

-- what a pair gains in a number of a round, from the sums below all stations there
abbrev pub gain : Bool → Bool → (ℕ → ℕ) → ℕ → ℕ → ℕ
gain is_child_u is_child_v B u v = cond is_child_u (B u) (cond is_child_v (65537 - B v) 0)

-- a first pad of a shifted pair
shifted_pad : (sums : List (List (List ℕ))) (q : Pair) (child t l n x : ℕ) → All AreSixteens sums → length q.a ≡ 16 * length sums → n ≡ 16 * t + l → l < 16 → t < length sums →
    slice_index (shift_word q.u child (get_or sums t [])) l ≡ x → slice_index (with_shift (Some (tree_shift sums q child)) q).a n ≡ (slice_index q.a n + x) % 65537
shifted_pad sums q child t l n x are size place few within is =
    let words = map (shift_word q.u child) sums in
    let count = length-shift q.u child sums are in
    let wide : n < length q.a = omega arith in
    let number = length-map sums (shift_word q.u child) in
    let added : slice_index (symbols words) n ≡ x = symbols-at words (sixteen-shifts q.u child sums are) t l n place few (omega arith)
    ∙ ap (λ (w : List ℕ). slice_index w l) (get_or-map (shift_word q.u child) sums t [] [] within) ∙ is in
    pads_add-at q.a (symbols words) n 0 wide (omega arith) ∙ ap (λ (z : ℕ). (slice_index q.a n + z) % 65537) added

pub first-pad : (sums : List (List (List ℕ))) (q : Pair) (is_child_u is_child_v : Bool) (B : ℕ → ℕ) (t l n : ℕ) → All AreSixteens sums → length q.a ≡ 16 * length sums → q.u < q.v → n
    ≡ 16 * t + l → l < 16 → t < length sums →
    ((c : ℕ) → B c ≡ slice_index (word_of_station (get_or sums t []) c) l) →
    slice_index (with_shift (option_map (tree_shift sums q) (cond is_child_u (Some q.u) (cond is_child_v (Some q.v) None))) q).a n % 65537
    ≡ (slice_index q.a n + gain is_child_u is_child_v B q.u q.v) % 65537
first-pad sums q true is_child_v B t l n are size up place few within is =
    let below = get_or sums t [] in
    let here : slice_index (shift_word q.u q.u below) l ≡ B q.u = ap (λ (b : Bool). slice_index (cond b (word_of_station below q.u) (word_sub zero_word (word_of_station below q.u))) l)
    (eq-eqb q.u q.u refl) ∙ sym (is q.u) in
    let e = shifted_pad sums q q.u t l n (B q.u) are size place few within here in
    omega arith
first-pad sums q false true B t l n are size up place few within is =
    let below = get_or sums t [] in
    let word = word_of_station below q.v in
    let other : (q.v == q.u) ≡ false = ne_eqb q.v q.u (λ same. absurd (omega arith)) in
    let at = symbol-word_of (λ k. (slice_index zero_word k + (65537 - slice_index word k)) % 65537) l few in
    let nil = symbol-word_of (λ _. 0) l few in
    let b = is q.v in
    let here : slice_index (shift_word q.u q.v below) l ≡ (65537 - B q.v) % 65537 = ap (λ (b : Bool). slice_index (cond b word (word_sub zero_word word)) l) other
    ∙ (let e : slice_index (word_sub zero_word word) l ≡ (65537 - B q.v) % 65537 = omega arith in e) in
    let e = shifted_pad sums q q.v t l n ((65537 - B q.v) % 65537) are size place few within here in
    omega arith
first-pad sums q false false B t l n are size up place few within is = omega arith
