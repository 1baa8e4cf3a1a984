-- Stacks of groups.
use Rattle.std.proofs.Common.{◌≡◌, ℕ, ◌+◌, ◌≤◌, Bool, true, false, ltb, eqb, List, [], ◌∷◌, ◌++◌, length, map, drop, Option, Some, None, refl, sym, ap, ◌∙◌, subst, arith, inl, inr, not, ◌%◌, reverse, slice_get, option_to_list}
use Rattle.std.proofs.lemmas.List.{reverse-append, append-nil}
use Rattle.std.specs.List.{range_with_len, find}
use Rattle.std.proofs.Math.Nat.{mod-one}
use Rattle.std.proofs.lemmas.Bool.{cases_lt, le-ltb}
use Rattle.std.proofs.lemmas.Bool.Decides.{nat_tests}
use Rattle.dc_spec.specs.Groups.{first_limb_where, Group, limb, uneven_limb}
use Rattle.dc_station_rules.specs.Epochs.{Ranged, leaf_of}
use Rattle.dc_average.specs.Stacks.{AreOfSome, IsStack, stations_of, stations_in}
use Rattle.dc_average.specs.Items.{a_group, from_open, leaves_in, groups_in}

-- without its top
pub IsStack-rest : (top : Ranged) (rest : List Ranged) → IsStack (top ∷ rest) → IsStack rest
IsStack-rest top rest is = let few = is.few in record { some = is.some.1; few = omega arith }

-- no groups are a stack
pub IsStack-nil : IsStack []
IsStack-nil = record { some = tt; few = omega arith }

-- with one more group
pub IsStack-push : (top : Ranged) (rest : List Ranged) → IsStack rest → 1 ≤ stations_of top → stations_of top + stations_in rest ≤ 256 → IsStack (top ∷ rest)
IsStack-push top rest is some few = record { some = (some, is.some); few = omega arith }

-- at most as many groups as stations
pub length-stack : (items : List Ranged) → AreOfSome items → length items ≤ stations_in items
length-stack [] all = omega arith
length-stack (item ∷ items) all = let rest = length-stack items all.1 in let here = all.0 in omega arith

-- the top of a list is the last of its reverse
reverse-push : (items : List Ranged) (item : Ranged) → reverse (items ++ item ∷ []) ≡ item ∷ reverse items
reverse-push items item = reverse-append items (item ∷ [])

-- a list with one more at its end, read from its end
pub pushed : (new old : List Ranged) (item : Ranged) → new ≡ old ++ item ∷ [] → reverse new ≡ item ∷ reverse old
pushed new old item is = ap reverse is ∙ reverse-push old item

-- a list without its last item, read from its end
pub popped : (new old : List Ranged) (item : Option Ranged) → old ≡ new ++ option_to_list item → IsStack (reverse old) → IsStack (reverse new)
popped new old None is stack = subst (λ (xs : List Ranged). IsStack (reverse xs)) (is ∙ append-nil new) stack
popped new old (Some item) is stack = IsStack-rest item (reverse new) (subst (λ (xs : List Ranged). IsStack xs) (pushed old new item is) stack)

-- one is below two
below_two : (n : ℕ) → n ≡ 1 → ltb n 2 ≡ true
below_two n one = grind (arith, nat_tests)

-- at least one and not one is at least two
from_two : (n : ℕ) → 1 ≤ n → (n ≡ 1 → ⊥) → ltb n 2 ≡ false
from_two n some more = elim (cases_lt n 2) [
  | inl lt ↦ absurd (more (omega arith))
  | inr le ↦ le-ltb n 2 le
]

-- a test of one
is_one : (n : ℕ) → n ≡ 1 → eqb n 1 ≡ true
is_one n one = grind (arith, nat_tests)

-- where the top is of one station, its leaf comes out, and the same groups wait without it
pub counts-single : (stack : List Ranged) (top : Ranged) → slice_get stack 0 ≡ Some top → stations_of top ≡ 1 → stations_in stack ≡ 1 + stations_in (drop 1 stack)
counts-single [] top is one = absurd cc
counts-single (place ∷ rest) top is one =
    let same : place ≡ top = cc in
    let one' : place.group.count ≡ 1 = ap stations_of same ∙ one in
    ap (λ n. n + stations_in rest) one'

-- a top of one station does not wait
pub from_open-single : (stack : List Ranged) (top : Ranged) → slice_get stack 0 ≡ Some top → stations_of top ≡ 1 → from_open (map a_group (drop 1 stack)) ≡ from_open (map a_group stack)
from_open-single [] top is one = absurd cc
from_open-single (place ∷ rest) top is one =
    let same : place ≡ top = cc in
    let small : ltb place.group.count 2 ≡ true = below_two place.group.count (ap stations_of same ∙ one) in
    rw small refl

-- a top of one station gives its leaf first
pub leaves_in-single : (stack : List Ranged) (top : Ranged) → slice_get stack 0 ≡ Some top → stations_of top ≡ 1
    → leaf_of top.group top.low top.high ∷ leaves_in (map a_group (drop 1 stack)) ≡ leaves_in (map a_group stack)
leaves_in-single [] top is one = absurd cc
leaves_in-single (place ∷ rest) top is one =
    let same : place ≡ top = cc in
    let one' : place.group.count ≡ 1 = ap stations_of same ∙ one in
    let small : ltb place.group.count 2 ≡ true = below_two place.group.count one' in
    let single : eqb place.group.count 1 ≡ true = is_one place.group.count one' in
    rw (small, single) (ap (λ (p : Ranged). leaf_of p.group p.low p.high ∷ leaves_in (map a_group rest)) (sym same))

-- where the top is of two stations or more, or there is none, all groups wait and no leaf comes out
groups_in-map : (items : List Ranged) → groups_in (map a_group items) ≡ items
groups_in-map [] = refl
groups_in-map (item ∷ items) = ap (λ zs. item ∷ zs) (groups_in-map items)

-- a stack whose top is not of one station waits as it is
pub from_open-waits : (stack : List Ranged) → AreOfSome stack → ((top : Ranged) → slice_get stack 0 ≡ Some top → stations_of top ≡ 1 → ⊥) → stack ≡ from_open (map a_group stack)
from_open-waits [] some none = refl
from_open-waits (place ∷ rest) some none =
    rw (from_two place.group.count some.0 (none place refl)) (ap (λ zs. place ∷ zs) (sym (groups_in-map rest)))

-- a stack whose top is not of one station gives no leaf
pub leaves_in-waits : (stack : List Ranged) → AreOfSome stack → ((top : Ranged) → slice_get stack 0 ≡ Some top → stations_of top ≡ 1 → ⊥) → leaves_in (map a_group stack) ≡ []
leaves_in-waits [] some none = refl
leaves_in-waits (place ∷ rest) some none = rw (from_two place.group.count some.0 (none place refl)) refl

-- there is no top, or another one
pub no_top : (stack : List Ranged) → None ≡ slice_get stack 0 → (top : Ranged) → slice_get stack 0 ≡ Some top → stations_of top ≡ 1 → ⊥
no_top stack none top is one = let e : None ≡ Some top = none ∙ is in cc

-- a top that is not of one station
pub other_top : (stack : List Ranged) (place : Ranged) → Some place ≡ slice_get stack 0 → (stations_of place ≡ 1 → ⊥) → (top : Ranged) → slice_get stack 0 ≡ Some top → stations_of top ≡ 1 → ⊥
other_top stack place here more top is one = let same : place ≡ top = cc in more (ap stations_of same ∙ one)

-- a test that always fails finds nothing
find-none : (test : ℕ → Bool) (xs : List ℕ) → ((x : ℕ) → test x ≡ false) → find test xs ≡ None
find-none test [] none = refl
find-none test (x ∷ xs) none = rw (none x) (find-none test xs none)

-- one divides each limb
even_by_one : (x n : ℕ) → n ≡ 1 → not (eqb (x % n) 0) ≡ false
even_by_one x n one = rw one (rw (mod-one x) refl)

-- a group of one station has no uneven limb
pub uneven_limb-single : (group : Group) → group.count ≡ 1 → uneven_limb group ≡ None
unfolding first_limb_where
uneven_limb-single group one = find-none (λ i. not (eqb (limb group i % group.count) 0)) (range_with_len 0 15) (λ i. even_by_one (limb group i) group.count one)

-- the top is of one station or more
pub top_some : (stack : List Ranged) (top : Ranged) → AreOfSome stack → Some top ≡ slice_get stack 0 → 1 ≤ stations_of top
top_some [] top some here = absurd cc
top_some (place ∷ rest) top some here = let same : place ≡ top = cc in subst (λ (p : Ranged). 1 ≤ stations_of p) same some.0
