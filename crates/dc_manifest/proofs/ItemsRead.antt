-- Items of a document read as one kind.
use Rattle.std.proofs.Common.{◌≡◌, ℕ, ℤ, ◌+◌, ◌<◌, ◌≤◌, List, [], ◌∷◌, ◌++◌, length, get_or, drop, Option, Some, None, option_map, option_and_then, refl, arith, append_assoc}
use Rattle.toml.specs.Data.{Data, as_integer}
use Rattle.toml.specs.View.{view, items_view}
use Rattle.toml.specs.declared.value.Value.{Value}
use Rattle.toml.proofs.Views.{items_view-drop}
use Rattle.dc_manifest.specs.Fields.{each_item, two_of}

-- the item at an index is of the kind: it stands before the items after it
pub each_goes_on : {X : Type 0} (kind : Data → Option X) (vs : List Value) (i : ℕ) (d : Value) (x : X) → i < length vs → kind (view (get_or vs i d)) ≡ Some x
    → each_item kind (items_view (drop i vs)) ≡ option_map (λ xs. x ∷ xs) (each_item kind (items_view (drop (i + 1) vs)))
each_goes_on kind vs i d x h is = rw (items_view-drop vs i d h, is)

-- the item at an index is of another kind
pub each_ends : {X : Type 0} (kind : Data → Option X) (vs : List Value) (i : ℕ) (d : Value) → i < length vs → kind (view (get_or vs i d)) ≡ None
    → each_item kind (items_view (drop i vs)) ≡ None
each_ends kind vs i d h is = rw (items_view-drop vs i d h, is)

-- one more item moves from the list's rest to its front
pub moved : {X : Type 0} (front : List X) (x : X) (rest : Option (List X)) → option_map (λ xs. front ++ xs) (option_map (λ xs. x ∷ xs) rest) ≡ option_map (λ xs. (front ++ x ∷ []) ++ xs) rest
moved front x None = refl
moved front x (Some xs) = simp append_assoc

-- a list of one, and one of three or more, is no pair
one_of : (o : Option ℤ) → option_and_then two_of (option_and_then (λ x. option_map (λ xs. x ∷ xs) (Some [])) o) ≡ None
one_of None = refl
one_of (Some x) = refl

many_of : (o p q : Option ℤ) (rest : Option (List ℤ))
    → option_and_then two_of (option_and_then (λ x. option_map (λ xs. x ∷ xs) (option_and_then (λ y. option_map (λ ys. y ∷ ys) (option_and_then (λ z. option_map (λ zs. z ∷ zs) rest) q)) p)) o) ≡ None
many_of None p q rest = refl
many_of (Some x) None q rest = refl
many_of (Some x) (Some y) None rest = refl
many_of (Some x) (Some y) (Some z) None = refl
many_of (Some x) (Some y) (Some z) (Some zs) = refl

pub fewer_than_two : (vs : List Value) → length vs < 2 → option_and_then two_of (each_item as_integer (items_view vs)) ≡ None
fewer_than_two [] h = refl
fewer_than_two (v ∷ []) h = one_of (as_integer (view v))
fewer_than_two (v ∷ w ∷ vs) h = absurd (omega arith)

pub more_than_two : (vs : List Value) → 3 ≤ length vs → option_and_then two_of (each_item as_integer (items_view vs)) ≡ None
more_than_two [] h = absurd (omega arith)
more_than_two (u ∷ []) h = absurd (omega arith)
more_than_two (u ∷ v ∷ []) h = absurd (omega arith)
more_than_two (u ∷ v ∷ w ∷ vs) h = many_of (as_integer (view u)) (as_integer (view v)) (as_integer (view w)) (each_item as_integer (items_view vs))
