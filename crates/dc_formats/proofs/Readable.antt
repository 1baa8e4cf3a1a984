-- Spellings that can be read back whatever follows them, and lists of such spellings.
use Rattle.std.proofs.Common.{◌≡◌, ℕ, ◌≢◌, List, [], ◌∷◌, ◌++◌, length, All, refl, sym, ◌∙◌, ap, subst, arith}
use Rattle.std.specs.List.{flat_map}
use Rattle.std.proofs.lemmas.List.{append_assoc}
use Rattle.std.proofs.lemmas.List.Elements.{All-head, All-tail}

-- a spelling and what follows it can be told from any other spelling and what follows that
abbrev pub IsReadable : {X : Type 0} → (X → Type 0) → (X → List ℕ) → Type 0
IsReadable {X} P f = (x y : X) (r s : List ℕ) → P x → P y → f x ++ r ≡ f y ++ s → (x ≡ y) × (r ≡ s)

-- spellings that nothing follows
pub without_rest : (a b : List ℕ) → a ≡ b → a ++ [] ≡ b ++ []
without_rest a b e = ap (λ t. t ++ []) e

-- a list of known length
pub read_counted : {X : Type 0} (P : X → Type 0) (f : X → List ℕ) → IsReadable P f → (xs ys : List X) (r s : List ℕ) → All P xs → All P ys → length xs ≡ length ys → flat_map f xs ++ r ≡ flat_map f ys
    ++ s → (xs ≡ ys) × (r ≡ s)
read_counted P f read [] [] r s p q n e = (refl, e)
read_counted P f read [] (y ∷ ys) r s p q n e = absurd (omega arith)
read_counted P f read (x ∷ xs) [] r s p q n e = absurd (omega arith)
read_counted P f read (x ∷ xs) (y ∷ ys) r s p q n e =
    let apart : f x ++ (flat_map f xs ++ r) ≡ f y ++ (flat_map f ys ++ s) = sym (append_assoc (f x) _ r) ∙ e ∙ append_assoc (f y) _ s in
    let first : (x ≡ y) × (flat_map f xs ++ r ≡ flat_map f ys ++ s) = read x y _ _ (All-head P x xs p) (All-head P y ys q) apart in
    let same : length xs ≡ length ys = omega arith in
    let rest : (xs ≡ ys) × (r ≡ s) = read_counted P f read xs ys r s (All-tail P x xs p) (All-tail P y ys q) same first.1 in
    (cc (first.0, rest.0), rest.1)

-- what follows does not begin with a spelling
abbrev pub Ends : {X : Type 0} → (X → Type 0) → (X → List ℕ) → List ℕ → Type 0
Ends {X} P f r = (x : X) (t : List ℕ) → P x → r ≡ f x ++ t → ⊥

-- a spelling that can be told where what follows it is of this kind
abbrev pub IsReadableBefore : {X : Type 0} → (List ℕ → Type 0) → (X → Type 0) → (X → List ℕ) → Type 0
IsReadableBefore {X} Q P f = (x y : X) (r s : List ℕ) → P x → P y → Q r → Q s → f x ++ r ≡ f y ++ s → (x ≡ y) × (r ≡ s)

-- a list and what follows it are of a kind, where what follows it is, and each item with what follows that
followed : {X : Type 0} (Q : List ℕ → Type 0) (P : X → Type 0) (f : X → List ℕ) → ((x : X) (r : List ℕ) → P x → Q (f x ++ r)) → (xs : List X) (r : List ℕ) → All P xs → Q r → Q (flat_map f xs ++ r)
followed Q P f each [] r p q = q
followed Q P f each (x ∷ xs) r p q = subst Q (sym (append_assoc (f x) _ r)) (each x _ (All-head P x xs p))

-- a list of such items up to what does not begin with a further one
pub read_until_before : {X : Type 0} (Q : List ℕ → Type 0) (P : X → Type 0) (f : X → List ℕ) → IsReadableBefore Q P f → ((x : X) (r : List ℕ) → P x → Q (f x ++ r)) → (xs ys : List X) (r s : List ℕ)
    → All P xs → All P ys → Q r → Q s → Ends P f r → Ends P f s → flat_map f xs ++ r ≡ flat_map f ys ++ s → (xs ≡ ys) × (r ≡ s)
read_until_before Q P f read each [] [] r s p q kind kind' ends ends' e = (refl, e)
read_until_before Q P f read each [] (y ∷ ys) r s p q kind kind' ends ends' e = absurd (ends y _ (All-head P y ys q) (e ∙ append_assoc (f y) _ s))
read_until_before Q P f read each (x ∷ xs) [] r s p q kind kind' ends ends' e = absurd (ends' x _ (All-head P x xs p) (sym e ∙ append_assoc (f x) _ r))
read_until_before Q P f read each (x ∷ xs) (y ∷ ys) r s p q kind kind' ends ends' e =
    let apart : f x ++ (flat_map f xs ++ r) ≡ f y ++ (flat_map f ys ++ s) = sym (append_assoc (f x) _ r) ∙ e ∙ append_assoc (f y) _ s in
    let after : Q (flat_map f xs ++ r) = followed Q P f each xs r (All-tail P x xs p) kind in
    let after' : Q (flat_map f ys ++ s) = followed Q P f each ys s (All-tail P y ys q) kind' in
    let first : (x ≡ y) × (flat_map f xs ++ r ≡ flat_map f ys ++ s) = read x y _ _ (All-head P x xs p) (All-head P y ys q) after after' apart in
    let rest : (xs ≡ ys) × (r ≡ s) = read_until_before Q P f read each xs ys r s (All-tail P x xs p) (All-tail P y ys q) kind kind' ends ends' first.1 in
    (cc (first.0, rest.0), rest.1)

-- a list up to what does not begin with a further item
pub read_until : {X : Type 0} (P : X → Type 0) (f : X → List ℕ) → IsReadable P f → (xs ys : List X) (r s : List ℕ) → All P xs → All P ys → Ends P f r → Ends P f s → flat_map f xs ++ r ≡ flat_map f ys
    ++ s → (xs ≡ ys) × (r ≡ s)
read_until P f read xs ys r s p q ends ends' e =
    read_until_before (λ t. Unit {0}) P f (λ x y r s p q kind kind' e. read x y r s p q e) (λ x r p. tt) xs ys r s p q tt tt ends ends' e

-- a text and the first byte of this kind after it
pub read_to_byte : (c : ℕ) (a b r s : List ℕ) → All (λ x. x ≢ c) a → All (λ x. x ≢ c) b → a ++ c ∷ r ≡ b ++ c ∷ s → (a ≡ b) × (r ≡ s)
read_to_byte c [] [] r s p q e = (refl, cc)
read_to_byte c [] (y ∷ b) r s p q e = absurd (All-head (λ x. x ≢ c) y b q cc)
read_to_byte c (x ∷ a) [] r s p q e = absurd (All-head (λ x. x ≢ c) x a p cc)
read_to_byte c (x ∷ a) (y ∷ b) r s p q e =
    let first : x ≡ y = cc in
    let after : a ++ c ∷ r ≡ b ++ c ∷ s = cc in
    let rest : (a ≡ b) × (r ≡ s) = read_to_byte c a b r s (All-tail (λ x. x ≢ c) x a p) (All-tail (λ x. x ≢ c) y b q) after in
    (cc (first, rest.0), rest.1)
