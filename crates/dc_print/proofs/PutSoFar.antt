-- A text that is put piece by piece.
use Rattle.std.proofs.Common.{◌≡◌, ℕ, ◌+◌, ◌<◌, List, [], ◌++◌, length, get_or, take, drop, Result, Ok, Err, refl, sym, ap, ◌∙◌, append_assoc, subst}
use Rattle.std.specs.Prelude.{IsErr}
use Rattle.std.specs.List.{flat_map}
use Rattle.std.proofs.lemmas.List.{append-nil, take-append-drop, at_drop_more}
use Rattle.std.proofs.lemmas.List.Concat.{flat_map-append}
use Rattle.dc_spec.specs.Outside.{SinkState}
use Rattle.dc_edge.specs.Sink.{Puts}
use Rattle.dc_edge.specs.declared.fault.Failed.{Failed}
use Rattle.dc_edge.proofs.PutLemmas.{Puts-nothing, Puts-then, Puts-stops}

-- all of a text but its rest was put
pub record PutSoFar (whole rest : List ℕ) (before now : SinkState) : Type 0 where
  pub front : List ℕ
  pub parts : whole ≡ front ++ rest
  pub put : Puts front before now (Ok tt)

-- nothing was put yet
pub PutSoFar-none : (whole rest : List ℕ) (s : SinkState) → rest ≡ whole → PutSoFar whole rest s s
PutSoFar-none whole rest s e = record { front = []; parts = sym e; put = Puts-nothing s }

-- one more piece was put
pub PutSoFar-then : (whole rest piece after : List ℕ) (s0 s1 s2 : SinkState) (u : Unit) → rest ≡ piece ++ after
    → PutSoFar whole rest s0 s1 → Puts piece s1 s2 (Ok u) → PutSoFar whole after s0 s2
PutSoFar-then whole rest piece after s0 s1 s2 u e p more = record {
  front = p.front ++ piece;
  parts = p.parts ∙ rw (e, append_assoc);
  put = Puts-then p.front piece s0 s1 s2 tt (Ok tt) p.put more;
}

-- a put of one more piece failed
pub PutSoFar-stops : (whole rest piece after : List ℕ) (s0 s1 s2 : SinkState) (f : Failed) (r : Result Unit Failed) → rest ≡ piece ++ after
    → PutSoFar whole rest s0 s1 → Puts piece s1 s2 (Err f) → IsErr r → Puts whole s0 s2 r
PutSoFar-stops whole rest piece after s0 s1 s2 f r e p more is =
    rw (p.parts, e) (Puts-then p.front (piece ++ after) s0 s1 s2 tt r p.put (Puts-stops piece after s1 s2 f r more is))

-- all was put
pub PutSoFar-all : (whole rest : List ℕ) (s0 s1 : SinkState) → rest ≡ [] → PutSoFar whole rest s0 s1 → Puts whole s0 s1 (Ok tt)
PutSoFar-all whole rest s0 s1 e p =
    let same : p.front ≡ whole = sym (p.parts ∙ rw e (append-nil p.front)) in
    subst (λ (text : List ℕ). Puts text s0 s1 (Ok tt)) same p.put

-- the texts of some items, then those of the others
pub flat_map-split : {X : Type 0} (f : X → List ℕ) (n : ℕ) (xs : List X) → flat_map f xs ≡ flat_map f (take n xs) ++ flat_map f (drop n xs)
flat_map-split f n xs = ap (flat_map f) (sym (take-append-drop n xs)) ∙ flat_map-append f (take n xs) (drop n xs)

-- the texts of some more items were put
pub ItemsPut-then : {X : Type 0} (f : X → List ℕ) (n : ℕ) (xs : List X) (whole : List ℕ) (s0 s1 s2 : SinkState) (u : Unit)
    → PutSoFar whole (flat_map f xs) s0 s1 → Puts (flat_map f (take n xs)) s1 s2 (Ok u) → PutSoFar whole (flat_map f (drop n xs)) s0 s2
ItemsPut-then f n xs whole s0 s1 s2 u p more =
    PutSoFar-then whole (flat_map f xs) (flat_map f (take n xs)) (flat_map f (drop n xs)) s0 s1 s2 u (flat_map-split f n xs) p more

-- a put of the texts of some more items failed
pub ItemsPut-stops : {X : Type 0} (f : X → List ℕ) (n : ℕ) (xs : List X) (whole : List ℕ) (s0 s1 s2 : SinkState) (failed : Failed) (r : Result Unit Failed)
    → PutSoFar whole (flat_map f xs) s0 s1 → Puts (flat_map f (take n xs)) s1 s2 (Err failed) → IsErr r → Puts whole s0 s2 r
ItemsPut-stops f n xs whole s0 s1 s2 failed r p more is =
    PutSoFar-stops whole (flat_map f xs) (flat_map f (take n xs)) (flat_map f (drop n xs)) s0 s1 s2 failed r (flat_map-split f n xs) p more is

-- the text of one more item was put
pub ItemPut-then : {X : Type 0} (f : X → List ℕ) (xs : List X) (i : ℕ) (d x : X) (whole : List ℕ) (s0 s1 s2 : SinkState) (u : Unit) → i < length xs → x ≡ get_or xs i d
    → PutSoFar whole (flat_map f (drop i xs)) s0 s1 → Puts (f x) s1 s2 (Ok u) → PutSoFar whole (flat_map f (drop (i + 1) xs)) s0 s2
ItemPut-then f xs i d x whole s0 s1 s2 u low is p more =
    PutSoFar-then whole (flat_map f (drop i xs)) (f x) (flat_map f (drop (i + 1) xs)) s0 s1 s2 u (at_drop_more (flat_map f) xs i d low ∙ rw is refl) p more

-- a put of the text of one more item failed
pub ItemPut-stops : {X : Type 0} (f : X → List ℕ) (xs : List X) (i : ℕ) (d x : X) (whole : List ℕ) (s0 s1 s2 : SinkState) (failed : Failed) (r : Result Unit Failed) → i < length xs → x ≡ get_or xs i d
    → PutSoFar whole (flat_map f (drop i xs)) s0 s1 → Puts (f x) s1 s2 (Err failed) → IsErr r → Puts whole s0 s2 r
ItemPut-stops f xs i d x whole s0 s1 s2 failed r low is p more err =
    PutSoFar-stops whole (flat_map f (drop i xs)) (f x) (flat_map f (drop (i + 1) xs)) s0 s1 s2 failed r (at_drop_more (flat_map f) xs i d low ∙ rw is refl) p more err
