-- A list of pairs by its chunks.
use Rattle.std.proofs.Common.{◌≡◌, ℕ, ◌+◌, ◌-◌, ◌*◌, ◌<◌, ◌≤◌, List, [], ◌∷◌, ◌++◌, length, get_or, map, take, drop, Result, Ok, IfOk, refl, sym, ap, subst, ◌∙◌, arith, append_assoc}
use Rattle.std.specs.Fork.{slice_chunk}
use Rattle.std.proofs.Math.Seq.{take-add}
use Rattle.std.proofs.lemmas.List.{take-map, drop-map, take_all, append-nil, length-append, get_or-append_right}
use Rattle.dc_spec.specs.Pads.{Pair}
use Rattle.dc_keyfile.specs.Chunks.{AreChunks}

-- a part that is no error is the chunk of its number
pub part_is : {E : Type 0} (xs : List Pair) (size i : ℕ) (parts : List (Result (List Pair) E)) (part : Result (List Pair) E) (pairs : List Pair) → AreChunks xs size parts → i < length parts → part ≡ get_or parts i part → part ≡ Ok pairs → pairs ≡ slice_chunk xs size i
part_is {E} xs size i parts part pairs are lt item ok = subst (λ (r : Result (List Pair) E). IfOk r (λ ps. ps ≡ slice_chunk xs size i)) (sym item ∙ ok) (are i part lt)

-- one chunk more
pub chunk_more : (xs so_far pairs : List Pair) (size i : ℕ) → so_far ≡ take (i * size) xs → pairs ≡ slice_chunk xs size i → so_far ++ pairs ≡ take ((i + 1) * size) xs
chunk_more xs so_far pairs size i front part =
    let next : (i + 1) * size ≡ i * size + size = omega arith in
    rw (front, part, next) (sym (take-add (i * size) size xs))

-- the chunk of what a function makes of the items
pub chunk_of_map : {X Y : Type 0} (f : X → Y) (xs : List X) (size n : ℕ) → map f (slice_chunk xs size n) ≡ slice_chunk (map f xs) size n
chunk_of_map f xs size n = sym (take-map f size (drop (n * size) xs)) ∙ ap (λ ys. take size ys) (sym (drop-map f (n * size) xs))

-- the parts so far and the others, and the pairs of those so far
pub record JoinedSoFar {E : Type 0} (parts passed rest : List (Result (List Pair) E)) (pairs : List Pair) : Type 0 where
  pub split : parts ≡ passed ++ rest
  pub pairs_are : (xs : List Pair) (size : ℕ) → AreChunks xs size parts → pairs ≡ take (length passed * size) xs

-- one part more
pub JoinedSoFar-more : {E : Type 0} (parts passed rest left : List (Result (List Pair) E)) (pairs more own : List Pair) (part : Result (List Pair) E)
    → JoinedSoFar parts passed rest pairs → rest ≡ part ∷ left → part ≡ Ok own → more ≡ pairs ++ own → JoinedSoFar parts (passed ++ part ∷ []) left more
JoinedSoFar-more {E} parts passed rest left pairs more own part so_far is ok grown =
    let i = length passed in
    let whole : parts ≡ passed ++ part ∷ left = so_far.split ∙ ap (λ ys. passed ++ ys) is in
    let none : i - i ≡ 0 = omega arith in
    let at : get_or parts i part ≡ part = ap (λ ys. get_or ys i part) whole ∙ get_or-append_right passed (part ∷ left) i i part refl (omega arith) ∙ ap (λ k. get_or (part ∷ left) k part) none in
    let within : i < length parts = (let all = ap (λ ys. length ys) whole ∙ length-append passed (part ∷ left) in omega arith) in
    record {
      split = whole ∙ sym (append_assoc passed (part ∷ []) left);
      pairs_are = λ xs size are.
          grown ∙ chunk_more xs pairs own size i (so_far.pairs_are xs size are) (part_is xs size i parts part own are within (sym at) ok)
          ∙ ap (λ n. take (n * size) xs) (sym (length-append passed (part ∷ [])));
    }

-- at the end all are joined
pub JoinedSoFar-all : {E : Type 0} (parts passed rest : List (Result (List Pair) E)) (pairs xs : List Pair) (size : ℕ) → JoinedSoFar parts passed rest pairs → rest ≡ []
    → AreChunks xs size parts → length xs ≤ length parts * size → pairs ≡ xs
JoinedSoFar-all parts passed rest pairs xs size so_far none are long =
    let whole : parts ≡ passed = so_far.split ∙ ap (λ ys. passed ++ ys) none ∙ append-nil passed in
    so_far.pairs_are xs size are ∙ ap (λ ps. take (length ps * size) xs) (sym whole) ∙ take_all (length parts * size) xs long
