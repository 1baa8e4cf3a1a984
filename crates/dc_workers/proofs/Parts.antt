-- A list by its chunks.
use Rattle.std.proofs.Common.{◌≡◌, ℕ, ◌+◌, ◌*◌, ◌<◌, List, ◌++◌, length, get_or, map, take, drop, Result, Ok, IfOk, sym, ap, subst, ◌∙◌, arith}
use Rattle.std.specs.Fork.{slice_chunk}
use Rattle.std.proofs.Math.Seq.{take-add}
use Rattle.std.proofs.lemmas.List.{take-map, drop-map}
use Rattle.dc_workers.specs.Chunks.{AreChunks}

-- a part that is no error is the chunk of its number
pub part_is : {E : Type 0} (xs : List (List ℕ)) (size i : ℕ) (parts : List (Result (List (List ℕ)) E)) (part : Result (List (List ℕ)) E) (words : List (List ℕ)) → AreChunks xs size parts → i < length parts → part ≡ get_or parts i part → part ≡ Ok words → words ≡ slice_chunk xs size i
part_is {E} xs size i parts part words are lt item ok = subst (λ (r : Result (List (List ℕ)) E). IfOk r (λ ws. ws ≡ slice_chunk xs size i)) (sym item ∙ ok) (are i part lt)

-- one chunk more
pub chunk_more : (xs so_far words : List (List ℕ)) (size i : ℕ) → so_far ≡ take (i * size) xs → words ≡ slice_chunk xs size i → so_far ++ words ≡ take ((i + 1) * size) xs
chunk_more xs so_far words size i front part =
    let next : (i + 1) * size ≡ i * size + size = omega arith in
    rw (front, part, next) (sym (take-add (i * size) size xs))

-- the chunk of what a function makes of the items
pub chunk_of_map : {X Y : Type 0} (f : X → Y) (xs : List X) (size n : ℕ) → map f (slice_chunk xs size n) ≡ slice_chunk (map f xs) size n
chunk_of_map f xs size n = sym (take-map f size (drop (n * size) xs)) ∙ ap (λ ys. take size ys) (sym (drop-map f (n * size) xs))
