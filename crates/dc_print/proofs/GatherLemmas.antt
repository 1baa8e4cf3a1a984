-- Texts that are gathered one after the other.
use Rattle.std.proofs.Common.{◌≡◌, ℕ, ◌+◌, ◌<◌, ◌≤◌, List, [], ◌++◌, length, get_or, take, drop, Result, Ok, Err, sym, ap, ◌∙◌, append_assoc}
use Rattle.std.specs.Prelude.{IsErr}
use Rattle.std.specs.List.{flat_map}
use Rattle.std.proofs.lemmas.List.{append-nil, flat_map_more, take_more}
use Rattle.dc_spec.specs.Outside.{SinkState}
use Rattle.dc_edge.specs.Sink.{Puts}
use Rattle.dc_edge.specs.declared.fault.Failed.{Failed}
use Rattle.dc_edge.proofs.PutLemmas.{Puts-nothing, Puts-then, Puts-stops}
use Rattle.dc_print.specs.Gathering.{Gathers}
use Rattle.dc_print.proofs.PutSoFar.{flat_map-split}

-- nothing was gathered yet
pub Gathers-nothing : (end : ℕ) (buffer : List ℕ) (s : SinkState) → end ≤ length buffer → Gathers [] (take end buffer) buffer s s (Ok end)
Gathers-nothing end buffer s le = (le, record { front = []; parts = append-nil (take end buffer); put = Puts-nothing s })

-- one text after another
pub Gathers-then : (a b before x y : List ℕ) (s0 s1 s2 : SinkState) (end : ℕ) (r : Result ℕ Failed) → Gathers a before x s0 s1 (Ok end) → Gathers b (take end x) y s1 s2 r
    → Gathers (a ++ b) before y s0 s2 r
Gathers-then a b before x y s0 s1 s2 end (Ok last) p q =
    let parts : before ++ (a ++ b) ≡ p.1.front ++ q.1.front ++ take last y =
    sym (append_assoc before a b) ∙ ap (λ (t : List ℕ). t ++ b) p.1.parts ∙ append_assoc p.1.front (take end x) b ∙ ap (λ (t : List ℕ). p.1.front ++ t) q.1.parts ∙ sym
    (append_assoc p.1.front q.1.front (take last y)) in
    (q.0, record { front = p.1.front ++ q.1.front; parts = parts; put = Puts-then p.1.front q.1.front s0 s1 s2 tt (Ok tt) p.1.put q.1.put })
Gathers-then a b before x y s0 s1 s2 end (Err failed) p q =
    let parts : before ++ (a ++ b) ≡ p.1.front ++ (take end x ++ b) =
    sym (append_assoc before a b) ∙ ap (λ (t : List ℕ). t ++ b) p.1.parts ∙ append_assoc p.1.front (take end x) b in
    rw parts (Puts-then p.1.front (take end x ++ b) s0 s1 s2 tt (Err failed) p.1.put q)

-- a text whose put failed, and no more was gathered
pub Gathers-stops : (a b before x y : List ℕ) (s0 s1 : SinkState) (failed : Failed) (r : Result ℕ Failed) → Gathers a before x s0 s1 (Err failed) → IsErr r → Gathers (a ++ b) before y s0 s1 r
Gathers-stops a b before x y s0 s1 failed (Ok end) p is = absurd cc
Gathers-stops a b before x y s0 s1 failed (Err other) p is = rw (← append_assoc before a b) (Puts-stops (before ++ a) b s0 s1 failed (Err other) p is)

-- the texts of one more item
pub Gathers-more : {X : Type 0} (f : X → List ℕ) (xs : List X) (i : ℕ) (d : X) (before x y : List ℕ) (s0 s1 s2 : SinkState) (end : ℕ) (r : Result ℕ Failed) → i < length xs
    → Gathers (flat_map f (take i xs)) before x s0 s1 (Ok end) → Gathers (f (get_or xs i d)) (take end x) y s1 s2 r → Gathers (flat_map f (take (i + 1) xs)) before y s0 s2 r
Gathers-more f xs i d before x y s0 s1 s2 end r low p q =
    let text : flat_map f (take (i + 1) xs) ≡ flat_map f (take i xs) ++ f (get_or xs i d) = rw (take_more xs i d low) (sym (flat_map_more f [] (take i xs) (get_or xs i d))) in
    rw text (Gathers-then (flat_map f (take i xs)) (f (get_or xs i d)) before x y s0 s1 s2 end r p q)

-- what is kept is put at the end
pub Puts-kept : (text x : List ℕ) (s0 s1 s2 : SinkState) (end : ℕ) (r : Result Unit Failed) → Gathers text [] x s0 s1 (Ok end) → Puts (take end x) s1 s2 r → Puts text s0 s2 r
Puts-kept text x s0 s1 s2 end r p q = rw p.1.parts (Puts-then p.1.front (take end x) s0 s1 s2 tt r p.1.put q)

-- what was kept before was not all put, so no more was gathered
pub Gathers-unkept : (text before buffer : List ℕ) (s s' : SinkState) (failed : Failed) (r : Result ℕ Failed) → Puts before s s' (Err failed) → IsErr r → Gathers text before buffer s s' r
Gathers-unkept text before buffer s s' failed (Ok end) p is = absurd cc
Gathers-unkept text before buffer s s' failed (Err other) p is = Puts-stops before text s s' failed (Err other) p is

-- one more item failed, and no more was gathered
pub Gathers-more-stops : {X : Type 0} (f : X → List ℕ) (xs : List X) (i : ℕ) (d : X) (before x y : List ℕ) (s0 s1 s2 : SinkState) (end : ℕ) (failed : Failed) (r : Result ℕ Failed) → i < length xs
    → Gathers (flat_map f (take i xs)) before x s0 s1 (Ok end) → Gathers (f (get_or xs i d)) (take end x) y s1 s2 (Err failed) → IsErr r → Gathers (flat_map f xs) before y s0 s2 r
Gathers-more-stops f xs i d before x y s0 s1 s2 end failed r low p q is =
    let parts : flat_map f xs ≡ flat_map f (take (i + 1) xs) ++ flat_map f (drop (i + 1) xs) = flat_map-split f (i + 1) xs in
    rw parts (Gathers-stops (flat_map f (take (i + 1) xs)) (flat_map f (drop (i + 1) xs)) before y y s0 s2 failed r (Gathers-more f xs i d before x y s0 s1 s2 end (Err failed) low p q) is)
