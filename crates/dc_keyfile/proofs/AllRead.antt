-- Pairs that are read one after another, and the first fault of them all.
use Rattle.std.proofs.Common.{◌≡◌, ℕ, suc, ◌+◌, ◌<◌, List, [], ◌∷◌, ◌++◌, length, get_or, drop, map, Result, Ok, Err, refl, sym, ap, subst, ◌∙◌, arith}
use Rattle.std.specs.Prelude.{IsErrAnd}
use Rattle.std.specs.List.{range_with_len}
use Rattle.std.proofs.Math.Seq.{drop-cons}
use Rattle.std.proofs.lemmas.List.{length-map, get_or-map, map_push, take-append-drop}
use Rattle.std.proofs.lemmas.List.FromFn.{fill_by_all, get_or-map-range_with_len, length-map-range_with_len, take-map-range_with_len, map-range_with_len_more}
use Rattle.dc_field.specs.declared.refusal.Refusal.{Refusal}
use Rattle.dc_field.specs.declared.refusal.Refusal.TheVariants.{NoMemory, Bad}
use Rattle.dc_field.specs.Answers.{Answers}
use Rattle.dc_keyfile.specs.declared.fault.KeyFault.{KeyFault}
use Rattle.dc_keyfile.specs.Head.{put_first, all_or_first, pairs_of}

-- ---- all or the first fault

put_first_well : {X : Type 0} (p : X) (r : Result (List X) KeyFault) (ps : List X) → put_first p r ≡ Ok ps → (qs : List X) × (r ≡ Ok qs) × (ps ≡ p ∷ qs)
put_first_well p (Ok qs) ps e = (qs, refl, cc)
put_first_well p (Err fault) ps e = absurd cc

-- where there is no fault, they are all there
pub all_there : {X : Type 0} (rs : List (Result X KeyFault)) (ps : List X) → all_or_first rs ≡ Ok ps → rs ≡ map Ok ps
all_there {X} [] ps e = let none : [] ≡ ps = cc in ap (map Ok) none
all_there {X} (Err fault ∷ rs) ps e = absurd cc
all_there {X} (Ok p ∷ rs) ps e =
    let parts = put_first_well p (all_or_first rs) ps e in
    let rest : rs ≡ map Ok parts.0 = all_there rs parts.0 parts.1 in
    rw parts.2 (ap (λ (ts : List (Result X KeyFault)). Ok p ∷ ts) rest)

pub all_again : {X : Type 0} (ps : List X) → all_or_first (map Ok ps) ≡ Ok ps
all_again [] = refl
all_again (p ∷ ps) = rw (all_again ps) refl

first_fault : {X : Type 0} (ps : List X) (fault : KeyFault) (rest : List (Result X KeyFault)) → all_or_first (map Ok ps ++ Err fault ∷ rest) ≡ Err fault
first_fault [] fault rest = refl
first_fault (p ∷ ps) fault rest = rw (first_fault ps fault rest) refl

-- a list from a function of the place, apart at a place
apart : {X : Type 0} (f : ℕ → X) (count i : ℕ) → i < count → map f (range_with_len 0 count) ≡ map f (range_with_len 0 i) ++ f i ∷ drop (suc i) (map f (range_with_len 0 count))
apart f count i lt =
    let xs = map f (range_with_len 0 count) in
    let long = length-map-range_with_len f 0 count in
    sym (take-append-drop i (map f (range_with_len 0 count)))
    ∙ rw (take-map-range_with_len f 0 count i (omega arith), drop-cons (map f (range_with_len 0 count)) i (f i) (omega arith), get_or-map-range_with_len f 0 count i i (f i) lt (omega arith)) refl

-- one pair more
pub one_more : {X : Type 0} (f : ℕ → Result X KeyFault) (i : ℕ) (ps more : List X) (p : X) → map f (range_with_len 0 i) ≡ map Ok ps → f i ≡ Ok p → more ≡ ps ++ p ∷ []
    → map f (range_with_len 0 (i + 1)) ≡ map Ok more
one_more f i ps more p so_far here pushed = rw (map-range_with_len_more f 0 i i (omega arith), so_far, here, pushed) (sym (map_push Ok ps p))

joined : {X : Type 0} {xs ys : List X} {x y : X} (rest : List X) → xs ≡ ys → x ≡ y → xs ++ x ∷ rest ≡ ys ++ y ∷ rest
joined rest e f = cc

-- a fault after pairs without one
fault_is_first : {X : Type 0} (f : ℕ → Result X KeyFault) (count i : ℕ) (ps : List X) (fault : KeyFault) → i < count → map f (range_with_len 0 i) ≡ map Ok ps → f i ≡ Err fault
    → all_or_first (map f (range_with_len 0 count)) ≡ Err fault
fault_is_first {X} f count i ps fault lt so_far here =
    let rest : List (Result X KeyFault) = drop (suc i) (map f (range_with_len 0 count)) in
    let parts : map f (range_with_len 0 count) ≡ map Ok ps ++ Err fault ∷ drop (suc i) (map f (range_with_len 0 count)) = apart f count i lt ∙ joined rest so_far here in
    ap all_or_first parts ∙ first_fault ps fault (drop (suc i) (map f (range_with_len 0 count)))

refused_alike : {X : Type 0} (f : ℕ → Result X KeyFault) (count i : ℕ) (ps : List X) (r : Refusal KeyFault) → i < count
    → map f (range_with_len 0 i) ≡ map Ok ps → Answers {X = X} (Err r) (f i) → Answers {X = List X} (Err r) (pairs_of f count)
unfolding pairs_of
refused_alike f count i ps NoMemory lt so_far here = tt
refused_alike f count i ps (Bad fault) lt so_far here = fault_is_first f count i ps fault lt so_far here

-- the exit with the refusal of a pair
pub refusal_is_first : {X : Type 0} (f : ℕ → Result X KeyFault) (count i : ℕ) (ps : List X) (r : Refusal KeyFault) (result : Result (List X) (Refusal KeyFault)) → i < count
    → map f (range_with_len 0 i) ≡ map Ok ps → Answers {X = X} (Err r) (f i) → IsErrAnd result (λ e. e ≡ r) → Answers result (pairs_of f count)
refusal_is_first f count i ps r (Ok qs) lt so_far here is = absurd is
refusal_is_first {X} f count i ps r (Err e) lt so_far here is =
    subst (λ (x : Refusal KeyFault). Answers {X = List X} (Err x) (pairs_of f count)) (sym is) (refused_alike f count i ps r lt so_far here)

-- all pairs, none with a fault
pub pairs_are_read : {X : Type 0} (f : ℕ → Result X KeyFault) (count i : ℕ) (ps : List X) → i ≡ count → map f (range_with_len 0 i) ≡ map Ok ps → pairs_of f count ≡ Ok ps
unfolding pairs_of
pairs_are_read f count i ps end so_far =
    ap (λ (n : ℕ). all_or_first (map f (range_with_len 0 n))) (sym end) ∙ ap all_or_first so_far ∙ all_again ps

-- ---- what stands at each place

-- each pair of a list that was read
pub each_read : {X : Type 0} (f : ℕ → Result X KeyFault) (count : ℕ) (ps : List X) → pairs_of f count ≡ Ok ps → (length ps ≡ count) × ((k : ℕ) (d : X) → k < count → f k ≡ Ok (get_or ps k d))
unfolding pairs_of
each_read {X} f count ps given =
    let there : map f (range_with_len 0 count) ≡ map Ok ps = all_there _ ps given in
    let long : length ps ≡ count = sym (length-map ps Ok) ∙ ap length (sym there) ∙ length-map-range_with_len f 0 count in (
      long,
      λ k d lt. sym (get_or-map-range_with_len f 0 count k k (Ok d) lt (omega arith)) ∙ ap (λ (rs : List (Result X KeyFault)). get_or rs k (Ok d)) there
          ∙ get_or-map Ok ps k d (Ok d) (omega arith),
    )

-- the other way round
pub each_again : {X : Type 0} (f : ℕ → Result X KeyFault) (ps : List X) → ((k : ℕ) (d : X) → k < length ps → f k ≡ Ok (get_or ps k d)) → pairs_of f (length ps) ≡ Ok ps
unfolding pairs_of
each_again f [] each = refl
each_again {X} f (p ∷ ps) each =
    let all : map Ok (p ∷ ps) ≡ map f (range_with_len 0 (length (p ∷ ps)))
    = fill_by_all f (map Ok (p ∷ ps)) (length (p ∷ ps)) (Ok p) (length-map (p ∷ ps) Ok) (λ i lt. get_or-map Ok (p ∷ ps) i p (Ok p) lt ∙ sym (each i p lt)) in
    ap all_or_first (sym all) ∙ all_again (p ∷ ps)
