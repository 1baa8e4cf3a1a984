-- The symbols of a history by its front and its rest, and sums of products over them.
use Rattle.std.proofs.Common.{◌≡◌, ℕ, ◌+◌, ◌-◌, ◌*◌, ◌<◌, ◌≤◌, List, [], ◌∷◌, ◌++◌, length, get_or, take, drop, sum_by, refl, sym, ap, ◌∙◌, arith}
use Rattle.std.specs.List.{range_with_len}
use Rattle.std.proofs.Math.ListN.{get_or-append}
use Rattle.std.proofs.lemmas.List.{take-append-drop, length-append, length-take, get_or-append-add}
use Rattle.std.proofs.lemmas.List.Concat.{flat_map-append}
use Rattle.std.proofs.lemmas.List.Elements.{All-head, All-tail, All-take}
use Rattle.dc_spec.specs.Words.{IsWord, AreWords}
use Rattle.dc_key_rules.specs.PairKeys.{symbols}
use Rattle.dc_keys.specs.StationPads.{history_sum}
use Rattle.dc_keys.proofs.KeySums.{sum_to-add, sum_to-same}

-- sixteen symbols for each word
pub length-symbols : (h : List (List ℕ)) → AreWords h → length (symbols h) ≡ 16 * length h
length-symbols [] are = refl
length-symbols (w ∷ ws) are =
    let here : length w ≡ 16 = (All-head IsWord w ws are).sixteen in
    let rest = length-symbols ws (All-tail IsWord w ws are) in
    omega (arith, length-append w (symbols ws))

-- the symbols of a front
pub symbol-front : (h more : List (List ℕ)) (k : ℕ) → AreWords h → k < 16 * length h → get_or (symbols (h ++ more)) k 0 ≡ get_or (symbols h) k 0
symbol-front h more k are lt =
    ap (λ (xs : List ℕ). get_or xs k 0) (flat_map-append (λ (w : List ℕ). w) h more) ∙ get_or-append (symbols h) (symbols more) 0 k (let e = length-symbols h are in omega arith)

-- the symbols of a rest
pub symbol-rest : (h : List (List ℕ)) (m k : ℕ) → AreWords h → m ≤ length h → get_or (symbols h) (16 * m + k) 0 ≡ get_or (symbols (drop m h)) k 0
symbol-rest h m k are le =
    let front : length (symbols (take m h)) ≡ 16 * m = length-symbols (take m h) (All-take IsWord m h are) ∙ (let e = length-take m h in omega arith) in
    let whole : symbols h ≡ symbols (take m h) ++ symbols (drop m h) = ap (λ (ws : List (List ℕ)). symbols ws) (sym (take-append-drop m h)) ∙ flat_map-append (λ (w : List ℕ). w) (take m h) (drop m h) in
    ap (λ (xs : List ℕ). get_or xs (16 * m + k) 0) whole ∙ ap (λ (i : ℕ). get_or (symbols (take m h) ++ symbols (drop m h)) (i + k) 0) (sym front) ∙ get_or-append-add (symbols (take m h)) (symbols (drop m h)) k 0

-- the sum over a history is the sum over its front and the sum over its rest
pub sum-front_rest : (b : List ℕ) (h : List (List ℕ)) (m r n : ℕ) → AreWords h → m ≤ length h → sum_by (λ k. get_or b (n - k) 0 * get_or (symbols h) k 0) (range_with_len 0 (16 * (m + r)))
    ≡ sum_by (λ k. get_or b (n - k) 0 * get_or (symbols h) k 0) (range_with_len 0 (16 * m)) + sum_by (λ k. get_or b (n - 16 * m - k) 0 * get_or (symbols (drop m h)) k 0) (range_with_len 0 (16 * r))
sum-front_rest b h m r n are le =
    let f : ℕ → ℕ = λ k. get_or b (n - k) 0 * get_or (symbols h) k 0 in
    let g : ℕ → ℕ = λ k. get_or b (n - 16 * m - k) 0 * get_or (symbols (drop m h)) k 0 in
    let places : 16 * (m + r) ≡ 16 * m + 16 * r = omega arith in
    let same : (k : ℕ) → k < 16 * r → f (16 * m + k) ≡ g k = λ k lt.
    let at : n - (16 * m + k) ≡ n - 16 * m - k = omega arith in
    rw (at, symbol-rest h m k are le) refl in
    rw places (sum_to-add f (16 * m) (16 * r) ∙ ap (λ (x : ℕ). sum_by f (range_with_len 0 (16 * m)) + x) (sum_to-same (λ k. f (16 * m + k)) g (16 * r) same))

-- the sum over a front, in a longer history
pub sum-front : (b : List ℕ) (h more : List (List ℕ)) (m n : ℕ) → AreWords h → m ≤ length h
    → sum_by (λ k. get_or b (n - k) 0 * get_or (symbols h) k 0) (range_with_len 0 (16 * m)) ≡ sum_by (λ k. get_or b (n - k) 0 * get_or (symbols (h ++ more)) k 0) (range_with_len 0 (16 * m))
sum-front b h more m n are le =
    sum_to-same (λ k. get_or b (n - k) 0 * get_or (symbols h) k 0) (λ k. get_or b (n - k) 0 * get_or (symbols (h ++ more)) k 0) (16 * m) (λ k lt. rw (symbol-front h more k are (omega arith)) refl)

-- the same of a front and a rest that are joined
pub history_sum-split : (b : List ℕ) (front rest : List (List ℕ)) (n : ℕ) → AreWords front → history_sum b (front ++ rest) n ≡ history_sum b front n + history_sum b rest (n - 16 * length front)
history_sum-split b front rest n are =
    let f : ℕ → ℕ = λ k. get_or b (n - k) 0 * get_or (symbols (front ++ rest)) k 0 in
    let g : ℕ → ℕ = λ k. get_or b (n - 16 * length front - k) 0 * get_or (symbols rest) k 0 in
    let long = length-append front rest in
    let places : 16 * length (front ++ rest) ≡ 16 * length front + 16 * length rest = omega arith in
    let whole : symbols (front ++ rest) ≡ symbols front ++ symbols rest = flat_map-append (λ (w : List ℕ). w) front rest in
    let same : (k : ℕ) → k < 16 * length rest → f (16 * length front + k) ≡ g k = λ k lt.
    let at : n - (16 * length front + k) ≡ n - 16 * length front - k = omega arith in
    let symbol : get_or (symbols (front ++ rest)) (16 * length front + k) 0 ≡ get_or (symbols rest) k 0 =
    ap (λ (xs : List ℕ). get_or xs (16 * length front + k) 0) whole ∙ ap (λ (i : ℕ). get_or (symbols front ++ symbols rest) (i + k) 0) (sym (length-symbols front are)) ∙ get_or-append-add (symbols front) (symbols rest) k 0 in
    rw (at, symbol) refl in
    let before = sum-front b front rest (length front) n are (omega arith) in
    rw places (omega (arith, sum_to-add f (16 * length front) (16 * length rest), sum_to-same (λ k. f (16 * length front + k)) g (16 * length rest) same, before))
