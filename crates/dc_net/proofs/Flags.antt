-- Flags of stations, and the stations without one.
use Rattle.std.proofs.Common.{◌≡◌, ℕ, zero, suc, ◌+◌, ◌<◌, Bool, true, false, cond, not, List, [], ◌∷◌, ◌++◌, get_or, replicate, refl, sym, ap, ◌∙◌, arith, append-nil}
use Rattle.std.specs.List.{range_with_len, filter}
use Rattle.std.proofs.lemmas.List.{map-id}
use Rattle.std.proofs.lemmas.List.FromFn.{filter_of_map_range_with_len_more, get_or-range_with_len, length-range_with_len}
use Rattle.std.proofs.lemmas.List.Kept.{IsStrictlyIncreasing-filter}
use Rattle.std.specs.List.Sorted.{IsStrictlyIncreasing}
use Rattle.dc_spec.specs.Lists.{is_among}
use Rattle.dc_spec.specs.Net.{Net}
use Rattle.dc_net_rules.specs.Runs.{honest_stations}
use Rattle.dc_net.specs.Stations.{AreFlags}

pub no_flag : (n i : ℕ) → get_or (replicate n false) i false ≡ false
no_flag zero i = refl
no_flag (suc n) zero = refl
no_flag (suc n) (suc i) = no_flag n i

-- one more number is tested
filter_more : (p : ℕ → Bool) (n : ℕ) → filter p (range_with_len 0 (n + 1)) ≡ filter p (range_with_len 0 n) ++ cond (p n) (n ∷ []) []
filter_more p n =
    sym (ap (filter p) (map-id (range_with_len 0 (n + 1)))) ∙ filter_of_map_range_with_len_more p (λ i. i) 0 n n (omega arith)
    ∙ ap (λ xs. filter p xs ++ cond (p n) (n ∷ []) []) (map-id (range_with_len 0 n))

-- one more station has no flag
pub honest_more : (flags : List Bool) (n : ℕ) (xs ys : List ℕ) → xs ≡ filter (λ i. not (get_or flags i false)) (range_with_len 0 n)
    → get_or flags n false ≡ false → ys ≡ xs ++ n ∷ [] → ys ≡ filter (λ i. not (get_or flags i false)) (range_with_len 0 (n + 1))
honest_more flags n xs ys before none is =
    is ∙ ap (λ z. z ++ n ∷ []) before ∙ sym (filter_more (λ i. not (get_or flags i false)) n ∙ rw none refl)

-- one more station has one
pub honest_same : (flags : List Bool) (n : ℕ) (xs : List ℕ) → xs ≡ filter (λ i. not (get_or flags i false)) (range_with_len 0 n)
    → get_or flags n false ≡ true → xs ≡ filter (λ i. not (get_or flags i false)) (range_with_len 0 (n + 1))
honest_same flags n xs before one =
    before ∙ sym (filter_more (λ i. not (get_or flags i false)) n ∙ rw one (append-nil _))

range_rises : (n : ℕ) → IsStrictlyIncreasing (range_with_len 0 n)
range_rises n k lt =
    let more : k + 1 < n = omega (arith, length-range_with_len 0 n) in
    let here : k < n = omega arith in
    rw (get_or-range_with_len 0 n k 0 here, get_or-range_with_len 0 n (k + 1) 0 more) (omega arith)

-- honest stations are in rising order
pub honest_rise : (net : Net) → IsStrictlyIncreasing (honest_stations net)
honest_rise net = IsStrictlyIncreasing-filter (λ i. not (is_among net.coalition i)) (range_with_len 0 net.stations) (range_rises net.stations)

filter_same : (p q : ℕ → Bool) → ((i : ℕ) → p i ≡ q i) → (xs : List ℕ) → filter p xs ≡ filter q xs
filter_same p q same [] = refl
filter_same p q same (x ∷ xs) = ap (λ b. cond b (x ∷ filter p xs) (filter p xs)) (same x) ∙ ap (λ z. cond (q x) (x ∷ z) z) (filter_same p q same xs)

-- the stations without a flag are the honest ones
pub honest_by_flags : (net : Net) (flags : List Bool) → AreFlags net.coalition flags
    → filter (λ i. not (get_or flags i false)) (range_with_len 0 net.stations) ≡ honest_stations net
honest_by_flags net flags are = filter_same _ _ (λ i. ap not (are.each i)) (range_with_len 0 net.stations)
