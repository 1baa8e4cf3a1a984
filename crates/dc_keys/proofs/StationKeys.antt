-- The key of a station by its summed pads is the signed sum of its pairs' keys.
use Rattle.std.proofs.Common.{◌≡◌, ℕ, ◌+◌, ◌-◌, ◌*◌, ◌%◌, ◌<◌, ◌≤◌, ◌==◌, List, [], ◌∷◌, length, get_or, map, sum_by, refl, sym, ap, ◌∙◌, arith, inl, inr}
use Rattle.std.specs.List.{All, range_with_len, filter}
use Rattle.std.proofs.Math.Nat.{mod-mod, mod-add-mod, add-mod-mod}
use Rattle.std.proofs.lemmas.Bool.{cases_lt}
use Rattle.std.proofs.lemmas.Nat.{mul-mod_first}
use Rattle.std.proofs.lemmas.List.{get_or_past}
use Rattle.std.proofs.lemmas.List.FromFn.{get_or-map-range_with_len, length-map-range_with_len}
use Rattle.std.proofs.lemmas.List.Sums.{sum_by-cons}
use Rattle.std.proofs.lemmas.List.Elements.{All-filter, All-weaker}
use Rattle.dc_spec.specs.Words.{word_sub}
use Rattle.dc_spec.proofs.WordLemmas.{word_of-same, symbol-word_of}
use Rattle.dc_spec.specs.Pads.{Pair, Keys}
use Rattle.dc_key_rules.specs.PairKeys.{symbols, key_symbol, key_word, key_sum, key_part}
use Rattle.dc_formats.specs.KeyFile.{IsPair, IsKeys}
use Rattle.dc_keys.specs.Pads.{IsPadded}
use Rattle.dc_keys.specs.StationPads.{StationPads, signed_pad, signed_pads, station_pads, station_key}
use Rattle.dc_keys.proofs.SignedSums.{sum_same, sum_same_mod, products_of_sums, sums_of_products, lacks, products_make_up, minus_mod}

-- pad n of the pairs that are added, minus that of the pairs that are subtracted
abbrev sided_pad : (Pair → List ℕ) → List Pair → List Pair → ℕ → ℕ
sided_pad pads plus minus n = (sum_by (λ p. get_or (pads p) n 0) plus + sum_by (λ p. 65537 - get_or (pads p) n 0) minus) % 65537

-- those pads for so many words
unfoldable sided_pads : (Pair → List ℕ) → List Pair → List Pair → ℕ → List ℕ
sided_pads pads plus minus words = map (sided_pad pads plus minus) (range_with_len 0 (16 * words))

abbrev sided_sums : List Pair → List Pair → ℕ → StationPads
sided_sums plus minus words = record { first = sided_pads (λ p. p.a) plus minus words; second = sided_pads (λ p. p.b) plus minus words }

sum_of_map : (f : Pair → List ℕ) (g : List ℕ → ℕ) (ps : List Pair) → sum_by g (map f ps) ≡ sum_by (λ p. g (f p)) ps
sum_of_map f g [] = refl
sum_of_map f g (p ∷ ps) = omega (arith, sum_by-cons g (f p) (map f ps), sum_by-cons (λ p. g (f p)) p ps, sum_of_map f g ps)

-- symbol l of the sum of the keys of some pairs
symbol_of_sum : (ps : List Pair) (h : List (List ℕ)) (l : ℕ) → l < 16 → get_or (key_sum ps h) l 0 ≡ sum_by (λ p. get_or (key_word p (symbols h) (length h)) l 0) ps % 65537
symbol_of_sum ps h l lt =
    let ws = map (λ p. key_word p (symbols h) (length h)) ps in
    symbol-word_of (λ l. sum_by (λ w. get_or w l 0) (map (λ p. key_word p (symbols h) (length h)) ps) % 65537) l lt
    ∙ ap (λ (n : ℕ). n % 65537) (sum_of_map (λ p. key_word p (symbols h) (length h)) (λ w. get_or w l 0) ps)

-- symbol l of the sum of the keys, by the sums of the pads
symbol_by_pads : (ps : List Pair) (h : List (List ℕ)) (l : ℕ) → l < 16 → get_or (key_sum ps h) l 0
    ≡ (sum_by (λ p. get_or p.a (16 * length h + l) 0) ps + sum_by (λ k. sum_by (λ p. get_or p.b (16 * length h + l - k) 0) ps * get_or (symbols h) k 0) (range_with_len 0 (16 * length h))) % 65537
symbol_by_pads ps h l lt =
    let n = 16 * length h + l in
    let raw : Pair → ℕ = λ p. get_or p.a (16 * length h + l) 0 + sum_by (λ k. get_or p.b (16 * length h + l - k) 0 * get_or (symbols h) k 0) (range_with_len 0 (16 * length h)) in
    let each : (p : Pair) → get_or (key_word p (symbols h) (length h)) l 0 % 65537 ≡ raw p % 65537 = λ p.
    ap (λ (n : ℕ). n % 65537) (symbol-word_of (λ l. key_symbol p.a p.b (symbols h) (16 * length h) (16 * length h + l)) l lt) ∙ mod-mod (raw p) 65537 in
    symbol_of_sum ps h l lt ∙ sum_same_mod 65537 (λ p. get_or (key_word p (symbols h) (length h)) l 0) raw each ps
    ∙ ap (λ (n : ℕ). n % 65537) (sums_of_products (λ p. get_or p.a (16 * length h + l) 0) (λ p k. get_or p.b (16 * length h + l - k) 0) (λ k. get_or (symbols h) k 0) (range_with_len 0 (16 * length h)) ps)

-- a signed pad at a place that there is
pad_read : (pads : Pair → List ℕ) (plus minus : List Pair) (words i : ℕ) → i < 16 * words → get_or (sided_pads pads plus minus words) i 0 ≡ sided_pad pads plus minus i
unfolding sided_pads
pad_read pads plus minus words i lt = get_or-map-range_with_len (sided_pad pads plus minus) 0 (16 * words) i i 0 lt (omega arith)

-- pads are at most 65537, also where there are none
small_pad : (xs : List ℕ) → All (λ x. x < 65537) xs → (i : ℕ) → get_or xs i 0 ≤ 65537
small_pad xs small i = elim (cases_lt i (length xs)) [
  | inl lt ↦ (let here = small i 0 lt in omega arith)
  | inr le ↦ rw (get_or_past xs i 0 le) (omega arith)
]

-- what first pads lack of 65537, and the pads
lacks_first : (words n : ℕ) (ps : List Pair) → All (IsPadded words) ps → sum_by (λ p. 65537 - get_or p.a n 0) ps + sum_by (λ p. get_or p.a n 0) ps ≡ 65537 * length ps
lacks_first words n ps are = lacks 65537 (λ p. get_or p.a n 0) ps (All-weaker (IsPadded words) (λ p. get_or p.a n 0 ≤ 65537) (λ p is. small_pad p.a is.first_symbols n) ps are)

-- the same of second pads
lacks_second : (words n : ℕ) (ps : List Pair) → All (IsPadded words) ps → sum_by (λ p. 65537 - get_or p.b n 0) ps + sum_by (λ p. get_or p.b n 0) ps ≡ 65537 * length ps
lacks_second words n ps are = lacks 65537 (λ p. get_or p.b n 0) ps (All-weaker (IsPadded words) (λ p. get_or p.b n 0 ≤ 65537) (λ p is. small_pad p.b is.second_symbols n) ps are)

-- one symbol of the signed sum of keys, by the signed sums of the pads
signed_symbol : (plus minus : List Pair) (words : ℕ) (h : List (List ℕ)) (l : ℕ) → All (IsPadded words) minus → length h < words → l < 16
    → (get_or (key_sum plus h) l 0 + (65537 - get_or (key_sum minus h) l 0)) % 65537
    ≡ key_symbol (sided_pads (λ p. p.a) plus minus words) (sided_pads (λ p. p.b) plus minus words) (symbols h) (16 * length h) (16 * length h + l)
signed_symbol plus minus words h l are room lt =
    let n : ℕ = 16 * length h + l in
    let ks : List ℕ = range_with_len 0 (16 * length h) in
    let c : ℕ → ℕ = λ k. get_or (symbols h) k 0 in
    let a_plus : ℕ = sum_by (λ p. get_or p.a (16 * length h + l) 0) plus in
    let a_minus : ℕ = sum_by (λ p. get_or p.a (16 * length h + l) 0) minus in
    let a_lack : ℕ = sum_by (λ p. 65537 - get_or p.a (16 * length h + l) 0) minus in
    let b_plus : ℕ → ℕ = λ k. sum_by (λ p. get_or p.b (16 * length h + l - k) 0) plus in
    let b_minus : ℕ → ℕ = λ k. sum_by (λ p. get_or p.b (16 * length h + l - k) 0) minus in
    let b_lack : ℕ → ℕ = λ k. sum_by (λ p. 65537 - get_or p.b (16 * length h + l - k) 0) minus in
    let make : a_lack + sum_by (λ k. b_lack k * c k) ks + (a_minus + sum_by (λ k. b_minus k * c k) ks) ≡ 65537 * (length minus + length minus * sum_by c ks) =
    omega (arith, lacks_first words (16 * length h + l) minus are, products_make_up b_lack b_minus c (65537 * length minus) (λ k. lacks_second words (16 * length h + l - k) minus are) ks) in
    let signed = minus_mod 65537 (a_plus + sum_by (λ k. b_plus k * c k) ks) (a_lack + sum_by (λ k. b_lack k * c k) ks) (a_minus + sum_by (λ k. b_minus k * c k) ks) (length minus + length minus * sum_by c ks) (omega arith) make in
    let first : get_or (sided_pads (λ p. p.a) plus minus words) (16 * length h + l) 0 ≡ (a_plus + a_lack) % 65537 = pad_read (λ p. p.a) plus minus words (16 * length h + l) (omega arith) in
    let second : (k : ℕ) → get_or (sided_pads (λ p. p.b) plus minus words) (16 * length h + l - k) 0 * c k ≡ (b_plus k + b_lack k) % 65537 * c k = λ k. ap (λ (x : ℕ). x * c k) (pad_read (λ p. p.b) plus minus words (16 * length h + l - k) (omega arith)) in
    let reduced : sum_by (λ k. (b_plus k + b_lack k) % 65537 * c k) ks % 65537 ≡ sum_by (λ k. (b_plus k + b_lack k) * c k) ks % 65537 = sum_same_mod 65537 (λ k. (b_plus k + b_lack k) % 65537 * c k) (λ k. (b_plus k + b_lack k) * c k) (λ k. mul-mod_first (b_plus k + b_lack k) (c k) 65537) ks in
    let apart = products_of_sums b_plus b_lack c ks in
    let whole : a_plus + a_lack + sum_by (λ k. (b_plus k + b_lack k) * c k) ks ≡ a_plus + sum_by (λ k. b_plus k * c k) ks + (a_lack + sum_by (λ k. b_lack k * c k) ks) = omega (arith, apart) in
    let left : (get_or (key_sum plus h) l 0 + (65537 - get_or (key_sum minus h) l 0)) % 65537 ≡ ((a_plus + sum_by (λ k. b_plus k * c k) ks) % 65537 + (65537 - (a_minus + sum_by (λ k. b_minus k * c k) ks) % 65537)) % 65537 =
    rw (symbol_by_pads plus h l lt, symbol_by_pads minus h l lt) refl in
    let right : key_symbol (sided_pads (λ p. p.a) plus minus words) (sided_pads (λ p. p.b) plus minus words) (symbols h) (16 * length h) (16 * length h + l) ≡ (a_plus + a_lack + sum_by (λ k. (b_plus k + b_lack k) * c k) ks) % 65537 =
    ap (λ (x : ℕ). (x + sum_by (λ k. get_or (sided_pads (λ p. p.b) plus minus words) (16 * length h + l - k) 0 * c k) ks) % 65537) first
    ∙ ap (λ (x : ℕ). ((a_plus + a_lack) % 65537 + x) % 65537) (sum_same (λ k. get_or (sided_pads (λ p. p.b) plus minus words) (16 * length h + l - k) 0 * c k) (λ k. (b_plus k + b_lack k) % 65537 * c k) second ks)
    ∙ mod-add-mod (a_plus + a_lack) 65537 (sum_by (λ k. (b_plus k + b_lack k) % 65537 * c k) ks)
    ∙ sym (add-mod-mod (a_plus + a_lack) (sum_by (λ k. (b_plus k + b_lack k) % 65537 * c k) ks) 65537)
    ∙ ap (λ (x : ℕ). (a_plus + a_lack + x) % 65537) reduced
    ∙ add-mod-mod (a_plus + a_lack) (sum_by (λ k. (b_plus k + b_lack k) * c k) ks) 65537 in
    left ∙ sym signed ∙ ap (λ (x : ℕ). x % 65537) (sym whole) ∙ sym right

-- the signed sum of the keys is the key of the summed pads
keys_by_pads : (plus minus : List Pair) (words : ℕ) (h : List (List ℕ)) → All (IsPadded words) minus → length h < words
    → word_sub (key_sum plus h) (key_sum minus h) ≡ station_key (sided_sums plus minus words) h
keys_by_pads plus minus words h are room = word_of-same _ _ (λ l lt. signed_symbol plus minus words h l are room lt)

-- pairs of a key file have pads for its words
pub IsPadded-from_IsKeys : (keys : Keys) → IsKeys keys → All (IsPadded keys.words) keys.pairs
IsPadded-from_IsKeys keys are = All-weaker (IsPair keys.stations keys.words) (IsPadded keys.words) (λ p is. record { first_pads = is.first_pads; second_pads = is.second_pads; first_symbols = is.first_symbols; second_symbols = is.second_symbols }) keys.pairs are.are_pairs

-- sixteen pads a word
pub length-signed_pads : (pads : Pair → List ℕ) (pairs : List Pair) (me words : ℕ) → length (signed_pads pads pairs me words) ≡ 16 * words
unfolding signed_pads
length-signed_pads pads pairs me words = length-map-range_with_len (signed_pad pads pairs me) 0 (16 * words)

-- the key by summed pads is the signed sum of the keys
pub station_key-key_part : (keys : Keys) (me : ℕ) (h : List (List ℕ)) → IsKeys keys → length h < keys.words → station_key (station_pads keys me) h ≡ key_part keys.pairs me h
unfolding signed_pads sided_pads
station_key-key_part keys me h are room =
    sym (keys_by_pads (filter (λ p. p.u == me) keys.pairs) (filter (λ p. p.v == me) keys.pairs) keys.words h (All-filter (λ p. p.v == me) (IsPadded keys.words) keys.pairs (IsPadded-from_IsKeys keys are)) room)
