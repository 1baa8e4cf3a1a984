-- Groups of words, and their symbols in the other order.
use Rattle.std.proofs.Common.{◌≡◌, ℕ, ◌+◌, ◌-◌, ◌*◌, ◌<◌, ◌≤◌, List, ◌++◌, length, get_or, take, drop, sum_by, refl, sym, ap, subst, ◌∙◌, arith}
use Rattle.std.specs.List.{range_with_len}
use Rattle.std.proofs.Math.Seq.{take-add}
use Rattle.std.proofs.lemmas.List.{get_or-take, length-take}
use Rattle.std.proofs.lemmas.List.Elements.{All-append}
use Rattle.dc_spec.specs.Words.{IsWord, AreWords}
use Rattle.dc_key_rules.specs.PairKeys.{symbols}
use Rattle.dc_keys.specs.StationPads.{history_sum}
use Rattle.dc_keys.proofs.KeySums.{sum_to-same, sum_to-turned, pad_in_piece}
use Rattle.dc_keys.proofs.Histories.{history_sum-split}
use Rattle.dc_conv.specs.Mask.{products_from}

-- the products of the symbols in the other order are those of the symbols
pub turned_sum : (second factors : List ℕ) (words : List (List ℕ)) (i m : ℕ) → m ≡ 16 * length words → m ≤ length factors
    → ((k : ℕ) → k < 16 * length words → get_or factors k 0 ≡ get_or (symbols words) (16 * length words - 1 - k) 0)
    → products_from second (take m factors) (i + 1) ≡ history_sum second words (16 * length words + i)
turned_sum second factors words i m is within turned =
    let f : ℕ → ℕ = λ k. get_or second (16 * length words + i - k) 0 * get_or (symbols words) k 0 in
    let g : ℕ → ℕ = λ k. get_or second (i + 1 + k) 0 * get_or (take m factors) k 0 in
    let long : length (take m factors) ≡ 16 * length words = (let e = length-take m factors in omega arith) in
    let same : (k : ℕ) → k < 16 * length words → g k ≡ f (16 * length words - 1 - k) = λ k lt.
    let at : i + 1 + k ≡ 16 * length words + i - (16 * length words - 1 - k) = omega arith in
    let factor = get_or-take m factors k 0 (omega arith) ∙ turned k lt in
    rw (at, factor) refl in
    ap (λ (x : ℕ). sum_by g (range_with_len 0 x)) long ∙ sum_to-same g (λ k. f (16 * length words - 1 - k)) (16 * length words) same
    ∙ sum_to-turned f (16 * length words)

-- a front of words with the words of a group
front_more : (words : List (List ℕ)) (done end n : ℕ) → done + n ≡ end → take done words ++ take n (drop done words) ≡ take end words
front_more words done end n is = sym (ap (λ (m : ℕ). take m words) (sym is) ∙ take-add done n words)

-- they are words
pub words_more : (words : List (List ℕ)) (done end n : ℕ) → done + n ≡ end → AreWords (take done words) → AreWords (take n (drop done words))
    → AreWords (take end words)
words_more words done end n is are group =
    subst AreWords (front_more words done end n is) (All-append IsWord (take done words) (take n (drop done words)) are group)

-- the products of the words of a group, by the pads behind the later words
group_sum : (second : List ℕ) (group : List (List ℕ)) (i n from m : ℕ) → 16 * length group + i < n → from + (16 * length group + i) ≡ m
    → history_sum (take n (drop from second)) group (16 * length group + i) ≡ history_sum second group m
group_sum second group i n from m reach place =
    sum_to-same (λ k. get_or (take n (drop from second)) (16 * length group + i - k) 0 * get_or (symbols group) k 0)
    (λ k. get_or second (m - k) 0 * get_or (symbols group) k 0) (16 * length group) (λ k lt.
    let at : from + (16 * length group + i - k) ≡ m - k = omega arith in
    let pad = pad_in_piece second n from (16 * length group + i - k) (omega arith) ∙ ap (λ (x : ℕ). get_or second x 0) at in
    rw pad refl)

-- a sum with the products of a group of words more
pub group_more : (second : List ℕ) (words group : List (List ℕ)) (done end i r n from now was start : ℕ) → group ≡ take r (drop done words)
    → length group ≡ r → done + r ≡ end → end ≤ length words → from ≡ 16 * (length words - end) → AreWords (take done words) → 16 * r + i < n
    → now ≡ was + history_sum (take n (drop from second)) group (16 * length group + i)
    → was ≡ start + history_sum second (take done words) (16 * length words + i)
    → now ≡ start + history_sum second (take end words) (16 * length words + i)
group_more second words group done end i r n from now was start is long ends within place are reach grown so_far =
    let front : length (take done words) ≡ done = (let e = length-take done words in omega arith) in
    let whole : take done words ++ group ≡ take end words = ap (λ (g : List (List ℕ)). take done words ++ g) is ∙ front_more words done end r ends in
    let split = history_sum-split second (take done words) group (16 * length words + i) are in
    let joined = ap (λ (ws : List (List ℕ)). history_sum second ws (16 * length words + i)) whole in
    let added = group_sum second group i n from (16 * length words + i - 16 * length (take done words)) (omega arith) (omega arith) in
    omega (arith, grown, so_far, split, joined, added)
