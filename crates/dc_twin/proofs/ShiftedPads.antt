-- Pads with the symbols of words added.
use Rattle.std.proofs.Common.{◌≡◌, ℕ, ◌+◌, ◌*◌, ◌/◌, ◌%◌, ◌<◌, ◌≤◌, List, [], length, map, get_or, slice_index, slice_index_or, sym, ◌∙◌, ap, subst, arith}
use Rattle.std.specs.Prelude.{zip}
use Rattle.std.specs.List.{All, range_with_len}
use Rattle.std.proofs.lemmas.List.{get_or_default}
use Rattle.std.proofs.lemmas.List.Elements.{All-map}
use Rattle.std.proofs.lemmas.List.FromFn.{fill_by_all}
use Rattle.dc_spec.specs.Words.{IsSymbol}
use Rattle.dc_key_rules.specs.PairKeys.{symbols, pads_add}
use Rattle.dc_keys.specs.Pads.{ArePads}
use Rattle.dc_twin_rules.proofs.PadSums.{pads_add-at, length-pads_add, length-symbols, symbols-at}

-- the sum of a pad and the symbol of its number
abbrev pub pad_sum : List ℕ → List (List ℕ) → ℕ → ℕ
pad_sum pads words n = (slice_index pads n + slice_index (slice_index_or words (n / 16) []) (n % 16)) % 65537

sixteens : (count : ℕ) (words : List (List ℕ)) → count ≡ 16 * length words → ((k : ℕ) → k < count → length (slice_index_or words (k / 16) []) ≡ 16) → All (λ w. length w ≡ 16) words
sixteens count words same each t d low =
    let at : 16 * t / 16 ≡ t = omega arith in
    ap (λ (w : List ℕ). length w) (get_or_default words t d [] low) ∙ sym (ap (λ (k : ℕ). length (slice_index_or words k [])) at) ∙ each (16 * t) (omega arith)

-- all of them
pub pad-sums : (pads : List ℕ) (words : List (List ℕ)) → length pads ≡ 16 * length words → ((k : ℕ) → k < length pads → length (slice_index_or words (k / 16) []) ≡ 16)
    → map (pad_sum pads words) (range_with_len 0 (length pads)) ≡ pads_add pads (symbols words)
pad-sums pads words count each =
    let are = sixteens (length pads) words count each in
    let same : length pads ≡ length (symbols words) = count ∙ sym (length-symbols words are) in
    sym (fill_by_all (pad_sum pads words) (pads_add pads (symbols words)) (length pads) 0 (length-pads_add pads (symbols words) same)
    (λ n low. pads_add-at pads (symbols words) n 0 low same
    ∙ ap (λ (x : ℕ). (slice_index pads n + x) % 65537) (symbols-at words are (n / 16) (n % 16) n (omega arith) (omega arith) (omega arith))))

-- one of them
pub pad-here : (pads : List ℕ) (words : List (List ℕ)) (w numbers : List ℕ) (n x : ℕ) → n / 16 < length words → w ≡ get_or words (n / 16) w → numbers ≡ w
    → x ≡ (slice_index pads n + slice_index numbers (n % 16)) % 65537 → x ≡ pad_sum pads words n
pad-here pads words w numbers n x low at same is =
    is ∙ ap (λ (v : List ℕ). (slice_index pads n + slice_index v (n % 16)) % 65537) (same ∙ at ∙ get_or_default words (n / 16) w [] low)

-- sums of pads are symbols
pub sums-symbols : (xs ys : List ℕ) → All IsSymbol (pads_add xs ys)
sums-symbols xs ys = All-map IsSymbol (λ (xy : ℕ × ℕ). (xy.0 + xy.1) % 65537) (zip xs ys) (λ k e low. small ((get_or (zip xs ys) k e).0 + (get_or (zip xs ys) k e).1))
  where
    small : (x : ℕ) → x % 65537 < 65537
    small x = omega arith

-- pads with other first pads, as many symbols
pub pads-kept : (a b first second : List ℕ) → ArePads a b → length first ≡ length a → All IsSymbol first → second ≡ b → ArePads first second
pads-kept a b first second are count symbols_first same = record {
  some_words = subst (λ (n : ℕ). 1 ≤ n / 16) (sym count) are.some_words;
  most_words = subst (λ (n : ℕ). n / 16 ≤ 4096) (sym count) are.most_words;
  first_pads = subst (λ (n : ℕ). n ≡ 16 * (n / 16)) (sym count) are.first_pads;
  second_pads = ap length same ∙ are.second_pads ∙ sym count;
  first_symbols = symbols_first;
  second_symbols = subst (All IsSymbol) (sym same) are.second_symbols;
  no_first = subst (λ (ys : List ℕ). slice_index ys 0 ≡ 0) (sym same) are.no_first;
}
