-- Key files with the changes of a steering are key files.
use Rattle.std.proofs.Common.{◌≡◌, ℕ, ◌+◌, ◌*◌, ◌/◌, ◌%◌, ◌<◌, ◌≤◌, Bool, true, false, if◌then◌else◌, List, [], ◌∷◌, length, map, get_or, slice_index, refl, sym, ◌∙◌, ap, ap₂, subst, arith}
use Rattle.std.specs.List.{All}
use Rattle.std.proofs.lemmas.List.{length-map}
use Rattle.std.proofs.lemmas.List.Elements.{All-cons, All-head, All-tail}
use Rattle.dc_spec.specs.Limits as limit
use Rattle.dc_spec.specs.Words.{IsSymbol}
use Rattle.dc_spec.specs.Pads.{Pair, Keys}
use Rattle.dc_formats.specs.KeyFile.{IsPair, IsKeys, AreEndsRising}
use Rattle.dc_key_rules.specs.PairKeys.{pads_add, changed_pair}
use Rattle.dc_keys.specs.Pads.{ArePads}
use Rattle.dc_steering_rules.specs.Steerings.{Steering, has_ends}
use Rattle.dc_steer.specs.SteeredKeys.{AreChangesFor, steered_pair, steered_keys}
use Rattle.dc_steer.proofs.Zipped.{length-zipped, zipped_at}

-- as many sums as pads
pub length-sums : (xs ys : List ℕ) → length ys ≡ length xs → length (pads_add xs ys) ≡ length xs
length-sums xs ys same = length-zipped (λ (xy : ℕ × ℕ). (xy.0 + xy.1) % 65537) xs ys same

sum_at : (xs ys : List ℕ) (k d : ℕ) → length ys ≡ length xs → k < length xs → get_or (pads_add xs ys) k d ≡ (get_or xs k 0 + get_or ys k 0) % 65537
sum_at xs ys k d same low = zipped_at (λ (xy : ℕ × ℕ). (xy.0 + xy.1) % 65537) xs ys k 0 0 d same low

-- which are symbols
pub sums_are : (xs ys : List ℕ) → length ys ≡ length xs → All IsSymbol (pads_add xs ys)
sums_are xs ys same k d low =
    let long = length-sums xs ys same in subst IsSymbol (sym (sum_at xs ys k d same (omega arith))) (below (get_or xs k 0 + get_or ys k 0))
  where
    below : (s : ℕ) → s % 65537 < 65537
    below s = omega arith

-- where both are 0, so is the sum
pub no_sum : (xs ys : List ℕ) → length ys ≡ length xs → 0 < length xs → slice_index xs 0 ≡ 0 → slice_index ys 0 ≡ 0 → slice_index (pads_add xs ys) 0 ≡ 0
no_sum xs ys same some first second = sum_at xs ys 0 0 same some ∙ ap₂ (λ (a b : ℕ). (a + b) % 65537) first second

-- a pair with changes is one
pub changed_is : (p : Pair) (x y : List ℕ) → ArePads p.a p.b → length x ≡ length p.a → length y ≡ length p.a → slice_index y 0 ≡ 0 → ArePads (pads_add p.a x) (pads_add p.b y)
changed_is p x y are first second none =
    let long = are.second_pads in
    let some = are.some_words in
    let firsts = length-sums p.a x first in
    let seconds = length-sums p.b y (second ∙ sym long) in
    let words : length (pads_add p.a x) / 16 ≡ length p.a / 16 = ap (λ (n : ℕ). n / 16) firsts in
    record {
      some_words = subst (λ (n : ℕ). 1 ≤ n) (sym words) are.some_words;
      most_words = subst (λ (n : ℕ). n ≤ limit.most_words) (sym words) are.most_words;
      first_pads = firsts ∙ are.first_pads ∙ ap (λ (n : ℕ). 16 * n) (sym words);
      second_pads = seconds ∙ long ∙ sym firsts;
      first_symbols = sums_are p.a x first;
      second_symbols = sums_are p.b y (second ∙ sym long);
      no_first = no_sum p.b y (second ∙ sym long) (omega arith) are.no_first none;
    }

changed_is_pair : (n t : ℕ) (s : Steering) (p : Pair) → 1 ≤ t → AreChangesFor t s → IsPair n t p → IsPair n t (changed_pair p s.first s.second)
changed_is_pair n t s p some are is =
    let first : length s.first ≡ length p.a = are.first_changes ∙ sym is.first_pads in
    let second : length s.second ≡ length p.b = are.second_changes ∙ sym is.second_pads in
    let long = is.second_pads in
    record {
      ends = is.ends;
      within = is.within;
      first_pads = length-sums p.a s.first first ∙ is.first_pads;
      second_pads = length-sums p.b s.second second ∙ is.second_pads;
      first_symbols = sums_are p.a s.first first;
      second_symbols = sums_are p.b s.second second;
      no_first = no_sum p.b s.second second (omega arith) is.no_first are.no_first;
    }

-- each pair is a pair
steered_are : (n t u v : ℕ) (s : Steering) → 1 ≤ t → AreChangesFor t s → (ps : List Pair) → All (IsPair n t) ps → All (IsPair n t) (map (steered_pair u v s) ps)
steered_are n t u v s some are [] all = all
steered_are n t u v s some are (p ∷ ps) all = All-cons (IsPair n t) (steered_pair u v s p) (map (steered_pair u v s) ps)
    (either (has_ends u v p)) (steered_are n t u v s some are ps (All-tail (IsPair n t) p ps all))
  where
    either : (b : Bool) → IsPair n t (if b then changed_pair p s.first s.second else p)
    either true = changed_is_pair n t s p some are (All-head (IsPair n t) p ps all)
    either false = All-head (IsPair n t) p ps all

abbrev ends_of : Pair → ℕ × ℕ
ends_of p = (p.u, p.v)

-- and has the ends that it had
steered_ends : (u v : ℕ) (s : Steering) (ps : List Pair) → map ends_of (map (steered_pair u v s) ps) ≡ map ends_of ps
steered_ends u v s [] = refl
steered_ends u v s (p ∷ ps) = ap₂ (λ (e : ℕ × ℕ) (es : List (ℕ × ℕ)). e ∷ es) (either (has_ends u v p)) (steered_ends u v s ps)
  where
    either : (b : Bool) → ends_of (if b then changed_pair p s.first s.second else p) ≡ ends_of p
    either true = refl
    either false = refl

pub steered-keys : (u v : ℕ) (s : Steering) (keys : Keys) → IsKeys keys → AreChangesFor keys.words s → IsKeys (steered_keys u v s keys)
steered-keys u v s keys is are = record {
  some_stations = is.some_stations;
  most_stations = is.most_stations;
  some_words = is.some_words;
  most_words = is.most_words;
  most_symbols = subst (λ (c : ℕ). c * (32 * keys.words) ≤ limit.most_pads) (sym (length-map keys.pairs (steered_pair u v s))) is.most_symbols;
  are_pairs = steered_are keys.stations keys.words u v s is.some_words are keys.pairs is.are_pairs;
  rising = subst AreEndsRising (sym (steered_ends u v s keys.pairs)) is.rising;
}
