-- Steering: where two honest neighbours received differently, how their pads are changed so that
-- later sums become wanted ones.
use Rattle.std.specs.Prelude.{if◌then◌else◌, ℕ, zero, suc, ◌+◌, ◌-◌, ◌*◌, ◌/◌, ◌%◌, ◌<◌, ◌≤◌, ◌≡◌, ◌||◌, nat_lt, nat_le, nat_eq, ◌==◌, ◌&&◌, List, [], ◌∷◌, ◌++◌, length, map, drop, zip, replicate, sum_by, slice_index, Bool}
use Rattle.std.specs.List.{range_with_len, common_prefix_len}
use Rattle.dc_spec.specs.Words.{word_sub}
use Rattle.dc_spec.specs.Pads.{Pair}
use Rattle.dc_spec.specs.Net.{Net}
use Rattle.dc_key_rules.specs.PairKeys.{symbols, changed_pair}
use Rattle.dc_net_rules.specs.Runs.{all_rounds, history}
use Rattle.dc_spec.specs.Symbols.{AreSymbols, symbol_sub, symbol_inverse}

-- the least number of a symbol that two stations received differently, or how many they received
-- where none is
abbrev pub first_difference : List ℕ → List ℕ → ℕ
first_difference cu cv = common_prefix_len nat_eq cu cv

-- the first symbol after the round of the first difference
abbrev pub steered_from : ℕ → ℕ
steered_from p = 16 * (p / 16 + 1)

-- the symbol of this number that the smaller end received, minus that of the larger end
abbrev pub difference_at : List ℕ → List ℕ → ℕ → ℕ
difference_at cu cv k = symbol_sub (slice_index cu k) (slice_index cv k)

-- what changes y of the second pads add to symbol n of the sum: over all numbers k of earlier
-- rounds, the change of number n - k times the difference at k
abbrev pub steered_symbol : List ℕ → List ℕ → List ℕ → ℕ → ℕ
steered_symbol cu cv y n =
    sum_by (λ k. slice_index y (n - k) * difference_at cu cv k)
    (range_with_len 0 (16 * (n / 16))) % 65537

-- so many symbols
pub record AreManySymbols (count : ℕ) (xs : List ℕ) : Type 0 where
  pub many : length xs ≡ count
  pub are_symbols : AreSymbols xs

-- what changes y of the second pads add to symbol n of the smaller end's key: over all numbers k of
-- earlier rounds, the change of number n - k times the symbol that this end received at k
abbrev pub gained_symbol : List ℕ → List ℕ → ℕ → ℕ
gained_symbol cu y n =
    sum_by (λ k. slice_index y (n - k) * slice_index cu k)
    (range_with_len 0 (16 * (n / 16))) % 65537

-- Changes x of the first pads and y of the second pads steer a session of so many symbols by e.
-- The ends of the pair received cu and cv, and p is the number of the first symbol that differs.
-- This asks:
--   first, second: there is a change for each symbol of the session;
--   kept: the keys of the smaller end stay as they are, since x takes away what y adds;
--   early: y is 0 at each number j where symbol j + p is of the round of the first difference or of
--     an earlier one;
--   late: and where the session has no symbol j + p;
--   wanted: each symbol of a later round gains what e says.
pub record IsSteering (cu cv e : List ℕ) (count : ℕ) (x y : List ℕ) : Type 0 where
  pub first : AreManySymbols count x
  pub second : AreManySymbols count y
  pub kept : (n : ℕ) → n < count → (slice_index x n + gained_symbol cu y n) % 65537 ≡ 0
  pub early : (j : ℕ) → j + first_difference cu cv < steered_from (first_difference cu cv)
      → slice_index y j ≡ 0
  pub late : (j : ℕ) → count ≤ j + first_difference cu cv → slice_index y j ≡ 0
  pub wanted : (n : ℕ) → steered_from (first_difference cu cv) ≤ n → n < count
      → steered_symbol cu cv y n ≡ slice_index e n

-- the next change, after the known ones: what is wanted at the symbol where it first acts, minus
-- what the known changes add there, divided by the first difference
abbrev pub next_change : List ℕ → List ℕ → List ℕ → List ℕ → ℕ
next_change cu cv e known =
    let p = first_difference cu cv in
    symbol_sub (slice_index e (length known + p)) (steered_symbol cu cv known (length known + p))
    * symbol_inverse (difference_at cu cv p) % 65537

-- the first so many changes of the second pads, in a session of so many symbols
unfoldable pub changes_up_to : List ℕ → List ℕ → List ℕ → ℕ → ℕ → List ℕ
changes_up_to cu cv e count zero = []
changes_up_to cu cv e count (suc j) =
    let known = changes_up_to cu cv e count j in
    let p = first_difference cu cv in
    known ++ (if nat_lt (j + p) (steered_from p) || nat_le count (j + p) then 0
    else next_change cu cv e known) ∷ []

-- the changes of the second pads
abbrev pub second_changes : List ℕ → List ℕ → List ℕ → ℕ → List ℕ
second_changes cu cv e count = changes_up_to cu cv e count count

-- the change of first pad n: minus what the changes of the second pads add to symbol n of the
-- smaller end's key
abbrev pub first_change : List ℕ → List ℕ → ℕ → ℕ
first_change cu y n = symbol_sub 0 (gained_symbol cu y n)

-- the changes of the first pads, those of the rounds up to the first difference included
abbrev pub first_changes : List ℕ → List ℕ → ℕ → List ℕ
first_changes cu y count = map (first_change cu y) (range_with_len 0 count)

-- the steered keys of a pair whose ends received cu and cv, for changes e of the sums of a session
-- of so many symbols
abbrev pub steered : Pair → List ℕ → List ℕ → List ℕ → ℕ → Pair
steered pair cu cv e count =
    let y = second_changes cu cv e count in changed_pair pair (first_changes cu y count) y

-- the changes that turn given sums of all rounds from some round on into wanted ones, 0 before that
-- round
abbrev pub changes_between : ℕ → List (List ℕ) → List (List ℕ) → List ℕ
changes_between from given wanted =
    replicate (16 * from) 0 ++ symbols (map (λ ws. word_sub ws.0 ws.1) (zip wanted given))

-- the changes that turn the sums of a run into wanted ones from some round on
abbrev pub wanted_changes : List (List ℕ) → ℕ → List (List ℕ) → List ℕ
wanted_changes sums from wanted = changes_between from (drop from sums) wanted

-- where two stations first received differently, and the changes of the pads of their pair
pub record Steering : Type 0 where
  pub round : ℕ
  pub symbol : ℕ
  pub first : List ℕ
  pub second : List ℕ

-- the steering of honest neighbours u < v of a net towards wanted words in all rounds after that of
-- their first difference
abbrev pub steering_of : Net → ℕ → ℕ → List (List ℕ) → Steering
steering_of net u v wanted =
    let played = all_rounds net in
    let cu = symbols (history played u) in
    let cv = symbols (history played v) in
    let p = first_difference cu cv in
    let e = wanted_changes (map (λ round. round.sum) played) (p / 16 + 1) wanted in
    let y = second_changes cu cv e (16 * net.words) in
    record {
      round = p / 16;
      symbol = p % 16;
      first = first_changes cu y (16 * net.words);
      second = y;
    }

-- whether a pair has these ends
abbrev pub has_ends : ℕ → ℕ → Pair → Bool
has_ends u v pair = (pair.u == u) && (pair.v == v)

-- a net with other pads for one of its pairs, the one with the same ends
abbrev pub with_pair : Net → Pair → Net
with_pair net k =
    let pairs = map (λ pair. if has_ends k.u k.v pair then k else pair) net.keys.pairs in
    record net { keys = record net.keys { pairs = pairs } }

-- a net with a steering of its pair u < v
abbrev pub steered_net : Net → ℕ → ℕ → List (List ℕ) → Net
steered_net net u v wanted =
    let changes = steering_of net u v wanted in
    let pairs = map (λ pair. if has_ends u v pair
    then changed_pair pair changes.first changes.second else pair) net.keys.pairs in
    record net { keys = record net.keys { pairs = pairs } }
