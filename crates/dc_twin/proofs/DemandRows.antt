-- Rows of the demands of all stations are the demands by round.
use Rattle.std.proofs.Common.{◌≡◌, ℕ, zero, suc, ◌+◌, ◌-◌, ◌%◌, ◌<◌, not, Bool, true, false, cond, List, [], ◌∷◌, ◌++◌, map, take, slice_index, slice_index_or, Option, Some, None, unwrap_or, refl, sym, ◌∙◌, ap, subst, inl, inr, arith, true≢false}
use Rattle.std.specs.List.{flat_map, range_with_len}
use Rattle.std.specs.Option.{is_some}
use Rattle.std.proofs.lemmas.Bool.{cases_Bool}
use Rattle.std.proofs.lemmas.List.Elements.{All-nil}
use Rattle.std.proofs.lemmas.List.FromFn.{get_or-map-range_with_len}
use Rattle.dc_spec.specs.Words.{zero_word, word_sub}
use Rattle.dc_spec.specs.Entries.{IsMessage, Stream}
use Rattle.dc_spec.specs.Values.{IsValue}
use Rattle.dc_spec.specs.Lists.{is_among}
use Rattle.dc_spec.specs.Net.{Net}
use Rattle.dc_spec.proofs.WordLemmas.{word_of-same}
use Rattle.dc_station_rules.specs.Stations.{plain_word}
use Rattle.dc_net_rules.specs.Runs.{station_stream, history, all_rounds}
use Rattle.dc_net_rules.proofs.Agreeing.{has_stream}
use Rattle.dc_net_rules.proofs.RoundLemmas.{length-history}
use Rattle.dc_net.specs.Checked.{IsChecked}
use Rattle.dc_net.specs.Changed.{PermutesHonest}
use Rattle.dc_net.proofs.ChangedNets.{in_place}
use Rattle.dc_twin_rules.specs.Twins.{inverse, moved, demand, demands_in, demands}
use Rattle.dc_twin_rules.proofs.PlainSymbols.{IsFit, plain-symbol}
use Rattle.dc_twin_rules.proofs.Permuted.{back-there}
use Rattle.dc_twin_rules.proofs.Histories.{moved-stream}
use Rattle.dc_twin.specs.Demands.{stream_demands, station_demands, row_of}
use Rattle.dc_twin.proofs.Moved.{permutes}

-- ---- lists

pub flat-of_map : {A B : Type 0} (f : A → List B) (xs : List A) → flat_map (λ row. row) (map f xs) ≡ flat_map f xs
flat-of_map f [] = refl
flat-of_map f (x ∷ xs) = ap (λ ys. f x ++ ys) (flat-of_map f xs)

pub flat-same : {B : Type 0} (f g : ℕ → List B) (a n : ℕ) → ((t : ℕ) → t < a + n → f t ≡ g t) → flat_map f (range_with_len a n) ≡ flat_map g (range_with_len a n)
flat-same f g a zero same = refl
flat-same f g a (suc n) same =
    let here : f a ≡ g a = same a (omega arith) in
    let rest = flat-same f g (a + 1) n (λ t low. same t (omega arith)) in cc

map-both : {A B : Type 0} (f : A → B) (g : ℕ → A) (h : ℕ → B) (a n : ℕ) → ((i : ℕ) → i < a + n → f (g i) ≡ h i) → map f (map g (range_with_len a n)) ≡ map h (range_with_len a n)
map-both f g h a zero same = refl
map-both f g h a (suc n) same =
    let here : f (g a) ≡ h a = same a (omega arith) in
    let rest = map-both f g h (a + 1) n (λ i low. same i (omega arith)) in cc

-- ---- members

nothing_sent : Stream
nothing_sent = record { shorts = []; longs = []; coins = [] }

none_of : (o : Option Stream) → is_some o ≡ false → unwrap_or o (record { shorts = []; longs = []; coins = [] }) ≡ record { shorts = []; longs = []; coins = [] }
none_of None h = refl
none_of (Some s) h = absurd (true≢false h)

-- a member has no stream
member-stream : (net : Net) → IsChecked net → (i : ℕ) → i < net.stations → is_among net.coalition i ≡ true → station_stream net i ≡ record { shorts = []; longs = []; coins = [] }
member-stream net checked i low member = none_of (slice_index_or net.streams i None) (has_stream net checked.agrees i low ∙ ap not member)

fit : IsFit (record { shorts = []; longs = []; coins = [] })
fit = record { shorts = All-nil IsValue; longs = All-nil IsMessage }

minus-itself : (w : List ℕ) → ((l : ℕ) → l < 16 → slice_index w l < 65537) → word_sub w w ≡ zero_word
minus-itself w small = word_of-same _ _ (λ l few. gone (slice_index w l) (small l few))
  where
    gone : (x : ℕ) → x < 65537 → (x + (65537 - x)) % 65537 ≡ 0
    gone x low = let e : x + (65537 - x) ≡ 65537 = omega arith in ap (λ (n : ℕ). n % 65537) e

-- so its demand is the zero word
member-demand : (net : Net) (p : List ℕ) → IsChecked net → PermutesHonest net p → (i : ℕ) → i < net.stations → is_among net.coalition i ≡ true → (received : List (List ℕ)) → demand net p i received ≡ zero_word
member-demand net p checked is i low member received =
    let perm = permutes net p is in
    let own = member-stream net checked i low member in
    let back : slice_index (inverse p) i ≡ i = ap (λ (z : ℕ). slice_index (inverse p) z) (sym (in_place net p is i member)) ∙ back-there net.stations p perm i low in
    let same : station_stream (moved net p) i ≡ station_stream net i = moved-stream net p perm i low ∙ ap (station_stream net) back in
    let w = plain_word (station_stream net i) received in
    let small : (l : ℕ) → l < 16 → slice_index (plain_word (station_stream net i) received) l < 65537 = λ l few.
    subst (λ (s : Stream). slice_index (plain_word s received) l < 65537) (sym own) (plain-symbol (record { shorts = []; longs = []; coins = [] }) fit received l few) in
    ap (λ (s : Stream). word_sub (plain_word (station_stream net i) received) (plain_word s received)) same ∙ minus-itself (plain_word (station_stream net i) received) small

-- ---- all demands

at_place : (net : Net) (p : List ℕ) → IsChecked net → PermutesHonest net p → (t : ℕ) → t < net.words → (i : ℕ) → i < net.stations →
    slice_index_or (station_demands net p i) t zero_word ≡ demand net p i (take t (history (all_rounds net) i))
at_place net p checked is t less i low =
    let f : ℕ → List ℕ = λ k. demand net p i (take k (history (all_rounds net) i)) in
    elim (cases_Bool (is_among net.coalition i)) [
      | inl member ↦ ap (λ (b : Bool). slice_index_or (cond b [] (map f (range_with_len 0 net.words))) t zero_word) member
          ∙ sym (member-demand net p checked is i low member (take t (history (all_rounds net) i)))
      | inr honest ↦ ap (λ (b : Bool). slice_index_or (cond b [] (map f (range_with_len 0 net.words))) t zero_word) honest
          ∙ get_or-map-range_with_len f 0 net.words t t zero_word less (omega arith)
    ]

pub rows-are_demands : (net : Net) (p : List ℕ) → IsChecked net → PermutesHonest net p →
    flat_map (row_of (map (station_demands net p) (range_with_len 0 net.stations))) (range_with_len 0 net.words) ≡ flat_map (λ row. row) (demands net p)
rows-are_demands net p checked is =
    flat-same (row_of (map (station_demands net p) (range_with_len 0 net.stations))) (demands_in net p (all_rounds net)) 0 net.words
    (λ t less. map-both (λ column. slice_index_or column t zero_word) (station_demands net p) (λ i. demand net p i (take t (history (all_rounds net) i))) 0 net.stations
    (λ i low. at_place net p checked is t (omega arith) i (omega arith)))
    ∙ sym (flat-of_map (demands_in net p (all_rounds net)) (range_with_len 0 net.words))

-- the demands of the streams of an honest station, over the words that it received
pub own-demands : (net : Net) (p : List ℕ) (i : ℕ) (received : List (List ℕ)) → is_among net.coalition i ≡ false → received ≡ history (all_rounds net) i
    → stream_demands (station_stream net i) (station_stream (moved net p) i) received ≡ station_demands net p i
own-demands net p i received honest is =
    let f : ℕ → List ℕ = λ k. demand net p i (take k (history (all_rounds net) i)) in
    ap (λ (ws : List (List ℕ)). stream_demands (station_stream net i) (station_stream (moved net p) i) ws) is
    ∙ ap (λ (n : ℕ). map f (range_with_len 0 n)) (length-history net net.words i)
    ∙ sym (ap (λ (b : Bool). cond b [] (map f (range_with_len 0 net.words))) honest)
