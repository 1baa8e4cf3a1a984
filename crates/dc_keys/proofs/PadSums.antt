-- The signed sums of the pads of the pairs so far.
use Rattle.std.proofs.Common.{◌≡◌, ℕ, ◌+◌, ◌-◌, ◌*◌, ◌%◌, ◌<◌, ◌==◌, List, [], ◌∷◌, ◌++◌, length, get_or, take, filter, sum_by, All, refl, ◌∙◌, arith}
use Rattle.std.proofs.Math.Nat.{mod-lt}
use Rattle.std.proofs.Math.Seq.{take-append_seam}
use Rattle.std.proofs.lemmas.List.Elements.{All-head, All-tail, All-from_get_or, All-filter, All-weaker}
use Rattle.std.proofs.lemmas.List.FromFn.{fill_by_all}
use Rattle.std.proofs.lemmas.List.Sums.{sum_by-cons}
use Rattle.dc_spec.specs.Words.{IsSymbol}
use Rattle.dc_spec.specs.Pads.{Pair, Keys}
use Rattle.dc_formats.specs.KeyFile.{IsPair, IsKeys}
use Rattle.dc_keys.specs.StationPads.{IsStationPads, signed_pad, signed_pads, station_pads}

pub signed_pads-are_symbols : (pads : Pair → List ℕ) (pairs : List Pair) (me : ℕ) (xs : List ℕ) → ((n : ℕ) → n < length xs → get_or xs n 0 ≡ signed_pad pads pairs me n) → All IsSymbol xs
signed_pads-are_symbols pads pairs me xs each =
    All-from_get_or IsSymbol xs 0 (λ n lt. rw (each n lt) (mod-lt (sum_by (λ p. get_or (pads p) n 0) (filter (λ p. p.u == me) pairs) + sum_by (λ p. 65537 - get_or (pads p) n 0) (filter (λ p. p.v == me) pairs)) (omega arith)))

-- a list of the signed sums at each place
pub signed_pads-by_place : (pads : Pair → List ℕ) (pairs : List Pair) (me words : ℕ) (xs : List ℕ) → length xs ≡ 16 * words → ((n : ℕ) → n < length xs → get_or xs n 0 ≡ signed_pad pads pairs me n)
    → xs ≡ signed_pads pads pairs me words
unfolding signed_pads
signed_pads-by_place pads pairs me words xs len each = fill_by_all (signed_pad pads pairs me) xs (16 * words) 0 len (λ n lt. each n (omega arith))

-- where each item is 0, the items and what they lack of 65537
zeros : {X : Type 0} (f : X → ℕ) (xs : List X) → All (λ x. f x ≡ 0) xs → sum_by f xs ≡ 0
zeros f [] none = refl
zeros f (x ∷ xs) none = let here : f x ≡ 0 = All-head (λ x. f x ≡ 0) x xs none in omega (arith, sum_by-cons f x xs, zeros f xs (All-tail (λ x. f x ≡ 0) x xs none))

lacking : {X : Type 0} (f : X → ℕ) (xs : List X) → All (λ x. f x ≡ 0) xs → sum_by (λ x. 65537 - f x) xs ≡ 65537 * length xs
lacking f [] none = omega arith
lacking f (x ∷ xs) none = let here : f x ≡ 0 = All-head (λ x. f x ≡ 0) x xs none in omega (arith, sum_by-cons (λ x. 65537 - f x) x xs, lacking f xs (All-tail (λ x. f x ≡ 0) x xs none))

whole_turns : (k : ℕ) → (0 + 65537 * k) % 65537 ≡ 0
whole_turns k = omega arith

-- where each pair's pad is 0, so is their signed sum
pub signed_pad-zero : (pads : Pair → List ℕ) (pairs : List Pair) (me n : ℕ) → All (λ p. get_or (pads p) n 0 ≡ 0) pairs → signed_pad pads pairs me n ≡ 0
signed_pad-zero pads pairs me n none =
    let plus = zeros (λ p. get_or (pads p) n 0) (filter (λ p. p.u == me) pairs) (All-filter (λ p. p.u == me) (λ p. get_or (pads p) n 0 ≡ 0) pairs none) in
    let minus = lacking (λ p. get_or (pads p) n 0) (filter (λ p. p.v == me) pairs) (All-filter (λ p. p.v == me) (λ p. get_or (pads p) n 0 ≡ 0) pairs none) in
    rw (plus, minus) (whole_turns (length (filter (λ p. p.v == me) pairs)))

-- the signed sums of the pads of a key file are the pads of a station
IsStationPads-signed : (keys : Keys) (me : ℕ) (first second : List ℕ) → IsKeys keys → length first ≡ 16 * keys.words → length second ≡ 16 * keys.words
    → ((n : ℕ) → n < length first → get_or first n 0 ≡ signed_pad (λ p. p.a) keys.pairs me n)
    → ((n : ℕ) → n < length second → get_or second n 0 ≡ signed_pad (λ p. p.b) keys.pairs me n) → IsStationPads (record { first = first; second = second })
IsStationPads-signed keys me first second are first_length second_length each_first each_second = record {
  some_words = let some = are.some_words in omega arith;
  most_words = let most = are.most_words in omega arith;
  first_pads = omega arith;
  second_pads = omega arith;
  first_symbols = signed_pads-are_symbols (λ p. p.a) keys.pairs me first each_first;
  second_symbols = signed_pads-are_symbols (λ p. p.b) keys.pairs me second each_second;
  no_first = let some = are.some_words in each_second 0 (omega arith) ∙ signed_pad-zero (λ p. p.b) keys.pairs me 0 (All-weaker (IsPair keys.stations keys.words) (λ p. get_or p.b 0 0 ≡ 0) (λ p is. is.no_first) keys.pairs are.are_pairs);
}

-- those pads by their places
station_pads-by_place : (keys : Keys) (me : ℕ) (first second : List ℕ) → length first ≡ 16 * keys.words → length second ≡ 16 * keys.words
    → ((n : ℕ) → n < length first → get_or first n 0 ≡ signed_pad (λ p. p.a) keys.pairs me n)
    → ((n : ℕ) → n < length second → get_or second n 0 ≡ signed_pad (λ p. p.b) keys.pairs me n) → record { first = first; second = second } ≡ station_pads keys me
station_pads-by_place keys me first second first_length second_length each_first each_second =
    rw (signed_pads-by_place (λ p. p.a) keys.pairs me keys.words first first_length each_first, signed_pads-by_place (λ p. p.b) keys.pairs me keys.words second second_length each_second) refl

-- a list that was written over as a whole
whole_written : (xs rest now : List ℕ) (n : ℕ) → now ≡ take n (xs ++ rest) → length xs ≡ n → now ≡ xs
whole_written xs rest now n is long = is ∙ rw (← long) (take-append_seam xs rest)

-- the same for the two lists that a loop over the pairs has filled
pub station_pads-written : (keys : Keys) (me n m : ℕ) (pairs : List Pair) (first second first_rest second_rest first_now second_now : List ℕ) → first_now ≡ take n (first ++ first_rest)
    → second_now ≡ take m (second ++ second_rest)
    → length first ≡ n → length second ≡ m → n ≡ 16 * keys.words → m ≡ 16 * keys.words → pairs ≡ keys.pairs → ((n : ℕ) → n < length first → get_or first n 0 ≡ signed_pad (λ p. p.a) pairs me n)
    → ((n : ℕ) → n < length second → get_or second n 0 ≡ signed_pad (λ p. p.b) pairs me n) → IsKeys keys → IsStationPads (record { first = first_now; second = second_now }) × (record { first = first_now; second = second_now } ≡ station_pads keys me)
station_pads-written keys me n m pairs first second first_rest second_rest first_now second_now first_is second_is long_first long_second n_is m_is same each_first each_second are =
    rw (whole_written first first_rest first_now n first_is long_first, whole_written second second_rest second_now m second_is long_second)
    (IsStationPads-signed keys me first second are (long_first ∙ n_is) (long_second ∙ m_is) (rw (← same) each_first) (rw (← same) each_second), station_pads-by_place keys me first second (long_first ∙ n_is) (long_second ∙ m_is) (rw (← same) each_first) (rw (← same) each_second))
