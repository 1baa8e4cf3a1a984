-- The rounds of a net one after the other: how many words they have, and what one round more adds.
use Rattle.std.proofs.Common.{◌≡◌, ℕ, zero, suc, ◌+◌, ◌*◌, List, [], ◌∷◌, ◌++◌, length, refl, ap, ◌∙◌, arith, add-one}
use Rattle.std.specs.List.{flat_map}
use Rattle.std.proofs.lemmas.List.{length-append, length_push, map_push, append-nil, length-map}
use Rattle.std.proofs.lemmas.List.Concat.{flat_map-append}
use Rattle.std.proofs.lemmas.List.FromFn.{length-map-range_with_len}
use Rattle.dc_spec.specs.Net.{Net}
use Rattle.dc_net_rules.specs.Runs.{Round, word_of_station, published, history, next_words, next_round, rounds_of}

-- so many rounds were played
pub length-rounds_of : (net : Net) (t : ℕ) → length (rounds_of net t) ≡ t
unfolding rounds_of
length-rounds_of net zero = refl
length-rounds_of net (suc t) = length_push (rounds_of net t) (next_round net (rounds_of net t)) ∙ (let e = length-rounds_of net t in omega arith)

-- one round more
pub rounds_more : (net : Net) (t : ℕ) → rounds_of net (t + 1) ≡ rounds_of net t ++ next_round net (rounds_of net t) ∷ []
unfolding rounds_of
rounds_more net t = ap (λ (n : ℕ). rounds_of net n) (add-one t)

-- a piece for each round, and the piece of one round more
pub pieces_more : {A : Type 0} (f : Round → List A) (played : List Round) (round : Round) → flat_map f (played ++ round ∷ []) ≡ flat_map f played ++ f round
pieces_more f played round = flat_map-append f played (round ∷ []) ∙ ap (λ ys. flat_map f played ++ ys) (append-nil (f round))

-- the words of one round more
pub published_more : (net : Net) (played : List Round) → published (played ++ next_round net played ∷ []) ≡ published played ++ next_words net played
published_more net played = pieces_more (λ round. round.words) played (next_round net played)

-- a round has a word for each station
pub length-next_words : (net : Net) (played : List Round) → length (next_words net played) ≡ net.stations
length-next_words net played = length-map-range_with_len _ 0 net.stations

-- so that many words were published
pub length-published : (net : Net) (t : ℕ) → length (published (rounds_of net t)) ≡ t * net.stations
unfolding rounds_of
length-published net zero = let e : 0 ≡ 0 * net.stations = omega arith in e
length-published net (suc t) =
    ap (λ (ws : List (List ℕ)). length ws) (published_more net (rounds_of net t))
    ∙ length-append (published (rounds_of net t)) (next_words net (rounds_of net t))
    ∙ (let before = length-published net t in let here = length-next_words net
    (rounds_of net t) in let e : t * net.stations + net.stations ≡ suc t * net.stations = omega arith in omega arith)

-- what a station received, and what it receives in one round more
pub history_more : (played : List Round) (round : Round) (i : ℕ) → history (played ++ round ∷ []) i ≡ history played i ++ word_of_station round.received i ∷ []
history_more played round i = map_push (λ r. word_of_station r.received i) played round

-- a station received a word in each round
pub length-history : (net : Net) (t i : ℕ) → length (history (rounds_of net t) i) ≡ t
length-history net t i = length-map (rounds_of net t) (λ r. word_of_station r.received i) ∙ length-rounds_of net t

-- before the first round
pub rounds_none : (net : Net) → rounds_of net 0 ≡ []
unfolding rounds_of
rounds_none net = refl
