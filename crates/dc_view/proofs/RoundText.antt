-- The text of a round in two pieces, and rounds that are put one after the other.
use Rattle.std.proofs.Common.{◌≡◌, ℕ, ◌+◌, ◌<◌, List, [], ◌++◌, length, get_or, drop, Result, Ok, Err, sym, ap, ◌∙◌, append_assoc}
use Rattle.std.specs.Prelude.{IsErr, codes, decimal, zip, slice_index_or}
use Rattle.std.specs.List.{enumerate_from, flat_map}
use Rattle.std.proofs.lemmas.List.{at_drop_more}
use Rattle.dc_spec.specs.Outside.{SinkState}
use Rattle.dc_spec.specs.Text.{line, word_text}
use Rattle.dc_spec.specs.Net.{Net, Run}
use Rattle.dc_spec.specs.Scripts.{Delivery}
use Rattle.dc_edge.specs.Sink.{Puts}
use Rattle.dc_edge.specs.declared.fault.Failed.{Failed}
use Rattle.dc_formats.specs.WordLines.{station_word_line, items_of_round}
use Rattle.dc_net_rules.specs.Runs.{honest_stations}
use Rattle.dc_run_texts.specs.View.{delivery_line, published_lines, received_lines, round_text}
use Rattle.dc_print.proofs.PutSoFar.{PutSoFar, PutSoFar-then, PutSoFar-stops}

-- the number of a round and its published words
abbrev pub published_piece : ℕ → List (List ℕ) → List ℕ
published_piece r words = line (codes "round " ++ decimal r)
    ++ flat_map (λ w. station_word_line (codes "word ") w.0 w.1) (enumerate_from 0 words)

-- the sum of a round, the kind of delivery and the received words
abbrev pub received_piece : List ℕ → Delivery → List ℕ → List (List ℕ) → List ℕ
received_piece sum delivery honest words = line (codes "sum " ++ word_text sum) ++ delivery_line delivery
    ++ flat_map (λ g. station_word_line (codes "got ") g.0 g.1) (zip honest words)

in_two : (a b c d : List ℕ) → ((a ++ b) ++ c) ++ d ≡ a ++ ((b ++ c) ++ d)
in_two a b c d = simp append_assoc

-- the text of a round is these two pieces
pub round_text-pieces : (net : Net) (run : Run) (r : ℕ) (delivery : Delivery) (n : ℕ) (honest : List ℕ) (shown heard : List (List ℕ)) (sum : List ℕ)
    → n ≡ net.stations → honest ≡ honest_stations net → shown ≡ items_of_round n r run.words → heard ≡ items_of_round (length honest) r run.delivered
    → sum ≡ slice_index_or run.sums r []
    → round_text net run r delivery ≡ published_piece r shown ++ received_piece sum delivery honest heard
round_text-pieces net run r delivery n honest shown heard sum e1 e2 e3 e4 e5 =
    rw (e3, e4, e5, e1, e2) (in_two (line (codes "round " ++ decimal r) ++ published_lines net run r)
    (line (codes "sum " ++ word_text (slice_index_or run.sums r []))) (delivery_line delivery) (received_lines net run r))

-- one more numbered item was put
pub NumberedPut-then : {X : Type 0} (f : ℕ × X → List ℕ) (xs : List X) (i : ℕ) (d x : X) (whole : List ℕ) (s0 s1 s2 : SinkState) (u : Unit) → i < length xs → x ≡ get_or xs i d
    → PutSoFar whole (flat_map f (enumerate_from i (drop i xs))) s0 s1 → Puts (f (i, x)) s1 s2 (Ok u) → PutSoFar whole (flat_map f (enumerate_from (i + 1) (drop (i + 1) xs))) s0 s2
NumberedPut-then {X = X} f xs i d x whole s0 s1 s2 u low is p more =
    PutSoFar-then whole (flat_map f (enumerate_from i (drop i xs))) (f (i, x)) (flat_map f (enumerate_from (i + 1) (drop (i + 1) xs))) s0 s1 s2 u
    (at_drop_more (λ (ys : List X). flat_map f (enumerate_from i ys)) xs i d low ∙ ap (λ (y : X). f (i, y) ++ flat_map f (enumerate_from (i + 1) (drop (i + 1) xs))) (sym is)) p more

-- a put of one more numbered item failed
pub NumberedPut-stops : {X : Type 0} (f : ℕ × X → List ℕ) (xs : List X) (i : ℕ) (d x : X) (whole : List ℕ) (s0 s1 s2 : SinkState) (failed : Failed)
    (r : Result Unit Failed) → i < length xs → x ≡ get_or xs i d
    → PutSoFar whole (flat_map f (enumerate_from i (drop i xs))) s0 s1 → Puts (f (i, x)) s1 s2 (Err failed) → IsErr r → Puts whole s0 s2 r
NumberedPut-stops {X = X} f xs i d x whole s0 s1 s2 failed r low is p more err =
    PutSoFar-stops whole (flat_map f (enumerate_from i (drop i xs))) (f (i, x)) (flat_map f (enumerate_from (i + 1) (drop (i + 1) xs))) s0 s1 s2 failed r
    (at_drop_more (λ (ys : List X). flat_map f (enumerate_from i ys)) xs i d low ∙ ap (λ (y : X). f (i, y) ++ flat_map f (enumerate_from (i + 1) (drop (i + 1) xs))) (sym is)) p more err
