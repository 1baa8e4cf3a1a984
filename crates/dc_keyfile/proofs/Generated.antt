-- Generated pads: a walk along a stream meets the elements by their numbers, and makes a key file.
use Rattle.std.proofs.Common.{◌≡◌, ℕ, zero, suc, ◌+◌, ◌*◌, ◌^◌, ◌<◌, ◌≤◌, false, cond, eqb, List, [], ◌∷◌, ◌++◌, length, get_or, set, take, map, Some, All, refl, sym, ap, ◌∙◌, arith}
use Rattle.std.specs.Prelude.{slice_get}
use Rattle.std.specs.List.{range_with_len}
use Rattle.std.proofs.lemmas.Option.{get_or_from_slice_get}
use Rattle.std.proofs.Math.Nat.{mod-lt}
use Rattle.std.proofs.lemmas.Bool.{ne_eqb}
use Rattle.std.proofs.lemmas.List.{length-map, length-set, take_more, map_push, get_or-map, get_or-set_same, get_or-set_other}
use Rattle.std.proofs.lemmas.List.FromFn.{length-map-range_with_len, get_or-map-range_with_len, map-range_with_len_more, fill_by_all}
use Rattle.std.proofs.lemmas.List.Elements.{All-map}
use Rattle.rand_chacha.specs.ChaCha.{ChaCha, key_of, of_seed}
use Rattle.dc_spec.specs.Words.{IsSymbol}
use Rattle.dc_spec.specs.Pads.{Pair}
use Rattle.dc_formats.specs.KeyFile.{IsPair, IsKeys}
use Rattle.dc_formats.proofs.Ends.{ends_rise}
use Rattle.dc_graph.specs.Graph.{PlainGraph, IsEdge, IsGraph}
use Rattle.dc_keys.specs.Pads.{IsPairKey}
use Rattle.dc_keyfile.specs.Generator.{pair_seed, generated_symbol, element_at, generated_pair, generated_keys}

-- ---- along a stream

-- a stream after two words more
pub two_words_on : (start now next : ChaCha) (n : ℕ) → now ≡ record start { word_pos = start.word_pos + 2 * n } → next ≡ record now { word_pos = now.word_pos + 2 }
    → next ≡ record start { word_pos = start.word_pos + 2 * (n + 1) }
two_words_on start now next n so_far step =
    let place : start.word_pos + 2 * n + 2 ≡ start.word_pos + 2 * (n + 1) = omega arith in
    step ∙ ap (λ (g : ChaCha). record g { word_pos = g.word_pos + 2 }) so_far ∙ ap (λ (k : ℕ). record start { word_pos = k }) place

-- the symbols of a stream after one symbol more
pub one_symbol_more : (start now : ChaCha) (n x : ℕ) (symbols more : List ℕ) → now ≡ record start { word_pos = start.word_pos + 2 * n }
    → symbols ≡ map (λ k. generated_symbol start.key (start.word_pos + 2 * k)) (range_with_len 0 n)
    → x ≡ generated_symbol now.key now.word_pos → more ≡ symbols ++ x ∷ [] → more ≡ map (λ k. generated_symbol start.key (start.word_pos + 2 * k)) (range_with_len 0 (n + 1))
one_symbol_more start now n x symbols more stands so_far here pushed =
    let there : x ≡ generated_symbol start.key (start.word_pos + 2 * n) = here ∙ ap (λ (g : ChaCha). generated_symbol g.key g.word_pos) stands in
    pushed ∙ rw (so_far, there) (sym (map-range_with_len_more (λ k. generated_symbol start.key (start.word_pos + 2 * k)) 0 n n (omega arith)))

-- ---- the pads of a pair

-- the symbol so many places on is the element with that number
pub symbol_is_element : (base : List ℕ) (u v from n e : ℕ) → from + 2 * n ≡ 2 * e → generated_symbol (key_of (pair_seed base u v)) (from + 2 * n) ≡ element_at base u v e
unfolding element_at
symbol_is_element base u v from n e is = ap (generated_symbol (key_of (pair_seed base u v))) is

pub first_pads : (base : List ℕ) (u v from count : ℕ) (symbols : List ℕ) → from ≡ 0 → symbols ≡ map (λ n. generated_symbol (key_of (pair_seed base u v)) (from + 2 * n)) (range_with_len 0 count)
    → symbols ≡ map (λ n. element_at base u v n) (range_with_len 0 count)
first_pads base u v from count symbols start are =
    let at : ℕ → ℕ = λ n. generated_symbol (key_of (pair_seed base u v)) (from + 2 * n) in
    fill_by_all (λ n. element_at base u v n) symbols count 0 (ap length are ∙ length-map-range_with_len at 0 count)
    (λ k lt. ap (λ (xs : List ℕ). get_or xs k 0) are ∙ get_or-map-range_with_len at 0 count k k 0 lt (omega arith) ∙ symbol_is_element base u v from k k (omega arith))

-- only the first place is 0
after_first : (n x y : ℕ) → cond (eqb (suc n) 0) x y ≡ y
after_first n x y = let not_zero : eqb (suc n) 0 ≡ false = ne_eqb (suc n) 0 (λ e. omega arith) in rw not_zero refl

-- one second pad
second_pad : (base : List ℕ) (u v from count : ℕ) (symbols : List ℕ) → from ≡ 2 * count
    → symbols ≡ map (λ n. generated_symbol (key_of (pair_seed base u v)) (from + 2 * n)) (range_with_len 0 count) → length symbols ≡ count
    → (k : ℕ) → k < count → get_or (set symbols 0 0) k 0 ≡ cond (eqb k 0) 0 (element_at base u v (count + k))
second_pad base u v from count symbols start are long zero lt = get_or-set_same symbols 0 0 0 (omega arith)
second_pad base u v from count symbols start are long (suc k) lt =
    get_or-set_other symbols 0 (suc k) 0 0 (omega arith) ∙ ap (λ (xs : List ℕ). get_or xs (suc k) 0) are
    ∙ get_or-map-range_with_len (λ n. generated_symbol (key_of (pair_seed base u v)) (from + 2 * n)) 0 count (suc k) (suc k) 0 lt (omega arith)
    ∙ symbol_is_element base u v from (suc k) (count + suc k) (omega arith) ∙ sym (after_first k 0 (element_at base u v (count + suc k)))

pub second_pads : (base : List ℕ) (u v from count : ℕ) (symbols pads : List ℕ) → from ≡ 2 * count
    → symbols ≡ map (λ n. generated_symbol (key_of (pair_seed base u v)) (from + 2 * n)) (range_with_len 0 count) → pads ≡ set symbols 0 0
    → pads ≡ map (λ n. cond (eqb n 0) 0 (element_at base u v (count + n))) (range_with_len 0 count)
second_pads base u v from count symbols pads start are cut =
    let at : ℕ → ℕ = λ n. generated_symbol (key_of (pair_seed base u v)) (from + 2 * n) in
    let long : length symbols ≡ count = ap length are ∙ length-map-range_with_len at 0 count in
    rw cut (fill_by_all (λ n. cond (eqb n 0) 0 (element_at base u v (count + n))) (set symbols 0 0) count 0 (length-set symbols 0 0 ∙ long) (second_pad base u v from count symbols start are long))

-- ends and pads as a pair
abbrev pub the_pair : ℕ × ℕ → List ℕ → List ℕ → Pair
the_pair e first second = record { u = e.0; v = e.1; a = first; b = second }

-- a walk along the stream of a pair gives its pads
pub pair_walked : (base seed : List ℕ) (e : ℕ × ℕ) (count : ℕ) (start next : ChaCha) (first symbols pads : List ℕ) → seed ≡ pair_seed base e.0 e.1 → start ≡ of_seed seed
    → first ≡ map (λ n. generated_symbol start.key (start.word_pos + 2 * n)) (range_with_len 0 count)
    → next ≡ record start { word_pos = start.word_pos + 2 * count } → symbols ≡ map (λ n. generated_symbol next.key (next.word_pos + 2 * n)) (range_with_len 0 count) → pads ≡ set symbols 0 0
    → the_pair e first pads ≡ generated_pair base count e
pair_walked base seed e count start next first symbols pads seeded begun walked moved on cut =
    let key : start.key ≡ key_of (pair_seed base e.0 e.1) = ap (λ (g : ChaCha). g.key) begun ∙ ap key_of seeded in
    let key' : next.key ≡ key_of (pair_seed base e.0 e.1) = ap (λ (g : ChaCha). g.key) moved ∙ key in
    let place : start.word_pos ≡ 0 = ap (λ (g : ChaCha). g.word_pos) begun in
    let place' : next.word_pos ≡ 2 * count = ap (λ (g : ChaCha). g.word_pos) moved ∙ omega arith in
    let a = first_pads base e.0 e.1 start.word_pos count first place (walked ∙ ap (λ (k : List ℕ). map (λ n. generated_symbol k (start.word_pos + 2 * n)) (range_with_len 0 count)) key) in
    let b = second_pads base e.0 e.1 next.word_pos count symbols pads place' (on ∙ ap (λ (k : List ℕ). map (λ n. generated_symbol k (next.word_pos + 2 * n)) (range_with_len 0 count)) key') cut in
    λ i. record { u = e.0; v = e.1; a = a i; b = b i }

-- the pairs of one edge more
pub one_place_more : {X : Type 0} (f : ℕ × ℕ → X) (edges : List (ℕ × ℕ)) (i : ℕ) (d : ℕ × ℕ) (pairs more : List X) (p : X) → i < length edges
    → pairs ≡ map f (take i edges) → p ≡ f (get_or edges i d) → more ≡ pairs ++ p ∷ [] → more ≡ map f (take (i + 1) edges)
one_place_more f edges i d pairs more p lt so_far here pushed =
    pushed ∙ rw (so_far, here, take_more edges i d lt) (sym (map_push f (take i edges) (get_or edges i d)))

-- the same, where the edge is known by its number
pub one_pair_more : {X : Type 0} (f : ℕ × ℕ → X) (edges : List (ℕ × ℕ)) (i : ℕ) (e : ℕ × ℕ) (pairs more : List X) (p : X) → i < length edges → slice_get edges i ≡ Some e
    → pairs ≡ map f (take i edges) → p ≡ f e → more ≡ pairs ++ p ∷ [] → more ≡ map f (take (i + 1) edges)
one_pair_more f edges i e pairs more p lt there so_far here pushed =
    one_place_more f edges i (0, 0) pairs more p lt so_far (here ∙ ap f (sym (get_or_from_slice_get edges i e (0, 0) there))) pushed

-- ---- a key file

IsSymbol-element_at : (base : List ℕ) (u v e : ℕ) → IsSymbol (element_at base u v e)
unfolding element_at
IsSymbol-element_at base u v e = mod-lt _ (omega arith)

IsSymbol-second : (base : List ℕ) (u v e n : ℕ) → IsSymbol (cond (eqb n 0) 0 (element_at base u v e))
IsSymbol-second base u v e zero = omega arith
IsSymbol-second base u v e (suc n) = rw (after_first n 0 (element_at base u v e)) (IsSymbol-element_at base u v e)

length-first : (base : List ℕ) (symbols : ℕ) (e : ℕ × ℕ) → length (generated_pair base symbols e).a ≡ symbols
length-first base symbols e = length-map-range_with_len (λ n. element_at base e.0 e.1 n) 0 symbols

length-second : (base : List ℕ) (symbols : ℕ) (e : ℕ × ℕ) → length (generated_pair base symbols e).b ≡ symbols
length-second base symbols e = length-map-range_with_len (λ n. cond (eqb n 0) 0 (element_at base e.0 e.1 (symbols + n))) 0 symbols

pub first_symbols : (base : List ℕ) (symbols : ℕ) (e : ℕ × ℕ) → All IsSymbol (generated_pair base symbols e).a
first_symbols base symbols e = All-map IsSymbol (λ n. element_at base e.0 e.1 n) (range_with_len 0 symbols) (λ i d lt. IsSymbol-element_at base e.0 e.1 _)

pub second_symbols : (base : List ℕ) (symbols : ℕ) (e : ℕ × ℕ) → All IsSymbol (generated_pair base symbols e).b
second_symbols base symbols e =
    All-map IsSymbol (λ n. cond (eqb n 0) 0 (element_at base e.0 e.1 (symbols + n))) (range_with_len 0 symbols) (λ i d lt. IsSymbol-second base e.0 e.1 _ _)

no_first : (base : List ℕ) (symbols : ℕ) (e : ℕ × ℕ) → 0 < symbols → get_or (generated_pair base symbols e).b 0 0 ≡ 0
no_first base symbols e some = get_or-map-range_with_len (λ n. cond (eqb n 0) 0 (element_at base e.0 e.1 (symbols + n))) 0 symbols 0 0 0 some refl

pub IsPairKey-generated_pair : (base : List ℕ) (words : ℕ) (e : ℕ × ℕ) → 1 ≤ words → words ≤ 4096 → IsPairKey (generated_pair base (16 * words) e)
IsPairKey-generated_pair base words e some most =
    let first = length-first base (16 * words) e in
    let second = length-second base (16 * words) e in
    record {
      some_words = omega arith;
      most_words = omega arith;
      first_pads = omega arith;
      second_pads = omega arith;
      first_symbols = first_symbols base (16 * words) e;
      second_symbols = second_symbols base (16 * words) e;
      no_first = no_first base (16 * words) e (omega arith);
    }

pub IsPair-generated_pair : (base : List ℕ) (stations words : ℕ) (e : ℕ × ℕ) → 1 ≤ words → IsEdge stations e → IsPair stations words (generated_pair base (16 * words) e)
IsPair-generated_pair base stations words e some is = record {
  ends = is.ends;
  within = is.within;
  first_pads = length-first base (16 * words) e;
  second_pads = length-second base (16 * words) e;
  first_symbols = first_symbols base (16 * words) e;
  second_symbols = second_symbols base (16 * words) e;
  no_first = no_first base (16 * words) e (omega arith);
}

pub IsKeys-generated_keys : (base : List ℕ) (g : PlainGraph) (words : ℕ) → IsGraph g → 1 ≤ words → words ≤ 4096 → length g.edges * (32 * words) ≤ 2 ^ 26 → IsKeys (generated_keys base g words)
IsKeys-generated_keys base g words is some most fits =
    let pair : ℕ × ℕ → Pair = generated_pair base (16 * words) in
    let count : length (map (generated_pair base (16 * words)) g.edges) ≡ length g.edges = length-map g.edges (generated_pair base (16 * words)) in
    record {
      some_stations = is.some_stations;
      most_stations = is.most_stations;
      some_words = some;
      most_words = most;
      most_symbols = rw count fits;
      are_pairs = All-map (IsPair g.stations words) (generated_pair base (16 * words)) g.edges (λ i d lt. IsPair-generated_pair base g.stations words _ some (is.are_edges i d lt));
      rising = ends_rise (λ p. (p.u, p.v)) (map pair g.edges) (λ i d lt.
          let here = get_or-map pair g.edges i (0, 0) d (omega (arith, count)) in
          let next = get_or-map pair g.edges (i + 1) (0, 0) d (omega (arith, count)) in
          let before = is.rising i (0, 0) (omega (arith, count)) in
          rw (here, next) (record { lesser = before.lesser; greater = before.greater }));
    }
