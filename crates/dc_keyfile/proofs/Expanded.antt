-- The pads that seeds give, from pieces of sixteen elements.
use Rattle.std.proofs.Common.{◌≡◌, ℕ, ◌+◌, ◌*◌, ◌/◌, ◌%◌, ◌^◌, ◌<◌, ◌≤◌, List, [], ◌∷◌, length, get_or, set, take, drop, map, refl, sym, ap, ◌∙◌, arith}
use Rattle.std.specs.List.{range_with_len, flat_map}
use Rattle.std.proofs.Math.Nat.{mul-le-mul_right}
use Rattle.std.proofs.lemmas.Nat.{div-mul-add, mod-mul-add}
use Rattle.std.proofs.lemmas.List.{length-map, get_or-map, get_or-take, get_or-drop, length-take, length-drop}
use Rattle.std.proofs.lemmas.List.FromFn.{fill_by_all, length-map-range_with_len, get_or-map-range_with_len, take-map-range_with_len}
use Rattle.std.proofs.lemmas.List.Elements.{All-map}
use Rattle.rand_chacha.specs.ChaCha.{key_of}
use Rattle.dc_spec.specs.Pads.{Pair, Keys, SeedPair, Seeds}
use Rattle.dc_formats.specs.KeyFile.{IsPair, IsKeys}
use Rattle.dc_formats.specs.SeedFile.{IsSeedPair, IsSeeds}
use Rattle.dc_formats.proofs.Ends.{ends_rise, ends_rise_at}
use Rattle.dc_formats.specs.TextFile.{AreBytes}
use Rattle.dc_graph.specs.Graph.{PlainGraph, IsGraph}
use Rattle.dc_keyfile.specs.Generator.{pair_seed, generated_symbol, element_at, generated_pair, generated_keys, expanded_pair, expanded_keys, seeded, seeds_of, elements_from, pieces_of, no_seed, piece_of}
use Rattle.dc_keyfile.proofs.Generated.{symbol_is_element, IsPair-generated_pair}
use Rattle.dc_keyfile.proofs.Ranges.{drop-map-range, shifted, in_sixteens, first_set}

-- ---- pieces

-- sixteen symbols of the stream of a pair, from the two words of an element on
pub sixteen_are : (p : SeedPair) (seed key : List ℕ) (e from : ℕ) (symbols : List ℕ) → seed ≡ pair_seed p.seed p.u p.v → key ≡ key_of seed → from ≡ 2 * e
    → symbols ≡ map (λ n. generated_symbol key (from + 2 * n)) (range_with_len 0 16) → symbols ≡ elements_from p e
sixteen_are p seed key e from symbols seeded keyed start are =
    let at : ℕ → ℕ = λ n. generated_symbol key (from + 2 * n) in
    fill_by_all (λ n. element_at p.seed p.u p.v (e + n)) symbols 16 0 (ap length are ∙ length-map-range_with_len (λ n. generated_symbol key (from + 2 * n)) 0 16)
    (λ k lt. ap (λ (xs : List ℕ). get_or xs k 0) are ∙ get_or-map-range_with_len (λ n. generated_symbol key (from + 2 * n)) 0 16 k k 0 lt (omega arith)
    ∙ ap (λ (x : List ℕ). generated_symbol x (from + 2 * k)) (keyed ∙ ap key_of seeded) ∙ symbol_is_element p.seed p.u p.v from k (e + k) (omega arith))

-- piece j of the pair at a place
piece_there : (pairs : List SeedPair) (words p j : ℕ) → j < 2 * words → piece_of pairs words (2 * words * p + j) ≡ elements_from (get_or pairs p no_seed) (16 * j)
piece_there pairs words p j lt =
    let turned : 2 * words * p + j ≡ p * (2 * words) + j = omega arith in
    let place : (2 * words * p + j) / (2 * words) ≡ p = ap (λ (i : ℕ). i / (2 * words)) turned ∙ div-mul-add p (2 * words) j lt in
    let rest : (2 * words * p + j) % (2 * words) ≡ j = ap (λ (i : ℕ). i % (2 * words)) turned ∙ mod-mul-add p (2 * words) j lt in
    λ i. elements_from (get_or pairs (place i) no_seed) (16 * rest i)

-- the pieces of the pair at a place
pub pieces_there : (pairs : List SeedPair) (words p : ℕ) → p < length pairs
    → take (2 * words) (drop (2 * words * p) (map (piece_of pairs words) (range_with_len 0 (length pairs * (2 * words))))) ≡ pieces_of words (get_or pairs p no_seed)
pieces_there pairs words p lt =
    let all : List (List ℕ) = map (piece_of pairs words) (range_with_len 0 (length pairs * (2 * words))) in
    let long = length-map-range_with_len (piece_of pairs words) 0 (length pairs * (2 * words)) in
    let more : (p + 1) * (2 * words) ≤ length pairs * (2 * words) = mul-le-mul_right (2 * words) (omega arith) in
    let next : (p + 1) * (2 * words) ≡ 2 * words * p + 2 * words = omega arith in
    fill_by_all (λ j. elements_from (get_or pairs p no_seed) (16 * j)) (take (2 * words) (drop (2 * words * p) (map (piece_of pairs words) (range_with_len 0 (length pairs * (2 * words))))))
    (2 * words) []
    (omega (
      arith,
      length-take (2 * words) (drop (2 * words * p) (map (piece_of pairs words) (range_with_len 0 (length pairs * (2 * words))))),
      length-drop (2 * words * p) (map
          (piece_of pairs words) (range_with_len 0 (length pairs * (2 * words)))),
    ))
    (λ j below.
    get_or-take (2 * words) (drop (2 * words * p) (map (piece_of pairs words) (range_with_len 0 (length pairs * (2 * words))))) j [] below
    ∙ get_or-drop (2 * words * p) (map (piece_of pairs words) (range_with_len 0 (length pairs * (2 * words)))) j []
    ∙ get_or-map-range_with_len (piece_of pairs words) 0 (length pairs * (2 * words)) (2 * words * p + j) (2 * words * p + j) [] (omega arith) (omega arith)
    ∙ piece_there pairs words p j below)

-- there are enough of them
pub pieces_enough : (pairs : List SeedPair) (words p : ℕ) (pieces : List (List ℕ)) → p < length pairs → pieces ≡ map (piece_of pairs words) (range_with_len 0 (length pairs * (2 * words)))
    → 2 * words * p + 2 * words ≤ length pieces
pieces_enough pairs words p pieces lt are =
    let long = ap length are ∙ length-map-range_with_len (piece_of pairs words) 0 (length pairs * (2 * words)) in
    let more : (p + 1) * (2 * words) ≤ length pairs * (2 * words) = mul-le-mul_right (2 * words) (omega arith) in
    let next : (p + 1) * (2 * words) ≡ 2 * words * p + 2 * words = omega arith in
    omega arith

-- ---- a pair

-- so many pieces
pub length-pieces : (p : SeedPair) (words : ℕ) (pieces : List (List ℕ)) → pieces ≡ pieces_of words p → length pieces ≡ 2 * words
length-pieces p words pieces are = ap length are ∙ length-map-range_with_len (λ j. elements_from p (16 * j)) 0 (2 * words)

-- the first half of the pieces of a pair are its first pads
pub first_half : (p : SeedPair) (words n : ℕ) (pieces front : List (List ℕ)) (symbols : List ℕ) → pieces ≡ pieces_of words p → front ≡ take n pieces → n ≡ words → symbols ≡ flat_map (λ w. w) front
    → symbols ≡ (expanded_pair (16 * words) p).a
first_half p words n pieces front symbols are taken same put =
    put ∙ ap (flat_map (λ w. w)) (taken ∙ (λ i. take (same i) (are i)) ∙ take-map-range_with_len (λ j. elements_from p (16 * j)) 0 (2 * words) words (omega arith))
    ∙ in_sixteens (element_at p.seed p.u p.v) words 0

-- the second half are its second pads, but for the first of them
second_elements : (p : SeedPair) (words n : ℕ) (pieces back : List (List ℕ)) (symbols : List ℕ) → pieces ≡ pieces_of words p → back ≡ drop n pieces → n ≡ words → symbols ≡ flat_map (λ w. w) back
    → symbols ≡ map (λ n. element_at p.seed p.u p.v (16 * words + n)) (range_with_len 0 (16 * words))
second_elements p words n pieces back symbols are dropped same put =
    let halves : 2 * words ≡ words + words = omega arith in
    let from : 16 * (0 + words) ≡ 16 * words + 0 = omega arith in
    let pieces' : pieces ≡ map (λ j. elements_from p (16 * j)) (range_with_len 0 (words + words)) = are ∙ ap (λ (n : ℕ). map (λ j. elements_from p (16 * j)) (range_with_len 0 n)) halves in
    put ∙ ap (flat_map (λ w. w)) (dropped ∙ (λ i. drop (same i) (pieces' i)) ∙ drop-map-range (λ j. elements_from p (16 * j)) words words 0)
    ∙ in_sixteens (element_at p.seed p.u p.v) words (0 + words)
    ∙ ap (λ (n : ℕ). map (element_at p.seed p.u p.v) (range_with_len n (16 * words))) from
    ∙ sym (shifted (element_at p.seed p.u p.v) (16 * words) (16 * words) 0)

pub length-second : (p : SeedPair) (words n : ℕ) (pieces back : List (List ℕ)) (symbols : List ℕ) → pieces ≡ pieces_of words p → back ≡ drop n pieces → n ≡ words → symbols ≡ flat_map (λ w. w) back
    → length symbols ≡ 16 * words
length-second p words n pieces back symbols are dropped same put =
    ap length (second_elements p words n pieces back symbols are dropped same put) ∙ length-map-range_with_len (λ n. element_at p.seed p.u p.v (16 * words + n)) 0 (16 * words)

pub second_half : (p : SeedPair) (words n : ℕ) (pieces back : List (List ℕ)) (symbols : List ℕ) → 1 ≤ words → pieces ≡ pieces_of words p → back ≡ drop n pieces → n ≡ words
    → symbols ≡ flat_map (λ w. w) back
    → set symbols 0 0 ≡ (expanded_pair (16 * words) p).b
second_half p words n pieces back symbols some are dropped same put =
    ap (λ (xs : List ℕ). set xs 0 0) (second_elements p words n pieces back symbols are dropped same put) ∙ first_set (λ n. element_at p.seed p.u p.v (16 * words + n)) (16 * words) (omega arith)

-- ---- a key file

-- numbers and pairs as keys
abbrev pub the_keys : ℕ → ℕ → List Pair → Keys
the_keys stations words ps = record { stations = stations; words = words; pairs = ps }

-- pairs of pads with the numbers of the seeds
pub expanded_parts : (f : Seeds) (seeded : List SeedPair) (ps : List Pair) → seeded ≡ f.pairs → ps ≡ map (expanded_pair (16 * f.words)) seeded → the_keys f.stations f.words ps ≡ expanded_keys f
expanded_parts f seeded ps same are = ap (the_keys f.stations f.words) (are ∙ ap (map (expanded_pair (16 * f.words))) same)

pub IsKeys-expanded_keys : (f : Seeds) → IsSeeds f → IsKeys (expanded_keys f)
IsKeys-expanded_keys f is =
    let pair : SeedPair → Pair = expanded_pair (16 * f.words) in
    let count : length (map pair f.pairs) ≡ length f.pairs = length-map f.pairs pair in
    record {
      some_stations = is.some_stations;
      most_stations = is.most_stations;
      some_words = is.some_words;
      most_words = is.most_words;
      most_symbols = rw count is.most_symbols;
      are_pairs = All-map (IsPair f.stations f.words) pair f.pairs (λ i d lt. let seeded = is.are_pairs i d lt in IsPair-generated_pair _ f.stations f.words _ is.some_words
          (record { ends = seeded.ends; within = seeded.within }));
      rising = ends_rise (λ p. (p.u, p.v)) (map pair f.pairs) (λ i d lt.
          let here = get_or-map pair f.pairs i no_seed d (omega (arith, count)) in
          let next = get_or-map pair f.pairs (i + 1) no_seed d (omega (arith, count)) in
          rw (here, next) (ends_rise_at (λ p. (p.u, p.v)) f.pairs is.rising i no_seed (omega (arith, count))));
    }

same_pairs : (base : List ℕ) (symbols : ℕ) (edges : List (ℕ × ℕ)) → map (expanded_pair symbols) (map (seeded base) edges) ≡ map (generated_pair base symbols) edges
same_pairs base symbols [] = refl
same_pairs base symbols (e ∷ edges) = ap (λ (ps : List Pair). generated_pair base symbols e ∷ ps) (same_pairs base symbols edges)

-- where all pairs have one seed, the expansion is what the generator gives
pub one_seed : (base : List ℕ) (g : PlainGraph) (words : ℕ) (f : Seeds) → f ≡ seeds_of base g words → expanded_keys f ≡ generated_keys base g words
one_seed base g words f is =
    ap expanded_keys is ∙ ap (λ (ps : List Pair). record { stations = g.stations; words = words; pairs = ps }) (same_pairs base (16 * words) g.edges)

pub IsSeeds-seeds_of : (base : List ℕ) (g : PlainGraph) (words : ℕ) → length base ≡ 32 → AreBytes base → IsGraph g → 1 ≤ words → words ≤ 4096 → length g.edges * (32 * words) ≤ 2 ^ 26
    → IsSeeds (seeds_of base g words)
IsSeeds-seeds_of base g words long bytes is some most fits =
    let count : length (map (seeded base) g.edges) ≡ length g.edges = length-map g.edges (seeded base) in
    record {
      some_stations = is.some_stations;
      most_stations = is.most_stations;
      some_words = some;
      most_words = most;
      most_symbols = rw count fits;
      are_pairs = All-map (IsSeedPair g.stations) (seeded base) g.edges
          (λ i d lt. let edge = is.are_edges i d lt in record { ends = edge.ends; within = edge.within; seed_length = long; seed_bytes = bytes });
      rising = ends_rise (λ p. (p.u, p.v)) (map (seeded base) g.edges) (λ i d lt.
          let here = get_or-map (seeded base) g.edges i (0, 0) d (omega (arith, count)) in
          let next = get_or-map (seeded base) g.edges (i + 1) (0, 0) d (omega (arith, count)) in
          let before = is.rising i (0, 0) (omega (arith, count)) in
          rw (here, next) (record { lesser = before.lesser; greater = before.greater }));
    }
