-- Generated pads put as bytes, one after another.
use Rattle.std.proofs.Common.{◌≡◌, ℕ, zero, suc, ◌+◌, ◌-◌, ◌*◌, ◌<◌, List, [], ◌∷◌, ◌++◌, length, set, take, map, Some, refl, sym, ap, ◌∙◌, append_assoc, arith}
use Rattle.std.specs.Prelude.{slice_get}
use Rattle.std.specs.List.{range_with_len, flat_map}
use Rattle.std.specs.Int.{w16, w32, to_be_bytes}
use Rattle.std.proofs.lemmas.List.{append-nil, length-map}
use Rattle.std.proofs.lemmas.List.Concat.{flat_map-append}
use Rattle.std.proofs.lemmas.List.FromFn.{length-map-range_with_len, get_or-map-range_with_len, fill_by_all}
use Rattle.rand_chacha.specs.ChaCha.{ChaCha, of_seed}
use Rattle.dc_spec.specs.Bytes.{symbol_bytes}
use Rattle.dc_spec.specs.Pads.{Pair}
use Rattle.dc_formats.specs.KeyFile.{pair_bytes, keys_bytes}
use Rattle.dc_graph.specs.Graph.{PlainGraph}
use Rattle.dc_keyfile.specs.Head.{head_bytes}
use Rattle.dc_keyfile.specs.Generator.{pair_seed, generated_symbol, generated_pair, generated_keys}
use Rattle.dc_keyfile.proofs.Generated.{one_symbol_more, pair_walked, one_pair_more}
use Rattle.dc_keyfile.proofs.Putting.{both_put, four_put}

-- the spelling of a list with one item more
item_put : {X : Type 0} (f : X → List ℕ) (xs more : List X) (x : X) (old now next : List ℕ) → xs ++ x ∷ [] ≡ more → now ≡ old ++ flat_map f xs → next ≡ now ++ f x
    → next ≡ old ++ flat_map f more
item_put f xs more x old now next pushed so_far put =
    let spelled : flat_map f xs ++ f x ≡ flat_map f more = sym (flat_map-append f xs (x ∷ []) ∙ ap (λ (ys : List ℕ). flat_map f xs ++ ys) (append-nil (f x))) ∙ ap (flat_map f) pushed in
    put ∙ ap (λ (ys : List ℕ). ys ++ f x) so_far ∙ append_assoc old (flat_map f xs) (f x) ∙ ap (λ (ys : List ℕ). old ++ ys) spelled

-- one symbol of a stream more
pub one_symbol_put : (start here : ChaCha) (n x : ℕ) (old now next : List ℕ) → here ≡ record start { word_pos = start.word_pos + 2 * n } → x ≡ generated_symbol here.key here.word_pos
    → now ≡ old ++ flat_map symbol_bytes (map (λ k. generated_symbol start.key (start.word_pos + 2 * k)) (range_with_len 0 n)) → next ≡ now ++ to_be_bytes w32 x
    → next ≡ old ++ flat_map symbol_bytes (map (λ k. generated_symbol start.key (start.word_pos + 2 * k)) (range_with_len 0 (n + 1)))
one_symbol_put start here n x old now next stands is so_far put =
    item_put symbol_bytes _ _ x old now next (one_symbol_more start here n x _ _ stands refl is refl) so_far put

-- the pair of one edge more
pub one_edge_put : (f : ℕ × ℕ → Pair) (edges : List (ℕ × ℕ)) (i : ℕ) (e : ℕ × ℕ) (old now next : List ℕ) → i < length edges → slice_get edges i ≡ Some e
    → now ≡ old ++ flat_map pair_bytes (map f (take i edges)) → next ≡ now ++ pair_bytes (f e) → next ≡ old ++ flat_map pair_bytes (map f (take (i + 1) edges))
one_edge_put f edges i e old now next lt there so_far put =
    item_put pair_bytes _ _ (f e) old now next (one_pair_more f edges i e _ _ (f e) lt there refl refl refl) so_far put

-- where the first of so many symbols is passed over and 0 put for it
one_passed_over : (start next : ChaCha) (n : ℕ) → next ≡ record start { word_pos = start.word_pos + 2 }
    → set (map (λ k. generated_symbol start.key (start.word_pos + 2 * k)) (range_with_len 0 (suc n))) 0 0 ≡ 0 ∷ map (λ k. generated_symbol next.key (next.word_pos + 2 * k)) (range_with_len 0 n)
one_passed_over start next n moved =
    let at : ℕ → ℕ = λ k. generated_symbol start.key (start.word_pos + 2 * k) in
    let on : ℕ → ℕ = λ k. generated_symbol next.key (next.word_pos + 2 * k) in
    ap (λ (xs : List ℕ). 0 ∷ xs) (fill_by_all on (map at (range_with_len 1 n)) n 0 (length-map-range_with_len at 1 n) (λ k lt.
    let place : start.word_pos + 2 * (1 + k) ≡ start.word_pos + 2 + 2 * k = omega arith in
    get_or-map-range_with_len at 1 n k (1 + k) 0 lt refl ∙ ap (generated_symbol start.key) place ∙ sym (ap (λ (g : ChaCha). generated_symbol g.key (g.word_pos + 2 * k)) moved)))

-- the pads of an edge along its stream
pub one_pair_put : (base seed : List ℕ) (e : ℕ × ℕ) (count : ℕ) (start next after : ChaCha) (old one two three four end : List ℕ) → 0 < count → seed ≡ pair_seed base e.0 e.1 → start ≡ of_seed seed
    → next ≡ record start { word_pos = start.word_pos + 2 * count } → after ≡ record next { word_pos = next.word_pos + 2 } → one ≡ old ++ to_be_bytes w16 e.0 → two ≡ one ++ to_be_bytes w16 e.1
    → three ≡ two ++ flat_map symbol_bytes (map (λ n. generated_symbol start.key (start.word_pos + 2 * n)) (range_with_len 0 count)) → four ≡ three ++ symbol_bytes 0
    → end ≡ four ++ flat_map symbol_bytes (map (λ n. generated_symbol after.key (after.word_pos + 2 * n)) (range_with_len 0 (count - 1))) → end ≡ old ++ pair_bytes (generated_pair base count e)
one_pair_put base seed e zero start next after old one two three four end some seeded begun moved passed first second third fourth last = absurd (omega (arith, some))
one_pair_put base seed e (suc n) start next after old one two three four end some seeded begun moved passed first second third fourth last =
    let symbols : List ℕ = map (λ k. generated_symbol next.key (next.word_pos + 2 * k)) (range_with_len 0 (suc n)) in
    let rest : ℕ → List ℕ = λ m. flat_map symbol_bytes (map (λ k. generated_symbol after.key (after.word_pos + 2 * k)) (range_with_len 0 m)) in
    let one_less : suc n - 1 ≡ n = omega arith in
    let spelled : end ≡ three ++ flat_map symbol_bytes (set symbols 0 0) =
    both_put three four end (symbol_bytes 0) (rest n) fourth (last ∙ ap (λ (m : ℕ). four ++ rest m) one_less) ∙ ap (λ (xs : List ℕ). three ++ flat_map symbol_bytes xs) (sym (one_passed_over next after n passed)) in
    four_put old one two three end _ _ _ _ first second third spelled
    ∙ ap (λ (p : Pair). old ++ pair_bytes p) (pair_walked base seed e (suc n) start next _ symbols _ seeded begun refl moved refl refl)

-- the head and the pairs are the file
pub file_put : (base : List ℕ) (g : PlainGraph) (words stations count : ℕ) (none head end file : List ℕ) → stations ≡ g.stations → count ≡ length g.edges → none ≡ [] → head ≡ none ++ head_bytes 1 stations words count
    → end ≡ head ++ flat_map pair_bytes (map (generated_pair base (16 * words)) g.edges) → file ≡ end → file ≡ keys_bytes (generated_keys base g words)
file_put base g words stations count none head end file same all empty first rest made =
    let pairs : List Pair = map (generated_pair base (16 * words)) g.edges in
    let many : count ≡ length pairs = all ∙ sym (length-map g.edges (generated_pair base (16 * words))) in
    let begun : head ≡ head_bytes 1 g.stations words (length pairs) = first ∙ (λ i. empty i ++ head_bytes 1 (same i) words (many i)) in
    made ∙ rest ∙ ap (λ (xs : List ℕ). xs ++ flat_map pair_bytes pairs) begun
