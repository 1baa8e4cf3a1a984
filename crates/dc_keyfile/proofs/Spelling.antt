-- What is read of a key file of version 1 is spelled so.
use Rattle.std.specs.Prelude.{IfOk}
use Rattle.std.proofs.Common.{◌≡◌, ℕ, Bool, true, false, cond, ◌+◌, ◌*◌, ◌≤◌, List, ◌++◌, length, get_or, take, drop, Result, Ok, Err, refl, sym, ap, subst, ◌∙◌, arith}
use Rattle.std.specs.List.{range_with_len, flat_map}
use Rattle.std.specs.Int.{w16, to_be_bytes}
use Rattle.std.proofs.Math.Seq.{take-add}
use Rattle.std.proofs.lemmas.List.{take_all, take-append-drop, drop-drop, length-drop}
use Rattle.std.proofs.lemmas.List.Folds.{flat_map-map}
use Rattle.dc_spec.specs.Bytes.{symbol_bytes, number_at}
use Rattle.dc_spec.specs.Pads.{Pair, Keys, Seeds}
use Rattle.dc_spec.proofs.ByteLemmas.{IsBytes, IsBytes-piece, number_spelled, short_spelled, pieces}
use Rattle.dc_formats.specs.KeyFile.{IsKeys, pair_bytes, keys_bytes}
use Rattle.dc_field.specs.declared.refusal.Refusal.{Refusal}
use Rattle.dc_field.specs.Answers.{Answers}
use Rattle.dc_keyfile.proofs.Expanded.{IsKeys-expanded_keys}
use Rattle.dc_keyfile.specs.declared.head.Head.{Head}
use Rattle.dc_keyfile.specs.declared.fault.KeyFault.{KeyFault}
use Rattle.dc_keyfile.specs.Head.{IsHead, head_from_bytes, head_bytes, due_length, piece_at, body_of}
use Rattle.dc_keyfile.specs.Reading.{pair_size, numbers_at, pair_of, with_pairs, keys_after_head, pads_from_bytes, expanded, is_of_seeds, keys_from_bytes, IsSpelled, as_pads, as_seeds}
use Rattle.dc_keyfile.specs.Generator.{expanded_keys}
use Rattle.dc_keyfile.specs.SeedReading.{seeds_from_bytes}
use Rattle.dc_keyfile.proofs.SeedSpelling.{seeds_read}
use Rattle.dc_keyfile.proofs.HeadFound.{four, head_found, body_found, length_of_piece, pairs_spelled, file_spelled, after_well}
use Rattle.dc_keyfile.proofs.PairsRead.{IsPadded, each_found, IsKeys-from_body}

-- ---- a pair that was read

-- so many numbers of a pair
numbers_spelled : (piece : List ℕ) (index count : ℕ) → IsBytes piece → 4 + 4 * (index + count) ≤ length piece
    → flat_map symbol_bytes (numbers_at piece index count) ≡ take (4 * count) (drop (4 + 4 * index) piece)
numbers_spelled piece index count fits long =
    let here : 4 + 4 * index + 4 * 0 ≡ 4 + 4 * index = omega arith in
    let there : (i : ℕ) → 4 + 4 * (index + i) ≡ 4 + 4 * index + 4 * i = λ i. omega arith in
    flat_map-map symbol_bytes (λ n. number_at piece (4 + 4 * (index + n))) (range_with_len 0 count)
    ∙ pieces piece (λ n. symbol_bytes (number_at piece (4 + 4 * (index + n)))) 4 (4 + 4 * index) count 0
    (λ i lt. number_spelled piece (4 + 4 * (index + i)) fits (omega arith) ∙ ap (λ (k : ℕ). take 4 (drop k piece)) (there i))
    ∙ ap (λ (k : ℕ). take (4 * count) (drop k piece)) here

-- the four parts of a pair
parts_of : (piece : List ℕ) (count : ℕ) → length piece ≡ 4 + 8 * count
    → take 2 (drop 0 piece) ++ (take 2 (drop 2 piece) ++ (take (4 * count) (drop (4 + 4 * 0) piece) ++ take (4 * count) (drop (4 + 4 * count) piece))) ≡ piece
parts_of piece count long =
    let pads : take (4 * count) (drop 4 piece) ++ take (4 * count) (drop (4 + 4 * count) piece) ≡ drop 4 piece
    = ap (λ (xs : List ℕ). take (4 * count) (drop 4 piece) ++ take (4 * count) xs) (sym (drop-drop (4 * count) 4 piece)) ∙ sym (take-add (4 * count) (4 * count) (drop 4 piece))
    ∙ take_all (4 * count + 4 * count) (drop 4 piece) (omega (arith, length-drop 4 piece)) in
    let after : take 2 (drop 2 piece) ++ drop 4 piece ≡ drop 2 piece = ap (λ (xs : List ℕ). take 2 (drop 2 piece) ++ xs) (sym (drop-drop 2 2 piece)) ∙ take-append-drop 2 (drop 2 piece) in
    ap (λ (xs : List ℕ). take 2 piece ++ (take 2 (drop 2 piece) ++ xs)) pads ∙ ap (λ (xs : List ℕ). take 2 piece ++ xs) after ∙ take-append-drop 2 piece

pair_spelled : (piece : List ℕ) (words : ℕ) (pair : Pair) → IsBytes piece → length piece ≡ pair_size words → IsPadded piece words pair → pair_bytes pair ≡ piece
pair_spelled piece words pair fits long is =
    let count : ℕ = 16 * words in
    four _ _ _ _ _ _ _ _
    (ap (to_be_bytes w16) is.lesser ∙ short_spelled piece 0 fits (omega arith))
    (ap (to_be_bytes w16) is.greater ∙ short_spelled piece 2 fits (omega arith))
    (ap (flat_map symbol_bytes) is.first ∙ numbers_spelled piece 0 (16 * words) fits (omega arith))
    (ap (flat_map symbol_bytes) is.second ∙ numbers_spelled piece (16 * words) (16 * words) fits (omega arith))
    ∙ parts_of piece (16 * words) (omega arith)

-- ---- a file that was read

with_pairs_well : (h : Head) (r : Result (List Pair) KeyFault) (k : Keys) → with_pairs h r ≡ Ok k → (r ≡ Ok k.pairs) × (h.stations ≡ k.stations) × (h.words ≡ k.words)
with_pairs_well h (Err fault) k e = absurd cc
with_pairs_well h (Ok ps) k e =
    let made : Keys = record { stations = h.stations; words = h.words; pairs = ps } in
    let is : made ≡ k = cc e in
    (ap (λ (j : Keys). Ok j.pairs) is, ap (λ (j : Keys). j.stations) is, ap (λ (j : Keys). j.words) is)

body_read : (b : List ℕ) (h : Head) (k : Keys) → IsBytes b → IsHead h → head_bytes 1 h.stations h.words h.count ≡ take 12 b → keys_after_head b h ≡ Ok k → IsKeys k × (b ≡ keys_bytes k)
unfolding keys_after_head
body_read b h k fits is front e =
    let made = with_pairs_well h (body_of b (pair_size h.words) h.count (pair_of b h.stations h.words)) k e in
    let body = body_found b (pair_size h.words) h.count (pair_of b h.stations h.words) k.pairs made.0 in
    let each = each_found b h.stations h.words h.count k.pairs body.1 in
    let spelled : flat_map pair_bytes k.pairs ≡ drop 12 b = pairs_spelled pair_bytes b (pair_size h.words) h.count k.pairs body.0 each.0 (λ i d lt.
    pair_spelled (piece_at b (pair_size h.words) i) h.words (get_or k.pairs i d) (IsBytes-piece (pair_size h.words) (due_length (pair_size h.words) i) b fits) (length_of_piece b
    (pair_size h.words) h.count i body.0 lt) (each.1 i d lt).made) in
    let the_keys : Keys = record { stations = h.stations; words = h.words; pairs = k.pairs } in
    let same : the_keys ≡ k = λ i. record { stations = made.1 i; words = made.2 i; pairs = k.pairs } in
    let head : head_bytes 1 k.stations k.words (length k.pairs) ≡ take 12 b = rw (← made.1, ← made.2, each.0) front in
    (subst IsKeys same (IsKeys-from_body b h k.pairs is made.0), file_spelled pair_bytes b (head_bytes 1 k.stations k.words (length k.pairs)) k.pairs head spelled)

-- what is read as version 1 is spelled so
pub pads_read : (b : List ℕ) (k : Keys) → IsBytes b → pads_from_bytes b ≡ Ok k → IsKeys k × (b ≡ keys_bytes k)
unfolding pads_from_bytes
pads_read b k fits e =
    let after = after_well (keys_after_head b) (head_from_bytes 1 b) k e in
    let head = head_found 1 b after.0 fits after.1 in
    body_read b after.0 k fits head.0 head.1 after.2

-- ---- a file of either version

-- whichever of two was read
either_well : {X F : Type 0} (c : Bool) (r s : Result X F) (x : X) → cond c r s ≡ Ok x → (P : Type 0) → (r ≡ Ok x → P) → (s ≡ Ok x → P) → P
either_well true r s x e P first second = first e
either_well false r s x e P first second = second e

-- the seeds that were read where their expansion is
expanded_well : (r : Result Seeds KeyFault) (k : Keys) → expanded r ≡ Ok k → (s : Seeds) × (r ≡ Ok s) × (k ≡ expanded_keys s)
expanded_well (Err fault) k e = absurd cc
expanded_well (Ok s) k e = (s, refl, cc e)

-- what is read is spelled so, or is the expansion of what is spelled so
keys_read : (b : List ℕ) (k : Keys) → IsBytes b → keys_from_bytes b ≡ Ok k → IsKeys k × IsSpelled b k
unfolding keys_from_bytes
keys_read b k fits e =
    either_well (is_of_seeds b) (expanded (seeds_from_bytes b)) (pads_from_bytes b) k e (IsKeys k × IsSpelled b k)
    (λ read. let found = expanded_well (seeds_from_bytes b) k read in
    let spelled = seeds_read b found.0 fits found.1 in
    (rw found.2 (IsKeys-expanded_keys found.0 spelled.0), as_seeds found.0 spelled.0 spelled.1 found.2))
    (λ read. let spelled = pads_read b k fits read in (spelled.0, as_pads spelled.1))

pub keys_found : (b : List ℕ) (result : Result Keys (Refusal KeyFault)) → IsBytes b → Answers result (keys_from_bytes b) → IfOk result (λ k. IsKeys k × IsSpelled b k)
keys_found b (Ok k) fits given = keys_read b k fits given
keys_found b (Err refusal) fits given = tt
