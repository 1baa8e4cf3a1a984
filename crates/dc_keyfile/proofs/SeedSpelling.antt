-- What is read of a key file of seeds is spelled so, and what is spelled so is read.
use Rattle.std.proofs.Common.{◌≡◌, ℕ, ◌+◌, ◌<◌, ◌≤◌, List, [], ◌++◌, length, get_or, take, drop, None, Result, Ok, Err, refl, sym, ap, subst, ◌∙◌, arith, append_assoc}
use Rattle.std.specs.Prelude.{IfOk}
use Rattle.std.specs.List.{flat_map}
use Rattle.std.proofs.lemmas.List.{take-append-drop, drop-drop, length-drop, get_or-drop}
use Rattle.std.proofs.lemmas.List.Elements.{All-from_get_or}
use Rattle.dc_spec.specs.Bytes.{short_at}
use Rattle.dc_spec.specs.Pads.{SeedPair, Seeds}
use Rattle.dc_spec.proofs.ByteLemmas.{IsBytes, IsBytes-piece, short_spelled, short_again}
use Rattle.dc_field.specs.declared.refusal.Refusal.{Refusal}
use Rattle.dc_field.specs.Answers.{Answers}
use Rattle.dc_formats.specs.SeedFile.{IsSeedPair, IsSeeds, seed_pair_bytes, seeds_bytes}
use Rattle.dc_formats.proofs.BinaryLaws.{few_seeds}
use Rattle.dc_keyfile.specs.declared.head.Head.{Head}
use Rattle.dc_keyfile.specs.declared.fault.KeyFault.{KeyFault}
use Rattle.dc_keyfile.specs.Head.{IsHead, head_from_bytes, head_bytes, after_head, due_length, piece_at, ends_of, ends_fault, body_of}
use Rattle.dc_keyfile.specs.SeedReading.{seed_pair_in, seed_pair_of, with_seeds, seeds_after_head, seeds_from_bytes}
use Rattle.dc_keyfile.proofs.AllRead.{each_read, each_again}
use Rattle.dc_keyfile.proofs.HeadFound.{AreRead, head_found, after_well, body_found, length_of_piece, pairs_spelled, file_spelled, unless_found, ends_found, rising_found}
use Rattle.dc_keyfile.proofs.HeadAgain.{head_again, whole_again, piece_again, body_again, ends_again}

-- ---- a pair that was read

in_three : (b : List ℕ) → take 2 b ++ take 2 (drop 2 b) ++ drop 4 b ≡ b
in_three b =
    append_assoc (take 2 b) (take 2 (drop 2 b)) (drop 4 b)
    ∙ ap (λ (xs : List ℕ). take 2 b ++ xs) (ap (λ (xs : List ℕ). take 2 (drop 2 b) ++ xs) (sym (drop-drop 2 2 b)) ∙ take-append-drop 2 (drop 2 b))
    ∙ take-append-drop 2 b

three : (a b c x y : List ℕ) → a ≡ x → b ≡ y → a ++ b ++ c ≡ x ++ y ++ c
three a b c x y p q = rw (p, q) refl

pair_spelled : (piece : List ℕ) → IsBytes piece → length piece ≡ 36 → seed_pair_bytes (seed_pair_in piece) ≡ piece
pair_spelled piece fits long = three _ _ (drop 4 piece) _ _ (short_spelled piece 0 fits (omega arith)) (short_spelled piece 2 fits (omega arith)) ∙ in_three piece

-- a pair that was read, at its place
record IsRead (b : List ℕ) (stations p : ℕ) (pair : SeedPair) : Type 0 where
  pub ends : AreRead b stations 36 p
  pub made : pair ≡ seed_pair_in (piece_at b 36 p)

pair_found : (b : List ℕ) (stations p : ℕ) (pair : SeedPair) → seed_pair_of b stations p ≡ Ok pair → IsRead b stations p pair
unfolding seed_pair_of
pair_found b stations p pair given =
    let parts = unless_found (ends_fault b stations 36 p) _ pair given in
    record { ends = ends_found b stations 36 p parts.0; made = cc parts.1 }

IsSeedPair-from_read : (b : List ℕ) (stations p : ℕ) (pair : SeedPair) → IsBytes b → length (piece_at b 36 p) ≡ 36 → IsRead b stations p pair → IsSeedPair stations pair
IsSeedPair-from_read b stations p pair fits long is =
    let bytes : IsBytes (piece_at b 36 p) = IsBytes-piece 36 (due_length 36 p) b fits in
    let seed : IsBytes (drop 4 (piece_at b 36 p)) = λ i. rw (get_or-drop 4 (piece_at b 36 p) i 0) (bytes (4 + i)) in
    let made : IsSeedPair stations (seed_pair_in (piece_at b 36 p)) = record {
      ends = is.ends.ends;
      within = is.ends.within;
      seed_length = omega (arith, length-drop 4 (piece_at b 36 p), long);
      seed_bytes = All-from_get_or (λ x. x < 256) (drop 4 (piece_at b 36 p)) 0 (λ i lt. seed i);
    } in
    rw is.made made

-- ---- a file that was read

with_seeds_well : (h : Head) (r : Result (List SeedPair) KeyFault) (s : Seeds) → with_seeds h r ≡ Ok s → (r ≡ Ok s.pairs) × (h.stations ≡ s.stations) × (h.words ≡ s.words)
with_seeds_well h (Err fault) s e = absurd cc
with_seeds_well h (Ok ps) s e =
    let made : Seeds = record { stations = h.stations; words = h.words; pairs = ps } in
    let is : made ≡ s = cc e in
    (ap (λ (j : Seeds). Ok j.pairs) is, ap (λ (j : Seeds). j.stations) is, ap (λ (j : Seeds). j.words) is)

IsSeeds-from_pairs : (b : List ℕ) (h : Head) (ps : List SeedPair) → IsBytes b → IsHead h → length b ≡ due_length 36 h.count → (length ps ≡ h.count)
    → ((k : ℕ) (d : SeedPair) → k < h.count → IsRead b h.stations k (get_or ps k d)) → IsSeeds (record { stations = h.stations; words = h.words; pairs = ps })
IsSeeds-from_pairs b h ps fits is whole long each = record {
  some_stations = is.some_stations;
  most_stations = is.most_stations;
  some_words = is.some_words;
  most_words = is.most_words;
  most_symbols = rw long is.most_symbols;
  are_pairs = λ k d lt. IsSeedPair-from_read b h.stations k _ fits (length_of_piece b 36 h.count k whole (omega (arith, long))) (each k d (omega (arith, long)));
  rising = rising_found (λ p. (p.u, p.v)) b 36 h.count ps long
      (λ k d lt. let made = (each k d lt).made in ap (λ (p : SeedPair). (p.u, p.v)) made)
      (λ k lt. (each k (record { u = 0; v = 0; seed = [] }) lt).ends.rising);
}

pub IsSeeds-from_body : (b : List ℕ) (h : Head) (ps : List SeedPair) → IsBytes b → IsHead h → body_of b 36 h.count (seed_pair_of b h.stations) ≡ Ok ps
    → IsSeeds (record { stations = h.stations; words = h.words; pairs = ps })
IsSeeds-from_body b h ps fits is read =
    let body = body_found b 36 h.count (seed_pair_of b h.stations) ps read in
    let each = each_read (seed_pair_of b h.stations) h.count ps body.1 in
    IsSeeds-from_pairs b h ps fits is body.0 each.0 (λ k d lt. pair_found b h.stations k (get_or ps k d) (each.1 k d lt))

body_read : (b : List ℕ) (h : Head) (s : Seeds) → IsBytes b → IsHead h → head_bytes 2 h.stations h.words h.count ≡ take 12 b → seeds_after_head b h ≡ Ok s → IsSeeds s × (b ≡ seeds_bytes s)
unfolding seeds_after_head
body_read b h s fits is front e =
    let made = with_seeds_well h (body_of b 36 h.count (seed_pair_of b h.stations)) s e in
    let body = body_found b 36 h.count (seed_pair_of b h.stations) s.pairs made.0 in
    let each = each_read (seed_pair_of b h.stations) h.count s.pairs body.1 in
    let found : (k : ℕ) (d : SeedPair) → k < h.count → IsRead b h.stations k (get_or s.pairs k d) = λ k d lt. pair_found b h.stations k (get_or s.pairs k d) (each.1 k d lt) in
    let spelled : flat_map seed_pair_bytes s.pairs ≡ drop 12 b = pairs_spelled seed_pair_bytes b 36 h.count s.pairs body.0 each.0 (λ i d lt.
    ap seed_pair_bytes (found i d lt).made ∙ pair_spelled (piece_at b 36 i) (IsBytes-piece 36 (due_length 36 i) b fits) (length_of_piece b 36 h.count i body.0 lt)) in
    let the_seeds : Seeds = record { stations = h.stations; words = h.words; pairs = s.pairs } in
    let same : the_seeds ≡ s = λ i. record { stations = made.1 i; words = made.2 i; pairs = s.pairs } in
    let head : head_bytes 2 s.stations s.words (length s.pairs) ≡ take 12 b = rw (← made.1, ← made.2, each.0) front in
    (subst IsSeeds same (IsSeeds-from_body b h s.pairs fits is made.0), file_spelled seed_pair_bytes b (head_bytes 2 s.stations s.words (length s.pairs)) s.pairs head spelled)

-- what is read as version 2 is spelled so
pub seeds_read : (b : List ℕ) (s : Seeds) → IsBytes b → seeds_from_bytes b ≡ Ok s → IsSeeds s × (b ≡ seeds_bytes s)
unfolding seeds_from_bytes
seeds_read b s fits e =
    let after = after_well (seeds_after_head b) (head_from_bytes 2 b) s e in
    let head = head_found 2 b after.0 fits after.1 in
    body_read b after.0 s fits head.0 head.1 after.2

pub is_found : (b : List ℕ) (result : Result Seeds (Refusal KeyFault)) → IsBytes b → Answers result (seeds_from_bytes b) → IfOk result (λ s. IsSeeds s × (b ≡ seeds_bytes s))
is_found b (Ok s) fits given = seeds_read b s fits given
is_found b (Err refusal) fits given = tt

-- ---- a file that is spelled so

wide : (s : Seeds) → IsSeeds s → (i : ℕ) (d : SeedPair) → i < length s.pairs → length (seed_pair_bytes (get_or s.pairs i d)) ≡ 36
wide s is i d lt = let pair = is.are_pairs i d lt in omega (arith, pair.seed_length)

abbrev ends : SeedPair → ℕ × ℕ
ends p = (p.u, p.v)

ends_again_in : (stations : ℕ) (p : SeedPair) → stations ≤ 256 → IsSeedPair stations p → ends_of (seed_pair_bytes p) ≡ ends p
ends_again_in stations p most is =
    let lesser : short_at (seed_pair_bytes p) 0 ≡ p.u = let less = is.ends in let within = is.within in short_again (seed_pair_bytes p) 0 p.u (omega arith) refl in
    let greater : short_at (seed_pair_bytes p) 2 ≡ p.v = let within = is.within in short_again (seed_pair_bytes p) 2 p.v (omega arith) refl in
    λ i. (lesser i, greater i)

piece_there : (s : Seeds) → IsSeeds s → (i : ℕ) (d : SeedPair) → i < length s.pairs → piece_at (seeds_bytes s) 36 i ≡ seed_pair_bytes (get_or s.pairs i d)
piece_there s is i d lt = piece_again seed_pair_bytes (head_bytes 2 s.stations s.words (length s.pairs)) 36 s.pairs refl (wide s is) i d lt

ends_there : (s : Seeds) → IsSeeds s → (i : ℕ) (d : SeedPair) → i < length s.pairs → ends_of (piece_at (seeds_bytes s) 36 i) ≡ ends (get_or s.pairs i d)
ends_there s is i d lt = ap ends_of (piece_there s is i d lt) ∙ ends_again_in s.stations (get_or s.pairs i d) is.most_stations (is.are_pairs i d lt)

pair_again : (s : Seeds) → IsSeeds s → (i : ℕ) (d : SeedPair) → i < length s.pairs → seed_pair_of (seeds_bytes s) s.stations i ≡ Ok (get_or s.pairs i d)
unfolding seed_pair_of
pair_again s is i d lt =
    let pair = is.are_pairs i d lt in
    let none : ends_fault (seeds_bytes s) s.stations 36 i ≡ None = ends_again ends (seeds_bytes s) s.stations 36 s.pairs is.rising (ends_there s is) i d lt pair.ends pair.within in
    let there = ends_there s is i d lt in
    let seed : drop 4 (piece_at (seeds_bytes s) 36 i) ≡ (get_or s.pairs i d).seed = ap (drop 4) (piece_there s is i d lt) in
    rw none (λ j. Ok (record { u = (there j).0; v = (there j).1; seed = seed j }))

after_again : (s : Seeds) → IsSeeds s → seeds_after_head (seeds_bytes s) (record { stations = s.stations; words = s.words; count = length s.pairs }) ≡ Ok s
unfolding seeds_after_head
after_again s is =
    rw (body_again (seeds_bytes s) 36 (seed_pair_of (seeds_bytes s) s.stations) s.pairs (whole_again seed_pair_bytes (head_bytes 2 s.stations s.words (length s.pairs)) 36 s.pairs refl (wide s is))
    (each_again (seed_pair_of (seeds_bytes s) s.stations) s.pairs (pair_again s is))) refl

-- what is spelled so is read
pub seeds_again : (s : Seeds) → IsSeeds s → seeds_from_bytes (seeds_bytes s) ≡ Ok s
unfolding seeds_from_bytes
seeds_again s is =
    let is_head : IsHead (record { stations = s.stations; words = s.words; count = length s.pairs })
    = record { some_stations = is.some_stations; most_stations = is.most_stations; some_words = is.some_words; most_words = is.most_words; most_symbols = is.most_symbols } in
    ap (after_head (seeds_after_head (seeds_bytes s))) (head_again 2 (record { stations = s.stations; words = s.words; count = length s.pairs }) (flat_map seed_pair_bytes s.pairs) is_head
    (few_seeds s is)) ∙ after_again s is
