-- Transcripts, key files and frames tell what they are made of.
use Rattle.std.proofs.Common.{◌≡◌, ℕ, ◌*◌, ◌^◌, ◌<◌, ◌≤◌, List, [], ◌++◌, length, All, sym, ◌∙◌, arith}
use Rattle.std.specs.List.{flat_map}
use Rattle.std.specs.Int.{w16, w32, to_be_bytes}
use Rattle.std.proofs.Math.Nat.{le-mul_of_pos_right}
use Rattle.std.proofs.lemmas.List.{append_assoc}
use Rattle.dc_spec.specs.Words.{IsWord, IsSymbol}
use Rattle.dc_spec.specs.Bytes.{symbol_bytes, word_bytes}
use Rattle.dc_spec.specs.Recorded.{Recorded, IsRecorded, transcript_bytes}
use Rattle.dc_spec.specs.Pads.{Pair, Keys, Seeds}
use Rattle.dc_formats.specs.KeyFile.{pair_bytes, keys_bytes, IsPair, IsKeys}
use Rattle.dc_formats.specs.SeedFile.{seed_pair_bytes, seeds_bytes, IsSeedPair, IsSeeds}
use Rattle.dc_spec.specs.Frames.{Frame, hello, send, all}
use Rattle.dc_formats.specs.Frames.{frame_bytes, frames_bytes, IsFrame}
use Rattle.dc_formats.proofs.Readable.{IsReadable, without_rest, read_counted, read_until}
use Rattle.dc_formats.proofs.Pieces.{read_front, read_short, read_number, read_symbol, read_word}

-- two numbers, then as many words as they say
pub transcript_tells : (x y : Recorded) → IsRecorded x → IsRecorded y → transcript_bytes x ≡ transcript_bytes y → x ≡ y
transcript_tells x y p q e =
    let apart : to_be_bytes w16 x.stations ++ (to_be_bytes w16 x.rounds ++ flat_map word_bytes x.words) ≡ to_be_bytes w16 y.stations ++ (to_be_bytes w16 y.rounds ++ flat_map word_bytes y.words) =
    cc in
    let stations : (x.stations ≡ y.stations) × (to_be_bytes w16 x.rounds ++ flat_map word_bytes x.words ≡ to_be_bytes w16 y.rounds ++ flat_map word_bytes y.words) =
    read_short x.stations y.stations _ _ (omega arith) (omega arith) apart in
    let rounds : (x.rounds ≡ y.rounds) × (flat_map word_bytes x.words ≡ flat_map word_bytes y.words) = read_short x.rounds y.rounds _ _ (omega arith) (omega arith) stations.1 in
    let same : length x.words ≡ length y.words = cc in
    let words : x.words ≡ y.words = (read_counted IsWord word_bytes read_word x.words y.words [] [] p.are_words q.are_words same (without_rest _ _ rounds.1)).0 in
    λ i. record { stations = stations.0 i; rounds = rounds.0 i; words = words i }

-- station numbers take two bytes
pair_bounds : (n t : ℕ) → n ≤ 256 → (x y : Pair) → IsPair n t x → IsPair n t y → (x.u < 2 ^ 16) × (x.v < 2 ^ 16) × (y.u < 2 ^ 16) × (y.v < 2 ^ 16)
pair_bounds n t small x y p q = (omega arith, omega arith, omega arith, omega arith)

-- a pair in a file of so many stations and words
read_pair : (n t : ℕ) → n ≤ 256 → IsReadable (IsPair n t) pair_bytes
read_pair n t small x y r s p q e =
    let apart : to_be_bytes w16 x.u ++ (to_be_bytes w16 x.v ++ ((flat_map symbol_bytes x.a ++ flat_map symbol_bytes x.b) ++ r)) ≡ to_be_bytes w16 y.u
    ++ (to_be_bytes w16 y.v ++ ((flat_map symbol_bytes y.a ++ flat_map symbol_bytes y.b) ++ s)) = e in
    let bounds : (x.u < 2 ^ 16) × (x.v < 2 ^ 16) × (y.u < 2 ^ 16) × (y.v < 2 ^ 16) = pair_bounds n t small x y p q in
    let lesser : (x.u ≡ y.u) × (to_be_bytes w16 x.v ++ ((flat_map symbol_bytes x.a ++ flat_map symbol_bytes x.b) ++ r) ≡ to_be_bytes w16 y.v
    ++ ((flat_map symbol_bytes y.a ++ flat_map symbol_bytes y.b) ++ s)) = read_short x.u y.u _ _ bounds.0 bounds.2 apart in
    let greater : (x.v ≡ y.v) × ((flat_map symbol_bytes x.a ++ flat_map symbol_bytes x.b) ++ r ≡ (flat_map symbol_bytes y.a ++ flat_map symbol_bytes y.b) ++ s) =
    read_short x.v y.v _ _ bounds.1 bounds.3 lesser.1 in
    let pads : flat_map symbol_bytes x.a ++ (flat_map symbol_bytes x.b ++ r) ≡ flat_map symbol_bytes y.a ++ (flat_map symbol_bytes y.b ++ s) = sym (append_assoc (flat_map symbol_bytes x.a) _ r)
    ∙ greater.1 ∙ append_assoc (flat_map symbol_bytes y.a) _ s in
    let first : (x.a ≡ y.a) × (flat_map symbol_bytes x.b ++ r ≡ flat_map symbol_bytes y.b ++ s) = read_counted IsSymbol symbol_bytes read_symbol x.a y.a _ _ p.first_symbols q.first_symbols
    (p.first_pads ∙ sym q.first_pads) pads in
    let second : (x.b ≡ y.b) × (r ≡ s) = read_counted IsSymbol symbol_bytes read_symbol x.b y.b r s p.second_symbols q.second_symbols (p.second_pads ∙ sym q.second_pads) first.1 in
    ((λ i. record { u = lesser.0 i; v = greater.0 i; a = first.0 i; b = second.0 i }), second.1)

-- a file with at least one word has fewer than 2^32 pairs
pub few_pairs : (k : Keys) → IsKeys k → length k.pairs < 2 ^ 32
few_pairs k is =
    let more : length k.pairs ≤ length k.pairs * (32 * k.words) = le-mul_of_pos_right (length k.pairs) (omega arith) in
    omega arith

-- three numbers, then as many pairs as the last says, each of the size that the second says
pub keys_tell : (x y : Keys) → IsKeys x → IsKeys y → keys_bytes x ≡ keys_bytes y → x ≡ y
keys_tell x y p q e =
    let apart : to_be_bytes w16 x.stations ++ (to_be_bytes w16 x.words ++ (to_be_bytes w32 (length x.pairs) ++ flat_map pair_bytes x.pairs))
    ≡ to_be_bytes w16 y.stations ++ (to_be_bytes w16 y.words
    ++ (to_be_bytes w32 (length y.pairs) ++ flat_map pair_bytes y.pairs)) = cc in
    let stations : (x.stations ≡ y.stations) × (to_be_bytes w16 x.words ++ (to_be_bytes w32 (length x.pairs) ++ flat_map pair_bytes x.pairs) ≡ to_be_bytes w16 y.words
    ++ (to_be_bytes w32 (length y.pairs) ++ flat_map pair_bytes y.pairs)) = read_short x.stations y.stations _ _ (omega arith) (omega arith) apart in
    let words : (x.words ≡ y.words) × (to_be_bytes w32 (length x.pairs) ++ flat_map pair_bytes x.pairs ≡ to_be_bytes w32 (length y.pairs) ++ flat_map pair_bytes y.pairs) =
    read_short x.words y.words _ _ (omega arith) (omega arith) stations.1 in
    let count : (length x.pairs ≡ length y.pairs) × (flat_map pair_bytes x.pairs ≡ flat_map pair_bytes y.pairs) = read_number (length x.pairs) (length y.pairs) _ _ (few_pairs x p)
    (few_pairs y q) words.1 in
    let theirs : All (IsPair x.stations x.words) y.pairs = rw (stations.0, words.0) q.are_pairs in
    let pairs : x.pairs ≡ y.pairs = (read_counted (IsPair x.stations x.words) pair_bytes (read_pair x.stations x.words p.most_stations) x.pairs y.pairs [] [] p.are_pairs theirs count.0
    (without_rest _ _ count.1)).0 in
    λ i. record { stations = stations.0 i; words = words.0 i; pairs = pairs i }

-- a pair with its seed, in a file of so many stations
read_seed_pair : (n : ℕ) → n ≤ 256 → IsReadable (IsSeedPair n) seed_pair_bytes
read_seed_pair n small x y r s p q e =
    let apart : to_be_bytes w16 x.u ++ (to_be_bytes w16 x.v ++ (x.seed ++ r)) ≡ to_be_bytes w16 y.u ++ (to_be_bytes w16 y.v ++ (y.seed ++ s)) = e in
    let lesser : (x.u ≡ y.u) × (to_be_bytes w16 x.v ++ (x.seed ++ r) ≡ to_be_bytes w16 y.v ++ (y.seed ++ s)) =
    read_short x.u y.u _ _ (omega (arith, p.ends, p.within)) (omega (arith, q.ends, q.within)) apart in
    let greater : (x.v ≡ y.v) × (x.seed ++ r ≡ y.seed ++ s) = read_short x.v y.v _ _ (omega (arith, p.within)) (omega (arith, q.within)) lesser.1 in
    let seed : (x.seed ≡ y.seed) × (r ≡ s) = read_front x.seed y.seed r s (p.seed_length ∙ sym q.seed_length) greater.1 in
    ((λ i. record { u = lesser.0 i; v = greater.0 i; seed = seed.0 i }), seed.1)

-- a file of seeds with at least one word has fewer than 2^32 pairs
pub few_seeds : (f : Seeds) → IsSeeds f → length f.pairs < 2 ^ 32
few_seeds f is =
    let more : length f.pairs ≤ length f.pairs * (32 * f.words) = le-mul_of_pos_right (length f.pairs) (omega (arith, is.some_words)) in
    omega (arith, is.most_symbols)

-- three numbers, then as many pairs as the last says
pub seeds_tell : (x y : Seeds) → IsSeeds x → IsSeeds y → seeds_bytes x ≡ seeds_bytes y → x ≡ y
seeds_tell x y p q e =
    let apart : to_be_bytes w16 x.stations ++ (to_be_bytes w16 x.words ++ (to_be_bytes w32 (length x.pairs) ++ flat_map seed_pair_bytes x.pairs))
    ≡ to_be_bytes w16 y.stations ++ (to_be_bytes w16 y.words
    ++ (to_be_bytes w32 (length y.pairs) ++ flat_map seed_pair_bytes y.pairs)) = cc in
    let stations : (x.stations ≡ y.stations) × (to_be_bytes w16 x.words ++ (to_be_bytes w32 (length x.pairs) ++ flat_map seed_pair_bytes x.pairs) ≡ to_be_bytes w16 y.words
    ++ (to_be_bytes w32 (length y.pairs) ++ flat_map seed_pair_bytes y.pairs)) = read_short x.stations y.stations _ _ (omega arith) (omega arith) apart in
    let words : (x.words ≡ y.words) × (to_be_bytes w32 (length x.pairs) ++ flat_map seed_pair_bytes x.pairs ≡ to_be_bytes w32 (length y.pairs) ++ flat_map seed_pair_bytes y.pairs) =
    read_short x.words y.words _ _ (omega arith) (omega arith) stations.1 in
    let count : (length x.pairs ≡ length y.pairs) × (flat_map seed_pair_bytes x.pairs ≡ flat_map seed_pair_bytes y.pairs) = read_number (length x.pairs) (length y.pairs) _ _ (few_seeds x p)
    (few_seeds y q) words.1 in
    let theirs : All (IsSeedPair x.stations) y.pairs = rw stations.0 q.are_pairs in
    let pairs : x.pairs ≡ y.pairs = (read_counted (IsSeedPair x.stations) seed_pair_bytes (read_seed_pair x.stations p.most_stations) x.pairs y.pairs [] [] p.are_pairs theirs count.0
    (without_rest _ _ count.1)).0 in
    λ i. record { stations = stations.0 i; words = words.0 i; pairs = pairs i }

-- a frame, whatever follows
read_frame : IsReadable IsFrame frame_bytes
read_frame (hello i n t) (hello j m u) r s p q e =
    let first : (i ≡ j) × (to_be_bytes w16 n ++ (to_be_bytes w16 t ++ r) ≡ to_be_bytes w16 m ++ (to_be_bytes w16 u ++ s)) = read_short i j _ _ p.0 q.0 cc in
    let second : (n ≡ m) × (to_be_bytes w16 t ++ r ≡ to_be_bytes w16 u ++ s) = read_short n m _ _ p.1 q.1 first.1 in
    let third : (t ≡ u) × (r ≡ s) = read_short t u r s p.2 q.2 second.1 in
    (cc (first.0, second.0, third.0), third.1)
read_frame (send i v) (send j w) r s p q e =
    let first : (i ≡ j) × (word_bytes v ++ r ≡ word_bytes w ++ s) = read_short i j _ _ p.0 q.0 cc in
    let second : (v ≡ w) × (r ≡ s) = read_word v w r s p.1 q.1 first.1 in
    (cc (first.0, second.0), second.1)
read_frame (all i v) (all j w) r s p q e =
    let first : (i ≡ j) × (word_bytes v ++ r ≡ word_bytes w ++ s) = read_short i j _ _ p.0 q.0 cc in
    let second : (v ≡ w) × (r ≡ s) = read_word v w r s p.1 q.1 first.1 in
    (cc (first.0, second.0), second.1)
read_frame (hello i n t) (send j w) r s p q e = cc
read_frame (hello i n t) (all j w) r s p q e = cc
read_frame (send i v) (hello j m u) r s p q e = cc
read_frame (send i v) (all j w) r s p q e = cc
read_frame (all i v) (hello j m u) r s p q e = cc
read_frame (all i v) (send j w) r s p q e = cc

-- a frame is not empty
frame_there : (x : Frame) (t : List ℕ) → IsFrame x → [] ≡ frame_bytes x ++ t → ⊥
frame_there (hello i n t) u p e = cc
frame_there (send i w) u p e = cc
frame_there (all i w) u p e = cc

-- frame after frame
pub frames_tell : (xs ys : List Frame) → All IsFrame xs → All IsFrame ys → frames_bytes xs ≡ frames_bytes ys → xs ≡ ys
frames_tell xs ys p q e = (read_until IsFrame frame_bytes read_frame xs ys [] [] p q frame_there frame_there (without_rest _ _ e)).0
