-- How long the files of contents within the limits can be.
use Rattle.std.proofs.Common.{◌≡◌, ℕ, ◌+◌, ◌*◌, ◌^◌, ◌<◌, ◌≤◌, List, [], ◌∷◌, ◌++◌, length, All, ◌∙◌, ap, lit≤, codes, arith}
use Rattle.std.specs.List.{flat_map}
use Rattle.std.specs.Fmt.{decimal}
use Rattle.std.proofs.Math.Nat.{mul-le-mul}
use Rattle.std.proofs.lemmas.List.{length-append}
use Rattle.std.proofs.lemmas.List.Concat.{length-flat_map}
use Rattle.std.proofs.lemmas.List.Elements.{All-weaker}
use Rattle.std.proofs.lemmas.List.Sums.{sum_by-le}
use Rattle.std.proofs.lemmas.Fmt.{length-decimal-le}
use Rattle.dc_spec.specs.Limits as limit
use Rattle.dc_spec.specs.Words.{IsWord}
use Rattle.dc_spec.specs.Bytes.{symbol_bytes, word_bytes}
use Rattle.dc_spec.specs.Text.{symbol_text, word_text, line}
use Rattle.dc_spec.specs.Recorded.{Recorded, IsRecorded, transcript_bytes}
use Rattle.dc_spec.specs.Pads.{Pair, Keys, SeedPair, Seeds}
use Rattle.dc_spec.specs.Entries.{Stream}
use Rattle.dc_formats.specs.TextFile.{byte_text, hex_text}
use Rattle.dc_formats.specs.KeyFile.{pair_bytes, keys_bytes, IsPair, IsKeys}
use Rattle.dc_formats.specs.SeedFile.{seed_pair_bytes, seeds_bytes, IsSeedPair, IsSeeds}
use Rattle.dc_formats.proofs.Ends.{items_count}
use Rattle.dc_spec.specs.Values.{IsValue}
use Rattle.dc_formats.specs.StreamFile.{short_line, long_line, coin_line, stream_text, IsMessage, IsStream}
use Rattle.dc_formats.specs.ListFiles.{images_text, AreImages, wanted_text, AreWanted}

-- items of bounded length
pub length_within : {X : Type 0} (P : X → Type 0) (f : X → List ℕ) (m : ℕ) → ((x : X) → P x → length (f x) ≤ m) → (xs : List X) → All P xs → length (flat_map f xs) ≤ length xs * m
length_within P f m most xs p = rw (length-flat_map f xs) (sum_by-le (λ x. length (f x)) m xs (All-weaker P (λ x. length (f x) ≤ m) most xs p))

-- any list of items of at most this length
pub each_within : {X : Type 0} (f : X → List ℕ) (m : ℕ) → ((x : X) → length (f x) ≤ m) → (xs : List X) → length (flat_map f xs) ≤ length xs * m
each_within f m most xs = rw (length-flat_map f xs) (sum_by-le (λ x. length (f x)) m xs (λ k d lt. most _))

-- a word takes 64 bytes
word_size : (w : List ℕ) → IsWord w → length (word_bytes w) ≤ 64
word_size w is =
    let each : length (flat_map symbol_bytes w) ≤ length w * 4 = each_within symbol_bytes 4 (λ x. lit≤ tt) w in
    let long : length w ≡ 16 = is.sixteen in
    omega arith

-- a head of eight bytes and at most 2^20 words
pub transcript_short : (t : Recorded) → IsRecorded t → length (transcript_bytes t) ≤ 67108872
transcript_short t is =
    let words : length (flat_map word_bytes t.words) ≤ length t.words * 64 = length_within IsWord word_bytes 64 word_size t.words is.are_words in
    let count : length t.words ≡ t.rounds * t.stations = is.count in
    let most : t.rounds * t.stations ≤ 4096 * 256 = mul-le-mul is.most_rounds is.most_stations in
    let whole : length (transcript_bytes t) ≡ 8 + length (flat_map word_bytes t.words) = omega arith in
    omega arith

-- so it is within the read limit
pub transcript_size : (t : Recorded) → IsRecorded t → length (transcript_bytes t) ≤ limit.transcript_limit
transcript_size t is = let short = transcript_short t is in omega arith

-- a pair's bytes
pair_size : (n t : ℕ) (p : Pair) → IsPair n t p → length (pair_bytes p) ≤ 4 + 128 * t
pair_size n t p is =
    let first : length (flat_map symbol_bytes p.a) ≤ length p.a * 4 = each_within symbol_bytes 4 (λ x. lit≤ tt) p.a in
    let second : length (flat_map symbol_bytes p.b) ≤ length p.b * 4 = each_within symbol_bytes 4 (λ x. lit≤ tt) p.b in
    let whole : length (pair_bytes p) ≡ 4 + (length (flat_map symbol_bytes p.a) + length (flat_map symbol_bytes p.b)) = rw (← length-append (flat_map symbol_bytes p.a) (flat_map symbol_bytes p.b))
    (omega arith) in
    let long : length p.a ≡ 16 * t = is.first_pads in
    let long' : length p.b ≡ 16 * t = is.second_pads in
    omega arith

-- four bytes a pair and four a symbol
spread : (q t : ℕ) → q * (4 + 128 * t) ≡ 4 * q + 4 * (q * (32 * t))
spread q t = grind arith

-- a head of twelve bytes, at most 65536 pairs and 2^26 symbols
pub keys_size : (k : Keys) → IsKeys k → length (keys_bytes k) ≤ limit.key_file_limit
keys_size k is =
    let pairs : length (flat_map pair_bytes k.pairs) ≤ length k.pairs * (4 + 128 * k.words) = length_within (IsPair k.stations k.words) pair_bytes (4 + 128 * k.words)
    (pair_size k.stations k.words) k.pairs is.are_pairs in
    let count : length k.pairs ≤ 65536 = items_count k.stations k.pairs (λ p. (p.u, p.v)) is.most_stations (λ i d lt. let pair = is.are_pairs i d lt in (pair.ends, pair.within)) is.rising in
    let whole : length (keys_bytes k) ≡ 12 + length (flat_map pair_bytes k.pairs) = omega arith in
    let most : length k.pairs * (32 * k.words) ≤ 2 ^ 26 = is.most_symbols in
    let apart : length k.pairs * (4 + 128 * k.words) ≡ 4 * length k.pairs + 4 * (length k.pairs * (32 * k.words)) = spread (length k.pairs) k.words in
    omega arith

-- a pair's bytes
seed_pair_size : (n : ℕ) (p : SeedPair) → IsSeedPair n p → length (seed_pair_bytes p) ≤ 36
seed_pair_size n p is = omega (arith, is.seed_length)

-- a head of twelve bytes and at most 65536 pairs
pub seeds_size : (f : Seeds) → IsSeeds f → length (seeds_bytes f) ≤ limit.key_file_limit
seeds_size f is =
    let pairs : length (flat_map seed_pair_bytes f.pairs) ≤ length f.pairs * 36 = length_within (IsSeedPair f.stations) seed_pair_bytes 36 (seed_pair_size f.stations) f.pairs is.are_pairs in
    let count : length f.pairs ≤ 65536 = items_count f.stations f.pairs (λ p. (p.u, p.v)) is.most_stations (λ i d lt. let pair = is.are_pairs i d lt in (pair.ends, pair.within)) is.rising in
    let whole : length (seeds_bytes f) ≡ 12 + length (flat_map seed_pair_bytes f.pairs) = omega arith in
    omega arith

-- a line is one byte longer than its text
pub line_size : (t : List ℕ) → length (line t) ≡ length t + 1
line_size t = length-append t (10 ∷ [])

-- a number below 1000 in a line
number_size : (n : ℕ) → n < 1000 → length (line (decimal n)) ≤ 4
number_size n lt =
    let digits : length (decimal n) ≤ 3 = length-decimal-le 3 n (omega arith) (omega arith) (omega arith) in
    rw (line_size (decimal n)) (omega arith)

-- at most 256 lines of at most four bytes
pub images_size : (xs : List ℕ) → AreImages xs → length (images_text xs) ≤ limit.permutation_limit
images_size xs is =
    let lines : length (images_text xs) ≤ length xs * 4 = length_within (λ i. i < 256) (λ i. line (decimal i)) 4 (λ i lt. number_size i (omega arith)) xs is.numbers in
    let most : length xs ≤ 256 = is.most in
    omega arith

-- a word in text
pub word_text_size : (w : List ℕ) → IsWord w → length (word_text w) ≤ 80
word_text_size w is =
    let each : length (word_text w) ≤ length w * 5 = each_within symbol_text 5 (λ x. lit≤ tt) w in
    let long : length w ≡ 16 = is.sixteen in
    omega arith

-- and in a line
word_line_size : (w : List ℕ) → IsWord w → length (line (word_text w)) ≤ 81
word_line_size w is = let text = word_text_size w is in rw (line_size (word_text w)) (omega arith)

-- at most 4096 lines of 81 bytes
pub wanted_size : (xs : List (List ℕ)) → AreWanted xs → length (wanted_text xs) ≤ limit.wanted_words_limit
wanted_size xs is =
    let lines : length (wanted_text xs) ≤ length xs * 81 = length_within IsWord (λ w. line (word_text w)) 81 word_line_size xs is.are_words in
    let most : length xs ≤ 4096 = is.most in
    omega arith

-- payload in text
payload_size : (bytes : List ℕ) → length (hex_text bytes) ≤ length bytes * 2
payload_size bytes = each_within byte_text 2 (λ b. lit≤ tt) bytes

-- `short `, thirty digits, the line end
short_size : (v : List ℕ) → IsValue v → length (short_line v) ≤ 37
short_size v is =
    let digits : length (hex_text v) ≤ length v * 2 = payload_size v in
    let long : length v ≡ 15 = is.fifteen in
    let whole : length (short_line v) ≡ length (hex_text v) + 7 = line_size (codes "short " ++ hex_text v) ∙ omega arith in
    omega arith

-- `long `, two digits a byte, the line end
long_size : (m : List ℕ) → IsMessage m → length (long_line m) ≤ 7682
long_size m is =
    let digits : length (hex_text m) ≤ length m * 2 = payload_size m in
    let most : length m ≤ 3838 = is.most in
    let whole : length (long_line m) ≡ length (hex_text m) + 6 = line_size (codes "long " ++ hex_text m) ∙ omega arith in
    omega arith

-- `coin `, a number, the line end
coin_size : (c : ℕ) → c < 16 → length (coin_line c) ≤ 9
coin_size c lt =
    let digits : length (line (decimal c)) ≤ 4 = number_size c (omega arith) in
    omega arith

-- at most 4096 shorts, 256 longs and 4096 coins
pub stream_size : (s : Stream) → IsStream s → length (stream_text s) ≤ limit.stream_limit
stream_size s is =
    let shorts : length (flat_map short_line s.shorts) ≤ length s.shorts * 37 = length_within IsValue short_line 37 short_size s.shorts is.are_values in
    let longs : length (flat_map long_line s.longs) ≤ length s.longs * 7682 = length_within IsMessage long_line 7682 long_size s.longs is.are_messages in
    let coins : length (flat_map coin_line s.coins) ≤ length s.coins * 9 = length_within (λ c. c < 16) coin_line 9 coin_size s.coins is.are_fields in
    let whole : length (stream_text s) ≡ (length (flat_map short_line s.shorts) + length (flat_map long_line s.longs)) + length (flat_map coin_line s.coins) =
    length-append _ (flat_map coin_line s.coins) ∙ ap (λ n. n + length (flat_map coin_line s.coins)) (length-append (flat_map short_line s.shorts) (flat_map long_line s.longs)) in
    let most_shorts : length s.shorts ≤ 4096 = is.most_shorts in
    let most_longs : length s.longs ≤ 256 = is.most_longs in
    let most_coins : length s.coins ≤ 4096 = is.most_coins in
    omega arith
