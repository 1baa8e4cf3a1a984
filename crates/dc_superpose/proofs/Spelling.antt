-- The two laws of a session's file: what is read is spelled so, and what is spelled so is read.
use Rattle.std.proofs.Common.{◌≡◌, ℕ, ◌+◌, ◌*◌, ◌/◌, ◌%◌, ◌<◌, ◌≤◌, false, not, ltb, eqb, List, [], ◌++◌, length, get_or, take, drop, Result, Ok, Err, refl, sym, ap, subst, ◌∙◌, arith, append_assoc}
use Rattle.std.specs.Prelude.{codes, ◌||◌, IfOk}
use Rattle.std.specs.List.{range_with_len, flat_map, starts_with}
use Rattle.std.specs.Int.{w16, to_be_bytes}
use Rattle.std.proofs.Math.Seq.{take-add}
use Rattle.std.proofs.lemmas.Bool.{ltb-false, le-ltb}
use Rattle.std.proofs.lemmas.List.{take_all, drop_at, take-append-drop, drop-drop, length-append, length-drop}
use Rattle.std.proofs.lemmas.List.FromFn.{fill_by_all}
use Rattle.dc_spec.specs.Words.{IsWord, word_of}
use Rattle.dc_spec.specs.Bytes.{symbol_bytes, word_bytes, number_at, short_at, word_at}
use Rattle.dc_spec.specs.Recorded.{Recorded, IsRecorded, transcript_bytes}
use Rattle.dc_spec.proofs.WordLemmas.{word_from_symbols}
use Rattle.std.proofs.lemmas.Slice.Eq.{bytes_eq-Decides}
use Rattle.dc_field.specs.declared.refusal.Refusal.{Refusal}
use Rattle.dc_field.specs.Answers.{Answers}
use Rattle.dc_superpose.specs.declared.fault.TranscriptFault.{TranscriptFault}
use Rattle.dc_superpose.specs.Reading.{due_length, words_at, session_of_words, words_of, body_of, sized, transcript_of}
use Rattle.std.proofs.lemmas.Bool.{not-false}
use Rattle.std.proofs.lemmas.List.Folds.{flat_map-map}
use Rattle.dc_spec.proofs.ByteLemmas.{IsBytes, number_spelled, short_spelled, number_again, short_again, pieces, piece_of, length_of_pieces}
use Rattle.dc_field.proofs.ReaderTests.{passed, within, limits}
use Rattle.dc_superpose.specs.Pieces.{FirstAreSymbols}
use Rattle.dc_superpose.proofs.Symbols.{word_in_piece, symbol-word_at, words_are_read, words_read, length-words_at, AreWords-words_at}

-- ---- words

word_spelled : (b : List ℕ) (at : ℕ) → IsBytes b → at + 64 ≤ length b → word_bytes (word_at b at) ≡ take 64 (drop at b)
unfolding word_of
word_spelled b at fits le =
    let here : at + 4 * 0 ≡ at = omega arith in
    flat_map-map symbol_bytes (λ l. number_at b (at + 4 * l)) (range_with_len 0 16)
    ∙ pieces b (λ l. symbol_bytes (number_at b (at + 4 * l))) 4 at 16 0 (λ i lt. number_spelled b (at + 4 * i) fits (omega arith))
    ∙ ap (λ (k : ℕ). take 64 (drop k b)) here

words_spelled : (b : List ℕ) (count : ℕ) → IsBytes b → 8 + 64 * count ≤ length b → flat_map word_bytes (words_at b count) ≡ take (64 * count) (drop 8 b)
words_spelled b count fits le =
    flat_map-map word_bytes (λ i. word_at b (8 + 64 * i)) (range_with_len 0 count)
    ∙ pieces b (λ i. word_bytes (word_at b (8 + 64 * i))) 64 8 count 0 (λ i lt. word_spelled b (8 + 64 * i) fits (omega arith))

length-word_bytes : (w : List ℕ) → length w ≡ 16 → length (word_bytes w) ≡ 64
length-word_bytes w sixteen = omega (arith, length_of_pieces symbol_bytes 4 w (λ _ _ _. refl))

word_again : (w : List ℕ) → IsWord w → word_at (word_bytes w) 0 ≡ w
word_again w is = sym (word_from_symbols (λ l. number_at (word_bytes w) (0 + 4 * l)) w is.sixteen (λ k lt.
    let at : 0 + 4 * k ≡ 4 * k = omega arith in
    let small = is.symbols k in
    sym (number_again (word_bytes w) (0 + 4 * k) (get_or w k 0) (omega arith) (rw at (piece_of symbol_bytes 4 w (λ _ _ _. refl) k 0 (omega (arith, is.sixteen)))))))

-- ---- the file of a session

abbrev header_bytes : Recorded → List ℕ
header_bytes t = codes "DCT1" ++ to_be_bytes w16 t.stations ++ to_be_bytes w16 t.rounds

wide_words : (t : Recorded) → IsRecorded t → (k : ℕ) (d : List ℕ) → k < length t.words → length (word_bytes (get_or t.words k d)) ≡ 64
wide_words t is k d lt = length-word_bytes (get_or t.words k d) (is.are_words k d lt).sixteen

length-transcript_bytes : (t : Recorded) → IsRecorded t → length (transcript_bytes t) ≡ due_length (t.rounds * t.stations)
length-transcript_bytes t is =
    length-append (header_bytes t) (flat_map word_bytes t.words) ∙ ap (λ (n : ℕ). 8 + n) (length_of_pieces word_bytes 64 t.words (wide_words t is) ∙ ap (λ (n : ℕ). 64 * n) is.count)

word_stands : (t : Recorded) → IsRecorded t → (i : ℕ) → i < length t.words → word_at (transcript_bytes t) (8 + 64 * i) ≡ get_or t.words i []
word_stands t is i lt =
    let piece : take 64 (drop (8 + 64 * i) (transcript_bytes t)) ≡ word_bytes (get_or t.words i []) = rw
    (← drop-drop (64 * i) 8 (transcript_bytes t), drop_at (header_bytes t) (flat_map word_bytes t.words) 8 refl) (piece_of word_bytes 64 t.words (wide_words t is) i [] lt) in
    sym (word_in_piece (transcript_bytes t) (8 + 64 * i)) ∙ ap (λ (p : List ℕ). word_at p 0) piece ∙ word_again (get_or t.words i []) (is.are_words i [] lt)

words_stand : (t : Recorded) → IsRecorded t → words_at (transcript_bytes t) (t.rounds * t.stations) ≡ t.words
words_stand t is = sym (fill_by_all (λ i. word_at (transcript_bytes t) (8 + 64 * i)) t.words (t.rounds * t.stations) [] is.count (λ k lt. sym (word_stands t is k (rw is.count lt))))

symbols_stand : (t : Recorded) → IsRecorded t → FirstAreSymbols (transcript_bytes t) (16 * (t.rounds * t.stations))
symbols_stand t is = record {
  small = λ s lt.
      let i : ℕ = s / 16 in
      let l : ℕ = s % 16 in
      let at : 8 + 64 * (s / 16) + 4 * (s % 16) ≡ 8 + 4 * s = omega arith in
      let within : s / 16 < length t.words = rw is.count (omega arith) in
      let here : number_at (transcript_bytes t) (8 + 64 * (s / 16) + 4 * (s % 16)) ≡ get_or (get_or t.words (s / 16) []) (s % 16) 0
      = sym (symbol-word_at (transcript_bytes t) (8 + 64 * (s / 16)) (s % 16) (omega arith)) ∙ ap (λ (w : List ℕ). get_or w (s % 16) 0) (word_stands t is (s / 16) within) in
      let small : get_or (get_or t.words (s / 16) []) (s % 16) 0 < 65537 = (is.are_words (s / 16) [] within).symbols (s % 16) in
      subst (λ (k : ℕ). number_at (transcript_bytes t) k ≤ 65536) at (omega (arith, here));
}

body_again : (t : Recorded) → IsRecorded t → body_of (transcript_bytes t) t.stations t.rounds ≡ Ok t
unfolding body_of
body_again t is =
    let long = length-transcript_bytes t is in
    let not_short : ltb (length (transcript_bytes t)) (due_length (t.rounds * t.stations)) ≡ false = le-ltb _ _ (omega arith) in
    let read : words_of (transcript_bytes t) (t.rounds * t.stations) ≡ Ok t.words = words_are_read (transcript_bytes t) (t.rounds * t.stations) (symbols_stand t is)
    ∙ ap (λ (ws : List (List ℕ)). Ok ws) (words_stand t is) in
    let not_long : ltb (due_length (t.rounds * t.stations)) (length (transcript_bytes t)) ≡ false = le-ltb _ _ (omega arith) in
    rw (not_short, read, not_long) refl

sized_again : (b : List ℕ) (stations rounds : ℕ) → 1 ≤ stations → stations ≤ 256 → 1 ≤ rounds → rounds ≤ 4096 → sized b stations rounds ≡ body_of b stations rounds
unfolding sized
sized_again b stations rounds some most some' most' = rw (within stations 256 some most, within rounds 4096 some' most') refl

header_again : (b : List ℕ) (stations rounds : ℕ) → 8 ≤ length b → not (starts_with eqb b (codes "DCT1")) ≡ false → short_at b 4 ≡ stations → short_at b 6 ≡ rounds
    → transcript_of b ≡ sized b stations rounds
unfolding transcript_of
header_again b stations rounds long magic first second = let not_short : ltb (length b) 8 ≡ false = le-ltb _ _ long in rw (not_short, magic, first, second) refl

-- what is spelled so is read
pub transcript_again : (t : Recorded) → IsRecorded t → transcript_of (transcript_bytes t) ≡ Ok t
transcript_again t is =
    let stations : short_at (transcript_bytes t) 4 ≡ t.stations = short_again (transcript_bytes t) 4 t.stations (omega (arith, is.most_stations)) refl in
    let rounds : short_at (transcript_bytes t) 6 ≡ t.rounds = short_again (transcript_bytes t) 6 t.rounds (omega (arith, is.most_rounds)) refl in
    header_again (transcript_bytes t) t.stations t.rounds (omega (arith, length-transcript_bytes t is)) refl stations rounds
    ∙ sized_again (transcript_bytes t) t.stations t.rounds is.some_stations is.most_stations is.some_rounds is.most_rounds
    ∙ body_again t is

-- ---- a file that was read

abbrev read_as : Recorded → Result Recorded TranscriptFault
read_as t = Ok t

same_record : (s t : Recorded) → read_as s ≡ read_as t → s ≡ t
same_record s t e = cc

session_of_words-Ok : (b : List ℕ) (stations rounds : ℕ) (read : Result (List (List ℕ)) TranscriptFault) (t : Recorded) → session_of_words b stations rounds read ≡ Ok t
    → (length b ≤ due_length (rounds * stations)) × (read ≡ Ok t.words) × (stations ≡ t.stations) × (rounds ≡ t.rounds)
session_of_words-Ok b stations rounds (Err fault) t e = absurd cc
session_of_words-Ok b stations rounds (Ok words) t e =
    let made : Recorded = record { stations = stations; rounds = rounds; words = words } in
    let end = passed (ltb (due_length (rounds * stations)) (length b)) _ _ t e in
    let is : made ≡ t = same_record made t end.1 in
    (ltb-false _ _ end.0, ap (λ (r : Recorded). Ok r.words) is, ap (λ (r : Recorded). r.stations) is, ap (λ (r : Recorded). r.rounds) is)

three : (a b c x y z : List ℕ) → a ≡ x → b ≡ y → c ≡ z → a ++ b ++ c ≡ x ++ (y ++ z)
three a b c x y z p q r = append_assoc a b c ∙ cc

-- the first eight bytes
header_spelled : (b : List ℕ) → IsBytes b → 8 ≤ length b → codes "DCT1" ≡ take 4 b → codes "DCT1" ++ to_be_bytes w16 (short_at b 4) ++ to_be_bytes w16 (short_at b 6) ≡ take 8 b
header_spelled b fits long magic =
    let parts : take 8 b ≡ take 4 b ++ (take 2 (drop 4 b) ++ take 2 (drop 6 b)) = take-add 4 4 b
    ∙ ap (λ (xs : List ℕ). take 4 b ++ xs) (take-add 2 2 (drop 4 b) ∙ ap (λ (xs : List ℕ). take 2 (drop 4 b) ++ take 2 xs) (drop-drop 2 4 b)) in
    three (codes "DCT1") (to_be_bytes w16 (short_at b 4)) (to_be_bytes w16 (short_at b 6)) (take 4 b) (take 2 (drop 4 b)) (take 2 (drop 6 b)) magic
    (short_spelled b 4 fits (omega arith)) (short_spelled b 6 fits (omega arith)) ∙ sym parts

-- the bytes after them
body_spelled : (b : List ℕ) (count : ℕ) → IsBytes b → length b ≡ due_length count → flat_map word_bytes (words_at b count) ≡ drop 8 b
body_spelled b count fits whole = words_spelled b count fits (omega arith) ∙ take_all (64 * count) (drop 8 b) (omega (arith, length-drop 8 b))

file_spelled : (b : List ℕ) (t : Recorded) → IsBytes b → codes "DCT1" ≡ take 4 b → short_at b 4 ≡ t.stations → short_at b 6 ≡ t.rounds → t.words ≡ words_at b (t.rounds * t.stations)
    → length b ≡ due_length (t.rounds * t.stations) → b ≡ transcript_bytes t
file_spelled b t fits magic stations rounds words whole =
    let header : header_bytes t ≡ take 8 b = rw (← stations, ← rounds) (header_spelled b fits (omega arith) magic) in
    let body : flat_map word_bytes t.words ≡ drop 8 b = ap (λ (ws : List (List ℕ)). flat_map word_bytes ws) words ∙ body_spelled b (t.rounds * t.stations) fits whole in
    sym (take-append-drop 8 b) ∙ sym (ap (λ (xs : List ℕ). xs ++ flat_map word_bytes t.words) header ∙ ap (λ (xs : List ℕ). take 8 b ++ xs) body)

-- what is read is spelled so
pub transcript_read : (b : List ℕ) (t : Recorded) → IsBytes b → transcript_of b ≡ Ok t → IsRecorded t × (b ≡ transcript_bytes t)
unfolding transcript_of sized body_of
transcript_read b t fits e =
    let long = passed (ltb (length b) 8) _ _ t e in
    let magic = passed (not (starts_with eqb b (codes "DCT1"))) _ _ t long.1 in
    let stations = passed (eqb (short_at b 4) 0 || ltb 256 (short_at b 4)) _ _ t magic.1 in
    let rounds = passed (eqb (short_at b 6) 0 || ltb 4096 (short_at b 6)) _ _ t stations.1 in
    let whole = passed (ltb (length b) (due_length (short_at b 6 * short_at b 4))) _ _ t rounds.1 in
    let end = session_of_words-Ok b (short_at b 4) (short_at b 6) _ t whole.1 in
    let count : ℕ = short_at b 6 * short_at b 4 in
    let same : short_at b 6 * short_at b 4 ≡ t.rounds * t.stations = rw (end.2, end.3) refl in
    let read = words_read b (short_at b 6 * short_at b 4) t.words end.1 in
    let begins : codes "DCT1" ≡ take 4 b = (bytes_eq-Decides (codes "DCT1") (take 4 b)).0 (not-false _ magic.0) in
    let length_is : length b ≡ due_length (short_at b 6 * short_at b 4) = omega (arith, end.0, ltb-false _ _ whole.0) in
    let some = limits (short_at b 4) 256 stations.0 in
    let some' = limits (short_at b 6) 4096 rounds.0 in (
      record {
        some_stations = rw (← end.2) some.0;
        most_stations = rw (← end.2) some.1;
        some_rounds = rw (← end.3) some'.0;
        most_rounds = rw (← end.3) some'.1;
        count = rw read.0 (length-words_at b (short_at b 6 * short_at b 4) ∙ same);
        are_words = rw read.0 (AreWords-words_at b (short_at b 6 * short_at b 4) read.1);
      },
      file_spelled b t fits begins end.2 end.3 (rw (← same) read.0) (rw (← same) length_is),
    )

pub is_found : (b : List ℕ) (result : Result Recorded (Refusal TranscriptFault)) → IsBytes b → Answers result (transcript_of b) → IfOk result (λ t. IsRecorded t × (b ≡ transcript_bytes t))
is_found b (Ok t) fits given = transcript_read b t fits given
is_found b (Err refusal) fits given = tt
