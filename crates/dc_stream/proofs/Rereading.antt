-- A stream file that is read is the text of its stream, and the text of a stream is read as it.
use Rattle.std.proofs.Common.{◌≡◌, ℕ, ◌+◌, ◌<◌, ◌≤◌, Bool, true, false, cond, not, ◌&&◌, eqb, ltb, leb, List, [], ◌∷◌, ◌++◌, length, take, drop, map, All, Option, Some, None, Result, Ok, Err, IfOk, refl, sym, ◌∙◌, ap, subst, arith, codes, append-nil, append_assoc, ◌⊎◌, inl, inr}
use Rattle.std.specs.List.{starts_with}
use Rattle.std.specs.Fmt.{decimal}
use Rattle.std.proofs.lemmas.Bool.{cases_lt, ltb-true, eqb-true, eq-eqb, leb-true, leb-false, le-leb, lt-leb, lt-ltb}
use Rattle.std.proofs.lemmas.List.{take-append-drop, nil_from_length, length_push, get_or_past}
use Rattle.std.proofs.lemmas.List.Elements.{All-nil, All-append, All-map, All-weaker, All-push, All-get_or, All-head, All-tail}
use Rattle.std.proofs.lemmas.List.Concat.{flat_map-append}
use Rattle.std.proofs.lemmas.List.Folds.{flat_map-map}
use Rattle.std.proofs.lemmas.Slice.Eq.{bytes_eq-Decides}
use Rattle.std.proofs.lemmas.Bool.{not-false}
use Rattle.dc_spec.specs.Text.{line}
use Rattle.dc_spec.specs.Entries.{Stream}
use Rattle.dc_spec.specs.Values.{IsValue}
use Rattle.dc_formats.specs.TextFile.{AreBytes, IsTextLine, text_file, hex_text, file_lines}
use Rattle.dc_formats.specs.StreamFile.{short_line, long_line, coin_line, stream_text, IsMessage, IsStream}
use Rattle.dc_formats.proofs.Pieces.{AreFigures, bytes_of, hex_text_figures, decimal_figures}
use Rattle.dc_formats.proofs.SpelledLines.{figures_printable, printable_by_test, joined}
use Rattle.dc_field.specs.declared.refusal.Refusal.{Refusal}
use Rattle.dc_field.specs.Answers.{Answers}
use Rattle.dc_field.specs.NumberInText.{number_in}
use Rattle.dc_field.proofs.NumberText.{number_in-decimal, written_so}
use Rattle.dc_text.specs.Payload.{payload_in}
use Rattle.dc_text.proofs.LineByLine.{with_texts, with_texts-append, file_is_read, file_is_spelled, texts_of_lines, texts_keep}
use Rattle.dc_text.proofs.PayloadDigits.{payload_in-hex_text, hex_text-payload_in}
use Rattle.dc_stream.proofs.ReaderTests.{passed}
use Rattle.dc_stream.specs.declared.fault.StreamFault.{StreamFault}
use Rattle.dc_stream.specs.declared.fault.StreamKind.{StreamKind}
use Rattle.dc_stream.specs.declared.fault.StreamKind.TheVariants.{NotText}
use Rattle.dc_stream.specs.Reading.{stream_fault}
use Rattle.dc_stream.specs.ReadingByLists.{short_into_lists, lists_with_short, long_into_lists, lists_with_long, coin_into_lists, lists_with_coin, lists_with_line, nothing, stream_by_lists}

-- ---- what a line that is read adds

-- a test that a stream needs
needed : (b : Bool) (kind : StreamKind) (t s : Stream) → cond b (Ok t) (Err kind) ≡ Ok s → (b ≡ true) × (t ≡ s)
needed true kind t s e = (refl, cc)
needed false kind t s e = absurd cc

-- payload that a stream took
pub record AddsShort (s : Stream) (rest : List ℕ) (next : Stream) : Type 0 where
  pub value : List ℕ
  pub read : payload_in rest ≡ Some value
  pub fifteen : length value ≡ 15
  pub room : length s.shorts < 4096
  pub no_longs : length s.longs ≡ 0
  pub no_coins : length s.coins ≡ 0
  pub is : record s { shorts = s.shorts ++ value ∷ [] } ≡ next

short_added : (s next : Stream) (rest : List ℕ) (o : Option (List ℕ)) → length s.shorts < 4096 → length s.longs ≡ 0 → length s.coins ≡ 0 → payload_in rest ≡ o
    → short_into_lists s o ≡ Ok next → AddsShort s rest next
short_added s next rest None room longs coins read e = absurd cc
short_added s next rest (Some value) room longs coins read e =
    let long = needed (eqb (length value) 15) _ (record s { shorts = s.shorts ++ value ∷ [] }) next e in
    record { value = value; read = read; fifteen = eqb-true _ _ long.0; room = room; no_longs = longs; no_coins = coins; is = long.1 }

both : (a b : Bool) → not (a && b) ≡ false → (a ≡ true) × (b ≡ true)
both true true e = (refl, refl)
both true false e = absurd cc
both false b e = absurd cc

adds_short : (s next : Stream) (rest : List ℕ) → lists_with_short s rest ≡ Ok next → AddsShort s rest next
unfolding lists_with_short
adds_short s next rest e =
    let order = passed (not (eqb (length s.longs) 0 && eqb (length s.coins) 0)) _ _ next e in
    let room = passed (leb 4096 (length s.shorts)) _ _ next order.1 in
    let none = both (eqb (length s.longs) 0) (eqb (length s.coins) 0) order.0 in
    let some : length s.shorts < 4096 = leb-false _ _ room.0 in
    short_added s next rest (payload_in rest) some (eqb-true _ _ none.0) (eqb-true _ _ none.1) refl room.1

-- a message that a stream took
pub record AddsLong (s : Stream) (rest : List ℕ) (next : Stream) : Type 0 where
  pub message : List ℕ
  pub read : payload_in rest ≡ Some message
  pub most : length message ≤ 3838
  pub room : length s.longs < 256
  pub no_coins : length s.coins ≡ 0
  pub is : record s { longs = s.longs ++ message ∷ [] } ≡ next

long_added : (s next : Stream) (rest : List ℕ) (o : Option (List ℕ)) → length s.longs < 256 → length s.coins ≡ 0 → payload_in rest ≡ o → long_into_lists s o ≡ Ok next → AddsLong s rest next
long_added s next rest None room coins read e = absurd cc
long_added s next rest (Some message) room coins read e =
    let long = needed (leb (length message) 3838) _ (record s { longs = s.longs ++ message ∷ [] }) next e in
    record { message = message; read = read; most = leb-true _ _ long.0; room = room; no_coins = coins; is = long.1 }

adds_long : (s next : Stream) (rest : List ℕ) → lists_with_long s rest ≡ Ok next → AddsLong s rest next
unfolding lists_with_long
adds_long s next rest e =
    let order = passed (not (eqb (length s.coins) 0)) _ _ next e in
    let room = passed (leb 256 (length s.longs)) _ _ next order.1 in
    let some : length s.longs < 256 = leb-false _ _ room.0 in
    long_added s next rest (payload_in rest) some (eqb-true _ _ (not-false _ order.0)) refl room.1

-- a field that a stream took
pub record AddsCoin (s : Stream) (rest : List ℕ) (next : Stream) : Type 0 where
  pub field : ℕ
  pub read : number_in rest ≡ Some field
  pub is_field : field < 16
  pub room : length s.coins < 4096
  pub is : record s { coins = s.coins ++ field ∷ [] } ≡ next

coin_added : (s next : Stream) (rest : List ℕ) (o : Option ℕ) → length s.coins < 4096 → number_in rest ≡ o → coin_into_lists s o ≡ Ok next → AddsCoin s rest next
coin_added s next rest None room read e = absurd cc
coin_added s next rest (Some field) room read e =
    let small = needed (ltb field 16) _ (record s { coins = s.coins ++ field ∷ [] }) next e in
    record { field = field; read = read; is_field = ltb-true _ _ small.0; room = room; is = small.1 }

adds_coin : (s next : Stream) (rest : List ℕ) → lists_with_coin s rest ≡ Ok next → AddsCoin s rest next
unfolding lists_with_coin
adds_coin s next rest e =
    let room = passed (leb 4096 (length s.coins)) _ _ next e in
    coin_added s next rest (number_in rest) (leb-false _ _ room.0) refl room.1

-- ---- its line stands at the end of what is spelled, and the limits stay kept

-- a line more: what it puts there, and what it keeps
record Goes (s next : Stream) (text : List ℕ) : Type 0 where
  spelled : stream_text next ≡ stream_text s ++ line text
  kept : IsStream s → IsStream next

-- shorts stand alone, so one more stands at the end
short_last : (shorts longs : List (List ℕ)) (coins value : List ℕ) → longs ≡ [] → coins ≡ []
    → stream_text (record { shorts = shorts ++ value ∷ []; longs = longs; coins = coins }) ≡ stream_text (record { shorts = shorts; longs = longs; coins = coins }) ++ short_line value
short_last shorts longs coins value no_longs no_coins = rw (no_longs, no_coins) (simp (append-nil, flat_map-append))

-- no coin stands after the longs
long_last : (shorts longs : List (List ℕ)) (coins message : List ℕ) → coins ≡ []
    → stream_text (record { shorts = shorts; longs = longs ++ message ∷ []; coins = coins }) ≡ stream_text (record { shorts = shorts; longs = longs; coins = coins }) ++ long_line message
long_last shorts longs coins message no_coins = rw no_coins (simp (append-nil, flat_map-append, append_assoc))

-- coins stand last
coin_last : (shorts longs : List (List ℕ)) (coins : List ℕ) (field : ℕ)
    → stream_text (record { shorts = shorts; longs = longs; coins = coins ++ field ∷ [] }) ≡ stream_text (record { shorts = shorts; longs = longs; coins = coins }) ++ coin_line field
coin_last shorts longs coins field = simp (append-nil, flat_map-append, append_assoc)

-- a text that begins so
begins : (text needle : List ℕ) → starts_with eqb text needle ≡ true → text ≡ needle ++ drop (length needle) text
begins text needle e =
    let front : needle ≡ take (length needle) text = (bytes_eq-Decides needle (take (length needle) text)).0 e in
    sym (take-append-drop (length needle) text) ∙ ap (λ (xs : List ℕ). xs ++ drop (length needle) text) (sym front)

-- fifteen bytes are a value
value_from : (value : List ℕ) → length value ≡ 15 → AreBytes value → IsValue value
value_from value long are = record {
  fifteen = long;
  bytes = λ i. elim (cases_lt i (length value)) [
    | inl lt ↦ All-get_or (λ b. b < 256) value i 0 lt are
    | inr le ↦ rw (get_or_past value i 0 le) (omega arith)
  ];
}

short_goes : (s next : Stream) (text : List ℕ) → starts_with eqb text (codes "short ") ≡ true → AddsShort s (drop 6 text) next → Goes s next text
short_goes s next text start adds =
    let payload = hex_text-payload_in (drop 6 text) adds.value adds.read in
    let same : line text ≡ short_line adds.value = ap line (begins text (codes "short ") start ∙ ap (λ (xs : List ℕ). codes "short " ++ xs) payload.1) in
    let no_longs : s.longs ≡ [] = nil_from_length s.longs adds.no_longs in
    let no_coins : s.coins ≡ [] = nil_from_length s.coins adds.no_coins in
    record {
      spelled = ap stream_text (sym adds.is) ∙ short_last s.shorts s.longs s.coins adds.value no_longs no_coins ∙ ap (λ (xs : List ℕ). stream_text s ++ xs) (sym same);
      kept = λ is. subst IsStream adds.is (record {
        most_shorts = omega (arith, length_push s.shorts adds.value, adds.room);
        are_values = All-push IsValue s.shorts adds.value is.are_values (value_from adds.value adds.fifteen payload.0);
        most_longs = is.most_longs;
        are_messages = is.are_messages;
        most_coins = is.most_coins;
        are_fields = is.are_fields;
      });
    }

long_goes : (s next : Stream) (text : List ℕ) → starts_with eqb text (codes "long ") ≡ true → AddsLong s (drop 5 text) next → Goes s next text
long_goes s next text start adds =
    let payload = hex_text-payload_in (drop 5 text) adds.message adds.read in
    let same : line text ≡ long_line adds.message = ap line (begins text (codes "long ") start ∙ ap (λ (xs : List ℕ). codes "long " ++ xs) payload.1) in
    let no_coins : s.coins ≡ [] = nil_from_length s.coins adds.no_coins in
    record {
      spelled = ap stream_text (sym adds.is) ∙ long_last s.shorts s.longs s.coins adds.message no_coins ∙ ap (λ (xs : List ℕ). stream_text s ++ xs) (sym same);
      kept = λ is. subst IsStream adds.is (record {
        most_shorts = is.most_shorts;
        are_values = is.are_values;
        most_longs = omega (arith, length_push s.longs adds.message, adds.room);
        are_messages = All-push IsMessage s.longs adds.message is.are_messages (record { most = adds.most; are_bytes = payload.0 });
        most_coins = is.most_coins;
        are_fields = is.are_fields;
      });
    }

coin_goes : (s next : Stream) (text : List ℕ) → starts_with eqb text (codes "coin ") ≡ true → AddsCoin s (drop 5 text) next → Goes s next text
coin_goes s next text start adds =
    let number = written_so (drop 5 text) adds.field adds.read in
    let same : line text ≡ coin_line adds.field = ap line (begins text (codes "coin ") start ∙ ap (λ (xs : List ℕ). codes "coin " ++ xs) number.1) in
    record {
      spelled = ap stream_text (sym adds.is) ∙ coin_last s.shorts s.longs s.coins adds.field ∙ ap (λ (xs : List ℕ). stream_text s ++ xs) (sym same);
      kept = λ is. subst IsStream adds.is (record {
        most_shorts = is.most_shorts;
        are_values = is.are_values;
        most_longs = is.most_longs;
        are_messages = is.are_messages;
        most_coins = omega (arith, length_push s.coins adds.field, adds.room);
        are_fields = All-push (λ c. c < 16) s.coins adds.field is.are_fields adds.is_field;
      });
    }

-- a choice by a test
chosen : (b : Bool) (x r : Result Stream StreamKind) (s : Stream) → cond b x r ≡ Ok s → ((b ≡ true) × (x ≡ Ok s)) ⊎ (r ≡ Ok s)
chosen true x r s e = inl (refl, e)
chosen false x r s e = inr e

-- each line that is read
line_goes : (s next : Stream) (text : List ℕ) → lists_with_line s text ≡ Ok next → Goes s next text
unfolding lists_with_line
line_goes s next text e = elim (chosen (starts_with eqb text (codes "short ")) _ _ next e) [
  | inl short ↦ short_goes s next text short.0 (adds_short s next (drop 6 text) short.1)
  | inr other ↦ elim (chosen (starts_with eqb text (codes "long ")) _ _ next other) [
    | inl long ↦ long_goes s next text long.0 (adds_long s next (drop 5 text) long.1)
    | inr last ↦ elim (chosen (starts_with eqb text (codes "coin ")) _ _ next last) [
      | inl coin ↦ coin_goes s next text coin.0 (adds_coin s next (drop 5 text) coin.1)
      | inr none ↦ absurd cc
    ]
  ]
]

-- nothing is within the limits
nothing_is : IsStream nothing
nothing_is = record {
  most_shorts = omega arith;
  are_values = All-nil IsValue;
  most_longs = omega arith;
  are_messages = All-nil IsMessage;
  most_coins = omega arith;
  are_fields = All-nil (λ c. c < 16);
}

-- what is read is within the limits and spelled so
pub stream_read : (b : List ℕ) (s : Stream) → stream_by_lists b ≡ Ok s → IsStream s × (b ≡ stream_text s)
stream_read b s e =
    let read = texts_of_lines stream_fault NotText lists_with_line 1 nothing s (file_lines b) e in (
      texts_keep lists_with_line IsStream (λ t next text is went. (line_goes t next text went).kept is) nothing s read.texts nothing_is read.made,
      file_is_spelled stream_fault NotText lists_with_line stream_text (λ t next text went. (line_goes t next text went).spelled) 1 nothing s b refl e,
    )

pub is_found : (b : List ℕ) (result : Result Stream (Refusal StreamFault)) → Answers result (stream_by_lists b) → IfOk result (λ s. IsStream s × (b ≡ stream_text s))
is_found b (Ok s) given = stream_read b s given
is_found b (Err refusal) given = tt

-- ---- the text of a stream is read as the stream

-- lines without their ends
abbrev short_words : List ℕ → List ℕ
short_words value = codes "short " ++ hex_text value

abbrev long_words : List ℕ → List ℕ
long_words message = codes "long " ++ hex_text message

abbrev coin_words : ℕ → List ℕ
coin_words field = codes "coin " ++ decimal field

-- all lines of a stream
abbrev texts_of : Stream → List (List ℕ)
texts_of s = map short_words s.shorts ++ map long_words s.longs ++ map coin_words s.coins

-- they make up its text
texts_spell : (s : Stream) → text_file (texts_of s) ≡ stream_text s
texts_spell s = simp (flat_map-append, flat_map-map)

-- a beginning and figures are printable
words_are : (beginning figures : List ℕ) → IsTextLine beginning → AreFigures figures → IsTextLine (beginning ++ figures)
words_are beginning figures p q = joined beginning figures p (figures_printable figures q)

-- all lines are text
texts_are : (s : Stream) → IsStream s → All IsTextLine (texts_of s)
texts_are s is =
    All-append IsTextLine (map short_words s.shorts ++ map long_words s.longs) (map coin_words s.coins)
    (All-append IsTextLine (map short_words s.shorts) (map long_words s.longs)
    (All-map IsTextLine short_words s.shorts (All-weaker IsValue (λ v. IsTextLine (short_words v)) (λ v v_is. words_are (codes "short ") (hex_text v) (printable_by_test (codes "short ") refl) (hex_text_figures v (bytes_of v v_is))) s.shorts is.are_values))
    (All-map IsTextLine long_words s.longs (All-weaker IsMessage (λ m. IsTextLine (long_words m)) (λ m m_is. words_are (codes "long ") (hex_text m) (printable_by_test (codes "long ") refl) (hex_text_figures m m_is.are_bytes)) s.longs is.are_messages)))
    (All-map IsTextLine coin_words s.coins (All-weaker (λ c. c < 16) (λ c. IsTextLine (coin_words c)) (λ c lt. words_are (codes "coin ") (decimal c) (printable_by_test (codes "coin ") refl) (decimal_figures c (omega arith))) s.coins is.are_fields))

-- a short is read
short_read : (s : Stream) (value : List ℕ) → IsValue value → length s.shorts < 4096 → s.longs ≡ [] → s.coins ≡ []
    → lists_with_line s (short_words value) ≡ Ok (record s { shorts = s.shorts ++ value ∷ [] })
unfolding lists_with_line lists_with_short
short_read s value is room no_longs no_coins =
    rw (payload_in-hex_text value (bytes_of value is), no_longs, no_coins, lt-leb 4096 (length s.shorts) room, eq-eqb (length value) 15 is.fifteen) refl

-- a long is read
long_read : (s : Stream) (message : List ℕ) → IsMessage message → length s.longs < 256 → s.coins ≡ [] → lists_with_line s (long_words message) ≡ Ok (record s { longs = s.longs ++ message ∷ [] })
unfolding lists_with_line lists_with_long
long_read s message is room no_coins =
    rw (payload_in-hex_text message is.are_bytes, no_coins, lt-leb 256 (length s.longs) room, le-leb (length message) 3838 is.most) refl

-- a coin is read
coin_read : (s : Stream) (field : ℕ) → field < 16 → length s.coins < 4096 → lists_with_line s (coin_words field) ≡ Ok (record s { coins = s.coins ++ field ∷ [] })
unfolding lists_with_line lists_with_coin
coin_read s field lt room =
    rw (number_in-decimal field (omega arith), lt-leb 4096 (length s.coins) room, lt-ltb field 16 lt) refl

-- one item more at the end of a list, and the others after it
one_after : {X : Type 0} (xs : List X) (x : X) (others : List X) → (xs ++ x ∷ []) ++ others ≡ xs ++ x ∷ others
one_after xs x others = append_assoc xs (x ∷ []) others

-- all shorts are read
shorts_read : (before values : List (List ℕ)) → All IsValue values → length before + length values ≤ 4096
    → with_texts lists_with_line (record { shorts = before; longs = []; coins = [] }) (map short_words values) ≡ Ok (record { shorts = before ++ values; longs = []; coins = [] })
shorts_read before [] are room = rw (append-nil before) refl
shorts_read before (v ∷ values) are room =
    rw (short_read (record { shorts = before; longs = []; coins = [] }) v (All-head IsValue v values are) (omega arith) refl refl, ← one_after before v values)
    (shorts_read (before ++ v ∷ []) values (All-tail IsValue v values are) (omega (arith, length_push before v)))

-- all longs are read
longs_read : (shorts before messages : List (List ℕ)) → All IsMessage messages → length before + length messages ≤ 256
    → with_texts lists_with_line (record { shorts = shorts; longs = before; coins = [] }) (map long_words messages) ≡ Ok (record { shorts = shorts; longs = before ++ messages; coins = [] })
longs_read shorts before [] are room = rw (append-nil before) refl
longs_read shorts before (m ∷ messages) are room =
    rw (long_read (record { shorts = shorts; longs = before; coins = [] }) m (All-head IsMessage m messages are) (omega arith) refl, ← one_after before m messages)
    (longs_read shorts (before ++ m ∷ []) messages (All-tail IsMessage m messages are) (omega (arith, length_push before m)))

-- all coins are read
coins_read : (shorts longs : List (List ℕ)) (before fields : List ℕ) → All (λ c. c < 16) fields → length before + length fields ≤ 4096
    → with_texts lists_with_line (record { shorts = shorts; longs = longs; coins = before }) (map coin_words fields) ≡ Ok (record { shorts = shorts; longs = longs; coins = before ++ fields })
coins_read shorts longs before [] are room = rw (append-nil before) refl
coins_read shorts longs before (c ∷ fields) are room =
    rw (coin_read (record { shorts = shorts; longs = longs; coins = before }) c (All-head (λ c. c < 16) c fields are) (omega arith), ← one_after before c fields)
    (coins_read shorts longs (before ++ c ∷ []) fields (All-tail (λ c. c < 16) c fields are) (omega (arith, length_push before c)))

append_first : (xs ys zs : List (List ℕ)) → with_texts lists_with_line nothing (xs ++ ys ++ zs) ≡ with_texts lists_with_line nothing (xs ++ (ys ++ zs))
append_first xs ys zs = ap (with_texts lists_with_line nothing) (append_assoc xs ys zs)

-- all lines are read
texts_read : (s : Stream) → IsStream s → with_texts lists_with_line nothing (texts_of s) ≡ Ok s
texts_read s is =
    let shorts = shorts_read [] s.shorts is.are_values (omega (arith, is.most_shorts)) in
    let longs = longs_read s.shorts [] s.longs is.are_messages (omega (arith, is.most_longs)) in
    let coins = coins_read s.shorts s.longs [] s.coins is.are_fields (omega (arith, is.most_coins)) in
    append_first (map short_words s.shorts) (map long_words s.longs) (map coin_words s.coins)
    ∙ with_texts-append lists_with_line nothing (record { shorts = s.shorts; longs = []; coins = [] }) (map short_words s.shorts) (map long_words s.longs ++ map coin_words s.coins) shorts
    ∙ with_texts-append lists_with_line (record { shorts = s.shorts; longs = []; coins = [] }) (record { shorts = s.shorts; longs = s.longs; coins = [] }) (map long_words s.longs) (map coin_words s.coins) longs
    ∙ coins

-- the text of a stream is read as the stream
pub stream_again : (s : Stream) → IsStream s → stream_by_lists (stream_text s) ≡ Ok s
stream_again s is =
    ap stream_by_lists (sym (texts_spell s)) ∙ file_is_read stream_fault NotText lists_with_line 1 nothing s (texts_of s) (texts_are s is) (texts_read s is)
