-- The texts of streams, scripts and lists are text files: every line holds printable characters alone.
use Rattle.std.proofs.Common.{◌≡◌, ℕ, ◌+◌, ◌<◌, ◌≤◌, ◌^◌, true, ◌&&◌, nat_le, List, [], ◌∷◌, ◌++◌, length, All, refl, sym, codes, arith}
use Rattle.std.specs.List.{flat_map, list_all, enumerate_from}
use Rattle.std.specs.Fmt.{decimal}
use Rattle.std.proofs.lemmas.List.{append-nil}
use Rattle.std.proofs.lemmas.List.Elements.{All-nil, All-cons, All-append, All-weaker, All-head, All-tail}
use Rattle.std.proofs.lemmas.List.Sums.{AllPass-from_list_all}
use Rattle.std.proofs.lemmas.Grind.{flat_map-append}
use Rattle.std.proofs.lemmas.Bool.Decides.{nat_tests}
use Rattle.dc_spec.specs.Words.{IsWord}
use Rattle.dc_spec.specs.Text.{symbol_text, word_text, line}
use Rattle.dc_spec.specs.Entries.{Stream}
use Rattle.dc_formats.specs.TextFile.{IsPrintable, IsTextLine, IsTextFile, AreBytes, hex_text}
use Rattle.dc_formats.specs.WordLines.{station_word_line}
use Rattle.dc_spec.specs.Values.{IsValue}
use Rattle.dc_formats.specs.StreamFile.{short_line, long_line, coin_line, stream_text, IsMessage, IsStream}
use Rattle.dc_spec.specs.Scripts.{Term, Said, Delivery, all_sum, each, delivered_words, Turn, Script}
use Rattle.dc_formats.specs.ScriptFile.{term_line, said_lines, delivery_lines, turn_lines, script_text, IsTerm, IsSaid, AreSaid, IsTurn, IsScript}
use Rattle.dc_formats.proofs.ScriptTurns.{AreTurnsFrom, first_turn, later_turns, all_turns, delivered_are}
use Rattle.dc_formats.specs.ListFiles.{images_text, AreImages, wanted_text, AreWanted}
use Rattle.dc_formats.proofs.Pieces.{bytes_of, IsFigure, AreFigures, hex_text_figures, symbol_text_figures, word_text_figures, decimal_figures}

-- digits are printable
pub figures_printable : (t : List ℕ) → AreFigures t → IsTextLine t
figures_printable t figures = All-weaker IsFigure IsPrintable (λ c figure. (omega arith, omega arith)) t figures

-- a text that a test finds printable
pub printable_by_test : (t : List ℕ) → list_all (λ c. nat_le 32 c && nat_le c 126) t ≡ true → IsTextLine t
printable_by_test t e =
    All-weaker (λ c. (nat_le 32 c && nat_le c 126) ≡ true) IsPrintable (λ c passed. (grind (arith, nat_tests), grind (arith, nat_tests))) t (AllPass-from_list_all (λ c. nat_le 32 c
    && nat_le c 126) t e)

-- one text after another
pub joined : (a b : List ℕ) → IsTextLine a → IsTextLine b → IsTextLine (a ++ b)
joined a b p q = All-append IsPrintable a b p q

-- a line is a text file
line_is_file : (t : List ℕ) → IsTextLine t → IsTextFile (line t)
line_is_file t p = record { texts = t ∷ []; are_lines = All-cons IsTextLine t [] p (All-nil IsTextLine); spelled = sym (append-nil (line t)) }

-- a text file after another
files_joined : (a b : List ℕ) → IsTextFile a → IsTextFile b → IsTextFile (a ++ b)
files_joined a b p q = record {
  texts = p.texts ++ q.texts;
  are_lines = All-append IsTextLine p.texts q.texts p.are_lines q.are_lines;
  spelled = cc (p.spelled, q.spelled, flat_map-append line p.texts q.texts);
}

-- a text file for each item of a list
files_of : {X : Type 0} (P : X → Type 0) (f : X → List ℕ) → ((x : X) → P x → IsTextFile (f x)) → (xs : List X) → All P xs → IsTextFile (flat_map f xs)
files_of P f file [] p = record { texts = []; are_lines = All-nil IsTextLine; spelled = refl }
files_of P f file (x ∷ xs) p = files_joined (f x) (flat_map f xs) (file x (All-head P x xs p)) (files_of P f file xs (All-tail P x xs p))

-- a number a line
pub images_are_text : (xs : List ℕ) → AreImages xs → IsTextFile (images_text xs)
images_are_text xs p = files_of (λ i. i < 256) (λ i. line (decimal i)) (λ i lt. line_is_file (decimal i) (figures_printable (decimal i) (decimal_figures i (omega arith)))) xs p.numbers

-- a word a line
pub wanted_is_text : (xs : List (List ℕ)) → AreWanted xs → IsTextFile (wanted_text xs)
wanted_is_text xs p = files_of IsWord (λ w. line (word_text w)) (λ w is. line_is_file (word_text w) (figures_printable (word_text w) (word_text_figures w))) xs p.are_words

-- a beginning and payload
payload_line : (beginning bytes : List ℕ) → IsTextLine beginning → AreBytes bytes → IsTextFile (line (beginning ++ hex_text bytes))
payload_line beginning bytes p are = line_is_file _ (joined beginning (hex_text bytes) p (figures_printable (hex_text bytes) (hex_text_figures bytes are)))

-- a beginning and a number
number_line : (beginning : List ℕ) (n : ℕ) → IsTextLine beginning → n < 2 ^ 64 → IsTextFile (line (beginning ++ decimal n))
number_line beginning n p lt = line_is_file _ (joined beginning (decimal n) p (figures_printable (decimal n) (decimal_figures n lt)))

-- lines of payload, then lines of numbers
pub stream_is_text : (s : Stream) → IsStream s → IsTextFile (stream_text s)
stream_is_text s p =
    files_joined (flat_map short_line s.shorts ++ flat_map long_line s.longs) (flat_map coin_line s.coins)
    (files_joined (flat_map short_line s.shorts) (flat_map long_line s.longs)
    (files_of IsValue short_line (λ v is. payload_line (codes "short ") v (printable_by_test (codes "short ") refl) (bytes_of v is)) s.shorts p.are_values)
    (files_of IsMessage long_line (λ m is. payload_line (codes "long ") m (printable_by_test (codes "long ") refl) is.are_bytes) s.longs p.are_messages))
    (files_of (λ c. c < 16) coin_line (λ c lt. number_line (codes "coin ") c (printable_by_test (codes "coin ") refl) (omega arith)) s.coins p.are_fields)

-- two texts with a blank between them
with_blank : (t u : List ℕ) → IsTextLine t → IsTextLine u → IsTextLine (t ++ codes " " ++ u)
with_blank t u p q = joined (t ++ codes " ") u (joined t (codes " ") p (printable_by_test (codes " ") refl)) q

-- a number
number_text : (n : ℕ) → n < 65536 → IsTextLine (decimal n)
number_text n lt = figures_printable (decimal n) (decimal_figures n (omega arith))

-- a beginning, a station and a word
station_line : (beginning : List ℕ) (i : ℕ) (w : List ℕ) → IsTextLine beginning → i < 65536 → IsTextFile (station_word_line beginning i w)
station_line beginning i w p lt = line_is_file (beginning ++ decimal i ++ codes " " ++ word_text w)
    (with_blank (beginning ++ decimal i) (word_text w) (joined beginning (decimal i) p (number_text i lt)) (figures_printable (word_text w) (word_text_figures w)))

-- a term
term_is_text : (r : ℕ) (term : Term) → r < 65536 → IsTerm r term → IsTextFile (term_line term)
term_is_text r term small is =
    let beginning : List ℕ = codes "add " ++ decimal term.to in
    let factor : List ℕ = beginning ++ codes " " ++ symbol_text term.factor in
    let station : List ℕ = factor ++ codes " " ++ decimal term.station in
    let round : List ℕ = station ++ codes " " ++ decimal term.round in
    let begins : IsTextLine beginning = joined (codes "add ") (decimal term.to) (printable_by_test (codes "add ") refl) (number_text term.to (omega (arith, is.to))) in
    line_is_file (round ++ codes " " ++ decimal term.symbol)
    (with_blank round (decimal term.symbol)
    (with_blank station (decimal term.round)
    (with_blank factor (decimal term.station)
    (with_blank beginning (symbol_text term.factor) begins (figures_printable (symbol_text term.factor) (symbol_text_figures term.factor)))
    (number_text term.station is.station))
    (number_text term.round (omega (arith, is.no_later))))
    (number_text term.symbol (omega (arith, is.symbol))))

-- a station's word and its terms
said_is_text : (beginning : List ℕ) (r : ℕ) (said : Said) → IsTextLine beginning → r < 65536 → IsSaid r said → IsTextFile (said_lines beginning said)
said_is_text beginning r said p small is =
    files_joined (station_word_line beginning said.station said.word) _ (station_line beginning said.station said.word p is.station)
    (files_of (IsTerm r) term_line (λ term fits. term_is_text r term small fits) said.terms is.are_terms)

-- words of stations and their terms
saids_are_text : (beginning : List ℕ) (r : ℕ) (listed : List Said) → IsTextLine beginning → r < 65536 → AreSaid r listed → IsTextFile (flat_map (said_lines beginning) listed)
saids_are_text beginning r listed p small are =
    files_of (IsSaid r) (said_lines beginning) (λ said is. said_is_text beginning r said p small is) listed are.are_said

-- the one line `all`, or words of stations
delivery_is_text : (r : ℕ) (d : Delivery) → r < 65536 → AreSaid r (delivered_words d) → IsTextFile (delivery_lines d)
delivery_is_text r all_sum small are = line_is_file (codes "all") (printable_by_test (codes "all") refl)
delivery_is_text r (each dealt) small are = saids_are_text (codes "to ") r dealt (printable_by_test (codes "to ") refl) small are

-- the round line, the words that are said, the delivery
turn_is_text : (r : ℕ) (turn : Turn) → r < 65536 → IsTurn r turn → IsTextFile (turn_lines r turn)
turn_is_text r turn small is =
    files_joined _ (delivery_lines turn.delivery)
    (files_joined _ _ (number_line (codes "round ") r (printable_by_test (codes "round ") refl) (omega arith))
    (saids_are_text (codes "say ") r turn.says (printable_by_test (codes "say ") refl) small is.said))
    (delivery_is_text r turn.delivery small (delivered_are r turn is))

-- the rounds from a number on
rounds_are_text : (k : ℕ) (turns : List Turn) → k + length turns ≤ 65536 → AreTurnsFrom k turns → IsTextFile (flat_map (λ t. turn_lines t.0 t.1) (enumerate_from k turns))
rounds_are_text k [] small p = record { texts = []; are_lines = All-nil IsTextLine; spelled = refl }
rounds_are_text k (turn ∷ turns) small p =
    files_joined (turn_lines k turn) _ (turn_is_text k turn (omega arith) (first_turn k turn turns p)) (rounds_are_text (k + 1) turns (omega arith) (later_turns k turn turns p))

-- the head line, then round after round
pub script_is_text : (s : Script) → IsScript s → IsTextFile (script_text s)
script_is_text s p =
    let few : length s.rounds ≤ 4096 = p.most_rounds in
    let version : s.version < 2 ^ 64 = omega (arith, p.most_version) in
    files_joined (line (codes "dcscript " ++ decimal s.version)) _ (number_line (codes "dcscript ") s.version (printable_by_test (codes "dcscript ") refl) version)
    (rounds_are_text 0 s.rounds (omega arith) (all_turns s.rounds p.are_turns))
