-- The text of a script tells its version and, round after round, the words with their terms and the deliveries.
use Rattle.std.proofs.Common.{◌≡◌, ℕ, ◌+◌, ◌<◌, ◌≤◌, ◌≢◌, List, [], ◌∷◌, ◌++◌, length, drop, All, refl, sym, ◌∙◌, ap, codes, arith}
use Rattle.std.specs.List.{flat_map, enumerate_from}
use Rattle.std.specs.Fmt.{decimal}
use Rattle.std.proofs.lemmas.List.{append_assoc, append_cancel_left}
use Rattle.std.proofs.lemmas.Fmt.{decimal_injective}
use Rattle.dc_spec.specs.Words.{IsWord}
use Rattle.dc_spec.specs.Text.{symbol_text, word_text, line}
use Rattle.dc_spec.specs.Scripts.{Term, Said, Delivery, all_sum, each, Turn, Script}
use Rattle.dc_formats.specs.WordLines.{station_word_line}
use Rattle.dc_formats.specs.ScriptFile.{term_line, said_lines, delivery_lines, turn_lines, script_text, IsTerm, IsSaid, IsTurn, IsScript}
use Rattle.dc_formats.proofs.Readable.{IsReadable, IsReadableBefore, Ends, read_until, read_until_before, read_to_byte}
use Rattle.dc_formats.proofs.Pieces.{decimal_figures, read_symbol_text, read_word_text}
use Rattle.dc_formats.proofs.TextLaws.{no_feed, no_blank, other_letter}
use Rattle.dc_formats.proofs.ScriptTurns.{AreTurnsFrom, first_turn, later_turns, all_turns}

-- a number and the blank after it
read_to_blank : (m n : ℕ) (r s : List ℕ) → m < 65536 → n < 65536 → decimal m ++ 32 ∷ r ≡ decimal n ++ 32 ∷ s → (m ≡ n) × (r ≡ s)
read_to_blank m n r s p q e =
    let parts : (decimal m ≡ decimal n) × (r ≡ s) = read_to_byte 32 (decimal m) (decimal n) r s (no_blank (decimal m) (decimal_figures m (omega arith)))
    (no_blank (decimal n) (decimal_figures n (omega arith))) e in
    (decimal_injective m n (omega arith) (omega arith) parts.0, parts.1)

-- a number and the end of the line
read_to_feed : (m n : ℕ) (r s : List ℕ) → m < 65536 → n < 65536 → decimal m ++ 10 ∷ r ≡ decimal n ++ 10 ∷ s → (m ≡ n) × (r ≡ s)
read_to_feed m n r s p q e =
    let parts : (decimal m ≡ decimal n) × (r ≡ s) = read_to_byte 10 (decimal m) (decimal n) r s (no_feed (decimal m) (decimal_figures m (omega arith)))
    (no_feed (decimal n) (decimal_figures n (omega arith))) e in
    (decimal_injective m n (omega arith) (omega arith) parts.0, parts.1)

-- a station and a word after the beginning of their line
abbrev station_parts : ℕ → List ℕ → List ℕ → List ℕ
station_parts i w r = decimal i ++ 32 ∷ (word_text w ++ 10 ∷ r)

-- the number, then the word
read_station_parts : (i j : ℕ) (v w r s : List ℕ) → i < 65536 → j < 65536 → IsWord v → IsWord w → station_parts i v r ≡ station_parts j w s → (i ≡ j) × (v ≡ w) × (r ≡ s)
read_station_parts i j v w r s p q is is' e =
    let number : (i ≡ j) × (word_text v ++ 10 ∷ r ≡ word_text w ++ 10 ∷ s) = read_to_blank i j _ _ p q e in
    let words : (v ≡ w) × (10 ∷ r ≡ 10 ∷ s) = read_word_text v w _ _ is is' number.1 in
    (number.0, words.0, cc (words.1))

-- a term after the word `add`
abbrev term_parts : Term → List ℕ → List ℕ
term_parts x r = decimal x.to ++ 32 ∷ (symbol_text x.factor ++ 32 ∷ (decimal x.station ++ 32 ∷ (decimal x.round ++ 32 ∷ (decimal x.symbol ++ 10 ∷ r))))

-- its five numbers one after the other
read_term_parts : (k : ℕ) → k < 65536 → (x y : Term) (r s : List ℕ) → IsTerm k x → IsTerm k y → term_parts x r ≡ term_parts y s → (x ≡ y) × (r ≡ s)
read_term_parts k small x y r s p q e =
    let some : (x.to < 65536) × (y.to < 65536) = (omega (arith, p.to), omega (arith, q.to)) in
    let past : (x.round < 65536) × (y.round < 65536) = (omega (arith, p.no_later), omega (arith, q.no_later)) in
    let last : (x.symbol < 65536) × (y.symbol < 65536) = (omega (arith, p.symbol), omega (arith, q.symbol)) in
    let to = read_to_blank x.to y.to _ _ some.0 some.1 e in
    let factor = read_symbol_text x.factor y.factor _ _ p.factor q.factor to.1 in
    let station = read_to_blank x.station y.station _ _ p.station q.station (cc (factor.1)) in
    let round = read_to_blank x.round y.round _ _ past.0 past.1 station.1 in
    let symbol = read_to_feed x.symbol y.symbol _ _ last.0 last.1 round.1 in
    ((λ i. record { to = to.0 i; factor = factor.0 i; station = station.0 i; round = round.0 i; symbol = symbol.0 i }), symbol.1)

-- the line of a term of one of the rounds that a session can have
read_term_line : (k : ℕ) → k < 65536 → IsReadable (IsTerm k) term_line
read_term_line k small x y r s p q e =
    let apart : codes "add " ++ term_parts x r ≡ codes "add " ++ term_parts y s = simp append_assoc at e in
    read_term_parts k small x y r s p q cc

-- what no line of a term begins
abbrev NoTerm : ℕ → List ℕ → Type 0
NoTerm k r = Ends (IsTerm k) term_line r

-- a station, its word and its terms, up to what is no term
read_said : (k c : ℕ) (b : List ℕ) → k < 65536 → IsReadableBefore (NoTerm k) (IsSaid k) (said_lines (c ∷ b))
read_said k c b small x y r s p q ends ends' e =
    let terms : List ℕ = flat_map term_line x.terms ++ r in
    let terms' : List ℕ = flat_map term_line y.terms ++ s in
    let apart : station_word_line (c ∷ b) x.station x.word ++ terms ≡ station_word_line (c ∷ b) y.station y.word ++ terms' =
    sym (append_assoc (station_word_line (c ∷ b) x.station x.word) _ r) ∙ e ∙ append_assoc (station_word_line (c ∷ b) y.station y.word) _ s in
    let after : (c ∷ b) ++ station_parts x.station x.word terms ≡ (c ∷ b) ++ station_parts y.station y.word terms' = simp append_assoc at apart in
    let first : (x.station ≡ y.station) × (x.word ≡ y.word) × (terms ≡ terms') =
    read_station_parts x.station y.station x.word y.word terms terms' p.station q.station p.is_word q.is_word (append_cancel_left (c ∷ b) _ _ after) in
    let rest : (x.terms ≡ y.terms) × (r ≡ s) = read_until (IsTerm k) term_line (read_term_line k small) x.terms y.terms r s p.are_terms q.are_terms ends ends' first.2 in
    ((λ i. record { station = first.0 i; word = first.1 i; terms = rest.0 i }), rest.1)

-- a line that begins with another letter is no line of a term
other_line : (k c : ℕ) (r : List ℕ) → c ≢ 97 → NoTerm k (c ∷ r)
other_line k c r differ x t is e = other_letter c 97 _ _ e differ

-- words with their terms, up to what is neither a further one nor a term
read_saids : (k c : ℕ) (b : List ℕ) → k < 65536 → c ≢ 97 → (xs ys : List Said) (r s : List ℕ) → All (IsSaid k) xs → All (IsSaid k) ys → NoTerm k r → NoTerm k s
    → Ends (IsSaid k) (said_lines (c ∷ b)) r → Ends (IsSaid k) (said_lines (c ∷ b)) s → flat_map (said_lines (c ∷ b)) xs ++ r ≡ flat_map (said_lines (c ∷ b)) ys ++ s → (xs ≡ ys) × (r ≡ s)
read_saids k c b small differ xs ys r s = read_until_before (NoTerm k) (IsSaid k) (said_lines (c ∷ b)) (read_said k c b small) (λ x r is. other_line k c _ differ) xs ys r s

-- nothing follows a round, or the next round
AfterRound : List ℕ → Type 0
AfterRound r = (c : ℕ) (t : List ℕ) → c ≢ 114 → r ≡ c ∷ t → ⊥

-- so no term does
no_term_after : (k : ℕ) (r : List ℕ) → AfterRound r → NoTerm k r
unfolding AfterRound
no_term_after k r after x t is e = after 97 _ (λ same. omega arith) e

-- and no `to` line
no_to_after : (k : ℕ) (r : List ℕ) → AfterRound r → Ends (IsSaid k) (said_lines (codes "to ")) r
unfolding AfterRound
no_to_after k r after x t is e = after 116 _ (λ same. omega arith) e

-- a delivery that a round may have: where words are dealt, there is one at least
IsDealt : ℕ → Delivery → Type 0
IsDealt k all_sum = Unit {0}
IsDealt k (each dealt) = (1 ≤ length dealt) × All (IsSaid k) dealt

-- the delivery of a round of a script is one that it may have
dealt_of : (k : ℕ) (turn : Turn) → IsTurn k turn → (d : Delivery) → turn.delivery ≡ d → IsDealt k d
unfolding IsDealt
dealt_of k turn is all_sum e = tt
dealt_of k turn is (each dealt) e = (is.some_dealt dealt e, (is.dealt_words dealt e).are_said)

-- no `say` line stands after the `say` lines and their terms
says_end : (k : ℕ) (d : Delivery) (r : List ℕ) → IsDealt k d → Ends (IsSaid k) (said_lines (codes "say ")) (delivery_lines d ++ r)
unfolding IsDealt
says_end k all_sum r dealt x t is e = other_letter 97 115 _ _ e (λ same. omega arith)
says_end k (each []) r dealt x t is e = omega arith
says_end k (each (d ∷ ds)) r dealt x t is e = other_letter 116 115 _ _ e (λ same. omega arith)

-- nor a term
terms_end : (k : ℕ) (d : Delivery) (r : List ℕ) → IsDealt k d → NoTerm k (delivery_lines d ++ r)
unfolding IsDealt
terms_end k all_sum r dealt x t is e = other_letter 108 100 _ _ (ap (drop 1) e) (λ same. omega arith)
terms_end k (each []) r dealt x t is e = omega arith
terms_end k (each (d ∷ ds)) r dealt x t is e = other_line k 116 _ (λ same. omega arith) x t is e

-- a delivery, up to the next round
read_delivery : (k : ℕ) → k < 65536 → (d d' : Delivery) (r s : List ℕ) → IsDealt k d → IsDealt k d' → AfterRound r → AfterRound s → delivery_lines d ++ r ≡ delivery_lines d' ++ s → (d ≡ d') × (r ≡ s)
unfolding IsDealt
read_delivery k small all_sum all_sum r s p q after after' e = (refl, cc)
read_delivery k small all_sum (each []) r s p q after after' e = absurd (omega arith)
read_delivery k small all_sum (each (w ∷ ws)) r s p q after after' e = absurd (other_letter 97 116 _ _ e (λ same. omega arith))
read_delivery k small (each []) all_sum r s p q after after' e = absurd (omega arith)
read_delivery k small (each (w ∷ ws)) all_sum r s p q after after' e = absurd (other_letter 116 97 _ _ e (λ same. omega arith))
read_delivery k small (each ws) (each vs) r s p q after after' e =
    let words : (ws ≡ vs) × (r ≡ s) = read_saids k 116 (codes "o ") small (λ same. omega arith) ws vs r s p.1 q.1 (no_term_after k r after) (no_term_after k s after')
    (no_to_after k r after) (no_to_after k s after') e in
    (ap each words.0, words.1)

-- four texts, the last three taken together
regrouped : (a b c d : List ℕ) → ((a ++ b) ++ c) ++ d ≡ a ++ (b ++ (c ++ d))
regrouped a b c d = append_assoc (a ++ b) c d ∙ append_assoc a b (c ++ d)

-- the `say` lines of a round with their terms
abbrev say_lines : List Said → List ℕ
say_lines says = flat_map (said_lines (codes "say ")) says

-- a round with its number, up to the next one
read_turn : (k : ℕ) → k < 65536 → (x y : Turn) (r s : List ℕ) → IsTurn k x → IsTurn k y → AfterRound r → AfterRound s → turn_lines k x ++ r ≡ turn_lines k y ++ s → (x ≡ y) × (r ≡ s)
read_turn k small x y r s p q after after' e =
    let head : List ℕ = line (codes "round " ++ decimal k) in
    let apart : head ++ (say_lines x.says ++ (delivery_lines x.delivery ++ r)) ≡ head ++ (say_lines y.says ++ (delivery_lines y.delivery ++ s)) =
    sym (regrouped head (say_lines x.says) (delivery_lines x.delivery) r) ∙ e ∙ regrouped head (say_lines y.says) (delivery_lines y.delivery) s in
    let dealt : IsDealt k x.delivery = dealt_of k x p x.delivery refl in
    let dealt' : IsDealt k y.delivery = dealt_of k y q y.delivery refl in
    let says : (x.says ≡ y.says) × (delivery_lines x.delivery ++ r ≡ delivery_lines y.delivery ++ s) =
    read_saids k 115 (codes "ay ") small (λ same. omega arith) x.says y.says _ _ p.said.are_said q.said.are_said (terms_end k x.delivery r dealt) (terms_end k y.delivery s dealt')
    (says_end k x.delivery r dealt) (says_end k y.delivery s dealt') (append_cancel_left head _ _ apart) in
    let delivered : (x.delivery ≡ y.delivery) × (r ≡ s) = read_delivery k small x.delivery y.delivery r s dealt dealt' after after' says.1 in
    ((λ i. record { says = says.0 i; delivery = delivered.0 i }), delivered.1)

-- the rounds from a number on
abbrev rounds_text : ℕ → List Turn → List ℕ
rounds_text k turns = flat_map (λ t. turn_lines t.0 t.1) (enumerate_from k turns)

-- a round begins with its number
begins_round : (k : ℕ) (turns : List Turn) → AfterRound (rounds_text k turns)
unfolding AfterRound
begins_round k [] c t differ e = cc
begins_round k (turn ∷ turns) c t differ e = other_letter 114 c _ _ e (λ same. differ (sym same))

-- round after round
read_rounds : (k : ℕ) (xs ys : List Turn) → k + length xs ≤ 65536 → AreTurnsFrom k xs → AreTurnsFrom k ys → rounds_text k xs ≡ rounds_text k ys → xs ≡ ys
read_rounds k [] [] few p q e = refl
read_rounds k [] (y ∷ ys) few p q e = cc
read_rounds k (x ∷ xs) [] few p q e = cc
read_rounds k (x ∷ xs) (y ∷ ys) few p q e =
    let first : (x ≡ y) × (rounds_text (k + 1) xs ≡ rounds_text (k + 1) ys) = read_turn k (omega arith) x y _ _ (first_turn k x xs p) (first_turn k y ys q) (begins_round (k + 1) xs)
    (begins_round (k + 1) ys) e in
    let rest : xs ≡ ys = read_rounds (k + 1) xs ys (omega arith) (later_turns k x xs p) (later_turns k y ys q) first.1 in
    cc (first.0, rest)

-- the version in the head line
read_head : (v w : ℕ) (r s : List ℕ) → v < 65536 → w < 65536 → line (codes "dcscript " ++ decimal v) ++ r ≡ line (codes "dcscript " ++ decimal w) ++ s → (v ≡ w) × (r ≡ s)
read_head v w r s p q e =
    let apart : codes "dcscript " ++ (decimal v ++ 10 ∷ r) ≡ codes "dcscript " ++ (decimal w ++ 10 ∷ s) = simp append_assoc at e in
    read_to_feed v w r s p q (append_cancel_left (codes "dcscript ") _ _ apart)

-- the head line, then the rounds
pub script_tells : (x y : Script) → IsScript x → IsScript y → script_text x ≡ script_text y → x ≡ y
script_tells x y p q e =
    let few : length x.rounds ≤ 4096 = p.most_rounds in
    let versions : (x.version < 65536) × (y.version < 65536) = (omega (arith, p.most_version), omega (arith, q.most_version)) in
    let head : (x.version ≡ y.version) × (rounds_text 0 x.rounds ≡ rounds_text 0 y.rounds) = read_head x.version y.version _ _ versions.0 versions.1 e in
    let rounds : x.rounds ≡ y.rounds = read_rounds 0 x.rounds y.rounds (omega arith) (all_turns x.rounds p.are_turns) (all_turns y.rounds q.are_turns) head.1 in
    λ i. record { version = head.0 i; rounds = rounds i }
