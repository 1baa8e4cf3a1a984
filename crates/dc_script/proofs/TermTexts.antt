-- The line of a term is read as it is written.
use Rattle.std.proofs.Common.{◌≡◌, ℕ, ◌+◌, ◌<◌, ◌≤◌, ◌==◌, Bool, true, false, cond, List, [], ◌∷◌, ◌++◌, length, take, drop, get_or, Option, Some, None, refl, sym, ◌∙◌, ap, subst, arith, codes, append_assoc}
use Rattle.std.specs.Prelude.{nat_lt, position}
use Rattle.std.specs.List.{position_or_len}
use Rattle.std.specs.Fmt.{decimal}
use Rattle.std.proofs.Math.Seq.{take-append_seam, get_or-append_seam, drop-append-add}
use Rattle.std.proofs.Math.ListN.{get_or-append}
use Rattle.std.proofs.lemmas.Bool.{ltb-true, ltb-false, le-ltb, lt-ltb, eqb-true, ne_eqb}
use Rattle.std.proofs.lemmas.List.{length-append, take-append-drop, drop_more}
use Rattle.std.proofs.lemmas.List.Elements.{All-get_or}
use Rattle.std.proofs.lemmas.List.Sums.{position_or_len_is}
use Rattle.std.proofs.lemmas.List.Quantifiers.{position-Some}
use Rattle.dc_spec.specs.Text.{symbol_text}
use Rattle.dc_spec.specs.Scripts.{Term}
use Rattle.dc_field.specs.NumberInText.{number_in}
use Rattle.dc_field.specs.SymbolInText.{symbol_of_text}
use Rattle.dc_field.proofs.NumberText.{number_in-decimal, written_so}
use Rattle.dc_field.proofs.SymbolText.{symbol_text-symbol_of_text, symbol_below, symbol_of_text-symbol_text}
use Rattle.dc_formats.proofs.Pieces.{IsFigure, AreFigures, decimal_figures, word_text_figures}
use Rattle.dc_script.specs.Items.{cut_at, cut, at_most, number_up_to, not_zero, factor_in, term_with_symbol, term_with_round, round_in, term_with_station, station_in, term_with_factor, factor_after, term_with_to, to_in, term_in, IsTermLine}

-- ---- cut at a blank

-- figures, a blank and a rest are cut there
cut_joined : (a rest : List ℕ) → AreFigures a → cut (a ++ 32 ∷ rest) ≡ Some (a, rest)
cut_joined a rest figures =
    let text = a ++ 32 ∷ rest in
    let long : length (a ++ 32 ∷ rest) ≡ length a + length (32 ∷ rest) = length-append a (32 ∷ rest) in
    let before : (k : ℕ) → k < length a → (get_or (a ++ 32 ∷ rest) k 0 == 32) ≡ false = λ k lt.
    let figure : IsFigure (get_or a k 0) = All-get_or IsFigure a k 0 lt figures in
    rw (get_or-append a (32 ∷ rest) 0 k lt) (ne_eqb (get_or a k 0) 32 (λ e. absurd (omega (arith, e, figure.0)))) in
    let place : position_or_len (λ (c : ℕ). c == 32) (a ++ 32 ∷ rest) ≡ length a = position_or_len_is (λ (c : ℕ). c == 32) (a ++ 32 ∷ rest) (length a) 0 (omega (arith, long)) before
    (λ lt. rw (get_or-append_seam a 32 rest 0) refl) in
    let there : nat_lt (length a) (length (a ++ 32 ∷ rest)) ≡ true = lt-ltb _ _ (omega (arith, long)) in
    let front : take (length a) (a ++ 32 ∷ rest) ≡ a = take-append_seam a (32 ∷ rest) in
    let after : drop (length a + 1) (a ++ 32 ∷ rest) ≡ rest = drop-append-add a (32 ∷ rest) 1 in
    rw (place, there, front, after) refl

-- what is cut is so
cut_is : (text : List ℕ) (o : Option ℕ) (p : List ℕ × List ℕ) → position (λ c. c == 32) text ≡ o → cut_at text o ≡ Some p → text ≡ p.0 ++ 32 ∷ p.1
cut_is text None p is e = absurd cc
cut_is text (Some place) p is e =
    let found = position-Some (λ (c : ℕ). c == 32) text place 0 is in
    let pair : (take place text, drop (place + 1) text) ≡ p = cc in
    let rest : drop place text ≡ 32 ∷ drop (place + 1) text = drop_more text place 0 found.0 ∙ ap (λ (c : ℕ). c ∷ drop (place + 1) text) (eqb-true _ _ found.1) in
    subst (λ (q : List ℕ × List ℕ). text ≡ q.0 ++ 32 ∷ q.1) pair (sym (take-append-drop place text) ∙ ap (λ (ys : List ℕ). take place text ++ ys) rest)

-- ---- numbers and factors

number_spelled : (most n : ℕ) → n ≤ most → most < 65536 → number_up_to most (decimal n) ≡ Some n
number_spelled most n le small = rw (number_in-decimal n (omega arith), le-ltb most n le) refl

within_found : (b : Bool) (n m : ℕ) → cond b None (Some n) ≡ Some m → (b ≡ false) × (n ≡ m)
within_found true n m e = absurd cc
within_found false n m e = (refl, cc)

most_found : (most : ℕ) (text : List ℕ) (o : Option ℕ) (n : ℕ) → number_in text ≡ o → at_most most o ≡ Some n → (text ≡ decimal n) × (n ≤ most)
most_found most text None n is e = absurd cc
most_found most text (Some m) n is e =
    let found = within_found (nat_lt most m) m n e in
    ((written_so text m is).1 ∙ ap decimal found.1, omega (arith, ltb-false _ _ found.0, found.1))

number_found : (most : ℕ) (text : List ℕ) (n : ℕ) → number_up_to most text ≡ Some n → (text ≡ decimal n) × (n ≤ most)
number_found most text n e = most_found most text (number_in text) n refl e

factor_spelled : (x : ℕ) → 1 ≤ x → x < 65537 → factor_in (symbol_text x) ≡ Some x
factor_spelled x some small = ap not_zero (symbol_of_text-symbol_text x small) ∙ rw (lt-ltb 0 x (omega arith)) refl

some_found : (b : Bool) (n m : ℕ) → cond b (Some n) None ≡ Some m → (b ≡ true) × (n ≡ m)
some_found true n m e = (refl, cc)
some_found false n m e = absurd cc

not_zero_found : (text : List ℕ) (o : Option ℕ) (x : ℕ) → symbol_of_text text ≡ o → not_zero o ≡ Some x → (text ≡ symbol_text x) × (1 ≤ x) × (x < 65537)
not_zero_found text None x is e = absurd cc
not_zero_found text (Some y) x is e =
    let found = some_found (nat_lt 0 y) y x e in
    let same : symbol_of_text text ≡ Some x = is ∙ ap (λ (z : ℕ). Some z) found.1 in
    (symbol_text-symbol_of_text text x same, omega (arith, ltb-true _ _ found.0, found.1), symbol_below text x same)

factor_found : (text : List ℕ) (x : ℕ) → factor_in text ≡ Some x → (text ≡ symbol_text x) × (1 ≤ x) × (x < 65537)
factor_found text x e = not_zero_found text (symbol_of_text text) x refl e

-- ---- a term from a place on

abbrev from_round : Term → List ℕ
from_round t = decimal t.round ++ 32 ∷ decimal t.symbol

abbrev from_station : Term → List ℕ
from_station t = decimal t.station ++ 32 ∷ from_round t

abbrev from_factor : Term → List ℕ
from_factor t = symbol_text t.factor ++ 32 ∷ from_station t

abbrev pub from_to : Term → List ℕ
from_to t = decimal t.to ++ 32 ∷ from_factor t

-- one piece after another
five_pieces : (a b c d e : List ℕ) → (((((((a ++ 32 ∷ []) ++ b) ++ 32 ∷ []) ++ c) ++ 32 ∷ []) ++ d) ++ 32 ∷ []) ++ e ≡ a ++ 32 ∷ (b ++ 32 ∷ (c ++ 32 ∷ (d ++ 32 ∷ e)))
five_pieces a b c d e = simp (append_assoc)

pub tail_of : (t : Term) → (((((((decimal t.to ++ codes " ") ++ symbol_text t.factor) ++ codes " ") ++ decimal t.station) ++ codes " ") ++ decimal t.round) ++ codes " ") ++ decimal t.symbol
    ≡ from_to t
tail_of t = five_pieces (decimal t.to) (symbol_text t.factor) (decimal t.station) (decimal t.round) (decimal t.symbol)

-- ---- what is written is read

round_spelled : (t : Term) → IsTermLine t → round_in t.to t.factor t.station (cut (from_round t)) ≡ Some t
round_spelled t is =
    ap (round_in t.to t.factor t.station) (cut_joined (decimal t.round) (decimal t.symbol) (decimal_figures t.round (omega (arith, is.round))))
    ∙ rw (number_spelled 4095 t.round (omega (arith, is.round)) (omega arith), number_spelled 15 t.symbol (omega (arith, is.symbol)) (omega arith)) refl

station_spelled : (t : Term) → IsTermLine t → station_in t.to t.factor (cut (from_station t)) ≡ Some t
station_spelled t is =
    ap (station_in t.to t.factor) (cut_joined (decimal t.station) (from_round t) (decimal_figures t.station (omega (arith, is.station))))
    ∙ rw (number_spelled 65535 t.station (omega (arith, is.station)) (omega arith)) (round_spelled t is)

factor_after_spelled : (t : Term) → IsTermLine t → factor_after t.to (cut (from_factor t)) ≡ Some t
factor_after_spelled t is =
    ap (factor_after t.to) (cut_joined (symbol_text t.factor) (from_station t) (word_text_figures (t.factor ∷ [])))
    ∙ rw (factor_spelled t.factor is.some_factor is.factor) (station_spelled t is)

from_to_spelled : (t : Term) → IsTermLine t → term_in (from_to t) ≡ Some t
from_to_spelled t is =
    ap to_in (cut_joined (decimal t.to) (from_factor t) (decimal_figures t.to (omega (arith, is.to))))
    ∙ rw (number_spelled 15 t.to (omega (arith, is.to)) (omega arith)) (factor_after_spelled t is)

pub term_in-spelled : (t : Term) → IsTermLine t
    → term_in
    ((((((((decimal t.to ++ codes " ") ++ symbol_text t.factor) ++ codes " ") ++ decimal t.station) ++ codes " ") ++ decimal t.round) ++ codes " ") ++ decimal t.symbol) ≡ Some t
term_in-spelled t is = ap term_in (tail_of t) ∙ from_to_spelled t is

-- ---- what is read is written so

abbrev RoundFound : ℕ → ℕ → ℕ → List ℕ → Term → Type 0
RoundFound to factor station text t = (t.to ≡ to) × (t.factor ≡ factor) × (t.station ≡ station) × (text ≡ from_round t) × (t.round < 4096) × (t.symbol < 16)

symbol_is : (to factor station round : ℕ) (text : List ℕ) (o : Option ℕ) (t : Term) → number_up_to 15 text ≡ o → term_with_symbol to factor station round o ≡ Some t
    → (t.to ≡ to) × (t.factor ≡ factor) × (t.station ≡ station) × (t.round ≡ round) × (text ≡ decimal t.symbol) × (t.symbol < 16)
symbol_is to factor station round text None t is e = absurd cc
symbol_is to factor station round text (Some symbol) t is e =
    let whole : record { to = to; factor = factor; station = station; round = round; symbol = symbol } ≡ t = cc in
    let found = number_found 15 text symbol is in
    subst (λ (u : Term). (u.to ≡ to) × (u.factor ≡ factor) × (u.station ≡ station) × (u.round ≡ round) × (text ≡ decimal u.symbol) × (u.symbol < 16)) whole
    (refl, refl, refl, refl, found.0, omega (arith, found.1))

round_is : (to factor station : ℕ) (text rest : List ℕ) (o : Option ℕ) (t : Term) → number_up_to 4095 text ≡ o → term_with_round to factor station o rest ≡ Some t
    → RoundFound to factor station (text ++ 32 ∷ rest) t
round_is to factor station text rest None t is e = absurd cc
round_is to factor station text rest (Some round) t is e =
    let found = number_found 4095 text round is in
    let symbol = symbol_is to factor station round rest (number_up_to 15 rest) t refl e in
    (symbol.0, symbol.1, symbol.2, rw (found.0, symbol.4, sym symbol.3) refl, omega (arith, found.1, symbol.3), symbol.5)

round_found : (to factor station : ℕ) (text : List ℕ) (o : Option (List ℕ × List ℕ)) (t : Term) → cut text ≡ o → round_in to factor station o ≡ Some t → RoundFound to factor station text t
round_found to factor station text None t is e = absurd cc
round_found to factor station text (Some p) t is e =
    let whole : text ≡ p.0 ++ 32 ∷ p.1 = cut_is text (position (λ c. c == 32) text) p refl is in
    subst (λ (x : List ℕ). RoundFound to factor station x t) (sym whole) (round_is to factor station p.0 p.1 (number_up_to 4095 p.0) t refl e)

abbrev StationFound : ℕ → ℕ → List ℕ → Term → Type 0
StationFound to factor text t = (t.to ≡ to) × (t.factor ≡ factor) × (text ≡ from_station t) × (t.station < 65536) × (t.round < 4096) × (t.symbol < 16)

station_is : (to factor : ℕ) (text rest : List ℕ) (o : Option ℕ) (t : Term) → number_up_to 65535 text ≡ o → term_with_station to factor o rest ≡ Some t → StationFound to factor (text ++ 32 ∷ rest) t
station_is to factor text rest None t is e = absurd cc
station_is to factor text rest (Some station) t is e =
    let found = number_found 65535 text station is in
    let after = round_found to factor station rest (cut rest) t refl e in
    (after.0, after.1, rw (found.0, after.3, sym after.2) refl, omega (arith, found.1, after.2), after.4, after.5)

station_found : (to factor : ℕ) (text : List ℕ) (o : Option (List ℕ × List ℕ)) (t : Term) → cut text ≡ o → station_in to factor o ≡ Some t → StationFound to factor text t
station_found to factor text None t is e = absurd cc
station_found to factor text (Some p) t is e =
    let whole : text ≡ p.0 ++ 32 ∷ p.1 = cut_is text (position (λ c. c == 32) text) p refl is in
    subst (λ (x : List ℕ). StationFound to factor x t) (sym whole) (station_is to factor p.0 p.1 (number_up_to 65535 p.0) t refl e)

abbrev FactorFound : ℕ → List ℕ → Term → Type 0
FactorFound to text t = (t.to ≡ to) × (text ≡ from_factor t) × (1 ≤ t.factor) × (t.factor < 65537) × (t.station < 65536) × (t.round < 4096) × (t.symbol < 16)

factor_is : (to : ℕ) (text rest : List ℕ) (o : Option ℕ) (t : Term) → factor_in text ≡ o → term_with_factor to o rest ≡ Some t → FactorFound to (text ++ 32 ∷ rest) t
factor_is to text rest None t is e = absurd cc
factor_is to text rest (Some factor) t is e =
    let found = factor_found text factor is in
    let after = station_found to factor rest (cut rest) t refl e in
    (after.0, rw (found.0, after.2, sym after.1) refl, omega (arith, found.1, after.1), omega (arith, found.2, after.1), after.3, after.4, after.5)

factor_after_found : (to : ℕ) (text : List ℕ) (o : Option (List ℕ × List ℕ)) (t : Term) → cut text ≡ o → factor_after to o ≡ Some t → FactorFound to text t
factor_after_found to text None t is e = absurd cc
factor_after_found to text (Some p) t is e =
    let whole : text ≡ p.0 ++ 32 ∷ p.1 = cut_is text (position (λ c. c == 32) text) p refl is in
    subst (λ (x : List ℕ). FactorFound to x t) (sym whole) (factor_is to p.0 p.1 (factor_in p.0) t refl e)

to_is : (text rest : List ℕ) (o : Option ℕ) (t : Term) → number_up_to 15 text ≡ o → term_with_to o rest ≡ Some t → (text ++ 32 ∷ rest ≡ from_to t) × IsTermLine t
to_is text rest None t is e = absurd cc
to_is text rest (Some to) t is e =
    let found = number_found 15 text to is in
    let after = factor_after_found to rest (cut rest) t refl e in
    (rw (found.0, after.1, sym after.0) refl, record { to = omega (arith, found.1, after.0); some_factor = after.2; factor = after.3; station = after.4; round = after.5; symbol = after.6 })

to_found : (text : List ℕ) (o : Option (List ℕ × List ℕ)) (t : Term) → cut text ≡ o → to_in o ≡ Some t → (text ≡ from_to t) × IsTermLine t
to_found text None t is e = absurd cc
to_found text (Some p) t is e =
    let whole : text ≡ p.0 ++ 32 ∷ p.1 = cut_is text (position (λ c. c == 32) text) p refl is in
    let found = to_is p.0 p.1 (number_up_to 15 p.0) t refl e in
    (whole ∙ found.0, found.1)

pub term_found : (text : List ℕ) (t : Term) → term_in text ≡ Some t → (text ≡ from_to t) × IsTermLine t
term_found text t e = to_found text (cut text) t refl e
