-- Stations that mark a field: where the sum of the marks is 1, there is just one.
use Rattle.std.proofs.Common.{◌≡◌, ℕ, ◌+◌, ◌%◌, ◌<◌, ◌≤◌, ◌⊎◌, ◌==◌, Bool, true, false, cond, List, [], ◌∷◌, length, map, get_or, slice_index, sum_by, All, if◌then◌else◌, refl, sym, ◌∙◌, ap, inl, inr, arith}
use Rattle.std.proofs.lemmas.Bool.{cases_Bool}
use Rattle.std.proofs.lemmas.List.Elements.{All-head, All-tail}
use Rattle.std.proofs.lemmas.List.Sums.{sum_by-cons}
use Rattle.dc_spec.specs.Words.{zero_word, word_sum}
use Rattle.dc_spec.specs.Entries.{IsMessage, Stream}
use Rattle.dc_spec.proofs.Booleans.{nat_eq-comm}
use Rattle.dc_spec.proofs.SumLemmas.{sum_by-map}
use Rattle.dc_spec.proofs.WordLemmas.{symbol-word_of}
use Rattle.dc_station_rules.specs.Stations.{next_mark, marked, mark_word, long_word, burst_word}
use Rattle.dc_message_rules.proofs.Tallies.{total-same, total-most, total-ones}

-- a number of the first message of a station that marks a field
abbrev pub by_mark : ℕ → (List ℕ → ℕ) → List (List ℕ) → List ℕ → ℕ
by_mark field h [] coins = 0
by_mark field h (message ∷ longs) [] = 0
by_mark field h (message ∷ longs) (coin ∷ coins) = if coin == field then h message else 0

abbrev pub at_mark : ℕ → (List ℕ → ℕ) → Stream → ℕ
at_mark field h s = by_mark field h s.longs s.coins

-- the symbols of a mark
zero-symbol : (l : ℕ) → l < 16 → slice_index zero_word l ≡ 0
zero-symbol l few = symbol-word_of (λ _. 0) l few

mark-symbol : (longs : List (List ℕ)) (coins : List ℕ) (field : ℕ) → field < 16 → slice_index (mark_word (next_mark longs coins)) field ≡ by_mark field (λ m. 1) longs coins
mark-symbol [] coins field few = zero-symbol field few
mark-symbol (m ∷ longs) [] field few = zero-symbol field few
mark-symbol (m ∷ longs) (c ∷ coins) field few = symbol-word_of (λ l. if l == c then 1 else 0) field few ∙ ap (λ (b : Bool). cond {A = ℕ} b 1 0) (nat_eq-comm field c)

-- the symbols of a word of a burst
abbrev pub fragment_symbol : ℕ → ℕ → List ℕ → ℕ
fragment_symbol i l message = slice_index (long_word (message ∷ []) i) l

choice : (b : Bool) (w : List ℕ) (l : ℕ) → l < 16 → slice_index (if b then w else zero_word) l ≡ cond b (slice_index w l) 0
choice true w l few = refl
choice false w l few = zero-symbol l few

pub burst-symbol : (longs : List (List ℕ)) (coins : List ℕ) (field i l : ℕ) → l < 16
    → slice_index (burst_word (next_mark longs coins) field longs i) l ≡ by_mark field (fragment_symbol i l) longs coins
burst-symbol [] coins field i l few = zero-symbol l few
burst-symbol (m ∷ longs) [] field i l few = zero-symbol l few
burst-symbol (m ∷ longs) (c ∷ coins) field i l few = choice (c == field) (long_word (m ∷ longs) i) l few

-- a station marks a field or not
pub record Marks (field : ℕ) (s : Stream) : Type 0 where
  pub message : List ℕ
  pub is_message : IsMessage message
  pub only : (h : List ℕ → ℕ) → at_mark field h s ≡ h message

either-mark : (field : ℕ) (s : Stream) → All IsMessage s.longs → ((h : List ℕ → ℕ) → at_mark field h s ≡ 0) ⊎ Marks field s
either-mark field s are = by_stream s.longs s.coins are refl refl
  where
    by_stream : (longs : List (List ℕ)) (coins : List ℕ) → All IsMessage longs → longs ≡ s.longs → coins ≡ s.coins → ((h : List ℕ → ℕ) → at_mark field h s ≡ 0) ⊎ Marks field s
    by_stream [] coins all is_longs is_coins = inl (λ h. sym (λ k. by_mark field h (is_longs k) (is_coins k)))
    by_stream (m ∷ longs) [] all is_longs is_coins = inl (λ h. sym (λ k. by_mark field h (is_longs k) (is_coins k)))
    by_stream (m ∷ longs) (c ∷ coins) all is_longs is_coins = elim (cases_Bool (c == field)) [
      | inl here ↦ inr (record {
        message = m;
        is_message = All-head IsMessage m longs all;
        only = λ h. sym (λ k. by_mark field h (is_longs k) (is_coins k)) ∙ ap (λ (b : Bool). cond b (h m) 0) here;
      })
      | inr away ↦ inl (λ h. sym (λ k. by_mark field h (is_longs k) (is_coins k)) ∙ ap (λ (b : Bool). cond b (h m) 0) away)
    ]

-- streams whose messages are messages
abbrev pub HaveMessages : List Stream → Type 0
HaveMessages streams = All (λ (s : Stream). All IsMessage s.longs) streams

-- where nobody marks a field
no-marker : (field : ℕ) (streams : List Stream) → HaveMessages streams → sum_by (at_mark field (λ m. 1)) streams ≡ 0 → (h : List ℕ → ℕ) → sum_by (at_mark field h) streams ≡ 0
no-marker field [] are none h = refl
no-marker field (s ∷ ss) are none h =
    let count = sum_by-cons (at_mark field (λ m. 1)) s ss in
    let rest = no-marker field ss (All-tail (λ (t : Stream). All IsMessage t.longs) s ss are) (omega arith) h in
    let all = sum_by-cons (at_mark field h) s ss in
    elim (either-mark field s (All-head (λ (t : Stream). All IsMessage t.longs) s ss are)) [
      | inl away ↦ (let here = away h in omega arith)
      | inr marks ↦ (let one = marks.only (λ m. 1) in absurd (omega arith))
    ]

-- just one station of some marks a field, and this is its first message
pub record HasMarker (field : ℕ) (streams : List Stream) : Type 0 where
  pub message : List ℕ
  pub is_message : IsMessage message
  pub only : (h : List ℕ → ℕ) → sum_by (at_mark field h) streams ≡ h message

pub one-marker : (field : ℕ) (streams : List Stream) → HaveMessages streams → sum_by (at_mark field (λ m. 1)) streams ≡ 1 → HasMarker field streams
one-marker field [] are one = absurd (omega arith)
one-marker field (s ∷ ss) are one =
    let count = sum_by-cons (at_mark field (λ m. 1)) s ss in
    let rest_are = All-tail (λ (t : Stream). All IsMessage t.longs) s ss are in
    elim (either-mark field s (All-head (λ (t : Stream). All IsMessage t.longs) s ss are)) [
      | inl away ↦ (let here = away (λ m. 1) in let later = one-marker field ss rest_are (omega arith) in
          record {
            message = later.message;
            is_message = later.is_message;
            only = λ h. sum_by-cons (at_mark field h) s ss ∙ (let x = away h in let y = later.only h in let e : at_mark field h s + sum_by (at_mark field h) ss ≡ h later.message = omega arith in e);
          })
      | inr marks ↦ (let here = marks.only (λ m. 1) in let none = no-marker field ss rest_are (omega arith) in
          record {
            message = marks.message;
            is_message = marks.is_message;
            only = λ h. sum_by-cons (at_mark field h) s ss ∙ (let x = marks.only h in let y = none h in let e : at_mark field h s + sum_by (at_mark field h) ss ≡ h marks.message = omega arith in e);
          })
    ]

-- the sum of the words that mark fields
abbrev pub mark_sum : List Stream → List ℕ
mark_sum streams = word_sum (map (λ (s : Stream). mark_word (marked s)) streams)

few_marks : (longs : List (List ℕ)) (coins : List ℕ) (field : ℕ) → by_mark field (λ m. 1) longs coins ≤ 1
few_marks [] coins field = omega arith
few_marks (m ∷ longs) [] field = omega arith
few_marks (m ∷ longs) (c ∷ coins) field = at_most_one (c == field)
  where
    at_most_one : (b : Bool) → cond {A = ℕ} b 1 0 ≤ 1
    at_most_one true = omega arith
    at_most_one false = omega arith

small : (x : ℕ) → x ≤ 256 → x % 65537 ≡ x
small x few = omega arith

pub mark_sum-symbol : (streams : List Stream) → length streams ≤ 256 → (field : ℕ) → field < 16 → slice_index (mark_sum streams) field ≡ sum_by (at_mark field (λ m. 1)) streams
mark_sum-symbol streams few field low =
    let bound = total-most (at_mark field (λ m. 1)) (λ (s : Stream). 1) streams (λ k d within. few_marks (get_or streams k d).longs (get_or streams k d).coins field) in
    let all = total-ones streams in
    symbol-word_of (λ l. sum_by (λ w. slice_index w l) (map (λ (s : Stream). mark_word (marked s)) streams) % 65537) field low
    ∙ ap (λ n. n % 65537) (sum_by-map (λ w. slice_index w field) (λ (s : Stream). mark_word (marked s)) streams
    ∙ total-same (λ (s : Stream). slice_index (mark_word (marked s)) field) (at_mark field (λ m. 1)) streams (λ k d within. mark-symbol (get_or streams k d).longs
    (get_or streams k d).coins field low))
    ∙ small (sum_by (at_mark field (λ m. 1)) streams) (omega arith)
