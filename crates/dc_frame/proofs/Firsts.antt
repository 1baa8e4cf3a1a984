-- What is first in bytes: an unfinished frame, a whole one, or a fault.
use Rattle.std.proofs.Common.{◌≡◌, ℕ, ◌+◌, ◌<◌, ◌≤◌, Bool, true, false, List, ◌++◌, length, take, drop, get_or, Option, Some, None, Result, Ok, Err, inl, inr, ◌⊎◌, refl, ap, ◌∙◌, arith, if◌then◌else◌, nat_lt, ◌==◌, ◌||◌, unwrap_or}
use Rattle.std.proofs.lemmas.Bool.{ltb-true, ltb-false, le-ltb}
use Rattle.std.proofs.lemmas.List.{get_or_append_left, drop-append-le, take-append-le, length-append, length-drop}
use Rattle.dc_spec.specs.Bytes.{short_at}
use Rattle.dc_spec.specs.Frames.{Frame, hello, send, all}
use Rattle.dc_field.specs.declared.word_from_bytes.SymFault.{SymFault}
use Rattle.dc_frame.specs.declared.fault.FrameFault.{FrameFault}
use Rattle.dc_frame.specs.Reading.{first, body_length, sized, header_of, round_frame, worded, body_of, after_header, frame_size}

-- a whole frame: its header, all its bytes and its body
pub record IsWhole (bytes : List ℕ) (frame : Frame) : Type 0 where
  pub size : ℕ
  pub header : header_of bytes ≡ Ok size
  pub long : 3 + size ≤ length bytes
  pub body : body_of bytes ≡ Ok (Some frame)

-- a frame comes only where a test does not hold
if_some : (b : Bool) (r : Result (Option Frame) FrameFault) (frame : Frame) → (if b then Ok None else r) ≡ Ok (Some frame) → (b ≡ false) × (r ≡ Ok (Some frame))
if_some true r frame e = absurd cc
if_some false r frame e = (refl, e)

after_some : (bytes : List ℕ) (h : Result ℕ FrameFault) (frame : Frame) → header_of bytes ≡ h → after_header bytes h ≡ Ok (Some frame) → IsWhole bytes frame
after_some bytes (Err fault) frame is e = absurd cc
after_some bytes (Ok n) frame is e =
    let parts = if_some (nat_lt (length bytes) (3 + n)) (body_of bytes) frame e in
    record { size = n; header = is; long = ltb-false _ _ parts.0; body = parts.1 }

pub whole_from_first : (bytes : List ℕ) (frame : Frame) → first bytes ≡ Ok (Some frame) → IsWhole bytes frame
unfolding first
whole_from_first bytes frame e = after_some bytes (header_of bytes) frame refl (if_some (nat_lt (length bytes) 3) (after_header bytes (header_of bytes)) frame e).1

pub first_where_whole : (bytes : List ℕ) (frame : Frame) → IsWhole bytes frame → first bytes ≡ Ok (Some frame)
unfolding first
first_where_whole bytes frame w =
    let long = w.long in
    rw (le-ltb (length bytes) 3 (omega arith), w.header, le-ltb (length bytes) (3 + w.size) long) w.body

-- ---- sizes

length_by_test : (b c : Bool) (n : ℕ) → (if b then Some 6 else if c then Some 66 else None) ≡ Some n → ((b ≡ true) × (n ≡ 6)) ⊎ ((b ≡ false) × (n ≡ 66))
length_by_test true c n e = inl (refl, cc)
length_by_test false true n e = inr (refl, cc)
length_by_test false false n e = absurd cc

if_good : (b : Bool) (m n : ℕ) (fault : FrameFault) → (if b then Ok m else Err fault) ≡ Ok n → Some m ≡ Some n
if_good true m n fault e = cc
if_good false m n fault e = absurd cc

good_length : (bytes : List ℕ) (o : Option ℕ) (n : ℕ) → sized bytes o ≡ Ok n → o ≡ Some n
good_length bytes None n e = absurd cc
good_length bytes (Some m) n e = if_good (short_at bytes 1 == m) m n _ e

-- how long a body is, by whether the tag is that of a hello
pub size_by_tag : (bytes : List ℕ) (n : ℕ) → header_of bytes ≡ Ok n → (((get_or bytes 0 0 == 1) ≡ true) × (n ≡ 6)) ⊎ (((get_or bytes 0 0 == 1) ≡ false) × (n ≡ 66))
size_by_tag bytes n e =
    let tag = get_or bytes 0 0 in
    length_by_test (tag == 1) ((tag == 2) || (tag == 3)) n (good_length bytes (body_length tag) n e)

round_size : (b : Bool) (t : ℕ) (w : List ℕ) (frame : Frame) → (if b then send t w else all t w) ≡ frame → frame_size frame ≡ 69
round_size true t w frame e = rw (← e) refl
round_size false t w frame e = rw (← e) refl

worded_size : (bytes : List ℕ) (r : Result (List ℕ) SymFault) (frame : Frame) → worded bytes r ≡ Ok (Some frame) → frame_size frame ≡ 69
worded_size bytes (Err fault) frame e = absurd cc
worded_size bytes (Ok w) frame e =
    let same : round_frame (get_or bytes 0 0) (short_at bytes 3) w ≡ frame = cc in
    round_size (get_or bytes 0 0 == 2) (short_at bytes 3) w frame same

body_size : (b : Bool) (i n t : ℕ) (bytes : List ℕ) (r : Result (List ℕ) SymFault) (frame : Frame) → (if b then Ok (Some (hello i n t)) else worded bytes r) ≡ Ok (Some frame)
    → ((b ≡ true) × (frame_size frame ≡ 9)) ⊎ ((b ≡ false) × (frame_size frame ≡ 69))
body_size true i n t bytes r frame e = let same : hello i n t ≡ frame = cc in inl (refl, rw (← same) refl)
body_size false i n t bytes r frame e = inr (refl, worded_size bytes r frame e)

-- a frame has as many bytes as its header and its body
pub whole_size : (bytes : List ℕ) (frame : Frame) (w : IsWhole bytes frame) → frame_size frame ≡ 3 + w.size
whole_size bytes frame w = elim (size_by_tag bytes w.size w.header) [
  | inl h ↦ elim (body_size (get_or bytes 0 0 == 1) _ _ _ bytes _ frame w.body) [
    | inl k ↦ omega (arith, h.1, k.1)
    | inr k ↦ absurd (cc (h.0, k.0))
  ]
  | inr h ↦ elim (body_size (get_or bytes 0 0 == 1) _ _ _ bytes _ frame w.body) [
    | inl k ↦ absurd (cc (h.0, k.0))
    | inr k ↦ omega (arith, h.1, k.1)
  ]
]

-- ---- more bytes behind

sized_stays : (bytes more : List ℕ) → 3 ≤ length bytes → (o : Option ℕ) → sized (bytes ++ more) o ≡ sized bytes o
sized_stays bytes more long None = rw (get_or_append_left bytes more 0 0 (omega arith)) refl
sized_stays bytes more long (Some n) = rw (get_or_append_left bytes more 0 1 (omega arith), get_or_append_left bytes more 0 2 (omega arith)) refl

pub header_stays : (bytes more : List ℕ) → 3 ≤ length bytes → header_of (bytes ++ more) ≡ header_of bytes
header_stays bytes more long =
    sized_stays bytes more long (body_length (get_or (bytes ++ more) 0 0)) ∙ ap (λ (t : ℕ). sized bytes (body_length t)) (get_or_append_left bytes more 0 0 (omega arith))

word_stays : (bytes more : List ℕ) → 69 ≤ length bytes → take 64 (drop 5 (bytes ++ more)) ≡ take 64 (drop 5 bytes)
word_stays bytes more long = rw (drop-append-le 5 bytes more (omega arith)) (take-append-le 64 (drop 5 bytes) more (omega (arith, length-drop 5 bytes)))

hello_stays : (bytes more : List ℕ) → 9 ≤ length bytes → (get_or bytes 0 0 == 1) ≡ true → body_of (bytes ++ more) ≡ body_of bytes
hello_stays bytes more long tag =
    rw (
      get_or_append_left bytes more 0 0 (omega arith),
      tag,
      get_or_append_left bytes more 0 3 (omega arith),
      get_or_append_left bytes more 0 4 (omega arith),
      get_or_append_left bytes more 0 5 (omega arith),
      get_or_append_left bytes more 0 6 (omega arith),
      get_or_append_left bytes more 0 7 (omega arith),
      get_or_append_left bytes more 0 8 (omega arith),
    ) refl

worded_stays : (bytes more : List ℕ) → 69 ≤ length bytes → (r : Result (List ℕ) SymFault) → worded (bytes ++ more) r ≡ worded bytes r
worded_stays bytes more long (Err fault) = refl
worded_stays bytes more long (Ok w) =
    rw (get_or_append_left bytes more 0 0 (omega arith), get_or_append_left bytes more 0 3 (omega arith), get_or_append_left bytes more 0 4 (omega arith)) refl

round_stays : (bytes more : List ℕ) → 69 ≤ length bytes → (get_or bytes 0 0 == 1) ≡ false → body_of (bytes ++ more) ≡ body_of bytes
round_stays bytes more long tag =
    rw (get_or_append_left bytes more 0 0 (omega arith), tag, word_stays bytes more long) (worded_stays bytes more long _)

pub body_stays : (bytes more : List ℕ) (n : ℕ) → header_of bytes ≡ Ok n → 3 + n ≤ length bytes → body_of (bytes ++ more) ≡ body_of bytes
body_stays bytes more n header long = elim (size_by_tag bytes n header) [
  | inl h ↦ hello_stays bytes more (omega (arith, h.1)) h.0
  | inr h ↦ round_stays bytes more (omega (arith, h.1)) h.0
]

-- a whole frame is first whatever follows it
pub first_stays : (bytes more : List ℕ) (frame : Frame) → first bytes ≡ Ok (Some frame) → first (bytes ++ more) ≡ Ok (Some frame)
first_stays bytes more frame e =
    let w = whole_from_first bytes frame e in
    let long = w.long in
    first_where_whole (bytes ++ more) frame (record {
      size = w.size;
      header = header_stays bytes more (omega arith) ∙ w.header;
      long = omega (arith, length-append bytes more);
      body = body_stays bytes more w.size w.header w.long ∙ w.body;
    })

-- ---- unfinished frames

never_none : (bytes : List ℕ) (r : Result (List ℕ) SymFault) → worded bytes r ≡ Ok None → ⊥
never_none bytes (Ok w) e = cc
never_none bytes (Err fault) e = cc

body_never_none : (b : Bool) (frame : Frame) (bytes : List ℕ) (r : Result (List ℕ) SymFault) → (if b then Ok (Some frame) else worded bytes r) ≡ Ok None → ⊥
body_never_none true frame bytes r e = cc
body_never_none false frame bytes r e = never_none bytes r e

if_none : (b : Bool) (r : Result (Option Frame) FrameFault) → (if b then Ok None else r) ≡ Ok None → (r ≡ Ok None → ⊥) → b ≡ true
if_none true r e never = refl
if_none false r e never = absurd (never e)

if_long : (b : Bool) (r : Result (Option Frame) FrameFault) → (if b then Ok None else r) ≡ Ok None → b ≡ false → r ≡ Ok None
if_long true r e off = absurd cc
if_long false r e off = e

after_none : (bytes : List ℕ) (h : Result ℕ FrameFault) → header_of bytes ≡ h → after_header bytes h ≡ Ok None → (n : ℕ) × (header_of bytes ≡ Ok n) × (length bytes < 3 + n)
after_none bytes (Err fault) is e = absurd cc
after_none bytes (Ok n) is e =
    let short = if_none (nat_lt (length bytes) (3 + n)) (body_of bytes) e (body_never_none (get_or bytes 0 0 == 1) _ bytes _) in
    (n, is, ltb-true _ _ short)

-- an unfinished frame with a header has a good one, and fewer bytes than this says
pub unfinished_body : (bytes : List ℕ) → first bytes ≡ Ok None → 3 ≤ length bytes → (n : ℕ) × (header_of bytes ≡ Ok n) × (length bytes < 3 + n)
unfolding first
unfinished_body bytes e long = after_none bytes (header_of bytes) refl (if_long (nat_lt (length bytes) 3) (after_header bytes (header_of bytes)) e (le-ltb (length bytes) 3 long))

-- the body's length by the tag alone
pub length_by_header : (bytes : List ℕ) (n : ℕ) → header_of bytes ≡ Ok n → unwrap_or (body_length (get_or bytes 0 0)) 0 ≡ n
length_by_header bytes n e = rw (good_length bytes (body_length (get_or bytes 0 0)) n e) refl

-- a body has at least six bytes
pub some_body : (bytes : List ℕ) (n : ℕ) → header_of bytes ≡ Ok n → 6 ≤ n
some_body bytes n e = elim (size_by_tag bytes n e) [
  | inl h ↦ omega (arith, h.1)
  | inr h ↦ omega (arith, h.1)
]
