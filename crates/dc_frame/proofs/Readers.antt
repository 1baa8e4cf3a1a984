-- A reader, and the bytes that it was fed.
use Rattle.std.proofs.Common.{◌≡◌, ℕ, ◌+◌, ◌-◌, ◌<◌, ◌≤◌, ◌↔◌, List, [], ◌∷◌, ◌++◌, length, drop, get_or, Option, Some, None, Result, Ok, Err, inl, inr, refl, sym, ap, subst, ◌∙◌, arith, append_assoc, append-nil, unwrap_or, slice_get}
use Rattle.std.specs.Result.{result_err}
use Rattle.std.proofs.lemmas.Bool.{cases_lt, le-ltb, lt-ltb}
use Rattle.std.proofs.lemmas.List.{length-append, get_or_append_left}
use Rattle.std.proofs.Math.ListN.{drop_of_length-le}
use Rattle.std.proofs.lemmas.Option.{slice_get_past}
use Rattle.dc_spec.specs.Frames.{Frame}
use Rattle.dc_frame.specs.declared.fault.FrameFault.{FrameFault}
use Rattle.dc_frame.specs.Reading.{Reading, first, frame_size, header_of, body_length, reading_from, reading, placed, capped, put_before, missing, needed, fault_in}
use Rattle.dc_frame.specs.Reader.{ReaderState, IsOneFrame, StandsFor}
use Rattle.dc_frame.proofs.Firsts.{IsWhole, whole_from_first, whole_size, unfinished_body, length_by_header, some_body}
use Rattle.dc_frame.proofs.Readings.{put_all_before, reading_known, reading_joined}

-- ---- the frame in progress

unfinished : (start : ℕ) (part : List ℕ) → first part ≡ Ok None → reading_from (length part) start part ≡ record { frames = []; ends = Ok part }
unfinished start part e = reading_known start part (Ok None) e

one_frame : (start : ℕ) (part : List ℕ) (frame : Frame) → first part ≡ Ok (Some frame) → length part ≡ frame_size frame → reading_from (length part) start part ≡ record { frames = frame ∷ []; ends = Ok [] }
unfolding reading_from
one_frame start part frame e long =
    let none : drop (frame_size frame) part ≡ [] = drop_of_length-le part (omega arith) in
    reading_known start part (Ok (Some frame)) e ∙ ap (λ (b : List ℕ). put_before frame (reading_from (length b) (start + frame_size frame) b)) none

faulty : (start : ℕ) (part : List ℕ) (fault : FrameFault) → first part ≡ Err fault → reading_from (length part) start part ≡ record { frames = []; ends = Err (placed start fault) }
faulty start part fault e = reading_known start part (Err fault) e

-- ---- what is still to come

by_header : (part : List ℕ) (n : ℕ) → 3 ≤ length part → header_of part ≡ Ok n → missing part ≡ 3 + n - length part
by_header part n long e = rw (le-ltb (length part) 3 long, length_by_header part n e) refl

before_header : (part : List ℕ) → length part < 3 → missing part ≡ 3 - length part
before_header part short = rw (lt-ltb (length part) 3 short) refl

pub some_missing : (part : List ℕ) → first part ≡ Ok None → 1 ≤ missing part
some_missing part e = elim (cases_lt (length part) 3) [
  | inl lt ↦ rw (before_header part lt) (omega arith)
  | inr le ↦ let body = unfinished_body part e le in rw (by_header part body.0 le body.1) (omega (arith, body.2))
]

whole_length : (part : List ℕ) (frame : Frame) (w : IsWhole part frame) → length part ≡ frame_size frame → length part ≡ 3 + w.size
whole_length part frame w long = long ∙ whole_size part frame w

pub none_missing : (part : List ℕ) (frame : Frame) → first part ≡ Ok (Some frame) → length part ≡ frame_size frame → missing part ≡ 0
none_missing part frame e long =
    let w = whole_from_first part frame e in
    let same = whole_length part frame w long in
    by_header part w.size (omega arith) w.header ∙ (omega arith)

within_by : (part : List ℕ) (r : Result (Option Frame) FrameFault) → first part ≡ r → IsOneFrame (length part) r → 3 ≤ length part → length part ≤ 3 + unwrap_or (body_length (get_or part 0 0)) 0
within_by part (Ok None) e one long =
    let body = unfinished_body part e long in
    let is = length_by_header part body.0 body.1 in
    omega (arith, body.2)
within_by part (Ok (Some frame)) e one long =
    let w = whole_from_first part frame e in
    let is = length_by_header part w.size w.header in
    let same = whole_length part frame w one in
    omega arith
within_by part (Err fault) e one long = absurd one

-- the bytes of one frame are no more than its tag says
pub within : (part : List ℕ) → IsOneFrame (length part) (first part) → 3 ≤ length part → length part ≤ 3 + unwrap_or (body_length (get_or part 0 0)) 0
within part one long = within_by part (first part) refl one long

-- a frame that is whole after a piece that was not too long has no byte too many
exactly : (part piece : List ℕ) (frame : Frame) → first (part ++ piece) ≡ Ok (Some frame) → 1 ≤ length piece → length piece ≤ missing part → length (part ++ piece) ≡ frame_size frame
exactly part piece frame e some fits =
    let w = whole_from_first (part ++ piece) frame e in
    let size = whole_size (part ++ piece) frame w in
    let long = w.long in
    let all = length-append part piece in
    let body = some_body (part ++ piece) w.size w.header in
    elim (cases_lt (length part) 3) [
      | inl lt ↦ absurd (let is = before_header part lt in omega (arith, is))
      | inr le ↦
          let tag : get_or (part ++ piece) 0 0 ≡ get_or part 0 0 = get_or_append_left part piece 0 0 (omega arith) in
          let is : unwrap_or (body_length (get_or part 0 0)) 0 ≡ w.size = subst (λ (t : ℕ). unwrap_or (body_length t) 0 ≡ w.size) tag (length_by_header (part ++ piece) w.size w.header) in
          let due : missing part ≡ 3 + w.size - length part = rw (le-ltb (length part) 3 le, is) refl in
          omega (arith, due)
    ]

pub one_after : (part piece : List ℕ) (o : Option Frame) → first (part ++ piece) ≡ Ok o → 1 ≤ length piece → length piece ≤ missing part → IsOneFrame (length (part ++ piece)) (first (part ++ piece))
one_after part piece None e some fits = rw e tt
one_after part piece (Some frame) e some fits = rw e (exactly part piece frame e some fits)

-- ---- the reader

-- what is read of all bytes
pub reading_of : (r : ReaderState) (bytes : List ℕ) (taken : ℕ) (s : StandsFor r bytes taken) → reading bytes ≡ put_all_before s.frames (reading_from (length r.part) (length s.front) r.part)
reading_of r bytes taken s = ap (λ (b : List ℕ). reading b) s.whole ∙ reading_joined s.front r.part s.frames s.read

-- a piece more, whatever it holds
pub more : (r : ReaderState) (bytes piece : List ℕ) (taken : ℕ) → StandsFor r bytes taken → StandsFor (record { start = r.start; part = r.part ++ piece }) (bytes ++ piece) taken
more r bytes piece taken s = record {
  front = s.front;
  frames = s.frames;
  whole = ap (λ (b : List ℕ). b ++ piece) s.whole ∙ append_assoc s.front r.part piece;
  read = s.read;
  count = s.count;
  place = s.place;
}

-- no fault
pub no_fault : (r : ReaderState) (bytes : List ℕ) (taken : ℕ) (o : Option Frame) → first r.part ≡ Ok o → IsOneFrame (length r.part) (first r.part) → StandsFor r bytes taken → None ≡ fault_in bytes
no_fault r bytes taken None e one s = sym (ap (λ (x : Reading). result_err x.ends) (reading_of r bytes taken s ∙ ap (put_all_before s.frames) (unfinished (length s.front) r.part e)))
no_fault r bytes taken (Some frame) e one s =
    let long : length r.part ≡ frame_size frame = rw e at one in
    sym (ap (λ (x : Reading). result_err x.ends) (reading_of r bytes taken s ∙ ap (put_all_before s.frames) (one_frame (length s.front) r.part frame e long)))

abbrev some_fault : ℕ → FrameFault → Option FrameFault
some_fault n fault = Some (record { at = n; kind = fault.kind })

-- a fault
pub a_fault : (r : ReaderState) (bytes : List ℕ) (taken : ℕ) (fault : FrameFault) → first r.part ≡ Err fault → StandsFor r bytes taken
    → Some (record { at = capped (r.start + fault.at); kind = fault.kind }) ≡ fault_in bytes
a_fault r bytes taken fault e s =
    let place : capped (r.start + fault.at) ≡ capped (length s.front + fault.at) = let start = s.place in omega arith in
    ap (λ (n : ℕ). some_fault n fault) place
    ∙ sym (ap (λ (x : Reading). result_err x.ends) (reading_of r bytes taken s ∙ ap (put_all_before s.frames) (faulty (length s.front) r.part fault e)))

-- ---- what is needed and what is taken

-- where the frame is not finished
read_unfinished : (r : ReaderState) (bytes : List ℕ) (taken : ℕ) (s : StandsFor r bytes taken) → first r.part ≡ Ok None → reading bytes ≡ record { frames = s.frames ++ []; ends = Ok r.part }
read_unfinished r bytes taken s e = reading_of r bytes taken s ∙ ap (put_all_before s.frames) (unfinished (length s.front) r.part e)

-- where it is whole
read_whole : (r : ReaderState) (bytes : List ℕ) (taken : ℕ) (s : StandsFor r bytes taken) (frame : Frame) → first r.part ≡ Ok (Some frame) → length r.part ≡ frame_size frame
    → reading bytes ≡ record { frames = s.frames ++ frame ∷ []; ends = Ok [] }
read_whole r bytes taken s frame e long = reading_of r bytes taken s ∙ ap (put_all_before s.frames) (one_frame (length s.front) r.part frame e long)

all_taken : (r : ReaderState) (bytes : List ℕ) (taken : ℕ) (s : StandsFor r bytes taken) → length (s.frames ++ []) ≤ taken
all_taken r bytes taken s = let count = s.count in omega (arith, length-append s.frames [])

one_left : (r : ReaderState) (bytes : List ℕ) (taken : ℕ) (s : StandsFor r bytes taken) (frame : Frame) → taken < length (s.frames ++ frame ∷ [])
one_left r bytes taken s frame = let count = s.count in omega (arith, length-append s.frames (frame ∷ []))

needed_by : (r : ReaderState) (bytes : List ℕ) (taken : ℕ) (o : Result (Option Frame) FrameFault) → first r.part ≡ o → IsOneFrame (length r.part) o → StandsFor r bytes taken
    → missing r.part ≡ needed bytes taken
needed_by r bytes taken (Ok None) e one s = rw (read_unfinished r bytes taken s e, le-ltb taken (length (s.frames ++ [])) (all_taken r bytes taken s)) refl
needed_by r bytes taken (Ok (Some frame)) e one s =
    rw (read_whole r bytes taken s frame e one, lt-ltb taken (length (s.frames ++ frame ∷ [])) (one_left r bytes taken s frame)) (none_missing r.part frame e one)
needed_by r bytes taken (Err fault) e one s = absurd one

pub needed_is : (r : ReaderState) (bytes : List ℕ) (taken : ℕ) → IsOneFrame (length r.part) (first r.part) → StandsFor r bytes taken → missing r.part ≡ needed bytes taken
needed_is r bytes taken one s = needed_by r bytes taken (first r.part) refl one s

whole_by : (r : ReaderState) (bytes : List ℕ) (taken : ℕ) (o : Result (Option Frame) FrameFault) → first r.part ≡ o → IsOneFrame (length r.part) o → StandsFor r bytes taken
    → (missing r.part ≡ 0) ↔ (taken < length (reading bytes).frames)
whole_by r bytes taken (Ok None) e one s =
    let some = some_missing r.part e in
    rw (read_unfinished r bytes taken s e) ((λ none. absurd (omega arith)), (λ lt. absurd (omega (arith, all_taken r bytes taken s))))
whole_by r bytes taken (Ok (Some frame)) e one s =
    rw (read_whole r bytes taken s frame e one) ((λ none. one_left r bytes taken s frame), (λ lt. none_missing r.part frame e one))
whole_by r bytes taken (Err fault) e one s = absurd one

pub whole_is : (r : ReaderState) (bytes : List ℕ) (taken : ℕ) → IsOneFrame (length r.part) (first r.part) → StandsFor r bytes taken → (missing r.part ≡ 0) ↔ (taken < length (reading bytes).frames)
whole_is r bytes taken one s = whole_by r bytes taken (first r.part) refl one s

at_end : (frames : List Frame) (frame : Frame) → slice_get (frames ++ frame ∷ []) (length frames) ≡ Some frame
at_end [] frame = refl
at_end (x ∷ frames) frame = at_end frames frame

pub taken_frame : (r : ReaderState) (bytes : List ℕ) (taken : ℕ) (frame : Frame) → first r.part ≡ Ok (Some frame) → IsOneFrame (length r.part) (first r.part) → StandsFor r bytes taken
    → Some frame ≡ slice_get (reading bytes).frames taken
taken_frame r bytes taken frame e one s =
    let long : length r.part ≡ frame_size frame = rw e at one in
    rw (read_whole r bytes taken s frame e long, ← s.count) (sym (at_end s.frames frame))

pub no_frame : (r : ReaderState) (bytes : List ℕ) (taken : ℕ) → first r.part ≡ Ok None → StandsFor r bytes taken → None ≡ slice_get (reading bytes).frames taken
no_frame r bytes taken e s = rw (read_unfinished r bytes taken s e) (sym (slice_get_past (s.frames ++ []) taken (all_taken r bytes taken s)))

pub after_take : (r : ReaderState) (bytes : List ℕ) (taken : ℕ) (frame : Frame) → first r.part ≡ Ok (Some frame) → IsOneFrame (length r.part) (first r.part) → StandsFor r bytes taken
    → StandsFor (record { start = capped (r.start + length r.part); part = [] }) bytes (taken + 1)
after_take r bytes taken frame e one s =
    let long : length r.part ≡ frame_size frame = rw e at one in
    let count = s.count in
    let start = s.place in
    let all : length bytes ≡ length s.front + length r.part = ap (λ (b : List ℕ). length b) s.whole ∙ length-append s.front r.part in
    record {
      front = bytes;
      frames = s.frames ++ frame ∷ [];
      whole = sym (append-nil bytes);
      read = read_whole r bytes taken s frame e long;
      count = omega (arith, length-append s.frames (frame ∷ []));
      place = omega arith;
    }
