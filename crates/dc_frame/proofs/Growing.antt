-- More bytes behind others: the frames before them stay, and so does a fault.
use Rattle.std.proofs.Common.{◌≡◌, ℕ, zero, suc, ◌+◌, ◌<◌, ◌≤◌, Bool, true, false, List, [], ◌∷◌, ◌++◌, length, drop, Option, Some, None, Result, Ok, Err, refl, sym, ap, subst, ◌∙◌, arith, if◌then◌else◌, nat_lt}
use Rattle.std.proofs.lemmas.Bool.{ltb-false, le-ltb}
use Rattle.std.proofs.lemmas.List.{length-append, length-drop, drop-append-le}
use Rattle.dc_spec.specs.Frames.{Frame}
use Rattle.dc_frame.specs.declared.fault.FrameFault.{FrameFault}
use Rattle.dc_frame.specs.Reading.{Reading, first, header_of, after_header, body_of, frame_size, reading_from, reading, placed, put_before, by_first}
use Rattle.dc_frame.proofs.Firsts.{whole_from_first, whole_size, first_stays, header_stays, body_stays}
use Rattle.dc_frame.proofs.Readings.{reading_known}

-- a fault comes only where a test does not hold
if_err : (b : Bool) (r : Result (Option Frame) FrameFault) (fault : FrameFault) → (if b then Ok None else r) ≡ Err fault → (b ≡ false) × (r ≡ Err fault)
if_err true r fault e = absurd cc
if_err false r fault e = (refl, e)

after_stays : (bytes more : List ℕ) (h : Result ℕ FrameFault) (fault : FrameFault) → header_of bytes ≡ h → after_header bytes h ≡ Err fault → after_header (bytes ++ more) h ≡ Err fault
after_stays bytes more (Err f) fault is e = e
after_stays bytes more (Ok n) fault is e =
    let parts = if_err (nat_lt (length bytes) (3 + n)) (body_of bytes) fault e in
    let long = ltb-false _ _ parts.0 in
    rw (le-ltb (length (bytes ++ more)) (3 + n) (omega (arith, length-append bytes more))) (body_stays bytes more n is long ∙ parts.1)

-- a fault is first whatever follows it
pub fault_stays : (bytes more : List ℕ) (fault : FrameFault) → first bytes ≡ Err fault → first (bytes ++ more) ≡ Err fault
unfolding first
fault_stays bytes more fault e =
    let parts = if_err (nat_lt (length bytes) 3) (after_header bytes (header_of bytes)) fault e in
    let long = ltb-false _ _ parts.0 in
    rw (le-ltb (length (bytes ++ more)) 3 (omega (arith, length-append bytes more)), header_stays bytes more long) (after_stays bytes more (header_of bytes) fault refl parts.1)

-- the second reading has the frames of the first and then others, and its fault if it has one
pub record Grows (r s : Reading) : Type 0 where
  pub rest : List Frame
  pub frames : s.frames ≡ r.frames ++ rest
  pub fault : (fault : FrameFault) → r.ends ≡ Err fault → (rest ≡ []) × (s.ends ≡ Err fault)

put_grows : (frame : Frame) (r s : Reading) → Grows r s → Grows (put_before frame r) (put_before frame s)
put_grows frame r s g = record { rest = g.rest; frames = ap (λ (fs : List Frame). frame ∷ fs) g.frames; fault = g.fault }

-- behind what is first
grows_by : (k start : ℕ) (bytes more : List ℕ) (x : Result (Option Frame) FrameFault) → first bytes ≡ x
    → ((frame : Frame) → x ≡ Ok (Some frame) → Grows (reading_from k (start + frame_size frame) (drop (frame_size frame) bytes))
    (reading_from (length (drop (frame_size frame) (bytes ++ more))) (start + frame_size frame) (drop (frame_size frame) (bytes ++ more))))
    → Grows (by_first start bytes x (λ size. reading_from k (start + size) (drop size bytes))) (reading_from (length (bytes ++ more)) start (bytes ++ more))
grows_by k start bytes more (Ok None) e later = record { rest = (reading_from (length (bytes ++ more)) start (bytes ++ more)).frames; frames = refl; fault = λ fault is. absurd (cc) }
grows_by k start bytes more (Err f) e later =
    let known = reading_known start (bytes ++ more) (Err f) (fault_stays bytes more f e) in
    rw known (record { rest = []; frames = refl; fault = λ fault is. (refl, is) })
grows_by k start bytes more (Ok (Some frame)) e later =
    let known = reading_known start (bytes ++ more) (Ok (Some frame)) (first_stays bytes more frame e) in
    rw known (put_grows frame _ _ (later frame refl))

grows_from : (k start : ℕ) (bytes more : List ℕ) → length bytes ≤ k → Grows (reading_from k start bytes) (reading_from (length (bytes ++ more)) start (bytes ++ more))
unfolding reading_from
grows_from zero start bytes more low = record { rest = (reading_from (length (bytes ++ more)) start (bytes ++ more)).frames; frames = refl; fault = λ fault is. absurd (cc) }
grows_from (suc k) start bytes more low = grows_by k start bytes more (first bytes) refl (λ frame e.
    let w = whole_from_first bytes frame e in
    let size = whole_size bytes frame w in
    let long = w.long in
    let rest : drop (frame_size frame) (bytes ++ more) ≡ drop (frame_size frame) bytes ++ more = drop-append-le (frame_size frame) bytes more (omega arith) in
    rw rest (grows_from k (start + frame_size frame) (drop (frame_size frame) bytes) more (omega (arith, length-drop (frame_size frame) bytes))))

-- what is read of bytes, and of these bytes with more behind them
pub reading_grows : (bytes more : List ℕ) → Grows (reading bytes) (reading (bytes ++ more))
reading_grows bytes more = grows_from (length bytes) 0 bytes more (omega arith)
