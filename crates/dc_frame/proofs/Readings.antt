-- Readings of bytes: of bytes in two parts, and of written frames.
use Rattle.std.proofs.Common.{◌≡◌, ℕ, zero, suc, ◌+◌, ◌≤◌, List, [], ◌∷◌, ◌++◌, length, drop, Option, Some, None, Result, Ok, Err, refl, sym, ap, subst, ◌∙◌, arith}
use Rattle.std.proofs.lemmas.List.{drop-append-le, length-drop}
use Rattle.dc_spec.specs.Frames.{Frame}
use Rattle.dc_frame.specs.declared.fault.FrameFault.{FrameFault}
use Rattle.dc_frame.specs.Reading.{Reading, first, frame_size, put_before, by_first, reading_from}
use Rattle.dc_frame.proofs.Firsts.{whole_from_first, whole_size, first_stays}

-- the reading of bytes from an offset on, where what is first in them is known
abbrev pub known : ℕ → List ℕ → Result (Option Frame) FrameFault → Reading
known start bytes r = by_first start bytes r (λ size. reading_from (length (drop size bytes)) (start + size) (drop size bytes))

-- some frames before those of a reading
abbrev pub put_all_before : List Frame → Reading → Reading
put_all_before frames r = record { frames = frames ++ r.frames; ends = r.ends }

-- only the reading behind the first frame counts
same_rest : (start : ℕ) (bytes : List ℕ) (r : Result (Option Frame) FrameFault) (f g : ℕ → Reading) → ((frame : Frame) → r ≡ Ok (Some frame) → f (frame_size frame) ≡ g (frame_size frame))
    → by_first start bytes r f ≡ by_first start bytes r g
same_rest start bytes (Ok None) f g same = refl
same_rest start bytes (Ok (Some frame)) f g same = ap (put_before frame) (same frame refl)
same_rest start bytes (Err fault) f g same = refl

-- a frame is not longer than the bytes in which it is first, and has at least three
frame_fits : (bytes : List ℕ) (frame : Frame) → first bytes ≡ Ok (Some frame) → (3 ≤ frame_size frame) × (frame_size frame ≤ length bytes)
frame_fits bytes frame e =
    let w = whole_from_first bytes frame e in
    let size = whole_size bytes frame w in
    let long = w.long in
    (omega arith, omega arith)

-- any two numbers of frames that are enough give the same reading
enough : (m n start : ℕ) (bytes : List ℕ) → length bytes ≤ m → length bytes ≤ n → reading_from m start bytes ≡ reading_from n start bytes
unfolding reading_from first
enough zero zero start bytes p q = refl
enough zero (suc n) start [] p q = refl
enough zero (suc n) start (x ∷ bytes) p q = absurd (omega arith)
enough (suc m) zero start [] p q = refl
enough (suc m) zero start (x ∷ bytes) p q = absurd (omega arith)
enough (suc m) (suc n) start bytes p q = same_rest start bytes (first bytes) _ _ (λ frame e.
    let fits = frame_fits bytes frame e in
    let shorter = length-drop (frame_size frame) bytes in
    enough m n (start + frame_size frame) (drop (frame_size frame) bytes) (omega (arith, fits.0, fits.1)) (omega (arith, fits.0, fits.1)))

-- a reading by what is first
step_known : (start : ℕ) (bytes : List ℕ) → reading_from (length bytes) start bytes ≡ known start bytes (first bytes)
unfolding reading_from first
step_known start [] = refl
step_known start (x ∷ bytes) = same_rest start (x ∷ bytes) (first (x ∷ bytes)) _ _ (λ frame e.
    let fits = frame_fits (x ∷ bytes) frame e in
    let shorter = length-drop (frame_size frame) (x ∷ bytes) in
    enough (length bytes) (length (drop (frame_size frame) (x ∷ bytes))) (start + frame_size frame) (drop (frame_size frame) (x ∷ bytes)) (omega (arith, fits.0, fits.1)) (omega arith))

pub reading_known : (start : ℕ) (bytes : List ℕ) (r : Result (Option Frame) FrameFault) → first bytes ≡ r → reading_from (length bytes) start bytes ≡ known start bytes r
reading_known start bytes r e = step_known start bytes ∙ ap (known start bytes) e

-- ---- bytes in two parts

-- the first part is whole frames
abbrev Joined : ℕ → List ℕ → List ℕ → List Frame → Type 0
Joined start front more frames =
    reading_from (length (front ++ more)) start (front ++ more) ≡ put_all_before frames (reading_from (length more) (start + length front) more)

nothing_before : (start : ℕ) (more : List ℕ) → Joined start [] more []
nothing_before start more = let same : start ≡ start + 0 = omega arith in ap (λ (s : ℕ). reading_from (length more) s more) same

-- behind one more frame
one_before : (start : ℕ) (front more : List ℕ) (frame : Frame) (frames : List Frame) → first front ≡ Ok (Some frame)
    → Joined (start + frame_size frame) (drop (frame_size frame) front) more frames → Joined start front more (frame ∷ frames)
one_before start front more frame frames e joined =
    let fits = frame_fits front frame e in
    let rest : drop (frame_size frame) (front ++ more) ≡ drop (frame_size frame) front ++ more = drop-append-le (frame_size frame) front more fits.1 in
    let place : start + frame_size frame + length (drop (frame_size frame) front) ≡ start + length front = omega (arith, length-drop (frame_size frame) front, fits.1) in
    reading_known start (front ++ more) (Ok (Some frame)) (first_stays front more frame e)
    ∙ ap (λ (b : List ℕ). put_before frame (reading_from (length b) (start + frame_size frame) b)) rest
    ∙ ap (put_before frame) joined
    ∙ ap (λ (s : ℕ). put_before frame (put_all_before frames (reading_from (length more) s more))) place

joined_by : (k start : ℕ) (front more : List ℕ) (frames : List Frame) (r : Result (Option Frame) FrameFault) → first front ≡ r
    → ((frame : Frame) (rest : List Frame) → first front ≡ Ok (Some frame) → reading_from k (start + frame_size frame) (drop (frame_size frame) front) ≡ record { frames = rest; ends = Ok [] }
    → Joined (start + frame_size frame) (drop (frame_size frame) front) more rest)
    → by_first start front r (λ size. reading_from k (start + size) (drop size front)) ≡ record { frames = frames; ends = Ok [] }
    → Joined start front more frames
joined_by k start front more frames (Ok None) is before e =
    let ends : ◌≡◌ {A = Result (List ℕ) FrameFault} (Ok front) (Ok []) = ap (λ (r : Reading). r.ends) e in
    let empty : front ≡ [] = cc in
    let none : frames ≡ [] = sym (ap (λ (r : Reading). r.frames) e) in
    rw (empty, none) (nothing_before start more)
joined_by k start front more frames (Err fault) is before e = let ends = ap (λ (r : Reading). r.ends) e in absurd cc
joined_by k start front more frames (Ok (Some frame)) is before e =
    let r = reading_from k (start + frame_size frame) (drop (frame_size frame) front) in
    let ends : r.ends ≡ Ok [] = ap (λ (r : Reading). r.ends) e in
    let all : frame ∷ r.frames ≡ frames = ap (λ (r : Reading). r.frames) e in
    let whole : r ≡ record { frames = r.frames; ends = Ok [] } = λ i. record { frames = r.frames; ends = ends i } in
    subst (λ (fs : List Frame). Joined start front more fs) all (one_before start front more frame r.frames is (before frame r.frames is whole))

joined : (k start : ℕ) (front more : List ℕ) (frames : List Frame) → length front ≤ k → reading_from k start front ≡ record { frames = frames; ends = Ok [] } → Joined start front more frames
unfolding reading_from
joined zero start [] more frames long e =
    let none : frames ≡ [] = sym (ap (λ (r : Reading). r.frames) e) in
    rw none (nothing_before start more)
joined zero start (x ∷ front) more frames long e = absurd (omega arith)
joined (suc k) start front more frames long e = joined_by k start front more frames (first front) refl
    (λ frame rest is. let fits = frame_fits front frame is in joined k (start + frame_size frame) (drop (frame_size frame) front) more rest (omega (arith, length-drop (frame_size frame) front, fits.0, fits.1))) e

-- what is read of whole frames and more bytes
pub reading_joined : (front more : List ℕ) (frames : List Frame) → reading_from (length front) 0 front ≡ record { frames = frames; ends = Ok [] }
    → reading_from (length (front ++ more)) 0 (front ++ more) ≡ put_all_before frames (reading_from (length more) (length front) more)
reading_joined front more frames e =
    let place : 0 + length front ≡ length front = omega arith in
    joined (length front) 0 front more frames (omega arith) e ∙ ap (λ (s : ℕ). put_all_before frames (reading_from (length more) s more)) place
