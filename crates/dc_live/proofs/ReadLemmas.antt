-- A reader that was fed a piece more, and out of which a whole frame was taken.
use Rattle.std.proofs.Common.{◌≡◌, ℕ, ◌+◌, ◌≤◌, List, [], ◌∷◌, ◌++◌, length, drop, Option, Some, None, Result, Ok, Err, refl, sym, ap, ◌∙◌, arith, append_assoc, append-nil}
use Rattle.std.specs.Result.{result_err}
use Rattle.std.proofs.Math.ListN.{drop_of_length-le}
use Rattle.std.proofs.lemmas.List.{length-append}
use Rattle.dc_spec.specs.Frames.{Frame as frame}
use Rattle.dc_frame.specs.declared.fault.FrameFault.{FrameFault}
use Rattle.dc_frame.specs.Reading.{Reading, first, frame_size, reading_from, reading, placed, put_before, capped, missing, fault_in}
use Rattle.dc_frame.specs.Reader.{ReaderState, IsReader, IsOneFrame, StandsFor}
use Rattle.dc_frame.proofs.Readings.{put_all_before, reading_known, reading_joined}
use Rattle.dc_frame.proofs.Readers.{one_after}
use Rattle.dc_live.specs.Receiving.{HasRead, Waits}

-- the reader as dc_frame sees it
pub HasRead-stands : {r : ReaderState} {bytes : List ℕ} {frames : List frame} → HasRead r bytes frames → StandsFor r bytes (length frames)
HasRead-stands h = record { front = h.front; frames = _; whole = h.whole; read = h.read; count = refl; place = h.place }

-- the reader with a piece more
abbrev pub fed : ReaderState → List ℕ → ReaderState
fed r piece = record { start = r.start; part = r.part ++ piece }

-- what is read of all bytes with a piece more, by what is read of the frame in progress
read_more : {r : ReaderState} {bytes : List ℕ} {frames : List frame} (piece : List ℕ) (h : HasRead r bytes frames)
    → reading (bytes ++ piece) ≡ put_all_before frames (reading_from (length (r.part ++ piece)) (length h.front) (r.part ++ piece))
read_more {r} {bytes} {frames} piece h =
    ap (λ (b : List ℕ). reading (b ++ piece)) h.whole ∙ ap (λ (b : List ℕ). reading b) (append_assoc h.front r.part piece) ∙ reading_joined h.front (r.part ++ piece) frames h.read

-- all whole frames were taken out, so what is left is the frame in progress
pub HasRead-reading : {r : ReaderState} {bytes : List ℕ} {frames : List frame} → HasRead r bytes frames → reading bytes ≡ record { frames = frames; ends = Ok r.part }
HasRead-reading {r} {bytes} {frames} h =
    ap (λ (b : List ℕ). reading b) h.whole ∙ reading_joined h.front r.part frames h.read
    ∙ ap (put_all_before frames) (reading_known (length h.front) r.part (Ok None) h.waits)
    ∙ ap (λ (fs : List frame). record { frames = fs; ends = Ok r.part }) (append-nil frames)

-- a piece that does not end the frame
pub HasRead-more : {r : ReaderState} {bytes : List ℕ} {frames : List frame} (piece : List ℕ) → HasRead r bytes frames → Waits (fed r piece) → HasRead (fed r piece) (bytes ++ piece) frames
HasRead-more {r} piece h waits = record {
  front = h.front;
  whole = ap (λ (b : List ℕ). b ++ piece) h.whole ∙ append_assoc h.front r.part piece;
  read = h.read;
  place = h.place;
  waits = waits;
}

one_whole : (start : ℕ) (part : List ℕ) (found : frame) → first part ≡ Ok (Some found) → length part ≡ frame_size found → reading_from (length part) start part ≡ record { frames = found ∷ []; ends = Ok [] }
unfolding reading_from
one_whole start part found e long =
    let none : drop (frame_size found) part ≡ [] = drop_of_length-le part (omega arith) in
    reading_known start part (Ok (Some found)) e ∙ ap (λ (b : List ℕ). put_before found (reading_from (length b) (start + frame_size found) b)) none

-- a piece that ends the frame, which is taken out
pub HasRead-whole : {r : ReaderState} {bytes : List ℕ} {frames : List frame} (piece : List ℕ) (found : frame) (new : ReaderState) → HasRead r bytes frames → IsReader (fed r piece)
    → first (r.part ++ piece) ≡ Ok (Some found) → StandsFor new (bytes ++ piece) (length frames + 1) → new.part ≡ [] → HasRead new (bytes ++ piece) (frames ++ found ∷ [])
unfolding first
HasRead-whole {r} {bytes} {frames} piece found new h one e stands begins =
    let size : length (r.part ++ piece) ≡ frame_size found = rw e at one.one in
    let all : bytes ++ piece ≡ stands.front = stands.whole ∙ ap (λ (b : List ℕ). stands.front ++ b) begins ∙ append-nil stands.front in
    record {
      front = bytes ++ piece;
      whole = sym (append-nil (bytes ++ piece)) ∙ ap (λ (b : List ℕ). bytes ++ piece ++ b) (sym begins);
      read = read_more piece h ∙ ap (put_all_before frames) (one_whole (length h.front) (r.part ++ piece) found e size);
      place = stands.place ∙ ap (λ (b : List ℕ). capped (length b)) (sym all);
      waits = rw begins refl;
    }

-- a piece with a fault
faulty_by : (x : Result (Option frame) FrameFault) (start : ℕ) (part : List ℕ) (frames : List frame) (fault : FrameFault) → first part ≡ x → ((o : Option frame) → x ≡ Ok o → IsOneFrame (length part) x)
    → Some fault ≡ result_err (reading_from (length part) start part).ends → put_all_before frames (reading_from (length part) start part) ≡ record { frames = frames; ends = Err fault }
faulty_by (Ok None) start part frames fault e one is =
    let ends = ap (λ (r : Reading). result_err r.ends) (reading_known start part (Ok None) e) in absurd (cc)
faulty_by (Ok (Some found)) start part frames fault e one is =
    let ends = ap (λ (r : Reading). result_err r.ends) (one_whole start part found e (one (Some found) refl)) in absurd (cc)
faulty_by (Err f) start part frames fault e one is =
    let known = reading_known start part (Err f) e in
    let same : Err fault ≡ Err (placed start f) = let ends = ap (λ (r : Reading). result_err r.ends) known in cc in
    rw known (rw (append-nil frames) (ap (λ (x : Result (List ℕ) FrameFault). record { frames = frames; ends = x }) (sym same)))

pub HasRead-faulty : {r : ReaderState} {bytes : List ℕ} {frames : List frame} (piece : List ℕ) (fault : FrameFault) → HasRead r bytes frames → 1 ≤ length piece → length piece ≤ missing r.part
    → Some fault ≡ fault_in (bytes ++ piece) → reading (bytes ++ piece) ≡ record { frames = frames; ends = Err fault }
HasRead-faulty {r} {bytes} {frames} piece fault h some fits is =
    let more = read_more piece h in
    let shown : Some fault ≡ result_err (reading_from (length (r.part ++ piece)) (length h.front) (r.part ++ piece)).ends = is ∙ ap (λ (x : Reading). result_err x.ends) more in
    more ∙ faulty_by (first (r.part ++ piece)) (length h.front) (r.part ++ piece) frames fault refl (λ o e. one_after r.part piece o e some fits) shown

-- how many bytes were fed
pub HasRead-fed : {r : ReaderState} {bytes : List ℕ} {frames : List frame} → HasRead r bytes frames → capped (r.start + length r.part) ≡ capped (length bytes)
HasRead-fed {r} {bytes} h =
    let all : length bytes ≡ length h.front + length r.part = ap (λ (b : List ℕ). length b) h.whole ∙ length-append h.front r.part in
    let place = h.place in
    omega arith

both_empty : (a b : List ℕ) → [] ≡ a ++ b → (a ≡ []) × (b ≡ [])
both_empty [] b e = (refl, sym e)
both_empty (x ∷ a) b e = absurd (cc)

-- a reader that was fed nothing
pub HasRead-new : (r : ReaderState) → StandsFor r [] 0 → HasRead r [] [] × (r.part ≡ [])
unfolding first reading_from
HasRead-new r s =
    let parts = both_empty s.front r.part s.whole in (
      record {
        front = [];
        whole = sym parts.1;
        read = refl;
        place = s.place ∙ ap (λ (b : List ℕ). capped (length b)) parts.0;
        waits = rw parts.1 refl;
      },
      parts.1,
    )
