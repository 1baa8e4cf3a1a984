-- A reader, and the bytes that it was fed.
use Rattle.std.specs.Prelude.{ℕ, ◌≡◌, List, [], ◌++◌, length, Option, Some, None, Result, Ok, Err}
use Rattle.dc_spec.specs.Frames.{Frame}
use Rattle.dc_frame.specs.declared.fault.FrameFault.{FrameFault}
use Rattle.dc_frame.specs.Reading.{first, reading, frame_size, capped}

-- the offset of the frame in progress, at most the greatest number of 64 bits, and its bytes so far
pub record ReaderState : Type 0 where
  pub start : ℕ
  pub part : List ℕ

-- so many bytes are an unfinished frame or exactly one frame, by what is first in them
abbrev pub IsOneFrame : ℕ → Result (Option Frame) FrameFault → Type 0
IsOneFrame size (Ok None) = Unit {0}
IsOneFrame size (Ok (Some frame)) = size ≡ frame_size frame
IsOneFrame size (Err fault) = ⊥

-- the bytes of a reader are of one frame, and have no fault
pub record IsReader (r : ReaderState) : Type 0 where
  pub one : IsOneFrame (length r.part) (first r.part)

-- the reader was fed these bytes, and so many frames were taken out of it: the bytes are those of
-- the taken frames and then the reader's own
pub record StandsFor (r : ReaderState) (bytes : List ℕ) (taken : ℕ) : Type 0 where
  pub front : List ℕ
  pub frames : List Frame
  pub whole : bytes ≡ front ++ r.part
  pub read : reading front ≡ record { frames = frames; ends = Ok [] }
  pub count : length frames ≡ taken
  pub place : r.start ≡ capped (length front)
