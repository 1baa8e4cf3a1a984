-- Reading frames: which frames bytes hold, one after the other, and how they end.
use Rattle.std.specs.Prelude.{ℕ, zero, suc, ◌+◌, ◌-◌, ◌*◌, ◌^◌, min, List, [], ◌∷◌, length, take, drop, slice_index, Option, Some, None, unwrap_or, Result, Ok, Err, nat_lt, ◌==◌, ◌||◌, if◌then◌else◌}
use Rattle.std.specs.Result.{result_err}
use Rattle.dc_spec.specs.Bytes.{short_at}
use Rattle.dc_spec.specs.Frames.{Frame, hello, send, all}
use Rattle.dc_field.specs.WordInBytes.{word_of_bytes}
use Rattle.dc_field.specs.declared.word_from_bytes.SymFault.{SymFault}
use Rattle.dc_frame.specs.declared.fault.FrameFault.{FrameFault}
use Rattle.dc_frame.specs.declared.fault.FrameKind.TheVariants.{Tag, Length, Symbol}

-- ---- the first frame of bytes; a fault has its place in the frame

-- how long the body of a frame is, by its tag
abbrev pub body_length : ℕ → Option ℕ
body_length tag = if tag == 1 then Some 6 else if (tag == 2) || (tag == 3) then Some 66 else None

-- a header with a known tag: the length is tested
abbrev pub sized : List ℕ → Option ℕ → Result ℕ FrameFault
sized bytes None = Err (record { at = 0; kind = Tag (slice_index bytes 0) })
sized bytes (Some size) =
    if short_at bytes 1 == size then Ok size
    else Err (record { at = 1; kind = Length (short_at bytes 1) })

-- how long the body is by the header, or the header's fault
abbrev pub header_of : List ℕ → Result ℕ FrameFault
header_of bytes = sized bytes (body_length (slice_index bytes 0))

-- a frame of a round, by its tag
abbrev pub round_frame : ℕ → ℕ → List ℕ → Frame
round_frame tag round word = if tag == 2 then send round word else all round word

-- the frame of a word, where all its symbols are good, or else the first bad one
abbrev pub worded : List ℕ → Result (List ℕ) SymFault → Result (Option Frame) FrameFault
worded bytes (Ok word) = Ok (Some (round_frame (slice_index bytes 0) (short_at bytes 3) word))
worded bytes (Err fault) = Err (record { at = 5 + 4 * fault.symbol; kind = Symbol fault.seen })

-- the frame of a whole body, or the body's fault
abbrev pub body_of : List ℕ → Result (Option Frame) FrameFault
body_of bytes =
    if slice_index bytes 0 == 1
    then Ok (Some (hello (short_at bytes 3) (short_at bytes 5) (short_at bytes 7)))
    else worded bytes (word_of_bytes (take 64 (drop 5 bytes)))

-- after the header the body is judged once it is whole
abbrev pub after_header : List ℕ → Result ℕ FrameFault → Result (Option Frame) FrameFault
after_header bytes (Err fault) = Err fault
after_header bytes (Ok size) = if nat_lt (length bytes) (3 + size) then Ok None else body_of bytes

-- the first frame of bytes, none where it is not finished, or its fault
unfoldable pub first : List ℕ → Result (Option Frame) FrameFault
first bytes = if nat_lt (length bytes) 3 then Ok None else after_header bytes (header_of bytes)

-- ---- all frames of bytes

-- the frames that bytes hold before the first fault; and what is left, the beginning of a frame, or
-- that fault
pub record Reading : Type 0 where
  pub frames : List Frame
  pub ends : Result (List ℕ) FrameFault

-- how many bytes a frame has
abbrev pub frame_size : Frame → ℕ
frame_size (hello _ _ _) = 9
frame_size (send _ _) = 69
frame_size (all _ _) = 69

-- a number, or the greatest of 64 bits where it is above that
abbrev pub capped : ℕ → ℕ
capped n = min n (2 ^ 64 - 1)

-- a fault of a frame that begins at this offset, with its own offset
abbrev pub placed : ℕ → FrameFault → FrameFault
placed start fault = record { at = capped (start + fault.at); kind = fault.kind }

-- one frame before those of a reading
abbrev pub put_before : Frame → Reading → Reading
put_before frame r = record { frames = frame ∷ r.frames; ends = r.ends }

-- bytes from this offset on, by what is first in them and by the reading of what follows a frame of
-- so many bytes
abbrev pub by_first : ℕ → List ℕ → Result (Option Frame) FrameFault → (ℕ → Reading) → Reading
by_first start bytes (Ok None) rest = record { frames = []; ends = Ok bytes }
by_first start bytes (Ok (Some frame)) rest = put_before frame (rest (frame_size frame))
by_first start bytes (Err fault) rest = record { frames = []; ends = Err (placed start fault) }

-- the reading of bytes from an offset on, for at most so many frames
unfoldable pub reading_from : ℕ → ℕ → List ℕ → Reading
reading_from zero start bytes = record { frames = []; ends = Ok bytes }
reading_from (suc most) start bytes =
    by_first start bytes (first bytes) (λ size. reading_from most (start + size) (drop size bytes))

-- the reading of all bytes
abbrev pub reading : List ℕ → Reading
reading bytes = reading_from (length bytes) 0 bytes

-- the first fault of bytes
abbrev pub fault_in : List ℕ → Option FrameFault
fault_in bytes = result_err (reading bytes).ends

-- ---- what is still to come

-- how many bytes are missing of an unfinished frame: of its header, else of its body
abbrev pub missing : List ℕ → ℕ
missing bytes =
    if nat_lt (length bytes) 3 then 3 - length bytes
    else 3 + unwrap_or (body_length (slice_index bytes 0)) 0 - length bytes

-- the same of how bytes end
abbrev pub missing_at_end : Result (List ℕ) FrameFault → ℕ
missing_at_end (Ok rest) = missing rest
missing_at_end (Err fault) = 0

-- how many bytes are needed after what was read, when so many of its frames were taken: none where
-- another frame is there
abbrev pub needed_after : Reading → ℕ → ℕ
needed_after r taken = if nat_lt taken (length r.frames) then 0 else missing_at_end r.ends

-- the same of all bytes
abbrev pub needed : List ℕ → ℕ → ℕ
needed bytes taken = needed_after (reading bytes) taken
