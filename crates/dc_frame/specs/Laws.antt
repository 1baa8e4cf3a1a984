-- The law of frames.
use Rattle.std.specs.Prelude.{◌≡◌, List, [], All, Ok}
use Rattle.dc_spec.specs.Frames.{Frame}
use Rattle.dc_formats.specs.Frames.{frames_bytes, IsFrame}
use Rattle.dc_frame.specs.Reading.{reading}

-- of frames that were written one after the other, exactly these frames are read, and nothing is
-- left
abbrev pub FramesAreRead : Type 0
FramesAreRead =
    (frames : List Frame) → All IsFrame frames
    → reading (frames_bytes frames) ≡ record { frames = frames; ends = Ok [] }
