-- The frame of the definitions that a frame of the code is.
use Rattle.std.specs.Prelude.{Option, option_map, Result, Ok, Err}
use Rattle.dc_spec.specs.Frames.{Frame as frame, hello, send, all}
use Rattle.dc_frame.specs.declared.frame.Frame.{Frame}
use Rattle.dc_frame.specs.declared.frame.Frame.TheVariants.{Hello, Send, All}
use Rattle.dc_frame.specs.declared.fault.FrameFault.{FrameFault}

abbrev pub frame_of : Frame → frame
frame_of (Hello station stations words) = hello station stations words
frame_of (Send round word) = send round word
frame_of (All round word) = all round word

-- the same of what was read of bytes
abbrev pub read_of : Result (Option Frame) FrameFault → Result (Option frame) FrameFault
read_of (Ok found) = Ok (option_map frame_of found)
read_of (Err fault) = Err fault
