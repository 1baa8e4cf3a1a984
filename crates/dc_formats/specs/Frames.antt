-- Frames of a session: a tag, the length of the body in two bytes, the body.
use Rattle.std.specs.Prelude.{ℕ, ◌^◌, ◌<◌, List, ◌∷◌, ◌++◌, length}
use Rattle.std.specs.List.{flat_map}
use Rattle.std.specs.Int.{w16, to_be_bytes}
use Rattle.dc_spec.specs.Words.{IsWord}
use Rattle.dc_spec.specs.Bytes.{word_bytes}
use Rattle.dc_spec.specs.Frames.{Frame, hello, send, all}

-- a tag, the body's length, the body
abbrev pub tagged : ℕ → List ℕ → List ℕ
tagged tag body = tag ∷ to_be_bytes w16 (length body) ++ body

-- three numbers of two bytes
abbrev pub hello_body : ℕ → ℕ → ℕ → List ℕ
hello_body station stations words =
    to_be_bytes w16 station ++ to_be_bytes w16 stations ++ to_be_bytes w16 words

-- a number of two bytes and a word
abbrev pub round_body : ℕ → List ℕ → List ℕ
round_body r w = to_be_bytes w16 r ++ word_bytes w

-- the bytes of a frame: 9 of a hello, 69 of a word
abbrev pub frame_bytes : Frame → List ℕ
frame_bytes (hello station stations words) = tagged 1 (hello_body station stations words)
frame_bytes (send r w) = tagged 2 (round_body r w)
frame_bytes (all r w) = tagged 3 (round_body r w)

-- what is sent: frames one after the other
abbrev pub frames_bytes : List Frame → List ℕ
frames_bytes frames = flat_map frame_bytes frames

-- numbers of two bytes, and words
abbrev pub IsFrame : Frame → Type 0
IsFrame (hello station stations words) = (station < 2 ^ 16) × (stations < 2 ^ 16) × (words < 2 ^ 16)
IsFrame (send r w) = (r < 2 ^ 16) × IsWord w
IsFrame (all r w) = (r < 2 ^ 16) × IsWord w
