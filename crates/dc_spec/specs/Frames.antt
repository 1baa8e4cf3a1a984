-- Frames: what a station and a hub send each other in a session.
use Rattle.std.specs.Prelude.{ℕ, List}

-- a frame: a station's number with how many stations and words the session has; a station's word
-- for a round; or the sum of a round
pub data Frame : Type 0 where
  hello : ℕ → ℕ → ℕ → Frame
  send : ℕ → List ℕ → Frame
  all : ℕ → List ℕ → Frame
