-- Text that is gathered in a buffer and put where the buffer is full.
use Rattle.std.specs.Prelude.{ℕ, ◌≤◌, ◌≡◌, List, ◌++◌, length, take, Result, Ok, Err}
use Rattle.dc_spec.specs.Outside.{SinkState}
use Rattle.dc_edge.specs.Sink.{Puts}
use Rattle.dc_edge.specs.declared.fault.Failed.{Failed}

-- of what was kept before and a text, a front was put, and the rest is kept
pub record Keeps (text before kept : List ℕ) (s s' : SinkState) : Type 0 where
  pub front : List ℕ
  pub parts : before ++ text ≡ front ++ kept
  pub put : Puts front s s' (Ok tt)

-- a text was gathered behind what was kept before; the buffer keeps the rest up to the end that is
-- given. Or a put failed
abbrev pub Gathers : List ℕ → List ℕ → List ℕ → SinkState → SinkState → Result ℕ Failed → Type 0
Gathers text before buffer s s' (Ok end) = (end ≤ length buffer) × Keeps text before (take end buffer) s s'
Gathers text before buffer s s' (Err failed) = Puts (before ++ text) s s' (Err failed)
