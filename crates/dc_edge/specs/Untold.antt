-- Objects of which nothing is known but their counts of faults.
use Rattle.std.specs.Prelude.{ℕ, ◌+◌, ◌-◌, ◌^◌, ◌≡◌, min, None, Result, Ok, Err}
use Rattle.dc_spec.specs.Outside.{SinkState, ShelfState, WireState, untold}
use Rattle.dc_edge.specs.declared.fault.LinkFault.{LinkFault}
use Rattle.dc_edge.specs.declared.fault.LinkFault.TheVariants as links

-- a sink of which only the count of faults is known
abbrev pub untold_sink : ℕ → SinkState
untold_sink count = record { written = None; faults = count }

-- a shelf of which only the count of faults is known
abbrev pub untold_shelf : ℕ → ShelfState
untold_shelf count = record { holds = λ _. untold; asked = None; faults = count }

-- a wire of which only the number of peers and the count of faults are known
abbrev pub untold_wire : ℕ → ℕ → WireState
untold_wire peers count = record { peers = peers; left = λ _. None; sent = λ _. None; asked = None; faults = count }

-- a new stream gets the next number
abbrev pub AddsStream : ℕ → ℕ → Result ℕ LinkFault → Type 0
AddsStream before after (Ok peer) = (peer ≡ before) × (after ≡ before + 1)
AddsStream before after (Err _) = after ≡ before

-- the count of faults after an answer
abbrev pub faults_after : {A : Type 0} → ℕ → Result A LinkFault → ℕ
faults_after count (Ok _) = count
faults_after count (Err links.Failed) = min (count + 1) (2 ^ 64 - 1)
faults_after count (Err links.NoMemory) = count
