-- Laws of live sessions: when the words that a hub accepted are those of a net's run.
use Rattle.std.specs.Prelude.{ℕ, ◌+◌, ◌*◌, ◌<◌, ◌≡◌, List, slice_get}
use Rattle.dc_spec.specs.Net.{Net}
use Rattle.dc_spec.specs.Recorded.{Recorded, IsRecorded, superposed}
use Rattle.dc_hub_rules.specs.Hubs.{Arrival, accepted}
use Rattle.dc_net_rules.specs.Runs.{DeliversSums, run_of}
use Rattle.dc_live_rules.specs.LiveRuns.{accepted_words, accepted_sums, IsLiveRun, AcceptsRun}

-- the accepted words of a live session of a net are the words of the net's run, and their sums its
-- superposed words
abbrev pub LiveRuns : Type 0
LiveRuns =
    (net : Net) (arrivals : List Arrival) → IsLiveRun net arrivals
    → (accepted_words net.stations arrivals net.words ≡ (run_of net).words)
    × (accepted_sums net.stations arrivals net.words ≡ (run_of net).sums)
    × AcceptsRun net arrivals

-- where every delivery is the sum and the accepted words are those of the net's run, the session is
-- one of the net
abbrev pub RunsAreLive : Type 0
RunsAreLive =
    (net : Net) (arrivals : List Arrival) → DeliversSums net → AcceptsRun net arrivals
    → IsLiveRun net arrivals

-- the recorded session of the accepted words has the words of the net's run and its superposed words
abbrev pub RecordedLive : Type 0
RecordedLive =
    (net : Net) (arrivals : List Arrival) → IsLiveRun net arrivals
    → (t : Recorded) → IsRecorded t → t.stations ≡ net.stations → t.rounds ≡ net.words
    → ((i r : ℕ) → i < net.stations → r < net.words
    → slice_get t.words (r * net.stations + i) ≡ accepted net.stations arrivals i r)
    → (t.words ≡ (run_of net).words) × (superposed t ≡ (run_of net).sums)
