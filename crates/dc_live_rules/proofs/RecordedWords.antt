-- The recorded session of the accepted words of a live session of a net.
use Rattle.std.proofs.Common.{◌≡◌, ℕ, ◌+◌, ◌*◌, ◌/◌, ◌%◌, ◌<◌, ◌≤◌, List, length, map, take, drop, get_or, slice_get, Some, sym, ◌∙◌, ap, ap₂, arith}
use Rattle.std.specs.List.{range_with_len}
use Rattle.std.proofs.Math.Nat.{div-lt_iff_lt-mul}
use Rattle.std.proofs.lemmas.List.{same_lists}
use Rattle.std.proofs.lemmas.Option.{get_or_from_slice_get}
use Rattle.dc_spec.specs.Words.{word_sum}
use Rattle.dc_spec.specs.Net.{Net}
use Rattle.dc_spec.specs.Recorded.{Recorded, IsRecorded, superposed}
use Rattle.dc_spec.proofs.ListLemmas.{below_range}
use Rattle.dc_hub_rules.specs.Hubs.{Arrival, accepted, accepted_sum}
use Rattle.dc_net_rules.specs.Runs.{run_of}
use Rattle.dc_live_rules.specs.LiveRuns.{accepted_word, IsLiveRun}
use Rattle.dc_live_rules.proofs.Rows.{map-same, rows, length-rows, row_item, row}
use Rattle.dc_live_rules.proofs.LiveRounds.{all_accepted, sum_accepted, live-runs}

-- a list whose items are given by row and place is that of the rows
from_places : {X : Type 0} (g : ℕ → ℕ → X) (n total : ℕ) (ws : List X) → 1 ≤ n → length ws ≡ total * n → ((i r : ℕ) → i < n → r < total → slice_get ws (r * n + i) ≡ Some (g i r)) → ws ≡ rows g n total
from_places g n total ws some long at =
    let size = length-rows g n total in
    same_lists ws (rows g n total) (long ∙ sym size) (λ k d within.
    let low : k % n < n = omega arith in
    let bound : k < total * n = omega arith in
    let less : k / n < total = (div-lt_iff_lt-mul {k = n} {x = k} {y = total} some).1 bound in
    let split : n * (k / n) + k % n ≡ k = omega arith in
    let place : k / n * n + k % n ≡ k = omega arith in
    ap (λ (j : ℕ). get_or ws j d) (sym place)
    ∙ get_or_from_slice_get ws (k / n * n + k % n) (g (k % n) (k / n)) d (at (k % n) (k / n) low less)
    ∙ sym (row_item g n total (k % n) (k / n) d low less)
    ∙ ap (λ (j : ℕ). get_or (rows g n total) j d) place)

pub recorded-live : (net : Net) (xs : List Arrival) → IsLiveRun net xs → (t : Recorded) → IsRecorded t → t.stations ≡ net.stations → t.rounds ≡ net.words
    → ((i r : ℕ) → i < net.stations → r < net.words → slice_get t.words (r * net.stations + i) ≡ accepted net.stations xs i r)
    → (t.words ≡ (run_of net).words) × (superposed t ≡ (run_of net).sums)
recorded-live net xs live t is stations rounds at =
    let n = net.stations in
    let total = net.words in
    let g = accepted_word n xs in
    let all = live-runs net xs live in
    let some = is.some_stations in
    let long : length t.words ≡ total * n = is.count ∙ ap₂ (λ (a b : ℕ). a * b) rounds stations in
    let words : t.words ≡ rows g n total = from_places g n total t.words (omega arith) long (λ i r low less. at i r low less ∙ all_accepted n total xs live.complete i r low less) in
    let sum : ℕ → List ℕ = λ r. word_sum (take t.stations (drop (r * t.stations) t.words)) in (
      words ∙ all.0,
      ap (λ (m : ℕ). map sum (range_with_len 0 m)) rounds
          ∙ map-same sum (accepted_sum n xs) (range_with_len 0 total) (λ r there.
          let below : r < 0 + total = below_range 0 total r there in
          let less : r < total = omega arith in
          ap₂ (λ (k : ℕ) (ws : List (List ℕ)). word_sum (take k (drop (r * k) ws))) stations words
          ∙ ap word_sum (row g n total r less) ∙ sym (sum_accepted n total xs live.complete r less))
          ∙ all.1,
    )
