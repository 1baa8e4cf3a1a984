-- The law of arrivals.
use Rattle.std.specs.Prelude.{ℕ, ◌≡◌, List, IsPermutation}
use Rattle.dc_hub_rules.specs.Hubs.{Arrival, AreAllTaken, broadcast}

-- two lists of arrivals that are rearrangements of each other, with no arrival refused in either,
-- give the same broadcasts
abbrev pub BroadcastsAgree : Type 0
BroadcastsAgree =
    (n rounds : ℕ) (xs ys : List Arrival) → IsPermutation xs ys → AreAllTaken n rounds xs
    → AreAllTaken n rounds ys → (t : ℕ) → broadcast n xs t ≡ broadcast n ys t
