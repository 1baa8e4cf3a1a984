use Rattle.std.proofs.Common.{◌≡◌, ℕ, List, map, not, drop, find, slice_index}
use Rattle.std.specs.Str.{bytes_eq}
use Rattle.dc_twin.proofs.judging.first_unlike.Given as goal

-- the first station with another word is one of those that are left
abbrev pub invariant-loop-j : goal.invariant-loop-j
invariant-loop-j l = (word : ℕ → List ℕ) → l.words ≡ map word l.stations →
    find (λ k. not (bytes_eq (word (slice_index l.stations 0)) (word k))) (drop 1 l.stations)
    ≡ find (λ k. not (bytes_eq (word (slice_index l.stations 0)) (word k))) (drop l.j l.stations)
