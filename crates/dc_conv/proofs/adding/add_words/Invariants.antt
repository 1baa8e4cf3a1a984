use Rattle.std.proofs.Common.{◌≡◌, ℕ, ◌+◌, ◌-◌, ◌*◌, ◌<◌, ◌≤◌, length, get_or, take}
use Rattle.dc_spec.specs.Words.{AreWords}
use Rattle.dc_keys.specs.StationPads.{history_sum}
use Rattle.dc_conv.proofs.adding.add_words.Given as goal

-- each sum has grown by the products with the symbols of the words so far
abbrev pub invariant-loop-done : goal.invariant-loop-done
invariant-loop-done l = record {
  within : l.done ≤ length l.words;
  are_words : AreWords (take l.done l.words);
  added : (i : ℕ) → i < length l.sums → get_or l.sums i 0 ≡ get_or l.initial.sums i 0 + history_sum l.second (take l.done l.words) (16 * length l.words + i);
  grown : (i : ℕ) → get_or l.sums i 0 ≤ get_or l.initial.sums i 0 + 68719476736 * l.done;
}

abbrev pub decreases-loop-done : goal.decreases-loop-done
decreases-loop-done l = length l.words - l.done
