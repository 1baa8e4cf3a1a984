use Rattle.std.proofs.Common.{◌≡◌, ◌<◌, ℕ, length, slice_index_or, false, if◌then◌else◌}
use Rattle.dc_spec.specs.Words.{IsWord, zero_word}
use Rattle.dc_graph.specs.Forest.{members_in}
use Rattle.dc_graph.proofs.upwards.put_own_words.Given as goal

-- the stations so far have their own words
abbrev pub invariant-loop-v : goal.invariant-loop-v
invariant-loop-v l = record {
  count : length l.out ≡ length l.places;
  own : (k : ℕ) → k < l.v → slice_index_or l.out k zero_word ≡ (if slice_index_or (members_in l.places) k false then zero_word else slice_index_or l.demands k zero_word);
  are_words : (k : ℕ) → k < l.v → IsWord (slice_index_or l.out k zero_word);
}
