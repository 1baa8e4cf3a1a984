-- Rules of one station and of groups, each on the smallest case that shows it.
use Rattle.std.specs.Prelude.{◌≡◌, refl, ℕ, List, [], ◌∷◌, ◌++◌, map, take, replicate, Some, None, Ok, Err}
use Rattle.std.specs.List.{range_with_len}
use Rattle.dc_spec.specs.Words.{zero_word}
use Rattle.dc_spec.specs.Entries.{short, long, Stream}
use Rattle.dc_spec.specs.Values.{value_of}
use Rattle.dc_spec.specs.Groups.{group_of, group_count, group_limb, split_limb, Group, counted, total, mean, minus, equal_value, split_count}
use Rattle.dc_station_rules.specs.Bursts.{burst_of, gave}
use Rattle.dc_station_rules.specs.Epochs.{epoch_of, request_after, for_root, for_at_most, for_nothing}
use Rattle.dc_station_rules.specs.Cycles.{place_of, in_burst}
use Rattle.dc_station_rules.specs.Stations.{log_of, sent_of, pending_counts, plain_word}
use Rattle.dc_station_rules.proofs.Computing.{computing}
use Rattle.dc_cases.proofs.SharedValues.{two_ends}
use Rattle.dc_cases.proofs.WorkedSessions.{one_symbol, of_message, two_marks, sent_together}

-- a station with the message aa and the coin 5
abbrev one_message : Stream
one_message = of_message (170 ∷ []) (5 ∷ [])

-- the one fragment of that message
abbrev whole_message : List ℕ
whole_message = 1 ∷ 0 ∷ 1 ∷ 170 ∷ replicate 12 0

-- the burst of field 5 is void, and the message comes back in the burst of field 9, which the station did not mark
abbrev other_field : List (List ℕ)
other_field = two_marks ∷ zero_word ∷ whole_message ∷ zero_word ∷ []

-- so the message is logged
other_field_log : log_of other_field ≡ long (170 ∷ []) ∷ []
unfolding computing
other_field_log = refl

-- but the station counts nothing as sent, since the burst of the field that it marked did not give it
other_field_sent : sent_of one_message other_field ≡ []
unfolding computing
other_field_sent = refl

-- and the message stays pending
other_field_pending : pending_counts one_message other_field ≡ (0, 1)
unfolding computing
other_field_pending = refl

-- both fragments of a message of fourteen bytes come back in the burst of field 5
abbrev longer_message : List (List ℕ)
longer_message = one_symbol 5 1 ∷ (2 ∷ 0 ∷ 14 ∷ range_with_len 1 13) ∷ (1 ∷ 14 ∷ replicate 14 0) ∷ []

longer_message_burst : burst_of ((2 ∷ 0 ∷ 14 ∷ range_with_len 1 13) ∷ (1 ∷ 14 ∷ replicate 14 0) ∷ []) ≡ gave (range_with_len 1 14)
unfolding computing
longer_message_burst = refl

-- once its own fragment is sent, the station sends zeros, though the burst goes on
after_own_fragments : map (λ t. plain_word one_message (take t longer_message)) (range_with_len 0 3) ≡ one_symbol 5 1 ∷ whole_message ∷ zero_word ∷ []
unfolding computing
after_own_fragments = refl

-- a station with a value and a message
abbrev of_both : Stream
of_both = record { shorts = value_of 7 ∷ []; longs = (170 ∷ []) ∷ []; coins = 5 ∷ [] }

-- the words of a cycle in which it sends both
abbrev both_sent : List (List ℕ)
both_sent = one_symbol 5 1 ∷ whole_message ∷ two_ends 1 7 ∷ []

both_sent_words : sent_together (of_both ∷ []) both_sent 3 ≡ both_sent
unfolding computing
both_sent_words = refl

-- bursts complete before the epoch, so the message is logged before the value
both_sent_log : log_of both_sent ≡ long (170 ∷ []) ∷ short (value_of 7) 1 ∷ []
unfolding computing
both_sent_log = refl

-- and it counts as sent before the value
both_sent_sent : sent_of of_both both_sent ≡ long (170 ∷ []) ∷ short (value_of 7) 1 ∷ []
unfolding computing
both_sent_sent = refl

-- a station with a coin and no message marks no field
coin_alone : plain_word (record { shorts = []; longs = []; coins = 5 ∷ [] }) [] ≡ zero_word
unfolding computing
coin_alone = refl

-- nor does one with a message and no coin
message_alone : plain_word (of_message (170 ∷ []) []) [] ≡ zero_word
unfolding computing
message_alone = refl

-- bursts come in rising order of fields
first_burst : place_of (two_marks ∷ []) ≡ in_burst 5 []
unfolding computing
first_burst = refl

second_burst : place_of (two_marks ∷ whole_message ∷ []) ≡ in_burst 9 []
unfolding computing
second_burst = refl

-- a group of three stations with the total 7
abbrev three_of_seven : Group
three_of_seven = counted (two_ends 3 7)

total_of_three : total three_of_seven ≡ 7
unfolding computing
total_of_three = refl

-- the last limb but one counts 256 times
total_of_limbs : total (counted (1 ∷ replicate 13 0 ++ 2 ∷ 3 ∷ [])) ≡ 515
unfolding computing
total_of_limbs = refl

-- the mean is rounded down, and an empty group has none
mean_of_three : mean three_of_seven ≡ Some 2
unfolding computing
mean_of_three = refl

mean_of_none : mean (counted (two_ends 0 0)) ≡ None
unfolding computing
mean_of_none = refl

-- the group without one station of value 1, and the equal value of the two that are left
rest_of_three : minus three_of_seven (counted (two_ends 1 1)) ≡ Ok (counted (two_ends 2 6))
unfolding computing
rest_of_three = refl

equal_value_of_rest : equal_value (counted (two_ends 2 6)) ≡ Some (value_of 3)
unfolding computing
equal_value_of_rest = refl

no_equal_value : equal_value three_of_seven ≡ None
unfolding computing
no_equal_value = refl

-- a part is not empty, and no larger than the whole
empty_part : minus three_of_seven (counted (two_ends 0 0)) ≡ Err (split_count 3 0)
unfolding computing
empty_part = refl

larger_part : minus three_of_seven (counted (two_ends 4 7)) ≡ Err (split_count 3 4)
unfolding computing
larger_part = refl

-- what is asked for: a root first, then values up to the mean of the current group, and nothing once the epoch is whole or void
asked_in_epoch : map (λ words. request_after (epoch_of words)) ([] ∷ (two_ends 3 7 ∷ []) ∷ (two_ends 3 7 ∷ two_ends 1 1 ∷ []) ∷ (two_ends 3 7 ∷ two_ends 1 1 ∷ two_ends 2 6 ∷ [])
    ∷ (two_ends 3 7 ∷ zero_word ∷ []) ∷ []) ≡ for_root ∷ for_at_most 2 ∷ for_at_most 3 ∷ for_nothing ∷ for_nothing ∷ []
unfolding computing
asked_in_epoch = refl

-- a count of 256 is a group and 257 is none; a limb may be 255 times the count and no more
judged_words : map group_of (two_ends 256 65280 ∷ two_ends 257 0 ∷ two_ends 2 510 ∷ two_ends 2 511 ∷ []) ≡ Ok (counted (two_ends 256 65280)) ∷ Err (group_count 257) ∷ Ok (counted (two_ends 2 510))
    ∷ Err (group_limb 15 511) ∷ []
unfolding computing
judged_words = refl

-- a limb of a part is at most that of the whole, and leaves at most 255 for each of the rest
judged_parts : map (minus (counted (two_ends 3 600))) (counted (two_ends 2 345) ∷ counted (two_ends 2 344) ∷ counted (two_ends 3 601) ∷ []) ≡ Ok (counted (two_ends 1 255))
    ∷ Err (split_limb 15 600 344) ∷ Err (split_limb 15 600 601) ∷ []
unfolding computing
judged_parts = refl
