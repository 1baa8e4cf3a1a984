-- Small sessions by computation: what each station sends, what all log, what counts as sent and what is pending.
use Rattle.std.specs.Prelude.{◌≡◌, refl, ℕ, ◌-◌, ◌^◌, List, [], ◌∷◌, map, take, replicate, ◌==◌, if◌then◌else◌}
use Rattle.std.specs.List.{range_with_len}
use Rattle.dc_spec.specs.Words.{word_of, zero_word, word_sum}
use Rattle.dc_spec.specs.Entries.{short, long, Stream}
use Rattle.dc_spec.specs.Values.{value_of, last_number}
use Rattle.dc_spec.specs.Groups.{split_count}
use Rattle.dc_station_rules.specs.Bursts.{burst_of, fragment, fragment_count, void_burst, burst_length}
use Rattle.dc_station_rules.specs.Epochs.{epoch_of, void_epoch, no_part, uneven, leaves}
use Rattle.dc_station_rules.proofs.Computing.{computing}
use Rattle.dc_station_rules.specs.Stations.{log_of, sent_of, pending_counts, plain_word}
use Rattle.dc_cases.proofs.SharedValues.{two_ends}

-- a word with one symbol that is not 0
abbrev pub one_symbol : ℕ → ℕ → List ℕ
one_symbol place symbol = word_of (λ l. if l == place then symbol else 0)

-- a stream with these values alone, and one with a message and coins
abbrev pub of_values : List ℕ → Stream
of_values values = record { shorts = map value_of values; longs = []; coins = [] }

abbrev pub of_message : List ℕ → List ℕ → Stream
of_message message coins = record { shorts = []; longs = message ∷ []; coins = coins }

-- what stations with these streams send together after each of so many first words
abbrev pub sent_together : List Stream → List (List ℕ) → ℕ → List (List ℕ)
unfolding computing
sent_together streams words rounds = map (λ t. word_sum (map (λ stream. plain_word stream (take t words)) streams)) (range_with_len 0 rounds)

-- three stations have the values 1, 3 and 3
abbrev three_values : List Stream
three_values = of_values (1 ∷ []) ∷ of_values (3 ∷ []) ∷ of_values (3 ∷ []) ∷ []

abbrev three_words : List (List ℕ)
three_words = zero_word ∷ two_ends 3 7 ∷ two_ends 1 1 ∷ two_ends 2 6 ∷ zero_word ∷ []

three_values_words : sent_together three_values three_words 5 ≡ three_words
unfolding computing
three_values_words = refl

three_values_log : log_of three_words ≡ short (value_of 1) 1 ∷ short (value_of 3) 2 ∷ []
unfolding computing
three_values_log = refl

three_values_sent : map (λ stream. sent_of stream three_words) three_values ≡ (short (value_of 1) 1 ∷ []) ∷ (short (value_of 3) 1 ∷ []) ∷ (short (value_of 3) 1 ∷ []) ∷ []
unfolding computing
three_values_sent = refl

three_values_pending : map (λ stream. pending_counts stream three_words) three_values ≡ replicate 3 (0, 0)
unfolding computing
three_values_pending = refl

-- two stations have the value 0
two_zeros_words : sent_together (of_values (0 ∷ []) ∷ of_values (0 ∷ []) ∷ []) (zero_word ∷ two_ends 2 0 ∷ two_ends 2 0 ∷ []) 3 ≡ zero_word ∷ two_ends 2 0 ∷ two_ends 2 0 ∷ []
unfolding computing
two_zeros_words = refl

two_zeros_log : log_of (zero_word ∷ two_ends 2 0 ∷ two_ends 2 0 ∷ []) ≡ short (value_of 0) 2 ∷ []
unfolding computing
two_zeros_log = refl

-- 256 stations have the greatest value
abbrev full_word : List ℕ
full_word = 256 ∷ replicate 15 65280

full_words : sent_together (replicate 256 (of_values ((256 ^ 15 - 1) ∷ []))) (zero_word ∷ full_word ∷ full_word ∷ []) 3 ≡ zero_word ∷ full_word ∷ full_word ∷ []
unfolding computing
full_words = refl

full_log : log_of (zero_word ∷ full_word ∷ full_word ∷ []) ≡ short (replicate 15 255) 256 ∷ []
unfolding computing
full_log = refl

-- two stations have a message each and mark the same field first; then they use their next coins, and both messages come through
abbrev two_messages : List Stream
two_messages = of_message (170 ∷ []) (5 ∷ 5 ∷ []) ∷ of_message (187 ∷ []) (5 ∷ 9 ∷ []) ∷ []

abbrev pub two_marks : List ℕ
two_marks = word_of (λ l. if l == 5 then 1 else if l == 9 then 1 else 0)

abbrev message_words : List (List ℕ)
message_words = one_symbol 5 2 ∷ zero_word ∷ two_marks ∷ fragment (170 ∷ []) 0 ∷ fragment (187 ∷ []) 0 ∷ zero_word ∷ []

first_fragment : fragment (170 ∷ []) 0 ≡ 1 ∷ 0 ∷ 1 ∷ 170 ∷ replicate 12 0
unfolding computing
first_fragment = refl

two_messages_words : sent_together two_messages message_words 6 ≡ message_words
unfolding computing
two_messages_words = refl

two_messages_log : log_of message_words ≡ long (170 ∷ []) ∷ long (187 ∷ []) ∷ []
unfolding computing
two_messages_log = refl

two_messages_sent : map (λ stream. sent_of stream message_words) two_messages ≡ (long (170 ∷ []) ∷ []) ∷ (long (187 ∷ []) ∷ []) ∷ []
unfolding computing
two_messages_sent = refl

-- the longest message has 256 fragments, and one byte more would need another
longest_message : fragment_count 3838 ≡ 256
longest_message = refl

too_long_message : fragment_count 3839 ≡ 257
too_long_message = refl

-- two stations mark one field, and a third lets it look like one mark: both send, and the burst is void
abbrev hidden_collision : List (List ℕ)
hidden_collision = one_symbol 5 1 ∷ (2 ∷ 0 ∷ 2 ∷ 3 ∷ replicate 12 0) ∷ zero_word ∷ zero_word ∷ []

hidden_collision_word : sent_together (of_message (1 ∷ []) (5 ∷ []) ∷ of_message (2 ∷ []) (5 ∷ []) ∷ []) hidden_collision 2 ≡ one_symbol 5 2 ∷ (2 ∷ 0 ∷ 2 ∷ 3 ∷ replicate 12 0) ∷ []
unfolding computing
hidden_collision_word = refl

hidden_collision_void : burst_of ((2 ∷ 0 ∷ 2 ∷ 3 ∷ replicate 12 0) ∷ []) ≡ void_burst (burst_length 2 2)
unfolding computing
hidden_collision_void = refl

hidden_collision_log : log_of hidden_collision ≡ []
unfolding computing
hidden_collision_log = refl

hidden_collision_pending : pending_counts (of_message (1 ∷ []) (5 ∷ [])) hidden_collision ≡ (0, 1)
unfolding computing
hidden_collision_pending = refl

-- the values 1 and 3 collide; then a third station takes the word of the left part away, or puts one too many into it
abbrev emptied_part : List (List ℕ)
emptied_part = zero_word ∷ two_ends 2 4 ∷ zero_word ∷ zero_word ∷ two_ends 2 4 ∷ []

emptied_part_void : epoch_of (two_ends 2 4 ∷ zero_word ∷ []) ≡ void_epoch [] (no_part (split_count 2 0))
unfolding computing
emptied_part_void = refl

overfull_part_void : epoch_of (two_ends 2 4 ∷ two_ends 3 1 ∷ []) ≡ void_epoch [] (no_part (split_count 2 3))
unfolding computing
overfull_part_void = refl

emptied_part_words : sent_together (of_values (1 ∷ []) ∷ of_values (3 ∷ []) ∷ []) emptied_part 5 ≡ zero_word ∷ two_ends 2 4 ∷ two_ends 1 1 ∷ zero_word ∷ two_ends 2 4 ∷ []
unfolding computing
emptied_part_words = refl

emptied_part_sent : sent_of (of_values (1 ∷ [])) emptied_part ≡ []
unfolding computing
emptied_part_sent = refl

-- a disturbed epoch in which the left part of three values has a mean above its own range: its parts stay within the range, so that one of them has no numbers
abbrev mean_outside : List (List ℕ)
mean_outside = two_ends 3 9 ∷ two_ends 2 8 ∷ two_ends 1 2 ∷ []

mean_outside_leaves : leaves (epoch_of mean_outside) ≡ record { value = value_of 2; times = 1; low = 0; high = 3 } ∷ record { value = value_of 6; times = 1; low = 5; high = 3 }
    ∷ record { value = value_of 1; times = 1; low = 4; high = last_number } ∷ []
unfolding computing
mean_outside_leaves = refl

-- a value counts as sent where its leaf came out on a range that holds it: here 2 does; 6 has a leaf on another range, and 3 lies on the range of another leaf
mean_outside_sent : map (λ n. sent_of (of_values (n ∷ [])) (zero_word ∷ mean_outside)) (2 ∷ 6 ∷ 3 ∷ []) ≡ (short (value_of 2) 1 ∷ []) ∷ [] ∷ [] ∷ []
unfolding computing
mean_outside_sent = refl

-- after its two first words numbers up to 4 are called for, but no number above the range of the current group: 3 is sent again and 4 is not
mean_outside_word : map (λ n. plain_word (of_values (n ∷ [])) (zero_word ∷ take 2 mean_outside)) (3 ∷ 4 ∷ []) ≡ two_ends 1 3 ∷ zero_word ∷ []
unfolding computing
mean_outside_word = refl

-- a message that comes back as another one is logged so, and does not count as sent
abbrev changed_message : List (List ℕ)
changed_message = one_symbol 5 1 ∷ fragment (171 ∷ []) 0 ∷ []

changed_message_log : log_of changed_message ≡ long (171 ∷ []) ∷ []
unfolding computing
changed_message_log = refl

changed_message_sent : sent_of (of_message (170 ∷ []) (5 ∷ [])) changed_message ≡ []
unfolding computing
changed_message_sent = refl

-- a group of count 1 after the current group has not come out yet
waiting_leaf : leaves (epoch_of (two_ends 3 5 ∷ two_ends 2 2 ∷ [])) ≡ []
unfolding computing
waiting_leaf = refl

-- and none of an epoch that breaks off there
broken_off_leaf : leaves (epoch_of (two_ends 3 5 ∷ two_ends 2 2 ∷ two_ends 257 0 ∷ [])) ≡ []
unfolding computing
broken_off_leaf = refl

-- all sent again, and a limb is not divisible by their count
uneven_word : epoch_of (two_ends 2 3 ∷ two_ends 2 3 ∷ []) ≡ void_epoch [] (uneven 15 3)
unfolding computing
uneven_word = refl
