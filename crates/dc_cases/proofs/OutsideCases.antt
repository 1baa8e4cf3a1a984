-- Cases of an implementation by other hands, computed.
use Rattle.std.specs.Prelude.{◌≡◌, refl, [], ◌∷◌, Some, None, Ok, Err, map, take, true, false}
use Rattle.std.specs.List.{range_with_len}
use Rattle.dc_spec.specs.Words.{word_of}
use Rattle.dc_spec.specs.Entries.{short, long}
use Rattle.dc_spec.specs.Groups.{group_count, split_limb, group_of, total, mean, minus, equal_value}
use Rattle.dc_station_rules.specs.Bursts.{goes_on, gave, void_burst, burst_padding, burst_of, fragments}
use Rattle.dc_station_rules.specs.Epochs.{void_epoch, no_part, for_at_most, for_nothing, epoch_of, leaves_at, request_after}
use Rattle.dc_key_rules.specs.PairKeys.{key_word, symbols}
use Rattle.dc_graph_rules.specs.Graphs.{reached, part, is_joined}
use Rattle.dc_graph_rules.specs.Forests.{spreads, chain, root, parents, below_sums}
use Rattle.dc_hub_rules.specs.Hubs.{replies, round_start, waiting, complete, old, ahead}
use Rattle.dc_station_rules.specs.Stations.{log_of, sent_of, pending_counts, plain_word}
use Rattle.dc_station_rules.proofs.Computing.{computing}

-- a group of one station: read, its total, mean and equal value
one_station : group_of (1 ∷ 0 ∷ 255 ∷ 255 ∷ 38 ∷ 0 ∷ 0 ∷ 23 ∷ 46 ∷ 17 ∷ 0 ∷ 0 ∷ 255 ∷ 144 ∷ 86 ∷ 255 ∷ []) ≡ Ok (record {
  count = 1;
  limbs = (0 ∷ 255 ∷ 255 ∷ 38 ∷ 0 ∷ 0 ∷ 23 ∷ 46 ∷ 17 ∷ 0 ∷ 0 ∷ 255
      ∷ 144 ∷ 86 ∷ 255 ∷ []);
})
unfolding computing
one_station = refl

one_station_total : total (record { count = 1; limbs = (0 ∷ 255 ∷ 255 ∷ 38 ∷ 0 ∷ 0 ∷ 23 ∷ 46 ∷ 17 ∷ 0 ∷ 0 ∷ 255 ∷ 144 ∷ 86 ∷ 255 ∷ []) }) ≡ 5192229390803114169853614283052799
unfolding computing
one_station_total = refl

one_station_mean : mean (record { count = 1; limbs = (0 ∷ 255 ∷ 255 ∷ 38 ∷ 0 ∷ 0 ∷ 23 ∷ 46 ∷ 17 ∷ 0 ∷ 0 ∷ 255 ∷ 144 ∷ 86 ∷ 255 ∷ []) }) ≡ (Some 5192229390803114169853614283052799)
unfolding computing
one_station_mean = refl

one_station_value : equal_value (record { count = 1; limbs = (0 ∷ 255 ∷ 255 ∷ 38 ∷ 0 ∷ 0 ∷ 23 ∷ 46 ∷ 17 ∷ 0 ∷ 0 ∷ 255 ∷ 144 ∷ 86 ∷ 255 ∷ []) }) ≡ (Some (0 ∷ 255 ∷ 255 ∷ 38 ∷ 0 ∷ 0 ∷ 23 ∷ 46 ∷ 17 ∷ 0
    ∷ 0 ∷ 255 ∷ 144 ∷ 86 ∷ 255 ∷ []))
unfolding computing
one_station_value = refl

-- a group of five stations that did not send the same
five_stations : group_of (5 ∷ 787 ∷ 1152 ∷ 15 ∷ 1275 ∷ 0 ∷ 1275 ∷ 0 ∷ 1275 ∷ 0 ∷ 848 ∷ 1078 ∷ 1275 ∷ 1275 ∷ 0 ∷ 0 ∷ []) ≡ Ok (record {
  count = 5;
  limbs = (787 ∷ 1152 ∷ 15 ∷ 1275 ∷ 0 ∷ 1275 ∷ 0 ∷ 1275
      ∷ 0 ∷ 848 ∷ 1078 ∷ 1275 ∷ 1275 ∷ 0 ∷ 0 ∷ []);
})
unfolding computing
five_stations = refl

five_stations_total : total (record { count = 5; limbs = (787 ∷ 1152 ∷ 15 ∷ 1275 ∷ 0 ∷ 1275 ∷ 0 ∷ 1275 ∷ 0 ∷ 848 ∷ 1078 ∷ 1275 ∷ 1275 ∷ 0 ∷ 0 ∷ []) }) ≡ 4109704546552162413301942605147996160
unfolding computing
five_stations_total = refl

five_stations_mean : mean (record { count = 5; limbs = (787 ∷ 1152 ∷ 15 ∷ 1275 ∷ 0 ∷ 1275 ∷ 0 ∷ 1275 ∷ 0 ∷ 848 ∷ 1078 ∷ 1275 ∷ 1275 ∷ 0 ∷ 0 ∷ []) }) ≡ (Some 821940909310432482660388521029599232)
unfolding computing
five_stations_mean = refl

five_stations_value : equal_value (record { count = 5; limbs = (787 ∷ 1152 ∷ 15 ∷ 1275 ∷ 0 ∷ 1275 ∷ 0 ∷ 1275 ∷ 0 ∷ 848 ∷ 1078 ∷ 1275 ∷ 1275 ∷ 0 ∷ 0 ∷ []) }) ≡ None
unfolding computing
five_stations_value = refl

-- a count above 256
many_stations : group_of (65536 ∷ 1275 ∷ 1275 ∷ 517 ∷ 0 ∷ 0 ∷ 1275 ∷ 1275 ∷ 0 ∷ 1275 ∷ 1275 ∷ 328 ∷ 296 ∷ 497 ∷ 0 ∷ 1275 ∷ []) ≡ Err (group_count 65536)
unfolding computing
many_stations = refl

-- a limb of which the part has more than the whole
greater_part : minus (record { count = 256; limbs = (0 ∷ 65280 ∷ 41712 ∷ 13040 ∷ 0 ∷ 46037 ∷ 43197 ∷ 0 ∷ 0 ∷ 0 ∷ 43979 ∷ 65280 ∷ 65280 ∷ 0 ∷ 48837 ∷ []) }) (record {
  count = 218;
  limbs =
      (0 ∷ 55590 ∷ 38819 ∷ 10120 ∷ 0 ∷ 45160 ∷ 39213 ∷ 0 ∷ 0 ∷ 0 ∷ 43685 ∷ 55590 ∷ 55590 ∷ 40 ∷ 46712 ∷ []);
}) ≡ Err (split_limb 14 0 40)
unfolding computing
greater_part = refl

-- a message in two words
first_of_two : burst_of ((2 ∷ 0 ∷ 14 ∷ 171 ∷ 67 ∷ 5 ∷ 59 ∷ 215 ∷ 38 ∷ 159 ∷ 136 ∷ 21 ∷ 122 ∷ 81 ∷ 151 ∷ 158 ∷ []) ∷ []) ≡ goes_on
unfolding computing
first_of_two = refl

both_of_two : burst_of ((2 ∷ 0 ∷ 14 ∷ 171 ∷ 67 ∷ 5 ∷ 59 ∷ 215 ∷ 38 ∷ 159 ∷ 136 ∷ 21 ∷ 122 ∷ 81 ∷ 151 ∷ 158 ∷ []) ∷ (1 ∷ 196 ∷ 0 ∷ 0 ∷ 0 ∷ 0 ∷ 0 ∷ 0 ∷ 0 ∷ 0 ∷ 0 ∷ 0 ∷ 0 ∷ 0 ∷ 0 ∷ 0 ∷ []) ∷ [])
    ≡ (gave (171 ∷ 67 ∷ 5 ∷ 59 ∷ 215 ∷ 38 ∷ 159 ∷ 136 ∷ 21 ∷ 122 ∷ 81 ∷ 151 ∷ 158 ∷ 196 ∷ []))
unfolding computing
both_of_two = refl

fragments_of_two : fragments (171 ∷ 67 ∷ 5 ∷ 59 ∷ 215 ∷ 38 ∷ 159 ∷ 136 ∷ 21 ∷ 122 ∷ 81 ∷ 151 ∷ 158 ∷ 196 ∷ []) ≡ ((2 ∷ 0 ∷ 14 ∷ 171 ∷ 67 ∷ 5 ∷ 59 ∷ 215 ∷ 38 ∷ 159 ∷ 136 ∷ 21 ∷ 122 ∷ 81 ∷ 151 ∷ 158
    ∷ []) ∷ (1 ∷ 196 ∷ 0 ∷ 0 ∷ 0 ∷ 0 ∷ 0 ∷ 0 ∷ 0 ∷ 0 ∷ 0 ∷ 0 ∷ 0 ∷ 0 ∷ 0 ∷ 0 ∷ []) ∷ [])
unfolding computing
fragments_of_two = refl

-- a byte after the message that is not 0
first_of_padded : burst_of ((2 ∷ 0 ∷ 14 ∷ 18 ∷ 248 ∷ 124 ∷ 14 ∷ 106 ∷ 197 ∷ 35 ∷ 108 ∷ 78 ∷ 0 ∷ 250 ∷ 249 ∷ 152 ∷ []) ∷ []) ≡ goes_on
unfolding computing
first_of_padded = refl

padding_broken : burst_of ((2 ∷ 0 ∷ 14 ∷ 18 ∷ 248 ∷ 124 ∷ 14 ∷ 106 ∷ 197 ∷ 35 ∷ 108 ∷ 78 ∷ 0 ∷ 250 ∷ 249 ∷ 152 ∷ []) ∷ (1 ∷ 107 ∷ 0 ∷ 0 ∷ 0 ∷ 0 ∷ 0 ∷ 0 ∷ 0 ∷ 0 ∷ 0 ∷ 0 ∷ 0 ∷ 0 ∷ 0 ∷ 255 ∷ []) ∷ [])
    ≡ (void_burst (burst_padding 29))
unfolding computing
padding_broken = refl

-- an epoch of three stations, two of them with one value
leaves_at_the_root : leaves_at ([]) (3 ∷ 255 ∷ 255 ∷ 255 ∷ 255 ∷ 255 ∷ 255 ∷ 255 ∷ 255 ∷ 255 ∷ 255 ∷ 255 ∷ 255 ∷ 255 ∷ 257 ∷ 255 ∷ []) ≡ ([])
unfolding computing
leaves_at_the_root = refl

asked_after_the_root : request_after (epoch_of ((3 ∷ 255 ∷ 255 ∷ 255 ∷ 255 ∷ 255 ∷ 255 ∷ 255 ∷ 255 ∷ 255 ∷ 255 ∷ 255 ∷ 255 ∷ 255 ∷ 257 ∷ 255 ∷ []) ∷ []))
    ≡ (for_at_most 443075998594971957634602353426781695)
unfolding computing
asked_after_the_root = refl

leaves_at_the_second_word : leaves_at ((3 ∷ 255 ∷ 255 ∷ 255 ∷ 255 ∷ 255 ∷ 255 ∷ 255 ∷ 255 ∷ 255 ∷ 255 ∷ 255 ∷ 255 ∷ 255 ∷ 257 ∷ 255 ∷ []) ∷ []) (2 ∷ 0 ∷ 0 ∷ 0 ∷ 0 ∷ 0 ∷ 0 ∷ 0 ∷ 0 ∷ 0 ∷ 0 ∷ 0 ∷ 0 ∷ 0
    ∷ 2 ∷ 0 ∷ []) ≡ ([])
unfolding computing
leaves_at_the_second_word = refl

asked_after_the_second_word : request_after (epoch_of ((3 ∷ 255 ∷ 255 ∷ 255 ∷ 255 ∷ 255 ∷ 255 ∷ 255 ∷ 255 ∷ 255 ∷ 255 ∷ 255 ∷ 255 ∷ 255 ∷ 257 ∷ 255 ∷ []) ∷ (2 ∷ 0 ∷ 0 ∷ 0 ∷ 0 ∷ 0 ∷ 0 ∷ 0 ∷ 0 ∷ 0 ∷ 0
    ∷ 0 ∷ 0 ∷ 0 ∷ 2 ∷ 0 ∷ []) ∷ [])) ≡ (for_at_most 256)
unfolding computing
asked_after_the_second_word = refl

leaves_at_the_third_word : leaves_at ((3 ∷ 255 ∷ 255 ∷ 255 ∷ 255 ∷ 255 ∷ 255 ∷ 255 ∷ 255 ∷ 255 ∷ 255 ∷ 255 ∷ 255 ∷ 255 ∷ 257 ∷ 255 ∷ []) ∷ (2 ∷ 0 ∷ 0 ∷ 0 ∷ 0 ∷ 0 ∷ 0 ∷ 0 ∷ 0 ∷ 0 ∷ 0 ∷ 0 ∷ 0 ∷ 0 ∷ 2
    ∷ 0 ∷ []) ∷ []) (2 ∷ 0 ∷ 0 ∷ 0 ∷ 0 ∷ 0 ∷ 0 ∷ 0 ∷ 0 ∷ 0 ∷ 0 ∷ 0 ∷ 0 ∷ 0 ∷ 2 ∷ 0 ∷ []) ≡ ((record {
      value = (0 ∷ 0 ∷ 0 ∷ 0 ∷ 0 ∷ 0 ∷ 0 ∷ 0 ∷ 0 ∷ 0 ∷ 0 ∷ 0 ∷ 0 ∷ 1 ∷ 0 ∷ []);
      times = 2;
      low = 0;
      high = 443075998594971957634602353426781695;
    }) ∷ (record {
      value = (255 ∷ 255 ∷ 255 ∷ 255 ∷ 255 ∷ 255 ∷ 255 ∷ 255 ∷ 255 ∷ 255 ∷ 255 ∷ 255 ∷ 255 ∷ 255 ∷ 255 ∷ []);
      times = 1;
      low =
          443075998594971957634602353426781696;
      high = 1329227995784915872903807060280344575;
    }) ∷ [])
unfolding computing
leaves_at_the_third_word = refl

asked_after_the_third_word : request_after (epoch_of ((3 ∷ 255 ∷ 255 ∷ 255 ∷ 255 ∷ 255 ∷ 255 ∷ 255 ∷ 255 ∷ 255 ∷ 255 ∷ 255 ∷ 255 ∷ 255 ∷ 257 ∷ 255 ∷ []) ∷ (2 ∷ 0 ∷ 0 ∷ 0 ∷ 0 ∷ 0 ∷ 0 ∷ 0 ∷ 0 ∷ 0 ∷ 0
    ∷ 0 ∷ 0 ∷ 0 ∷ 2 ∷ 0 ∷ []) ∷ (2 ∷ 0 ∷ 0 ∷ 0 ∷ 0 ∷ 0 ∷ 0 ∷ 0 ∷ 0 ∷ 0 ∷ 0 ∷ 0 ∷ 0 ∷ 0 ∷ 2 ∷ 0 ∷ []) ∷ [])) ≡ for_nothing
unfolding computing
asked_after_the_third_word = refl

-- a word of which a limb is no part of the group
no_part_of_the_group : epoch_of ((6 ∷ 465 ∷ 570 ∷ 587 ∷ 598 ∷ 521 ∷ 685 ∷ 487 ∷ 645 ∷ 522 ∷ 293 ∷ 706 ∷ 668 ∷ 521 ∷ 462 ∷ 569 ∷ []) ∷ (4 ∷ 9 ∷ 228 ∷ 204 ∷ 228 ∷ 223 ∷ 203 ∷ 207 ∷ 244 ∷ 194 ∷ 30 ∷ 251
    ∷ 170 ∷ 198 ∷ 203 ∷ 218 ∷ []) ∷ (3 ∷ 0 ∷ 0 ∷ 0 ∷ 0 ∷ 0 ∷ 0 ∷ 0 ∷ 0 ∷ 0 ∷ 255 ∷ 0 ∷ 0 ∷ 0 ∷ 0 ∷ 1 ∷ []) ∷ []) ≡ void_epoch [] (no_part (split_limb 10 30 255))
unfolding computing
no_part_of_the_group = refl

-- the key of the last of three words, bound to both received before
key_of_the_last_word : key_word (record {
  u = 0;
  v = 1;
  a = (2 ∷ 0 ∷ 0 ∷ 2 ∷ 0 ∷ 0 ∷ 0 ∷ 14571 ∷ 65536 ∷ 0 ∷ 0 ∷ 0 ∷ 1 ∷ 0 ∷ 65536 ∷ 2 ∷ 65536 ∷ 0 ∷ 0 ∷ 1 ∷ 2 ∷ 65536 ∷ 65536 ∷ 58036 ∷ 0 ∷ 1 ∷ 2
      ∷ 65536 ∷ 65536 ∷ 65536 ∷ 1 ∷ 0 ∷ 0 ∷ 56211 ∷ 0 ∷ 0 ∷ 2 ∷ 0 ∷ 2 ∷ 2 ∷ 59462 ∷ 1 ∷ 0 ∷ 0 ∷ 1 ∷ 65536 ∷ 2 ∷ 2 ∷ []);
  b = (0 ∷ 0 ∷ 2 ∷ 2 ∷ 46625 ∷ 46655 ∷ 2 ∷ 2 ∷ 0 ∷ 23627 ∷ 65536 ∷ 43226 ∷ 65536
      ∷ 65536 ∷ 0 ∷ 5605 ∷ 0 ∷ 0 ∷ 1 ∷ 65536 ∷ 36324 ∷ 1 ∷ 1 ∷ 2 ∷ 0 ∷ 49072 ∷ 0 ∷ 0 ∷ 65536 ∷ 1 ∷ 65536 ∷ 65536 ∷ 0 ∷ 1 ∷ 65536 ∷ 61789 ∷ 0 ∷ 46703 ∷ 0 ∷ 1 ∷ 0 ∷ 0 ∷ 1 ∷ 2 ∷ 65536 ∷ 8623 ∷ 24866 ∷ 2
      ∷ []);
}) (symbols ((0 ∷ 65536 ∷ 63153 ∷ 19010 ∷ 0 ∷ 2 ∷ 0 ∷ 65536 ∷ 2 ∷ 65536 ∷ 14934 ∷ 1 ∷ 1 ∷ 33366 ∷ 0 ∷ 2 ∷ []) ∷ (1 ∷ 0 ∷ 65536 ∷ 2 ∷ 0 ∷ 18536 ∷ 2 ∷ 0 ∷ 7454 ∷ 0 ∷ 65536 ∷ 65536 ∷ 32505
    ∷ 19051 ∷ 0 ∷ 65536 ∷ []) ∷ [])) 2 ≡ (31466 ∷ 20847 ∷ 27122 ∷ 38641 ∷ 24696 ∷ 45870 ∷ 47504 ∷ 9393 ∷ 15386 ∷ 46830 ∷ 49211 ∷ 64821 ∷ 22876 ∷ 45534 ∷ 23294 ∷ 21519 ∷ [])
unfolding word_of
key_of_the_last_word = refl

-- a key graph of seven stations with one member: parents, parts, roots, joined stations, sums below
parents_of_seven : parents (record {
  stations = 7;
  edges = ((0, 1) ∷ (0, 5) ∷ (0, 6) ∷ (1, 2) ∷ (1, 4) ∷ (1, 5) ∷ (1, 6) ∷ (2, 3) ∷ (2, 4) ∷ (2, 5) ∷ (3, 4) ∷ (3, 6) ∷ (5, 6) ∷ []);
  coalition =
      (1 ∷ []);
}) ≡ (None ∷ None ∷ (Some 5) ∷ (Some 6) ∷ (Some 2) ∷ (Some 0) ∷ (Some 0) ∷ [])
unfolding word_of reached spreads chain
parents_of_seven = refl

parts_of_seven : map (part (record {
  stations = 7;
  edges = ((0, 1) ∷ (0, 5) ∷ (0, 6) ∷ (1, 2) ∷ (1, 4) ∷ (1, 5) ∷ (1, 6) ∷ (2, 3) ∷ (2, 4) ∷ (2, 5) ∷ (3, 4) ∷ (3, 6) ∷ (5, 6) ∷ []);
  coalition =
      (1 ∷ []);
})) (0 ∷ []) ≡ ((0 ∷ 2 ∷ 3 ∷ 4 ∷ 5 ∷ 6 ∷ []) ∷ [])
unfolding word_of reached spreads chain
parts_of_seven = refl

roots_of_seven : map (root (record {
  stations = 7;
  edges = ((0, 1) ∷ (0, 5) ∷ (0, 6) ∷ (1, 2) ∷ (1, 4) ∷ (1, 5) ∷ (1, 6) ∷ (2, 3) ∷ (2, 4) ∷ (2, 5) ∷ (3, 4) ∷ (3, 6) ∷ (5, 6) ∷ []);
  coalition =
      (1 ∷ []);
})) (0 ∷ 2 ∷ 3 ∷ 4 ∷ 5 ∷ 6 ∷ []) ≡ (0 ∷ 0 ∷ 0 ∷ 0 ∷ 0 ∷ 0 ∷ [])
unfolding word_of reached spreads chain
roots_of_seven = refl

joined_of_seven : map (λ u. map (is_joined (record {
  stations = 7;
  edges = ((0, 1) ∷ (0, 5) ∷ (0, 6) ∷ (1, 2) ∷ (1, 4) ∷ (1, 5) ∷ (1, 6) ∷ (2, 3) ∷ (2, 4) ∷ (2, 5) ∷ (3, 4) ∷ (3, 6) ∷ (5, 6) ∷ []);
  coalition = (1 ∷ []);
}) u) (range_with_len 0 7)) (0 ∷ []) ≡ ((true ∷ false ∷ true ∷ true ∷ true ∷ true ∷ true ∷ []) ∷ [])
unfolding word_of reached spreads chain
joined_of_seven = refl

sums_below_of_seven : below_sums (record {
  stations = 7;
  edges = ((0, 1) ∷ (0, 5) ∷ (0, 6) ∷ (1, 2) ∷ (1, 4) ∷ (1, 5) ∷ (1, 6) ∷ (2, 3) ∷ (2, 4) ∷ (2, 5) ∷ (3, 4) ∷ (3, 6) ∷ (5, 6) ∷ []);
  coalition =
      (1 ∷ []);
}) ((0 ∷ 0 ∷ 0 ∷ 0 ∷ 0 ∷ 0 ∷ 0 ∷ 0 ∷ 0 ∷ 0 ∷ 0 ∷ 0 ∷ 0 ∷ 0 ∷ 0 ∷ 0 ∷ []) ∷ (0 ∷ 0 ∷ 0 ∷ 0 ∷ 0 ∷ 0 ∷ 0 ∷ 0 ∷ 0 ∷ 0 ∷ 0 ∷ 0 ∷ 0 ∷ 0 ∷ 0 ∷ 0 ∷ []) ∷ (2 ∷ 0 ∷ 0 ∷ 0 ∷ 0 ∷ 0 ∷ 0 ∷ 0 ∷ 0 ∷ 0
    ∷ 0 ∷ 0 ∷ 0 ∷ 0 ∷ 0 ∷ 0 ∷ []) ∷ (17988 ∷ 0 ∷ 0 ∷ 0 ∷ 0 ∷ 0 ∷ 0 ∷ 0 ∷ 0 ∷ 0 ∷ 0 ∷ 0 ∷ 0 ∷ 0 ∷ 0 ∷ 0 ∷ []) ∷ (65536 ∷ 0 ∷ 0 ∷ 0 ∷ 0 ∷ 0 ∷ 0 ∷ 0 ∷ 0 ∷ 0 ∷ 0 ∷ 0 ∷ 0 ∷ 0 ∷ 0 ∷ 0 ∷ [])
    ∷ (2 ∷ 0 ∷ 0 ∷ 0 ∷ 0 ∷ 0 ∷ 0 ∷ 0 ∷ 0 ∷ 0 ∷ 0 ∷ 0 ∷ 0 ∷ 0 ∷ 0 ∷ 0 ∷ []) ∷ (3124 ∷ 0 ∷ 0 ∷ 0 ∷ 0 ∷ 0 ∷ 0 ∷ 0 ∷ 0 ∷ 0 ∷ 0 ∷ 0 ∷ 0 ∷ 0 ∷ 0 ∷ 0 ∷ []) ∷ [])
    ≡ ((21115 ∷ 0 ∷ 0 ∷ 0 ∷ 0 ∷ 0 ∷ 0 ∷ 0 ∷ 0 ∷ 0 ∷ 0 ∷ 0 ∷ 0 ∷ 0 ∷ 0 ∷ 0 ∷ []) ∷ (0 ∷ 0 ∷ 0 ∷ 0 ∷ 0 ∷ 0 ∷ 0 ∷ 0 ∷ 0 ∷ 0 ∷ 0 ∷ 0 ∷ 0 ∷ 0 ∷ 0 ∷ 0 ∷ []) ∷ (1 ∷ 0 ∷ 0 ∷ 0 ∷ 0 ∷ 0 ∷ 0 ∷ 0 ∷ 0 ∷ 0 ∷ 0 ∷ 0
    ∷ 0 ∷ 0 ∷ 0 ∷ 0 ∷ []) ∷ (17988 ∷ 0 ∷ 0 ∷ 0 ∷ 0 ∷ 0 ∷ 0 ∷ 0 ∷ 0 ∷ 0 ∷ 0 ∷ 0 ∷ 0 ∷ 0 ∷ 0 ∷ 0 ∷ []) ∷ (65536 ∷ 0 ∷ 0 ∷ 0 ∷ 0 ∷ 0 ∷ 0 ∷ 0 ∷ 0 ∷ 0 ∷ 0 ∷ 0 ∷ 0 ∷ 0 ∷ 0 ∷ 0 ∷ [])
    ∷ (3 ∷ 0 ∷ 0 ∷ 0 ∷ 0 ∷ 0 ∷ 0 ∷ 0 ∷ 0 ∷ 0 ∷ 0 ∷ 0 ∷ 0 ∷ 0 ∷ 0 ∷ 0 ∷ []) ∷ (21112 ∷ 0 ∷ 0 ∷ 0 ∷ 0 ∷ 0 ∷ 0 ∷ 0 ∷ 0 ∷ 0 ∷ 0 ∷ 0 ∷ 0 ∷ 0 ∷ 0 ∷ 0 ∷ []) ∷ [])
unfolding word_of reached spreads chain
sums_below_of_seven = refl

-- a hub of three stations in two rounds
answers_of_a_hub : replies 3 3 ((record { station = 1; round = 0; word = (2 ∷ 0 ∷ 0 ∷ 0 ∷ 0 ∷ 0 ∷ 0 ∷ 0 ∷ 0 ∷ 0 ∷ 0 ∷ 0 ∷ 0 ∷ 0 ∷ 0 ∷ 5 ∷ []) })
    ∷ (record { station = 1; round = 1; word = (1 ∷ 0 ∷ 0 ∷ 0 ∷ 0 ∷ 0 ∷ 0 ∷ 0 ∷ 0 ∷ 0 ∷ 0 ∷ 0 ∷ 0 ∷ 0 ∷ 0 ∷ 1 ∷ []) }) ∷ (record {
      station = 2;
      round = 0;
      word = (1 ∷ 0 ∷ 0 ∷ 0 ∷ 0 ∷ 0 ∷ 0 ∷ 0 ∷ 0
          ∷ 0 ∷ 0 ∷ 0 ∷ 0 ∷ 0 ∷ 0 ∷ 0 ∷ []);
    }) ∷ (record { station = 0; round = 2; word = (1 ∷ 0 ∷ 0 ∷ 0 ∷ 0 ∷ 0 ∷ 0 ∷ 0 ∷ 0 ∷ 0 ∷ 0 ∷ 0 ∷ 0 ∷ 0 ∷ 0 ∷ 3 ∷ []) })
    ∷ (record { station = 0; round = 0; word = (2 ∷ 0 ∷ 0 ∷ 0 ∷ 0 ∷ 0 ∷ 0 ∷ 0 ∷ 0 ∷ 0 ∷ 0 ∷ 0 ∷ 0 ∷ 0 ∷ 0 ∷ 0 ∷ []) }) ∷ (record {
      station = 0;
      round = 0;
      word = (0 ∷ 0 ∷ 0 ∷ 0 ∷ 0 ∷ 0 ∷ 0 ∷ 0 ∷ 0
          ∷ 0 ∷ 0 ∷ 0 ∷ 0 ∷ 0 ∷ 0 ∷ 5 ∷ []);
    }) ∷ (record { station = 2; round = 1; word = (2 ∷ 0 ∷ 0 ∷ 0 ∷ 0 ∷ 0 ∷ 0 ∷ 0 ∷ 0 ∷ 0 ∷ 0 ∷ 0 ∷ 0 ∷ 0 ∷ 0 ∷ 3 ∷ []) }) ∷ []) ≡ ((waiting 0) ∷ (ahead 0)
    ∷ (waiting 0) ∷ (ahead 0) ∷ (complete (5 ∷ 0 ∷ 0 ∷ 0 ∷ 0 ∷ 0 ∷ 0 ∷ 0 ∷ 0 ∷ 0 ∷ 0 ∷ 0 ∷ 0 ∷ 0 ∷ 0 ∷ 5 ∷ [])) ∷ (old 1) ∷ (waiting 0) ∷ [])
unfolding word_of round_start
answers_of_a_hub = refl

-- a station: plain words, log, sent entries, what is pending
words_of_a_station : map (λ k. plain_word (record {
  shorts = ((104 ∷ 120 ∷ 18 ∷ 103 ∷ 234 ∷ 49 ∷ 225 ∷ 117 ∷ 77 ∷ 32 ∷ 249 ∷ 70 ∷ 152 ∷ 69 ∷ 3 ∷ []) ∷ (53 ∷ 250 ∷ 29 ∷ 57 ∷ 167 ∷ 82 ∷ 222 ∷ 76 ∷ 74
      ∷ 206 ∷ 124 ∷ 8 ∷ 93 ∷ 147 ∷ 48 ∷ []) ∷ []);
  longs = ((195 ∷ []) ∷ ([]) ∷ []);
  coins = (5 ∷ []);
}) (take k ((0 ∷ 0 ∷ 0 ∷ 0 ∷ 0 ∷ 1 ∷ 0 ∷ 0 ∷ 0 ∷ 0 ∷ 0 ∷ 0 ∷ 0 ∷ 0 ∷ 0 ∷ 0 ∷ [])
    ∷ (1 ∷ 0 ∷ 1 ∷ 195 ∷ 0 ∷ 0 ∷ 0 ∷ 0 ∷ 0 ∷ 0 ∷ 0 ∷ 0 ∷ 0 ∷ 0 ∷ 0 ∷ 0 ∷ []) ∷ (2 ∷ 359 ∷ 375 ∷ 273 ∷ 358 ∷ 489 ∷ 304 ∷ 480 ∷ 372 ∷ 332 ∷ 287 ∷ 504 ∷ 325 ∷ 407 ∷ 324 ∷ 258 ∷ [])
    ∷ (1 ∷ 104 ∷ 120 ∷ 18 ∷ 103 ∷ 234 ∷ 49 ∷ 225 ∷ 117 ∷ 77 ∷ 32 ∷ 249 ∷ 70 ∷ 152 ∷ 69 ∷ 3 ∷ []) ∷ []))) (range_with_len 0 4) ≡ ((0 ∷ 0 ∷ 0 ∷ 0 ∷ 0 ∷ 1 ∷ 0 ∷ 0 ∷ 0 ∷ 0 ∷ 0 ∷ 0 ∷ 0 ∷ 0 ∷ 0 ∷ 0 ∷ [])
    ∷ (1 ∷ 0 ∷ 1 ∷ 195 ∷ 0 ∷ 0 ∷ 0 ∷ 0 ∷ 0 ∷ 0 ∷ 0 ∷ 0 ∷ 0 ∷ 0 ∷ 0 ∷ 0 ∷ []) ∷ (1 ∷ 104 ∷ 120 ∷ 18 ∷ 103 ∷ 234 ∷ 49 ∷ 225 ∷ 117 ∷ 77 ∷ 32 ∷ 249 ∷ 70 ∷ 152 ∷ 69 ∷ 3 ∷ []) ∷ (1 ∷ 104 ∷ 120 ∷ 18 ∷ 103
    ∷ 234 ∷ 49 ∷ 225 ∷ 117 ∷ 77 ∷ 32 ∷ 249 ∷ 70 ∷ 152 ∷ 69 ∷ 3 ∷ []) ∷ [])
unfolding computing
words_of_a_station = refl

log_of_a_station : log_of ((0 ∷ 0 ∷ 0 ∷ 0 ∷ 0 ∷ 1 ∷ 0 ∷ 0 ∷ 0 ∷ 0 ∷ 0 ∷ 0 ∷ 0 ∷ 0 ∷ 0 ∷ 0 ∷ []) ∷ (1 ∷ 0 ∷ 1 ∷ 195 ∷ 0 ∷ 0 ∷ 0 ∷ 0 ∷ 0 ∷ 0 ∷ 0 ∷ 0 ∷ 0 ∷ 0 ∷ 0 ∷ 0 ∷ []) ∷ (2 ∷ 359 ∷ 375 ∷ 273 ∷ 358
    ∷ 489 ∷ 304 ∷ 480 ∷ 372 ∷ 332 ∷ 287 ∷ 504 ∷ 325 ∷ 407 ∷ 324 ∷ 258 ∷ []) ∷ (1 ∷ 104 ∷ 120 ∷ 18 ∷ 103 ∷ 234 ∷ 49 ∷ 225 ∷ 117 ∷ 77 ∷ 32 ∷ 249 ∷ 70 ∷ 152 ∷ 69 ∷ 3 ∷ []) ∷ [])
    ≡ ((long (195 ∷ [])) ∷ (short (104 ∷ 120 ∷ 18 ∷ 103 ∷ 234 ∷ 49 ∷ 225 ∷ 117 ∷ 77 ∷ 32 ∷ 249 ∷ 70 ∷ 152 ∷ 69 ∷ 3 ∷ []) 1) ∷ (short (255 ∷ 255 ∷ 255 ∷ 255 ∷ 255 ∷ 255 ∷ 255 ∷ 255 ∷ 255 ∷ 255 ∷ 255
    ∷ 255 ∷ 255 ∷ 255 ∷ 255 ∷ []) 1) ∷ [])
unfolding computing
log_of_a_station = refl

sent_by_a_station : sent_of (record {
  shorts = ((104 ∷ 120 ∷ 18 ∷ 103 ∷ 234 ∷ 49 ∷ 225 ∷ 117 ∷ 77 ∷ 32 ∷ 249 ∷ 70 ∷ 152 ∷ 69 ∷ 3 ∷ []) ∷ (53 ∷ 250 ∷ 29 ∷ 57 ∷ 167 ∷ 82 ∷ 222 ∷ 76 ∷ 74 ∷ 206 ∷ 124 ∷ 8
      ∷ 93 ∷ 147 ∷ 48 ∷ []) ∷ []);
  longs = ((195 ∷ []) ∷ ([]) ∷ []);
  coins = (5 ∷ []);
}) ((0 ∷ 0 ∷ 0 ∷ 0 ∷ 0 ∷ 1 ∷ 0 ∷ 0 ∷ 0 ∷ 0 ∷ 0 ∷ 0 ∷ 0 ∷ 0 ∷ 0 ∷ 0 ∷ []) ∷ (1 ∷ 0 ∷ 1 ∷ 195 ∷ 0 ∷ 0 ∷ 0 ∷ 0 ∷ 0 ∷ 0
    ∷ 0 ∷ 0 ∷ 0 ∷ 0 ∷ 0 ∷ 0 ∷ []) ∷ (2 ∷ 359 ∷ 375 ∷ 273 ∷ 358 ∷ 489 ∷ 304 ∷ 480 ∷ 372 ∷ 332 ∷ 287 ∷ 504 ∷ 325 ∷ 407 ∷ 324 ∷ 258 ∷ []) ∷ (1 ∷ 104 ∷ 120 ∷ 18 ∷ 103 ∷ 234 ∷ 49 ∷ 225 ∷ 117 ∷ 77 ∷ 32
    ∷ 249 ∷ 70 ∷ 152 ∷ 69 ∷ 3 ∷ []) ∷ []) ≡ ((long (195 ∷ [])) ∷ (short (104 ∷ 120 ∷ 18 ∷ 103 ∷ 234 ∷ 49 ∷ 225 ∷ 117 ∷ 77 ∷ 32 ∷ 249 ∷ 70 ∷ 152 ∷ 69 ∷ 3 ∷ []) 1) ∷ [])
unfolding computing
sent_by_a_station = refl

pending_at_a_station : pending_counts (record {
  shorts = ((104 ∷ 120 ∷ 18 ∷ 103 ∷ 234 ∷ 49 ∷ 225 ∷ 117 ∷ 77 ∷ 32 ∷ 249 ∷ 70 ∷ 152 ∷ 69 ∷ 3 ∷ []) ∷ (53 ∷ 250 ∷ 29 ∷ 57 ∷ 167 ∷ 82 ∷ 222 ∷ 76 ∷ 74 ∷ 206
      ∷ 124 ∷ 8 ∷ 93 ∷ 147 ∷ 48 ∷ []) ∷ []);
  longs = ((195 ∷ []) ∷ ([]) ∷ []);
  coins = (5 ∷ []);
}) ((0 ∷ 0 ∷ 0 ∷ 0 ∷ 0 ∷ 1 ∷ 0 ∷ 0 ∷ 0 ∷ 0 ∷ 0 ∷ 0 ∷ 0 ∷ 0 ∷ 0 ∷ 0 ∷ []) ∷ (1 ∷ 0 ∷ 1 ∷ 195 ∷ 0 ∷ 0 ∷ 0
    ∷ 0 ∷ 0 ∷ 0 ∷ 0 ∷ 0 ∷ 0 ∷ 0 ∷ 0 ∷ 0 ∷ []) ∷ (2 ∷ 359 ∷ 375 ∷ 273 ∷ 358 ∷ 489 ∷ 304 ∷ 480 ∷ 372 ∷ 332 ∷ 287 ∷ 504 ∷ 325 ∷ 407 ∷ 324 ∷ 258 ∷ []) ∷ (1 ∷ 104 ∷ 120 ∷ 18 ∷ 103 ∷ 234 ∷ 49 ∷ 225 ∷ 117
    ∷ 77 ∷ 32 ∷ 249 ∷ 70 ∷ 152 ∷ 69 ∷ 3 ∷ []) ∷ []) ≡ (1, 1)
unfolding computing
pending_at_a_station = refl
