-- Opens every definition of one station, so that they compute on numerals: a lemma names `computing` in its `unfolding` line.
use Rattle.dc_spec.specs.Words.{word_of}
use Rattle.dc_spec.specs.Values.{fifteen}
use Rattle.dc_spec.specs.Groups.{first_limb_where, group_of, minus, equal_value}
use Rattle.dc_station_rules.specs.Bursts.{burst_of, burst_faults, fault_at, fragment, fragments}
use Rattle.dc_station_rules.specs.Epochs.{epoch_of, put, split_by, current, come_out}
use Rattle.dc_station_rules.specs.Cycles.{granted, with_next, history_of, place_of}
use Rattle.dc_station_rules.specs.Stations.{cycle_log, log_of, longs_sent, shorts_sent, left_by, sent_of, pending_of, word_for, plain_word}

unfoldable pub computing : Type 0
unfolding word_of fifteen first_limb_where group_of minus equal_value burst_of burst_faults fault_at fragment fragments epoch_of put split_by current come_out granted with_next history_of place_of cycle_log log_of longs_sent shorts_sent left_by sent_of pending_of word_for plain_word
computing = Unit {0}
