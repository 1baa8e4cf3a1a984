use Rattle.std.proofs.Common.{◌≡◌, length, map, take}
use Rattle.std.specs.List.{range_with_len}
use Rattle.dc_spec.specs.Words.{word_sub}
use Rattle.dc_station_rules.specs.Stations.{plain_word}
use Rattle.dc_station.specs.State.{IsSenderOf}
use Rattle.dc_station.specs.StandsFor.{ReceiverStandsFor, SenderStandsFor}
use Rattle.dc_twin.proofs.station_demands.station_demands.Given as goal

-- the receiver and both senders have the words so far, and the demands after each of their beginnings are there
abbrev pub invariant-loop-w : goal.invariant-loop-w
invariant-loop-w l = record {
  receives : ReceiverStandsFor l.receiver (length l.received) (take l.w-index l.received);
  sends : SenderStandsFor l.sender l.own (length l.received) (take l.w-index l.received);
  own : IsSenderOf l.sender l.own;
  other_sends : SenderStandsFor l.other_sender l.other (length l.received) (take l.w-index l.received);
  other_own : IsSenderOf l.other_sender l.other;
  demands : l.demands.items ≡ map (λ t. word_sub (plain_word l.own (take t l.received)) (plain_word l.other (take t l.received))) (range_with_len 0 l.w-index);
}
