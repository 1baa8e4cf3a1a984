-- Whether a run is alike, as it is computed.
use Rattle.std.proofs.Common.{◌↔◌, get_or}
use Rattle.std.specs.Prelude.{IsTrue}
use Rattle.std.proofs.lemmas.List.Sums.{AllPass-from_list_all, list_all-from_AllPass}
use Rattle.std.proofs.lemmas.Slice.Eq.{bytes_eq-Decides}
use Rattle.dc_spec.specs.Net.{Net}
use Rattle.dc_net_rules.specs.Runs.{Round, word_of_station, honest_stations, all_rounds, IsAlikeIn, IsAlike, is_alike_in, is_alike}
use Rattle.dc_spec.proofs.ListLemmas.{all_at, all_from}

-- a round is alike
alike_in : (net : Net) (round : Round) → IsTrue (is_alike_in net round) ↔ IsAlikeIn net round
alike_in net round =
    let honest = honest_stations net in (
      λ all i j honest_i honest_j. (bytes_eq-Decides (word_of_station round.received i) (word_of_station round.received j)).0 (all_at _ honest (all_at _ honest all i honest_i) j honest_j),
      λ alike. all_from _ honest (λ i honest_i. all_from _ honest (λ j honest_j. (bytes_eq-Decides (word_of_station round.received i) (word_of_station round.received j)).1
          (alike i j honest_i honest_j))),
    )

-- a run is alike
pub alike_is_computed : (net : Net) → IsTrue (is_alike net) ↔ IsAlike net
alike_is_computed net = (
  λ all k d low. (alike_in net (get_or (all_rounds net) k d)).0 (AllPass-from_list_all (is_alike_in net) (all_rounds net) all k d low),
  λ alike. list_all-from_AllPass (is_alike_in net) (all_rounds net) (λ k d low. (alike_in net (get_or (all_rounds net) k d)).1 (alike k d low)),
)
