use Rattle.std.proofs.Common.{◌≡◌, [], length, get_or, refl, ap, rules}
use Rattle.std.specs.Prelude.{slice_index_or}
use Rattle.std.proofs.lemmas.List.{get_or_read}
use Rattle.dc_spec.specs.Net.{Net, Run}
use Rattle.dc_edge.proofs.PutLemmas.{Puts-then, Puts-stops}
use Rattle.dc_formats.specs.WordLines.{items_of_round}
use Rattle.dc_net_rules.specs.Runs.{honest_stations}
use Rattle.dc_view.proofs.RoundText.{round_text-pieces}
use Rattle.dc_view.proofs.rounds.put_round.Goals as goal

pub returns-in_err-put_published : goal.returns-in_err-put_published
returns-in_err-put_published g c =
    let stations : c.net.inside.graph.stations ≡ c.args.net.now.stations = ap (λ (n : Net). n.stations) c.net.view_is in
    let words : c.run.inside.words ≡ c.args.run.now.words = ap (λ (r : Run). r.words) c.run.view_is in
    let n : c.from-stations.result ≡ c.args.net.now.stations = cc in
    let shown : c.words_of_round.result.now ≡ items_of_round c.from-stations.result c.args.r c.args.run.now.words = cc in
    let heard = items_of_round (length (honest_stations c.args.net.now)) c.args.r c.args.run.now.delivered in
    rw (round_text-pieces c.args.net.now c.args.run.now c.args.r c.args.round.now.delivery c.from-stations.result (honest_stations c.args.net.now) c.words_of_round.result.now heard
    (slice_index_or c.args.run.now.sums c.args.r []) n refl shown refl refl)
    (Puts-stops _ _ _ _ _ _ c.in_err-put_published.ensures (search rules))

pub returns : goal.returns
returns g c =
    let stations : c.net.inside.graph.stations ≡ c.args.net.now.stations = ap (λ (n : Net). n.stations) c.net.view_is in
    let words : c.run.inside.words ≡ c.args.run.now.words = ap (λ (r : Run). r.words) c.run.view_is in
    let delivered : c.run.inside.delivered ≡ c.args.run.now.delivered = ap (λ (r : Run). r.delivered) c.run.view_is in
    let sums : c.run.inside.sums ≡ c.args.run.now.sums = ap (λ (r : Run). r.sums) c.run.view_is in
    let n : c.from-stations.result ≡ c.args.net.now.stations = cc in
    let shown : c.words_of_round.result.now ≡ items_of_round c.from-stations.result c.args.r c.args.run.now.words = cc in
    let heard : c.words_of_round-heard.result.now ≡ items_of_round (length c.args.honest.now) c.args.r c.args.run.now.delivered = cc in
    let read : c.index-as_slice-from.result ≡ get_or c.args.run.now.sums c.args.r c.index-as_slice-from.result = cc in
    rw (round_text-pieces c.args.net.now c.args.run.now c.args.r c.args.round.now.delivery c.from-stations.result c.args.honest.now c.words_of_round.result.now c.words_of_round-heard.result.now
    c.index-as_slice-from.result n c.requires.honest shown heard (get_or_read c.args.run.now.sums c.args.r c.index-as_slice-from.result c.requires.sum read []))
    (Puts-then _ _ _ _ _ _ _ c.in_ok-put_published.ensures c.put_received.ensures)
