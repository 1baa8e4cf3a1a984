use Rattle.std.proofs.Common.{◌<◌, sym, subst, ◌∙◌, arith}
use Rattle.dc_keys.specs.StationPads.{station_pads}
use Rattle.dc_fast_keys.specs.NetKeys.{KeysState, StandsFor}
use Rattle.dc_fast_keys.proofs.StepLemmas.{word-key, read-rows}
use Rattle.dc_fast_keys.proofs.net_keys.NetKeys.word.Goals as goal

pub returns-clause-summed : goal.returns-clause-summed
returns-clause-summed c = λ pads history stands.
    let k = c.self.inside in
    let room = subst (λ (m : KeysState). m.taken < m.words) (sym c.self.view_is) c.requires.taken in
    let within = subst (λ (m : KeysState). c.args.station < m.stations) (sym c.self.view_is) c.requires.station in
    word-key (record { stations = k.stations; words = k.words; spectra = k.spectra.items; sums = k.sums; received = k.received; taken = k.taken })
    c.args.station pads history _ c.read_word.result room (omega (arith, c.self.invariant.most_words))
    (subst (λ (m : KeysState). StandsFor m c.args.station pads history) (sym c.self.view_is) stands) c.read_word.ensures
    (λ l low. read-rows k.stations k.taken l c.args.station _ k.sums c.as_slice.result.now within low (omega arith) c.as_slice.ensures)

pub returns-clause-pairs : goal.returns-clause-pairs
returns-clause-pairs c = λ keys history are stands room.
    returns-clause-summed c (station_pads keys c.args.station) history stands ∙ c.summed_pads_law.ensures keys c.args.station history are room
