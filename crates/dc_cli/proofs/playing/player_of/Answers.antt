use Rattle.std.proofs.Common.{◌≡◌, ℕ, List, [], length, refl, sym, subst, ap, ◌∙◌, arith}
use Rattle.dc_spec.specs.Entries.{Stream}
use Rattle.dc_spec.specs.Pads.{Keys}
use Rattle.dc_formats.specs.KeyFile.{IsKeys}
use Rattle.dc_keys.specs.StationPads.{StationPads, station_pads}
use Rattle.dc_keys.proofs.StationKeys.{length-signed_pads}
use Rattle.dc_conv.specs.Mask.{MaskState, StandsFor as mask_stands_for, session_words}
use Rattle.dc_station.specs.State.{State}
use Rattle.dc_station.specs.StandsFor.{StandsFor as station_stands_for}
use Rattle.dc_cli.specs.Playing.{IsPlayerOf}
use Rattle.dc_cli.proofs.playing.player_of.Goals as goal

-- a mask with the pads of a station has as many words as the key file
words_of : (m : MaskState) (keys : Keys) (id : ℕ) → mask_stands_for m (station_pads keys id) [] → session_words m ≡ keys.words
words_of m keys id stands =
    let long = ap (λ (xs : List ℕ). length xs) stands.second ∙ length-signed_pads (λ p. p.b) keys.pairs id keys.words in
    omega arith

-- the player of a station and its mask
begins : (id : ℕ) (keys : Keys) (stream : Stream) (st : State) (m : MaskState) → IsKeys keys → station_stands_for st stream keys.words [] → mask_stands_for m (station_pads keys id) []
    → IsPlayerOf id keys stream (record { id = id; stations = keys.stations; words = keys.words; station = st; mask = m })
begins id keys stream st m are station mask = record {
  id_is = refl;
  stations_are = refl;
  words_are = refl;
  station = station;
  mask = mask;
  before = record { some = are.some_words; received = station.counted; session = station.session; taken = mask.taken; pads = words_of m keys id mask };
}

pub returns-clause-player : goal.returns-clause-player
returns-clause-player c =
    let m = c.in_ok-mask.mask in
    let st = c.in_ok-station.station in
    let P : Keys → Type 0 = λ k. IsPlayerOf c.args.id c.args.keys c.args.stream (record { id = c.args.id; stations = k.stations; words = k.words; station = st; mask = m }) in
    let M : StationPads → Type 0 = λ p. mask_stands_for m p [] in
    let S : Keys → Type 0 = λ k. station_stands_for st c.args.stream k.words [] in
    subst P (sym c.keys.view_is) (begins c.args.id c.args.keys c.args.stream st m (subst IsKeys c.keys.view_is c.keys.invariant)
    (subst S c.keys.view_is c.in_ok-station.ensures) (subst M c.in_ok-pads.ensures c.in_ok-mask.ensures))
