use Rattle.std.proofs.Common.{◌≡◌, ℕ, List, [], length, subst, ap, ◌∙◌, arith}
use Rattle.dc_spec.specs.Pads.{Keys}
use Rattle.dc_formats.specs.KeyFile.{IsKeys}
use Rattle.dc_keys.specs.StationPads.{StationPads, station_pads}
use Rattle.dc_keys.proofs.StationKeys.{length-signed_pads}
use Rattle.dc_conv.specs.Mask.{MaskState, StandsFor, session_words}
use Rattle.dc_net.specs.KeyPart.{KeyStandsFor}
use Rattle.dc_net.proofs.key_part.KeyPart.start.Goals as goal

-- a mask with the pads of a station has as many words as the key file
words_of : (m : MaskState) (keys : Keys) (station : ℕ) (received : List (List ℕ)) → StandsFor m (station_pads keys station) received
    → session_words m ≡ keys.words
words_of m keys station received stands =
    let long = ap (λ (xs : List ℕ). length xs) stands.second ∙ length-signed_pads (λ p. p.b) keys.pairs station keys.words in
    omega arith

-- the key part of a new mask
begins : (m : MaskState) (keys : Keys) (station : ℕ) → IsKeys keys → StandsFor m (station_pads keys station) []
    → KeyStandsFor (record { taken = m.taken; total = session_words m; mask = m }) keys station []
begins m keys station are stands = record { are_keys = are; session = words_of m keys station [] stands; counted = stands.taken; stands = stands }

pub returns : goal.returns
returns c =
    let pads = c.in_ok-pads.ensures in
    begins c.in_ok-mask.mask c.args.file.now c.args.station (subst IsKeys c.file.view_is c.file.invariant)
    (subst (λ (p : StationPads). StandsFor c.in_ok-mask.mask p []) pads c.in_ok-mask.ensures)
