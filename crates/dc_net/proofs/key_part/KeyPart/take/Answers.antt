use Rattle.std.proofs.Common.{◌≡◌, ℕ, ◌/◌, List, [], ◌∷◌, ◌++◌, length, subst, sym, ap, ◌∙◌}
use Rattle.dc_spec.specs.Pads.{Keys}
use Rattle.dc_keys.specs.StationPads.{StationPads, station_pads}
use Rattle.dc_conv.specs.Mask.{MaskState, StandsFor, session_words}
use Rattle.dc_net.specs.KeyPart.{KeyState, KeyStandsFor}
use Rattle.dc_net.proofs.key_part.KeyPart.take.Goals as goal

-- one word more
more : (m mask : MaskState) (keys : Keys) (station : ℕ) (received : List (List ℕ)) (w : List ℕ) → mask.second ≡ m.second
    → ((pads : StationPads) (history : List (List ℕ)) → StandsFor m pads history → StandsFor mask pads (history ++ w ∷ []))
    → KeyStandsFor (record { taken = m.taken; total = session_words m; mask = m }) keys station received
    → KeyStandsFor (record { taken = mask.taken; total = session_words mask; mask = mask }) keys station (received ++ w ∷ [])
more m mask keys station received w same takes stands =
    let next = takes (station_pads keys station) received stands.stands in
    record {
      are_keys = stands.are_keys;
      session = ap (λ (xs : List ℕ). length xs / 16) same ∙ stands.session;
      counted = next.taken;
      stands = next;
    }

pub returns-clause-stands : goal.returns-clause-stands
returns-clause-stands c = λ keys station received stands.
    more c.self.inside.mask c.take.new.self keys station received c.args.w.now c.take.ensures.same_pads c.take.ensures.stands
    (subst (λ (k : KeyState). KeyStandsFor k keys station received) (sym c.self.view_is) stands)
