use Rattle.std.proofs.Common.{◌≡◌, ℕ, ◌+◌, ◌*◌, ◌<◌, List, length, get_or, ap, sym, subst, ◌∙◌, arith}
use Rattle.dc_spec.proofs.WordLemmas.{word_of-same}
use Rattle.dc_keys.specs.StationPads.{station_pads}
use Rattle.dc_keys.proofs.KeySums.{pad_in_piece}
use Rattle.dc_keys.proofs.StationKeys.{station_key-key_part, length-signed_pads}
use Rattle.dc_conv.specs.Mask.{MaskState, StandsFor, session_words}
use Rattle.dc_conv.proofs.Blocks.{total-key_symbol}
use Rattle.dc_conv.proofs.mask.Mask.word.Goals as goal

pub returns-clause-summed : goal.returns-clause-summed
returns-clause-summed c = λ pads history stands.
    c.reduced.ensures ∙ word_of-same _ _ (λ l lt.
    let copied : get_or c.copy_from_slice.new.self l 0 ≡ get_or c.self.inside.sums (16 * c.self.inside.taken + l) 0 =
    rw (c.copy_from_slice.ensures.after, ← c.as_slice.ensures)
    (pad_in_piece c.as_slice.result.now _ (16 * c.from-at.result) l (omega arith)
    ∙ ap (λ (i : ℕ). get_or c.as_slice.result.now (16 * i + l) 0) c.from-at.ensures) in
    total-key_symbol (record { second = c.self.inside.second; sums = c.self.inside.sums; block = c.self.inside.block; taken = c.self.inside.taken })
    pads history l _ c.self.invariant (subst (λ (m : MaskState). StandsFor m pads history) (sym c.self.view_is) stands)
    (subst (λ (m : MaskState). m.taken < session_words m) (sym c.self.view_is) c.requires) lt
    (rw (← copied, ← c.as_slice-2.ensures.value, ← c.as_slice-3.ensures) (c.add_words.ensures.added l (omega arith))))

pub returns-clause-pairs : goal.returns-clause-pairs
returns-clause-pairs c = λ keys me history are stands. returns-clause-summed c (station_pads keys me) history stands ∙ station_key-key_part keys me history are
    (let long = ap (λ (xs : List ℕ). length xs) stands.second ∙ length-signed_pads (λ p. p.b) keys.pairs me keys.words in let room = c.requires in let taken = stands.taken in omega arith)
