use Rattle.std.proofs.Common.{◌≡◌, ◌*◌, ap, ◌∙◌, arith}
use Rattle.rand_chacha.specs.ChaCha.{ChaCha, key_of}
use Rattle.dc_spec.specs.Pads.{SeedPair}
use Rattle.dc_keyfile.specs.Generator.{elements_from}
use Rattle.dc_keyfile.proofs.Expanded.{sixteen_are}
use Rattle.dc_keyfile.proofs.expansion.elements.Goals as goal

pub returns : goal.returns
returns c =
    let key : c.set_word_pos.new.self.key ≡ key_of c.pair_seed.result = ap (λ (g : ChaCha). g.key) c.set_word_pos.ensures ∙ ap (λ (g : ChaCha). g.key) c.from_seed-stream.ensures in
    let place : c.set_word_pos.new.self.word_pos ≡ 2 * c.args.e = ap (λ (g : ChaCha). g.word_pos) c.set_word_pos.ensures ∙ omega arith in
    sixteen_are (record { u = c.pair.inside.u; v = c.pair.inside.v; seed = c.pair.inside.seed }) c.pair_seed.result _ c.args.e _ _ c.pair_seed.ensures key place c.sixteen_symbols.ensures
    ∙ ap (λ (p : SeedPair). elements_from p c.args.e) c.pair.view_is
