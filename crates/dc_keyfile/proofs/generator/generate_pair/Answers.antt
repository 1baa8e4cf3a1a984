use Rattle.std.proofs.Common.{◌≡◌, ℕ, ◌*◌, sym, subst, ap, ◌∙◌}
use Rattle.dc_keys.specs.Pads.{IsPairKey}
use Rattle.dc_keyfile.specs.Generator.{generated_pair}
use Rattle.dc_keyfile.proofs.Generated.{the_pair, pair_walked, IsPairKey-generated_pair}
use Rattle.dc_keyfile.proofs.generator.generate_pair.Goals as goal

-- the pads are the generated ones
walked : (c : goal.After-from_vec-2) → the_pair c.args.edge c.from_vec.result c.from_vec-2.result ≡ generated_pair c.args.base.now (16 * c.args.words) c.args.edge
walked c =
    pair_walked c.args.base.now c.pair_seed.result c.args.edge
    (16 * c.from-count.result) _ _ c.from_vec.result c.in_ok-second.second.items c.from_vec-2.result c.pair_seed.ensures c.from_seed-stream.ensures
    (c.from_vec.ensures ∙ c.in_ok-first.ensures.items) c.in_ok-first.ensures.moved c.in_ok-second.ensures.items c.from_vec-2.ensures
    ∙ ap (λ (w : ℕ). generated_pair c.args.base.now (16 * w) c.args.edge) c.from-count.ensures

pub invariant_of-result : goal.invariant_of-result
invariant_of-result c = subst IsPairKey (sym (walked c)) (IsPairKey-generated_pair c.args.base.now c.args.words c.args.edge c.requires.some_words c.requires.most_words)

pub returns : goal.returns
returns c = walked c
