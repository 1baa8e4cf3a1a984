use Rattle.std.proofs.Common.{◌<◌, arith}
use Rattle.std.proofs.lemmas.List.Elements.{All-from_get_or}
use Rattle.dc_keyfile.proofs.Expanded.{IsSeeds-seeds_of}
use Rattle.dc_keyfile.proofs.generator.generate_seeds.Goals as goal

pub invariant_of-result : goal.invariant_of-result
invariant_of-result c =
    let bytes = All-from_get_or (λ x. x < 256) c.args.base.now 0 (λ i lt. omega (arith, c.fits-base)) in
    rw (c.stations.ensures.value, c.in_ok-pairs.ensures)
    (IsSeeds-seeds_of c.args.base.now c.args.g.now c.args.words c.told-base bytes c.stations.ensures.graph c.requires.some_words c.requires.most_words c.requires.most_symbols)
