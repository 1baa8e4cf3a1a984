use Rattle.dc_keyfile.proofs.Generated.{IsKeys-generated_keys}
use Rattle.dc_keyfile.proofs.generator.generate.Goals as goal

pub invariant_of-result : goal.invariant_of-result
invariant_of-result c =
    let graph = c.stations.ensures.graph in
    rw (c.stations.ensures.value, c.in_ok-pairs.ensures, c.edges.ensures.value) (IsKeys-generated_keys c.args.base.now c.args.g.now c.args.words graph c.requires.some_words c.requires.most_words c.requires.most_symbols)
