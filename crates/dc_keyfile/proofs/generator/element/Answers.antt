use Rattle.std.proofs.Common.{rules}
use Rattle.dc_keyfile.specs.Generator.{element_at}
use Rattle.dc_keyfile.proofs.generator.element.Goals as goal

pub returns : goal.returns
unfolding element_at
returns c = search rules
