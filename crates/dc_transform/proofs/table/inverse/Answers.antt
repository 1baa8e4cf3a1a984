use Rattle.std.proofs.Common.{◌≡◌, ◌-◌, sym, ap, ◌∙◌, arith}
use Rattle.dc_transform_rules.specs.Residues.{root}
use Rattle.dc_transform_rules.proofs.RootLemmas.{whole_turn, root-negative, root-inverse_fits}
use Rattle.dc_transform.proofs.table.inverse.Goals as goal

pub returns-then-z-eq0-clause-value : goal.returns-then-z-eq0-clause-value
returns-then-z-eq0-clause-value c = let e : 65536 - c.args.z ≡ 65536 = omega arith in sym (ap root e ∙ whole_turn)

pub returns-else-z-eq0-clause-value : goal.returns-else-z-eq0-clause-value
returns-else-z-eq0-clause-value c = omega (arith, root-negative c.args.z (omega arith) (omega arith), c.requires.roots.powers (32768 - c.args.z) (omega arith))

pub returns-else-z-eq0-clause-small : goal.returns-else-z-eq0-clause-small
returns-else-z-eq0-clause-small c = omega (
  arith,
  root-negative c.args.z (omega arith) (omega arith),
  root-inverse_fits c.args.z (omega arith),
  c.requires.roots.powers (32768 - c.args.z) (omega arith),
)
