use Rattle.std.proofs.Common.{[], ◌++◌, rules}
use Rattle.std.specs.Prelude.{codes, decimal}
use Rattle.dc_spec.specs.Text.{line}
use Rattle.dc_print.proofs.GatherLemmas.{Gathers-then, Gathers-stops}
use Rattle.dc_steer.proofs.SteeringLines.{line-parts}
use Rattle.dc_steer.proofs.text.gather_difference.Goals as goal

pub returns-in_err-end : goal.returns-in_err-end
returns-in_err-end g c = rw (line-parts (codes "differ " ++ decimal c.args.round) (codes " ") (decimal c.args.symbol))
    (Gathers-stops (codes "differ " ++ decimal c.args.round) (line (codes " " ++ decimal c.args.symbol)) [] c.gather_number.new.buffer _ _ _ _ _
    (rw c.from.ensures at c.in_err-end.ensures) (search rules))

pub returns : goal.returns
returns g c = rw (line-parts (codes "differ " ++ decimal c.args.round) (codes " ") (decimal c.args.symbol))
    (Gathers-then (codes "differ " ++ decimal c.args.round) (line (codes " " ++ decimal c.args.symbol)) [] c.gather_number.new.buffer _ _ _ _ _ _
    (rw c.from.ensures at c.in_ok-end.ensures) (rw c.from-2.ensures at c.gather_number_line.ensures))
