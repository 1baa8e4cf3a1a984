use Rattle.std.proofs.Common.{◌++◌, take, rules}
use Rattle.std.specs.Prelude.{codes, decimal}
use Rattle.dc_spec.specs.Text.{line, symbol_text}
use Rattle.dc_print.proofs.GatherLemmas.{Gathers-then, Gathers-stops}
use Rattle.dc_steer.proofs.SteeringLines.{change-parts}
use Rattle.dc_steer.proofs.text.gather_change.Goals as goal

pub returns-in_err-end : goal.returns-in_err-end
returns-in_err-end g c = rw (change-parts c.args.beginning.now c.args.n c.args.x c.if-x-eq0.false)
    (Gathers-stops (c.args.beginning.now ++ decimal c.args.n) (line (codes " " ++ symbol_text c.args.x)) (take c.args.end c.args.buffer.now) c.gather_number.new.buffer _ _ _ _ _
    c.in_err-end.ensures (search rules))

pub returns : goal.returns
returns g c = rw (change-parts c.args.beginning.now c.args.n c.args.x c.if-x-eq0.false)
    (Gathers-then (c.args.beginning.now ++ decimal c.args.n) (line (codes " " ++ symbol_text c.args.x)) (take c.args.end c.args.buffer.now) c.gather_number.new.buffer _ _ _ _ _ _
    c.in_ok-end.ensures (rw (← c.line_end.ensures) c.gather_bytes.ensures))
