use Rattle.std.proofs.Common.{◌≡◌, ◌*◌, take, drop}
use Rattle.dc_transform_rules.specs.Polynomials.{rows_scaled}
use Rattle.dc_transform.proofs.places.multiply_rows.Given as goal

-- the rows so far are multiplied, the others are as they were
abbrev pub invariant-loop-i : goal.invariant-loop-i
invariant-loop-i l = record {
  so_far : take (l.width * l.i) l.rows ≡ rows_scaled l.width l.initial.rows (take l.i l.factors);
  rest : drop (l.width * l.i) l.rows ≡ drop (l.width * l.i) l.initial.rows;
}
