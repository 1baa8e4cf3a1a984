-- By induction on the depth: folding keeps columns apart.
use Rattle.dc_transform_rules.proofs.TransformLemmas.{size-rows}
use Rattle.dc_transform_rules.proofs.ColumnLemmas.{column-forward, column-backward, column-rows, column-scaled}
use Rattle.dc_transform_rules.proofs.laws.columns.Goals as goal

pub returns-clause-forward : goal.returns-clause-forward
returns-clause-forward c = λ width depth s a within long. column-forward width s within depth 0 a long

pub returns-clause-backward : goal.returns-clause-backward
returns-clause-backward c = λ width depth s a within long. column-backward width s within depth 0 a long

pub returns-clause-size : goal.returns-clause-size
returns-clause-size c = size-rows

pub returns-clause-rows : goal.returns-clause-rows
returns-clause-rows c = λ width s a factors within long. column-rows width s within a factors long

pub returns-clause-scaled : goal.returns-clause-scaled
returns-clause-scaled c = λ width rows s k a within. column-scaled width s within rows k a
