use Rattle.dc_average.proofs.TakeLemmas.{with_next, with_first}
use Rattle.dc_average.proofs.epoch.Epoch.take.Goals as goal

pub returns-then-self-clause-stands : goal.returns-then-self-clause-stands
returns-then-self-clause-stands c = λ words stands. rw c.if-self.true ((with_next c.args.self.now words c.args.w.now c.self.inside.begun c.self.inside.stack c.resolve.new.stack c.resolve.new.out c.resolve.result c.self.view_is c.if-self.true c.requires stands c.resolve.ensures).stands)

pub returns-then-self-clause-step : goal.returns-then-self-clause-step
returns-then-self-clause-step c = λ words stands. (with_next c.args.self.now words c.args.w.now c.self.inside.begun c.self.inside.stack c.resolve.new.stack c.resolve.new.out c.resolve.result c.self.view_is c.if-self.true c.requires stands c.resolve.ensures).leads

pub returns-then-self-clause-leaves : goal.returns-then-self-clause-leaves
returns-then-self-clause-leaves c = λ words stands. (with_next c.args.self.now words c.args.w.now c.self.inside.begun c.self.inside.stack c.resolve.new.stack c.resolve.new.out c.resolve.result c.self.view_is c.if-self.true c.requires stands c.resolve.ensures).came_out

pub returns-else-self-clause-stands : goal.returns-else-self-clause-stands
returns-else-self-clause-stands c = λ words stands. (with_first c.args.self.now words c.args.w.now c.self.inside.begun c.self.inside.stack c.begin.new.stack c.begin.new.out c.begin.result c.self.view_is c.if-self.false stands c.begin.ensures).stands

pub returns-else-self-clause-step : goal.returns-else-self-clause-step
returns-else-self-clause-step c = λ words stands. (with_first c.args.self.now words c.args.w.now c.self.inside.begun c.self.inside.stack c.begin.new.stack c.begin.new.out c.begin.result c.self.view_is c.if-self.false stands c.begin.ensures).leads

pub returns-else-self-clause-leaves : goal.returns-else-self-clause-leaves
returns-else-self-clause-leaves c = λ words stands. (with_first c.args.self.now words c.args.w.now c.self.inside.begun c.self.inside.stack c.begin.new.stack c.begin.new.out c.begin.result c.self.view_is c.if-self.false stands c.begin.ensures).came_out
